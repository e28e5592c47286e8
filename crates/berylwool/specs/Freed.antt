-- The memory of a handle that C passes as a pointer, which may be null.
use Rattle.std.specs.Prelude.{◌≡◌, None}
use Rattle.core.specs.Ptr.{Ptr, if_non_null, points_to}
use base.Fml.{Fml, fex}
use Rattle.berylwool.specs.declared.handle.BwHandle.{BwHandle}
use Rattle.berylwool.specs.contracts.handle.BwHandle.{the_row}

-- this handle is at the pointer, unless that is null
abbrev pub handle_at : Ptr → BwHandle → Fml
handle_at p handle = if_non_null p (points_to the_row p handle)

-- an empty handle is at the pointer, unless that is null
abbrev pub empty_at : Ptr → Fml
empty_at p = if_non_null p (fex BwHandle (λ handle. fex (handle.held ≡ None) (λ _. points_to the_row p handle)))
