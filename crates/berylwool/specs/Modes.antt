-- What a mode that C passes stands for.
use Rattle.std.specs.Prelude.{◌≤◌, if◌then◌else◌, nat_eq}
use Rattle.b3tree.specs.declared.mode.Mode.{Mode}
use Rattle.b3tree.specs.Modes.{keyed, of_context_key, plain}
use Rattle.berylwool.specs.declared.mode.BwMode.{BwMode}

-- kind 1 is keyed hashing under the key, 2 key derivation with the key of a context, and any other plain
-- hashing
abbrev pub mode_of : BwMode → Mode
mode_of mode = if nat_eq mode.kind 1 then keyed mode.key else if nat_eq mode.kind 2 then of_context_key mode.key else plain

-- the kind is one of the three: 0 is plain hashing
abbrev pub IsKnown : BwMode → Type 0
IsKnown mode = mode.kind ≤ 2
