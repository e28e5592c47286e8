-- Bytes that are read in order.
use Rattle.std.proofs.Common.{◌≡◌, ℕ, ◌+◌, ◌<◌, ◌≤◌, List, length, drop, Option, None, Some, IfSome, inl, inr, refl, ap, subst, ◌∙◌, arith, length-drop}
use Rattle.std.proofs.lemmas.Bool.{cases_lt}
use Rattle.std.proofs.lemmas.List.{length-take}
use Rattle.b3par.specs.Given.{GivenAt, ReadsAt}
use Rattle.bao_decode.specs.Forward.{Reaches}

-- from the first byte on,
pub reaches_first : (contents : Option (List ℕ)) (anywhere : Type 0) → Reaches contents anywhere 0
reaches_first None anywhere = inr tt
reaches_first (Some s) anywhere = inr (omega arith)

-- and after those that were given
pub reaches_more : (contents : Option (List ℕ)) (anywhere : Type 0) (at n : ℕ) (bytes : List ℕ) → n ≡ length bytes → GivenAt contents at bytes → Reaches contents anywhere at
    → Reaches contents anywhere (at + n)
reaches_more contents anywhere at n bytes size given (inl any) = inl any
reaches_more None anywhere at n bytes size given (inr fits) = inr tt
reaches_more (Some s) anywhere at n bytes size given (inr fits) = inr (omega (arith, fits, size, ap length given ∙ length-take (length bytes) (drop at s), length-drop at s))

pub reaches_taken : (contents : Option (List ℕ)) (anywhere : Type 0) (taken : List ℕ) (at : ℕ) → at ≡ length taken → GivenAt contents 0 taken → Reaches contents anywhere at
reaches_taken contents anywhere taken at at_is given =
    let same : 0 + at ≡ at = omega arith in subst (Reaches contents anywhere) same (reaches_more contents anywhere 0 at taken at_is given (reaches_first contents anywhere))

-- where a read returns no byte, there are no more
pub ends_there : (contents : Option (List ℕ)) (anywhere : Type 0) (at : ℕ) (buf : List ℕ) → (Reaches contents anywhere at → ReadsAt contents at 0 buf) → 0 < length buf
    → IfSome contents (λ s. length s ≤ at)
ends_there None anywhere at buf read some = tt
ends_there (Some s) anywhere at buf read some = elim (cases_lt (length s) at) [
  | inl less ↦ omega (arith, less)
  | inr fits ↦ (read (inr fits)).1 refl some
]
