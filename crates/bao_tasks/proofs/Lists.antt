-- A draft that was written whole is put as what was written.
use Rattle.std.proofs.Common.{◌≡◌, ℕ, List, [], Option, None, Some, IfSome, ap, subst}
use Rattle.std.specs.Io.KnownBytes.{Appends}
use Rattle.bao_files.specs.Disks.{FileState, Stored, IsKnown, Puts}

pub all_of_draft : (after : Option (List ℕ)) (text : List ℕ) → Appends (Some []) after text → after ≡ Some text
all_of_draft None text appends = absurd appends
all_of_draft (Some held) text appends = ap (λ (s : List ℕ). Some s) appends

pub puts_lines : (old new : List ℕ → FileState) (path : List ℕ) (before after : Option (List ℕ)) (text : List ℕ)
    → (IsKnown (old path) → before ≡ Some []) → Appends before after text → Puts old new path after → Puts old new path (Some text)
puts_lines old new path before after text fresh appends puts = record {
  put = λ known.
      subst (λ (t : Option (List ℕ)). IfSome t (λ s. new path ≡ Stored s))
      (all_of_draft after text (subst (λ (t : Option (List ℕ)). Appends t after text) (fresh known) appends)) (puts.put known);
  kept = puts.kept;
}
