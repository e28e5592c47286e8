-- What is known of a file that was opened, and of a draft that was put.
use Rattle.std.specs.Prelude.{◌≡◌, ℕ, List, [], Option, None, Some, IfSome}
use Rattle.std.proofs.Common.{ap, refl, subst}
use Rattle.b3tree.specs.Valid.{AreBytes}
use Rattle.std.specs.Io.KnownBytes.{Appends}
use Rattle.bao_files.specs.Disks.{FileState, Unknown, Absent, Stored, AreOf, IsKnown, Opens, Puts}

-- what holds of some bytes, and of the contents where these are known, holds of the file's
pub of_file : (state : FileState) (contents remaining : Option (List ℕ)) (P : List ℕ → Type 0) → Opens state contents remaining
    → IfSome contents (λ s. remaining ≡ Some s → P s) → ((bytes : List ℕ) × AreBytes bytes × P bytes) → (bytes : List ℕ) × AreOf state bytes × P bytes
of_file Unknown contents remaining P opens all some = (some.0, some.1, some.2)
of_file Absent contents remaining P opens all some = absurd opens
of_file (Stored s) contents remaining P opens all some =
    (s, refl, subst (λ (known : Option (List ℕ)). IfSome known (λ t. remaining ≡ Some t → P t)) opens.0 all opens.1)

-- what was written to an empty draft is all that it holds
pub all_of_draft : (after : Option (List ℕ)) (text : List ℕ) → Appends (Some []) after text → after ≡ Some text
all_of_draft None text appends = absurd appends
all_of_draft (Some held) text appends = ap (λ (s : List ℕ). Some s) appends

-- a draft to which a text was written is put as that text
pub puts_text : (old new : List ℕ → FileState) (path : List ℕ) (before after : Option (List ℕ)) (text : List ℕ)
    → (IsKnown (old path) → before ≡ Some []) → Appends before after text → Puts old new path after → Puts old new path (Some text)
puts_text old new path before after text fresh appends puts = record {
  put = λ known.
      subst (λ (t : Option (List ℕ)). IfSome t (λ s. new path ≡ Stored s))
      (all_of_draft after text (subst (λ (t : Option (List ℕ)). Appends t after text) (fresh known) appends)) (puts.put known);
  kept = puts.kept;
}
