-- What comes of files that are known, on a disk without faults.
use Rattle.std.proofs.Common.{◌≡◌, ℕ, Bool, List, [], ◌∷◌, Option, ap, refl, subst, ◌∙◌}
use Rattle.std.specs.List.{AllZip, list_all}
use Rattle.std.specs.Io.KnownBytes.{Appends}
use Rattle.bao_files.specs.Disks.{FileState, Unknown, Absent, Stored, IsKnown}
use Rattle.bao_sums.specs.Each.{PrintsEach, lines_of}
use Rattle.bao_sums.specs.Hashed.{AllKnown, IsReadingAt, IsReadingOf, Reading, Given, Unread, is_given, reading_in, readings_in}

one_known : (faultless : Type 0) (state : FileState) (reading : Reading) → IsReadingOf faultless state reading → faultless → IsKnown state → reading ≡ reading_in state
one_known faultless Unknown reading is sure known = absurd known
one_known faultless Absent (Given bytes) is sure known = absurd is
one_known faultless Absent Unread is sure known = refl
one_known faultless (Stored s) (Given bytes) is sure known = ap Given is
one_known faultless (Stored s) Unread is sure known = absurd (is sure tt)

all_known : (faultless : Type 0) (at : List ℕ → FileState) (paths : List (List ℕ)) (readings : List Reading)
    → AllZip (IsReadingAt faultless at) paths readings → faultless → AllKnown at paths → readings ≡ readings_in at paths
all_known faultless at [] [] are sure known = refl
all_known faultless at [] (reading ∷ readings) are sure known = absurd are
all_known faultless at (path ∷ paths) [] are sure known = absurd are
all_known faultless at (path ∷ paths) (reading ∷ readings) are sure known =
    ap (λ (r : Reading). r ∷ readings) (one_known faultless (at path) reading are.0 sure known.0)
    ∙ ap (λ (rs : List Reading). reading_in (at path) ∷ rs) (all_known faultless at paths readings are.1 sure known.1)

pub prints_known : (faultless : Type 0) (at : List ℕ → FileState) (line : List ℕ → Reading → List ℕ) (paths : List (List ℕ)) (old new : Option (List ℕ)) (whole : Bool)
    → PrintsEach (IsReadingAt faultless at) line paths old new (λ readings. whole ≡ list_all is_given readings) → faultless → AllKnown at paths
    → (whole ≡ list_all is_given (readings_in at paths)) × Appends old new (lines_of line paths (readings_in at paths))
prints_known faultless at line paths old new whole printed sure known =
    let same = all_known faultless at paths printed.0 printed.1 sure known in (
      printed.2 ∙ ap (list_all is_given) same,
      subst (λ (rs : List Reading). Appends old new (lines_of line paths rs)) same printed.3,
    )
