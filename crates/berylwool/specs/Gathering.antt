-- What one worker's round does to a seat, with an encoding that C passes.
use Rattle.std.specs.Prelude.{◌≡◌, ◌⊎◌, ℕ, List, [], ◌∷◌, IsTrue, not, nat_eq}
use Rattle.bao_text.specs.Cut.{cut_text}
use Rattle.bao_text.specs.Texts.{slice_text}
use Rattle.gather.specs.SeatLasting.{HasParentOn, HoldsOn, IsBusyOn, RecordsOn}
use Rattle.gather.specs.Seats.{GoneOn, SeenBinds, claims_of, fixed_of}
use Rattle.gather.specs.declared.report.Report.{Report}
use Rattle.gather.specs.Filled.{HasAllParents, IsFilled}
use Rattle.holders.specs.Available.{IsServed}
use Rattle.gather.specs.Claims.{Among}
use Rattle.gather.specs.Counts.{HasFailedSince, IsToldTooLarge, Reports}
use Rattle.holders.specs.Encodings.{IsCutOf}
use Rattle.holders.specs.Blobs.{AreLonger}
use Rattle.holders.specs.declared.piece.Piece.{Piece}
use Rattle.store_shared.specs.Seats.{Gripped}
use Rattle.berylwool.specs.declared.gathering.BwReport.{BwReport}

-- the counts that it shows
abbrev pub report_of : BwReport → Report
report_of shown = record {
  committed = shown.committed;
  parents = shown.parents;
  asked = shown.asked;
  refused = shown.refused;
  failed = shown.failed;
  memory = shown.memory;
  too_large = not (nat_eq shown.too_large 0);
}

-- the slice is cut out of the encoding
abbrev pub IsOutOf : List ℕ → Piece → Type 0
IsOutOf text = IsCutOf (text ∷ [])

-- all slices of the blob can be cut out of the encoding
abbrev pub HasSlices : List ℕ → Gripped → List ℕ → Type 0
HasSlices text seat blob = (start len : ℕ) → cut_text text start len ≡ slice_text (fixed_of seat).mode blob start len

-- One worker's round with one encoding. What the report gained is what the seat's own calls did, with slices
-- that are cut out of the encoding. The seat claims nothing that it didn't claim before. For each blob with the
-- root, what the seat has seen held is the blob's, or a collision is exhibited. The blob is reported as too
-- large only if it was before, or if no blob with the root fits the store or a collision is exhibited. If all
-- slices of a blob that the store can hold can be cut out of the encoding, a length is recorded, unless memory
-- was refused in this round or a slice certifies a length that is too large; and if the length is the blob's,
-- each chunk of the blob is held, or may have been claimed by another seat before.
pub record GathersOn (text : List ℕ) (report report' : Report) (old new : Gripped) : Type 0 where
  pub reports : Reports fixed_of GoneOn old new (IsOutOf text) (IsOutOf text) 0 0 report report'
  pub claimed : Among (claims_of old) (claims_of new)
  pub binds : SeenBinds new.view
  pub longer : IsTrue report'.too_large → IsTrue report.too_large ⊎ AreLonger (IsOutOf text) (fixed_of old)
  pub served : (blob : List ℕ) → IsServed (fixed_of old) blob → HasSlices text old blob → HasFailedSince report report' ⊎ IsToldTooLarge report' (IsOutOf text) (fixed_of old) ⊎ IsFilled RecordsOn HoldsOn IsBusyOn old new blob

-- If all slices of a blob that the store can hold can be cut out of the encoding, each parent of the blob is
-- held, provided that the recorded length is the blob's and the seat has all names that there are, and unless
-- memory was refused in this round or a slice certifies a length that is too large.
abbrev pub CompletesOn : List ℕ → Report → Report → Gripped → Gripped → Type 0
CompletesOn text report report' old new = (blob : List ℕ) → IsServed (fixed_of old) blob → HasSlices text old blob
    → HasFailedSince report report' ⊎ IsToldTooLarge report' (IsOutOf text) (fixed_of old) ⊎ HasAllParents RecordsOn HasParentOn new blob
