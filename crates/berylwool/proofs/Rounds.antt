-- What a worker's round over one encoding comes to.
use Rattle.std.proofs.Common.{◌≡◌, ◌⊎◌, ℕ, List, [], ◌∷◌, ◌∙◌, IsTrue, map, arith, inl, inr, refl, sym, subst}
use Rattle.std.specs.List.{sum_by}
use Rattle.b3tree.specs.Valid.{IsKeyed}
use Rattle.bao_check.proofs.Laws.{accepted_binds}
use Rattle.gather.specs.Going.{goes}
use Rattle.gather.specs.SeatLasting.{HoldsOn, IsBusyOn, RecordsOn}
use Rattle.gather.specs.Seats.{GoneOn, SeenBinds, claims_of, fixed_of as fixed_at}
use Rattle.gather.specs.declared.report.Report.{Report}
use Rattle.holders.specs.declared.grain.Grain.{Grain}
use Rattle.gather.specs.Filled.{IsFilled}
use Rattle.holders.specs.Available.{HasTrue, HaveSlices, IsServed}
use Rattle.holders.proofs.Slices.{true_slices}
use Rattle.gather.specs.Claims.{Among}
use Rattle.gather.specs.Counts.{HasFailedSince, IsToldTooLarge, Reports}
use Rattle.holders.specs.Encodings.{EncodedBytes, IsCut, encoding}
use Rattle.holders.specs.Holders.{IsHanded}
use Rattle.holders.specs.Blobs.{IsTooLarge}
use Rattle.gather.proofs.Binding.{are_longer, handed_cut}
use Rattle.gather.proofs.Handing.{none_failed}
use Rattle.gather.proofs.Reporting.{large_wider}
use Rattle.holders.specs.declared.fixed.Fixed.{Fixed}
use Rattle.store_core.proofs.Bound.{held_binds}
use Rattle.store_shared.specs.declared.assembly.Assembly.{Assembly}
use Rattle.store_shared.specs.Seats.{Gripped, IsSeatOf, fixed_of}
use Rattle.berylwool.specs.Gathering.{GathersOn, HasSlices, IsOutOf}

seat_keyed : (store : Assembly) (seat : Gripped) → IsKeyed (fixed_of store).mode → IsSeatOf store seat → IsKeyed (fixed_at seat).mode
seat_keyed store seat keyed of = subst (λ (f : Fixed). IsKeyed f.mode) (sym of.knows.fixed_is) keyed

seen_binds : (store : Assembly) (seat : Gripped) → IsKeyed (fixed_of store).mode → IsSeatOf store seat → SeenBinds seat.view
seen_binds store seat keyed of blob is c bytes held = held_binds seat.view.fixed seat.view.seen blob c bytes (seat_keyed store seat keyed of) is of.knows.legal held

-- the one holder gives the slices of the blob
has_true : (text blob : List ℕ) (holder : EncodedBytes) (seat : Gripped) → encoding holder ≡ text → HasSlices text seat blob → HasTrue IsCut (fixed_at seat).mode blob (holder ∷ [])
has_true text blob holder seat is slices = record {
  place = 0;
  holder = holder;
  there = refl;
  gives_slices = λ start len t given. given ∙ subst (λ (whole : List ℕ). HasSlices whole seat blob) (sym is) slices start len;
}

-- what a round over the one holder comes to where the encoding has the slices of the blob
pub told_out : {P : Type 0} (grain : Grain) (text : List ℕ) (holder : EncodedBytes) (report report' : Report) (old : Gripped) (blob : List ℕ) → encoding holder ≡ text
    → HasSlices text old blob
    → (HaveSlices grain IsCut (fixed_at old).mode blob (holder ∷ []) → HasFailedSince report report' ⊎ IsToldTooLarge report' (IsHanded IsCut (holder ∷ [])) (fixed_at old) ⊎ P)
    → HasFailedSince report report' ⊎ IsToldTooLarge report' (IsOutOf text) (fixed_at old) ⊎ P
told_out grain text holder report report' old blob is slices met =
    let holders : List EncodedBytes = holder ∷ [] in
    let over : map encoding holders ≡ text ∷ [] = λ i. is i ∷ [] in
    elim (met (true_slices grain IsCut (fixed_at old).mode blob holders (has_true text blob holder old is slices))) [
      | inl failed ↦ inl failed
      | inr (inl now) ↦ inr (inl (now.0, large_wider (IsHanded IsCut holders) (IsOutOf text) (handed_cut holders (text ∷ []) over) (fixed_at old) now.1))
      | inr (inr done) ↦ inr (inr done)
    ]

pub gathers : (grain : Grain) (store : Assembly) (text : List ℕ) (holder : EncodedBytes) (later : List EncodedBytes) (report report' : Report) (old new : Gripped)
    → IsKeyed (fixed_of store).mode → encoding holder ≡ text → IsSeatOf store old → IsSeatOf store new
    → Reports fixed_at GoneOn old new (IsHanded IsCut (holder ∷ [])) (IsHanded IsCut later) (sum_by (λ (h : EncodedBytes). 0) (holder ∷ [])) (sum_by (λ (h : EncodedBytes). 0) later) report report'
    → Among (claims_of old) (claims_of new)
    → ((blob : List ℕ) → IsServed (fixed_at old) blob → HaveSlices grain IsCut (fixed_at old).mode blob (holder ∷ [])
    → HasFailedSince report report' ⊎ IsToldTooLarge report' (IsHanded IsCut (holder ∷ [])) (fixed_at old) ⊎ IsFilled RecordsOn HoldsOn IsBusyOn old new blob)
    → GathersOn text report report' old new
gathers grain store text holder later report report' old new keyed is of of' reports claimed served =
    let holders : List EncodedBytes = holder ∷ [] in
    let over : map encoding holders ≡ text ∷ [] = λ i. is i ∷ [] in
    let cut = handed_cut holders (text ∷ []) over in
    let wider = large_wider (IsHanded IsCut holders) (IsOutOf text) cut (fixed_at old) in
    let large : IsTrue report'.too_large → IsTrue report.too_large ⊎ IsTooLarge (IsOutOf text) (fixed_at old) = λ so.
    elim (reports.too_large so) [ inl was ↦ inl was | inr now ↦ inr (wider now) ] in
    record {
      reports = record {
        chunks = reports.chunks;
        parents = reports.parents;
        gains = goes.wider (IsHanded IsCut holders) (IsOutOf text) cut old new reports.chunks reports.parents reports.gains;
        no_more = λ piece from. from;
        committed = reports.committed;
        stored = reports.stored;
        failed = omega (arith, reports.failed, none_failed (λ (holder : EncodedBytes). 0) (λ holder. refl) holders, none_failed (λ (holder : EncodedBytes). 0) (λ holder. refl) later);
        answered = reports.answered;
        no_less = reports.no_less;
        too_large = large;
        stays = reports.stays;
      };
      claimed = claimed;
      binds = seen_binds store new keyed of';
      longer = λ so. elim (large so) [
        | inl was ↦ inl was
        | inr now ↦ inr (are_longer accepted_binds (IsOutOf text) (fixed_at old) (seat_keyed store old keyed of) now)
      ];
      served = λ blob can slices. told_out grain text holder report report' old blob is slices (served blob can);
    }
