use Rattle.std.proofs.Common.{◌≡◌, ◌≤◌, ℕ, ◌+◌, ◌-◌, ◌*◌, ◌/◌, List, length, take, drop, slice_index, inl, inr, ap, subst, ◌∙◌, arith, length-drop}
use Rattle.std.proofs.lemmas.Bool.{cases_lt}
use Rattle.std.proofs.lemmas.List.{length-take-le}
use borrow.Rule.Slice.PartMut.{put_mid}
use Rattle.b3tree.specs.Pieces.{lane_place, piece}
use Rattle.bao_check.proofs.ChunkCopies.{earlier_kept, lane_before, own_there, size_kept}
use Rattle.bao_check.proofs.known.place_chunks.Goals as goal

pub chunks-preserved : goal.chunks-preserved
chunks-preserved c =
    let k : ℕ = c.chunks.k in
    let a : ℕ = 1024 * k + 64 * (k / 2 + k / 4) in
    let n : ℕ = a + 1024 - a in
    let old : List ℕ = c.chunks.text in
    let own : List ℕ = c.copy_from_slice.new.self in
    let place : ℕ = slice_index c.args.places.now k in
    let some : n ≡ 1024 = omega arith in
    let low : a + 1024 ≤ length old = omega (arith, c.chunks.invariant.size, c.chunks-test.true, c.requires.few) in
    let width : place + 1024 - place ≡ 1024 = omega arith in
    let is : own ≡ piece c.args.bytes.now place 1024 = c.copy_from_slice.ensures.after ∙ ap (λ (m : ℕ). take m (drop place c.args.bytes.now)) width in
    let there : place + 1024 ≤ length c.args.bytes.now = c.requires.there k c.chunks-test.true in
    let size : length own ≡ 1024 = ap length is ∙ length-take-le 1024 (drop place c.args.bytes.now) (omega (arith, there, length-drop place c.args.bytes.now)) in
    let same : lane_place 0 1024 k ≡ a = omega arith in
    record {
      size = size_kept a n old own low some size ∙ c.chunks.invariant.size;
      placed = λ j before. elim (cases_lt j k) [
        | inl earlier ↦ earlier_kept a n (lane_place 0 1024 j) old own (omega (arith, lane_before j k earlier, same)) (omega (arith, low)) ∙ c.chunks.invariant.placed j earlier
        | inr late ↦
            let here : k ≡ j = omega (arith, before, late) in
            subst (λ (i : ℕ). piece (put_mid a n old own) (lane_place 0 1024 i) 1024 ≡ piece c.args.bytes.now (slice_index c.args.places.now i) 1024) here
            (ap (λ (p : ℕ). piece (put_mid a n old own) p 1024) same ∙ own_there a n old own (omega (arith, low)) size ∙ is)
      ];
    }
