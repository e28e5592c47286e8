use Rattle.std.proofs.Common.{◌≡◌, ◌<◌, ℕ, length, slice_index}
use Rattle.b3tree.specs.Pieces.{lane_place, piece}
use Rattle.bao_check.proofs.known.place_chunks.Given as goal

abbrev pub invariant-chunks : goal.invariant-chunks
invariant-chunks l = record {
  size : length l.text ≡ 8448;
  placed : (j : ℕ) → j < l.k → piece l.text (lane_place 0 1024 j) 1024 ≡ piece l.bytes (slice_index l.places j) 1024;
}
