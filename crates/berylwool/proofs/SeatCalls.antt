-- Calls of a seat with encodings that C hands in or is handed.
use Rattle.std.proofs.Common.{◌≡◌, ◌∙◌, ◌++◌, ◌⊎◌, ℕ, ◌+◌, ◌-◌, ◌*◌, ◌≤◌, List, length, Option, Some, slice_get, slice_index, subst, sym, take, arith}
use Rattle.std.proofs.lemmas.List.{take_at}
use Rattle.store_core.specs.declared.history.Call.TheVariants.{Serve}
use Rattle.store_core.specs.declared.history.Serving.TheVariants.{Text}
use Rattle.holders.specs.Blobs.{CollidesWith}
use Rattle.store_core.specs.Laws.{ByteFrom}
use Rattle.store_core.specs.Stores.{filled_count}
use Rattle.store_shared.specs.Reading.{SeatDidRead, SeatReadBinds}
use Rattle.store_shared.specs.Serving.{SeatSliceBinds, SeatSliceIsAccepted}
use Rattle.store_shared.specs.Seats.{Gripped}
use Rattle.store_core.specs.Knowledge.{Called}
use Rattle.berylwool.specs.Calls.{ReadsAt, Serves}

-- the start of the buffer is the encoding
pub serves : (start len : ℕ) (text there rest out : List ℕ) (n : ℕ) (old new : Gripped) → there ≡ text → n ≡ length there → out ≡ there ++ rest
    → Called (Serve start len (Text text)) old.view new.view → SeatSliceBinds new.view start len text → SeatSliceIsAccepted new.view start len text → Serves start len (take n out) old new
serves start len text there rest out n old new is_there is_n is_out called binds accepted =
    let starts : take n out ≡ text = (λ i. take n (is_out i)) ∙ take_at there rest n (sym is_n) ∙ is_there in
    subst (λ (t : List ℕ). Serves start len t old new) (sym starts) (record { called = called; binds = binds; accepted = accepted })

-- a read of the store is one of the blob
pub reads_at : (base at : ℕ) (before after : List ℕ) (missing : Option ℕ) (old new : Gripped) → 1024 * base ≤ at → new.view.fixed.base ≡ base
    → SeatDidRead old.view new.view (at - 1024 * base) before after missing
    → SeatReadBinds new.view (at - 1024 * base) after (filled_count (at - 1024 * base) (length before) missing) → ReadsAt base at before after missing old new
reads_at base at before after missing old new within is did binds = record {
  within = within;
  did = did;
  binds = λ blob of i low.
      let place : 1024 * new.view.fixed.base + ((at - 1024 * base) + i) ≡ at + i = omega (arith, within, is) in
      subst (λ (n : ℕ). (slice_get blob n ≡ Some (slice_index after i))
      ⊎ ((from : ByteFrom new.view.fixed new.view.seen (at - 1024 * base + i) (slice_index after i)) × CollidesWith new.view.fixed blob from.chunk.piece)) place (binds blob of i low);
}
