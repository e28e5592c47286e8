-- What finishing a blob into a caller's buffer found.
use Rattle.std.proofs.Common.{◌≡◌, ◌≢◌, ◌∙◌, ℕ, ◌*◌, ◌<◌, ◌≤◌, ◌++◌, List, length, take, take_at, Option, None, Some, arith, inl, subst, sym}
use Rattle.b3tree.specs.declared.mode.Mode.{Mode}
use Rattle.b3tree.specs.declared.values.Hash.{Hash}
use Rattle.b3tree.specs.Hashing.{hash}
use Rattle.gather.proofs.SeatFinishing.{recorded_then}
use Rattle.gather.proofs.Finishing.{no_none, some_same}
use Rattle.gather.specs.Finished.{IsFinished, IsOther, IsUnfinished, IsWhole}
use Rattle.store_shared.specs.Reading.{SeatDidRead}
use Rattle.holders.specs.declared.fixed.Fixed.{Fixed}
use Rattle.store_core.specs.declared.history.Call.TheVariants.{Length}
use Rattle.store_core.specs.declared.history.Event.{Event}
use Rattle.store_core.specs.declared.view.SeatView.{SeatView}
use Rattle.store_core.specs.Histories.{IsLegal, state_after}
use Rattle.store_core.specs.Knowledge.{Called}
use Rattle.store_shared.proofs.Asking.{length_there}

-- no length is recorded
pub none_there : (old new : SeatView) → Called (Length None) old new → IsUnfinished (state_after new.seen)
none_there old new called = inl (length_there old new None called)

-- so none that is too long
pub none_first : (old new : SeatView) (l : ℕ) → Called (Length None) old new → (state_after new.seen).recorded ≡ Some l → ⊥
none_first old new l called is = no_none (state_after new.seen).recorded l is (length_there old new None called)

-- one is recorded, and there is no other
pub read_first : (old then new : SeatView) (before after : List ℕ) (l k room : ℕ) (missing : Option ℕ) → l ≤ room → Called (Length (Some l)) old then
    → SeatDidRead then new 0 before after missing → (state_after new.seen).recorded ≡ Some k → room < k → ⊥
read_first old then new before after l k room missing fits asked read is above =
    let same : l ≡ k = some_same l k (sym (recorded_then old then new l 0 (length before) read.bytes asked read.called) ∙ is) in
    omega (arith, fits, same, above)

-- the bytes are all that are held, and have the root or not
pub found : (fixed : Fixed) (history : List Event) (bytes : List ℕ) → IsWhole (state_after history) bytes → hash fixed.mode bytes ≡ fixed.root.0 → length bytes ≤ 1024 * fixed.capacity
    → IsFinished fixed (state_after history) bytes
found fixed history bytes whole root fits = record { whole = whole; root = root; fits = fits }

pub other_found : (fixed : Fixed) (history : List Event) (bytes : List ℕ) → IsWhole (state_after history) bytes → hash fixed.mode bytes ≢ fixed.root.0 → IsOther fixed (state_after history)
other_found fixed history bytes whole apart = record { bytes = bytes; whole = whole; hashed = apart }

-- what a hash that was compared with the root says of the bytes
pub told_root : (fixed : Fixed) (mode : Mode) (root : Hash) (hashed given bytes : List ℕ) → mode ≡ fixed.mode → root ≡ fixed.root → hashed ≡ hash mode given → given ≡ bytes
    → hashed ≡ root.0 → hash fixed.mode bytes ≡ fixed.root.0
told_root fixed mode root hashed given bytes is_mode is_root value same is = (λ i. hash (sym is_mode i) (sym same i)) ∙ sym value ∙ is ∙ (λ i. (is_root i).0)

pub told_apart : (fixed : Fixed) (mode : Mode) (root : Hash) (hashed given bytes : List ℕ) → mode ≡ fixed.mode → root ≡ fixed.root → hashed ≡ hash mode given → given ≡ bytes
    → (hashed ≡ root.0 → ⊥) → hash fixed.mode bytes ≢ fixed.root.0
told_apart fixed mode root hashed given bytes is_mode is_root value same apart is = apart (value ∙ (λ i. hash (is_mode i) (same i)) ∙ is ∙ (λ i. (sym is_root i).0))

-- the bytes at the front of the buffer
pub front_is : (after rest before : List ℕ) (l : ℕ) → length after ≡ length before → length before ≡ l → take l (after ++ rest) ≡ after
front_is after rest before l one long = take_at after rest l (one ∙ long)

pub legal_there : (fixed : Fixed) (view : SeatView) → view.fixed ≡ fixed → IsLegal view.fixed view.seen → IsLegal fixed view.seen
legal_there fixed view is legal = subst (λ (f : Fixed). IsLegal f view.seen) is legal
