-- A state determines the replies: two right ones to one question are one.
use Rattle.std.proofs.lemmas.Bool.Decides.{nat_tests}
use Rattle.std.proofs.Common.{arith, ◌≡◌, ℕ, ◌%◌, Bool, ◌&&◌, List, sym, ◌∙◌}
use Rattle.holders.specs.declared.fixed.Fixed.{Fixed}
use Rattle.store_core.specs.declared.history.Call.TheVariants.{Take, Give, Commit, Settle, Read, Length, Parents, Serve}
use Rattle.holders.specs.declared.piece.Piece.{Piece}
use Rattle.store_core.specs.declared.history.Settling.{Settling}
use Rattle.store_core.specs.Events.{IsRightReply, is_free}
use Rattle.store_core.specs.Laws.{StateDetermines}
use Rattle.store_core.specs.Masks.{IsMaskOf, has_bit}
use Rattle.store_core.specs.Names.{Name}
use Rattle.holders.specs.Pieces.{holds_chunk}
use Rattle.store_core.specs.States.{State, claims}
use Rattle.store_core.proofs.Tells.{mask_unique}

-- the right reply to a call, which its question fixes
same_take : (fixed : Fixed) (s : State) (who : List Name) (g w r h v t : ℕ) → g ≡ h → w ≡ v → IsRightReply fixed s who (Take g w r) → IsRightReply fixed s who (Take h v t)
    → Take g w r ≡ Take h v t
same_take fixed s who g w r h v t e f right also =
    let test : ℕ → Bool = λ c. has_bit w (c % 64) && is_free fixed s c in
    let other : IsMaskOf g t test = rw (e, f) also in
    let same : r ≡ t = mask_unique g r t test right other in cc

same_give : (fixed : Fixed) (s : State) (who : List Name) (g m r h n t : ℕ) → g ≡ h → m ≡ n → IsRightReply fixed s who (Give g m r) → IsRightReply fixed s who (Give h n t)
    → Give g m r ≡ Give h n t
same_give fixed s who g m r h n t e f right also =
    let test : ℕ → Bool = λ c. has_bit m (c % 64) && claims who s c in
    let other : IsMaskOf g t test = rw (e, f) also in
    let same : r ≡ t = mask_unique g r t test right other in cc

same_commit : (fixed : Fixed) (s : State) (who : List Name) (g : ℕ) (p : Piece) (r h : ℕ) (q : Piece) (t : ℕ) → g ≡ h → p ≡ q
    → IsRightReply fixed s who (Commit g p r) → IsRightReply fixed s who (Commit h q t) → Commit g p r ≡ Commit h q t
same_commit fixed s who g p r h q t e f right also =
    let test : ℕ → Bool = λ c. claims who s c && holds_chunk p c in
    let other : IsMaskOf g t test = rw (e, f) also.1 in
    let same : r ≡ t = mask_unique g r t test right.1 other in cc

same_settle : (fixed : Fixed) (s : State) (who : List Name) (p : Piece) (a : Settling) (q : Piece) (b : Settling) → p ≡ q
    → IsRightReply fixed s who (Settle p a) → IsRightReply fixed s who (Settle q b) → Settle p a ≡ Settle q b
same_settle fixed s who p a q b f right also = grind (arith, nat_tests)

pub state_determines : StateDetermines
state_determines fixed s who (Take g w r) (Take h v t) right also whole same =
    same_take fixed s who g w r h v t (cc) (cc) right also
state_determines fixed s who (Give g m r) (Give h n t) right also whole same = same_give fixed s who g m r h n t (cc) (cc) right also
state_determines fixed s who (Commit g p r) (Commit h q t) right also whole same = same_commit fixed s who g p r h q t (cc) (cc) right also
state_determines fixed s who (Settle p a) (Settle q b) right also whole same = same_settle fixed s who p a q b (cc) right also
state_determines fixed s who (Read at len xs) (Read to count ys) right also whole same = grind (arith, nat_tests)
state_determines fixed s who (Length a) (Length b) right also whole same = let e : a ≡ b = right ∙ sym also in cc
state_determines fixed s who (Parents g p a) other right also whole same = cc
state_determines fixed s who (Serve at len a) (Serve to count b) right also whole same = grind (arith, nat_tests)
state_determines fixed s who one other right also whole same = cc
