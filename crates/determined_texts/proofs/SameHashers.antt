-- Hashers that hold the same go on to hold the same.
use Rattle.std.proofs.Common.{◌≡◌, ◌↔◌, ℕ, ◌+◌, List, [], ◌++◌, length, Result, Ok, Err, OnOk, OnErr, IsErr, refl, sym, ap, subst, ◌∙◌, arith, length-append}
use Rattle.std.proofs.lemmas.List.{nil_from_length}
use Rattle.b3tree.specs.declared.hasher.Hasher.{Hasher}
use Rattle.b3tree.specs.declared.hasher.TooLong.{TooLong}
use Rattle.b3tree.specs.declared.mode.Mode.{Mode}
use Rattle.b3tree.specs.Taken.{Holds}

-- two that hold nothing
pub none_held : (a b : Hasher) (mode : Mode) → Holds a mode [] → Holds b mode [] → (of : Mode) (s : List ℕ) → Holds a of s → Holds b of s
none_held a b mode x y of s h =
    let same : mode ≡ of = sym x.splits.same_mode ∙ h.splits.same_mode in
    let nothing : 0 ≡ length x.earlier + length x.last = ap length x.whole ∙ length-append x.earlier x.last in
    let size : length s ≡ length h.earlier + length h.last = ap length h.whole ∙ length-append h.earlier h.last in
    let none : length s ≡ 0 = omega (arith, nothing, size, x.splits.chunks, x.splits.last_len, h.splits.chunks, h.splits.last_len) in
    subst (λ (t : List ℕ). Holds b of t) (sym (nil_from_length s none)) (subst (λ (m : Mode). Holds b m []) same y)

-- two that held the same, after the same bytes
pub held_after : (mode : Mode) (s bytes : List ℕ) (old also x y : Hasher) (r t : Result (Unit {0}) TooLong) (P : Type 0) → Holds old mode s → Holds also mode s
    → OnOk r (Holds x mode (s ++ bytes)) → OnOk t (Holds y mode (s ++ bytes)) → OnErr r (x ≡ old) → OnErr t (y ≡ also) → (IsErr r ↔ P) → (IsErr t ↔ P)
    → (after : List ℕ) × Holds x mode after × Holds y mode after
held_after mode s bytes old also x y (Ok u) (Ok v) P h k a b e f p q = (s ++ bytes, a, b)
held_after mode s bytes old also x y (Err u) (Err v) P h k a b e f p q =
    (s, subst (λ (c : Hasher). Holds c mode s) (sym e) h, subst (λ (c : Hasher). Holds c mode s) (sym f) k)
held_after mode s bytes old also x y (Ok u) (Err v) P h k a b e f p q = let no = p.1 (q.0 refl) in cc
held_after mode s bytes old also x y (Err u) (Ok v) P h k a b e f p q = let no = q.1 (p.0 refl) in cc
