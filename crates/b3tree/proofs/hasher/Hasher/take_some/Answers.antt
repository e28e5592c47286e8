use Rattle.std.proofs.Common.{◌≡◌, ◌+◌, ◌-◌, ◌<◌, ◌≤◌, ℕ, List, [], ◌∷◌, ◌++◌, length, take, drop, ◌∙◌, sym, ap, subst, arith, length-drop}
use Rattle.std.proofs.lemmas.List.{append-nil, append_assoc, length-take-le, take-take}
use Rattle.std.proofs.Math.Seq.{take-add}
use Rattle.b3tree.specs.declared.hasher.Hasher.{Hasher}
use Rattle.b3tree.specs.declared.mode.Mode.{Mode}
use Rattle.b3tree.specs.Taken.{Holds, Splits}
use Rattle.b3tree.proofs.hasher.Hasher.take_some.Goals as goal
use Rattle.b3tree.proofs.hasher.Hasher.take_some.Goals.{then-self-eq-BUFFER_LEN, else-self-eq-BUFFER_LEN}

-- bytes that go before the last ones, of which there are then none
moved : (earlier last front back : List ℕ) → (0 < length front → last ≡ []) → earlier ++ last ++ (front ++ back) ≡ earlier ++ front ++ (last ++ back)
moved earlier last [] back none =
    append_assoc earlier last back ∙ ap (λ (xs : List ℕ). xs ++ (last ++ back)) (sym (append-nil earlier))
moved earlier last (x ∷ xs) back none =
    let empty : last ≡ [] = none (omega arith) in
    (λ i. earlier ++ empty i ++ (x ∷ xs ++ back))
    ∙ ap (λ (ys : List ℕ). ys ++ (x ∷ xs ++ back)) (append-nil earlier)
    ∙ sym (append_assoc earlier (x ∷ xs) back)
    ∙ (λ i. earlier ++ (x ∷ xs) ++ (sym empty i ++ back))

-- what is held with bytes more: whole subtrees, and some that the buffer takes
Holds_more : (new : Hasher) (mode : Mode) (earlier last bytes : List ℕ) (whole count : ℕ) → whole + count ≤ length bytes → 0 < count
    → (0 < whole → last ≡ []) → Splits new mode (earlier ++ take whole bytes) (last ++ take count (drop whole bytes)) → new.buffered ≡ length last + count
    → Holds new mode (earlier ++ last ++ take (whole + count) bytes)
Holds_more new mode earlier last bytes whole count within some none splits size =
    let front : length (take whole bytes) ≡ whole = length-take-le whole bytes (omega arith) in
    record {
      earlier = earlier ++ take whole bytes;
      last = last ++ take count (drop whole bytes);
      whole =
          (λ i. earlier ++ last ++ take-add whole count bytes i)
          ∙ moved earlier last (take whole bytes) (take count (drop whole bytes)) (λ more. none (omega arith));
      splits = splits;
      ends = λ more. omega arith;
    }

pub returns-clause-taken : goal.returns-clause-taken
returns-clause-taken c = λ mode earlier last held.
    let middle : Hasher = c.if-self-eq-BUFFER_LEN.self in
    let whole : ℕ = c.stack_wholes-whole.result in
    let count : ℕ = c.min-count.result in
    let bytes : List ℕ = c.args.bytes.now in
    let done : (earlier last : List ℕ) → Splits middle mode earlier last → length last ≡ middle.buffered → middle.buffered < 8192
    → Holds c.keep.new.self mode (earlier ++ last ++ take (whole + count) bytes) =
    λ earlier last splits size room.
    let same : take count (take (length bytes - whole) (drop whole bytes)) ≡ take count (drop whole bytes) =
    take-take count (length bytes - whole) (drop whole bytes) (omega arith) in
    let left : c.stack_wholes-whole.new.self.buffered ≡ middle.buffered = c.stack_wholes-whole.ensures.buffered in
    let size_of : length (take count (drop whole bytes)) ≡ count = length-take-le count (drop whole bytes) (omega (arith, length-drop whole bytes)) in
    let stacked = c.stack_wholes-whole.ensures.splits mode earlier last splits in
    let kept : Splits c.keep.new.self mode (earlier ++ take whole bytes) (last ++ take count (drop whole bytes)) =
    subst (λ (xs : List ℕ). Splits c.keep.new.self mode (earlier ++ take whole bytes) (last ++ xs)) same
    (c.keep.ensures.splits mode (earlier ++ take whole bytes) last stacked.1) in
    let more : c.keep.new.self.buffered ≡ length last + count =
    omega (arith, c.keep.ensures.buffered, size, left, size_of, ap length same) in
    Holds_more c.keep.new.self mode earlier last bytes whole count (omega arith) (omega arith) stacked.0 kept more in
    elim c.if-self-eq-BUFFER_LEN.branch [
      | then-self-eq-BUFFER_LEN w ↦
          let all : List ℕ = earlier ++ last in
          let none : middle.buffered ≡ 0 = ap (λ (h : Hasher). h.buffered) w.self-is ∙ w.stack_buffer.ensures.buffered in
          let stacked : Splits middle mode all [] =
          subst (λ (h : Hasher). Splits h mode all []) (sym w.self-is) (w.stack_buffer.ensures.splits mode earlier last held) in
          subst (λ (xs : List ℕ). Holds c.keep.new.self mode (xs ++ take (whole + count) bytes)) (append-nil all)
          (done all [] stacked (sym none) (omega arith))
      | else-self-eq-BUFFER_LEN w ↦
          let same : middle.buffered ≡ c.args.self.now.buffered = ap (λ (h : Hasher). h.buffered) w.self-is in
          let limit : c.args.self.now.buffered ≤ 8192 = c.args.self.now.in_buffer in
          let other : c.args.self.now.buffered ≡ 8192 → ⊥ = w.if-self-eq-BUFFER_LEN.false in
          let splits : Splits middle mode earlier last = subst (λ (h : Hasher). Splits h mode earlier last) (sym w.self-is) held in
          done earlier last splits splits.last_len (omega arith)
    ]
