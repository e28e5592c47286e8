-- How the whole subtrees of an input follow it as it grows, and give its top.
use Rattle.std.proofs.Common.{◌≡◌, ℕ, zero, suc, ◌+◌, ◌-◌, ◌*◌, ◌/◌, ◌^◌, ◌<◌, ◌≤◌, List, [], ◌∷◌, ◌++◌, length, take, drop, refl, sym, ap, ◌∙◌, arith, inl, inr, pow_pos, length-append, length-drop, pow-add}
use Rattle.std.proofs.lemmas.Bool.{cases_lt, le-leb, lt-leb}
use Rattle.std.proofs.lemmas.List.{drop-append-le, drop_all, nil_from_length, take-append-le, take_all}
use Rattle.std.proofs.Math.Pow.{pow_mono}
use Rattle.std.proofs.Math.Nat.{mul-le-mul_left}
use Rattle.b3word.specs.declared.input.Input.{Input}
use Rattle.b3word.specs.Compression.{cv}
use Rattle.b3tree.specs.declared.mode.Mode.{Mode}
use Rattle.b3tree.specs.Stack.{whole_subtrees}
use Rattle.b3tree.specs.Tree.{IsLeftLen, parent_input, subtree_cv, top_input}
use Rattle.b3tree.proofs.TopInput.{top_input-parent}

whole_subtrees_taken : (k : ℕ) (mode : Mode) (first : ℕ) (s : List ℕ) → 1024 * 2 ^ k ≤ length s
    → whole_subtrees (suc k) mode first s
    ≡ subtree_cv mode first (take (1024 * 2 ^ k) s) ∷ whole_subtrees k mode (first + 2 ^ k) (drop (1024 * 2 ^ k) s)
unfolding whole_subtrees
whole_subtrees_taken k mode first s h = rw (le-leb _ _ h) refl

whole_subtrees_left : (k : ℕ) (mode : Mode) (first : ℕ) (s : List ℕ) → length s < 1024 * 2 ^ k
    → whole_subtrees (suc k) mode first s ≡ whole_subtrees k mode first s
unfolding whole_subtrees
whole_subtrees_left k mode first s h = rw (lt-leb _ _ h) refl

whole_subtrees_zero : (mode : Mode) (first : ℕ) (s : List ℕ) → whole_subtrees 0 mode first s ≡ []
unfolding whole_subtrees
whole_subtrees_zero mode first s = refl

-- no bytes have none
pub whole_subtrees-nil : (k : ℕ) (mode : Mode) (first : ℕ) → whole_subtrees k mode first [] ≡ []
whole_subtrees-nil zero mode first = whole_subtrees_zero mode first []
whole_subtrees-nil (suc k) mode first =
    let some : 0 < 2 ^ k = pow_pos k in
    whole_subtrees_left k mode first [] (omega arith) ∙ whole_subtrees-nil k mode first

-- one for each size at most
pub length-whole_subtrees : (k : ℕ) (mode : Mode) (first : ℕ) (s : List ℕ) → length (whole_subtrees k mode first s) ≤ k
length-whole_subtrees zero mode first s = rw (whole_subtrees_zero mode first s) (omega arith)
length-whole_subtrees (suc k) mode first s = elim (cases_lt (length s) (1024 * 2 ^ k)) [
  | inl less ↦
      let before : length (whole_subtrees k mode first s) ≤ k = length-whole_subtrees k mode first s in
      rw (whole_subtrees_left k mode first s less) (omega arith)
  | inr more ↦
      let rest : List ℕ = drop (1024 * 2 ^ k) s in
      let before : length (whole_subtrees k mode (first + 2 ^ k) rest) ≤ k = length-whole_subtrees k mode (first + 2 ^ k) rest in
      rw (whole_subtrees_taken k mode first s more) (omega arith)
]

-- a multiple of d below another leaves room for one more d
multiple_room : (d q r : ℕ) → d * q < d * r → d * q + d ≤ d * r
multiple_room d q r h = elim (cases_lt q r) [
  | inl lt ↦ let m : d * (q + 1) ≤ d * r = mul-le-mul_left d (omega arith) in omega arith
  | inr ge ↦ let m : d * r ≤ d * q = mul-le-mul_left d ge in absurd (omega arith)
]

-- a larger power of two is a multiple of a smaller
pow_multiple : (j k : ℕ) → j < k → 2 ^ k ≡ 2 ^ suc j * 2 ^ (k - suc j)
pow_multiple j k h = let e : k ≡ suc j + (k - suc j) = omega arith in ap (λ (i : ℕ). 2 ^ i) e ∙ pow-add 2 (suc j) (k - suc j)

-- the difference of two multiples of d
multiple_less : (d q r y p : ℕ) → 0 < d → y ≡ d * q → p ≡ d * r → p ≤ y → y - p ≡ d * (q - r)
multiple_less d q r y p some ey ep le = elim (cases_lt q r) [
  | inl lt ↦ let m : d * q + d ≤ d * r = multiple_room d q r (let n : d * (q + 1) ≤ d * r = mul-le-mul_left d (omega arith) in omega arith) in absurd (omega arith)
  | inr ge ↦ let e : q ≡ r + (q - r) = omega arith in let m : d * q ≡ d * (r + (q - r)) = ap (λ (n : ℕ). d * n) e in omega arith
]

-- the only multiple of d below d
multiple_below : (d q y : ℕ) → y ≡ d * q → y < d → y ≡ 0
multiple_below d q y ey lt = elim (cases_lt 0 q) [
  | inl some ↦ let m : d * 1 ≤ d * q = mul-le-mul_left d some in absurd (omega arith)
  | inr none ↦ let e : q ≡ 0 = omega arith in let m : d * q ≡ d * 0 = ap (λ (n : ℕ). d * n) e in omega arith
]

-- whole chunks that a larger power of two divides, and 2 ^ j more: a subtree of their own
pub whole_subtrees-append : (k j : ℕ) (mode : Mode) (first : ℕ) (s u : List ℕ) (y q : ℕ) → j < k → length s ≡ 1024 * y → y ≡ 2 ^ suc j * q
    → y < 2 ^ k → length u ≡ 1024 * 2 ^ j → whole_subtrees k mode first (s ++ u) ≡ whole_subtrees k mode first s ++ subtree_cv mode (first + y) u ∷ []
whole_subtrees-append zero j mode first s u y q jk ls ey yk lu = absurd (omega arith)
whole_subtrees-append (suc k) j mode first s u y q jk ls ey yk lu =
    let p : ℕ = 2 ^ k in
    let all : length (s ++ u) ≡ 1024 * y + 1024 * 2 ^ j = length-append s u ∙ (λ i. ls i + lu i) in
    elim (cases_lt j k) [
      | inl lower ↦
          let multiple : 2 ^ k ≡ 2 ^ suc j * 2 ^ (k - suc j) = pow_multiple j k lower in
          elim (cases_lt y (2 ^ k)) [
            | inl less ↦
                let room : 2 ^ suc j * q + 2 ^ suc j ≤ 2 ^ suc j * 2 ^ (k - suc j) = multiple_room (2 ^ suc j) q (2 ^ (k - suc j)) (rw (ey, multiple) at less) in
                whole_subtrees_left k mode first (s ++ u) (omega arith)
                ∙ whole_subtrees-append k j mode first s u y q lower ls ey less lu
                ∙ ap (λ (vs : List (List ℕ)). vs ++ subtree_cv mode (first + y) u ∷ []) (sym (whole_subtrees_left k mode first s (omega arith)))
            | inr more ↦
                let d : ℕ = 2 ^ suc j in
                let r : ℕ = 2 ^ (k - suc j) in
                let l : ℕ = 1024 * 2 ^ k in
                let rest : List ℕ = drop l s in
                let fits : l ≤ length s = omega arith in
                let later : y - 2 ^ k ≡ d * (q - r) = multiple_less d q r y (2 ^ k) (pow_pos (suc j)) ey multiple more in
                let size : length rest ≡ 1024 * (y - 2 ^ k) = omega (arith, length-drop l s) in
                let front : take l (s ++ u) ≡ take l s = take-append-le l s u fits in
                let back : drop l (s ++ u) ≡ rest ++ u = drop-append-le l s u fits in
                let place : first + 2 ^ k + (y - 2 ^ k) ≡ first + y = omega arith in
                whole_subtrees_taken k mode first (s ++ u) (omega arith)
                ∙ (λ i. subtree_cv mode first (front i) ∷ whole_subtrees k mode (first + 2 ^ k) (back i))
                ∙ ap (λ (vs : List (List ℕ)). subtree_cv mode first (take l s) ∷ vs)
                (whole_subtrees-append k j mode (first + 2 ^ k) rest u (y - 2 ^ k) (q - r) lower size later (omega arith) lu
                ∙ (λ i. whole_subtrees k mode (first + 2 ^ k) rest ++ subtree_cv mode (place i) u ∷ []))
                ∙ ap (λ (vs : List (List ℕ)). vs ++ subtree_cv mode (first + y) u ∷ []) (sym (whole_subtrees_taken k mode first s fits))
          ]
      | inr same ↦
          let level : j ≡ k = omega arith in
          let none : y ≡ 0 = multiple_below (2 ^ suc j) q y ey (rw (← level) at yk) in
          let empty : s ≡ [] = nil_from_length s (omega arith) in
          let whole : length u ≡ 1024 * 2 ^ k = rw level at lu in
          let at : first ≡ first + y = omega arith in
          (λ i. whole_subtrees (suc k) mode first (empty i ++ u))
          ∙ whole_subtrees_taken k mode first u (omega arith)
          ∙ (λ i. subtree_cv mode (at i) (take_all (1024 * 2 ^ k) u (omega arith) i) ∷ whole_subtrees k mode (first + 2 ^ k) (drop_all (1024 * 2 ^ k) u (omega arith) i))
          ∙ ap (λ (vs : List (List ℕ)). subtree_cv mode (first + y) u ∷ vs) (whole_subtrees-nil k mode (first + 2 ^ k))
          ∙ ap (λ (vs : List (List ℕ)). vs ++ subtree_cv mode (first + y) u ∷ []) (sym ((λ i. whole_subtrees (suc k) mode first (empty i)) ∙ whole_subtrees-nil (suc k) mode first))
    ]

-- a parent whose left part is a whole subtree
top_input_whole : (k : ℕ) (mode : Mode) (first : ℕ) (s t : List ℕ) (y : ℕ) → length s ≡ 1024 * y → 2 ^ k ≤ y → 0 < length t → 1024 * y + length t ≤ 1024 * 2 ^ suc k
    → top_input mode first (s ++ t)
    ≡ parent_input mode (subtree_cv mode first (take (1024 * 2 ^ k) s)) (subtree_cv mode (first + 2 ^ k) (drop (1024 * 2 ^ k) s ++ t))
top_input_whole k mode first s t y ls low some high =
    let l : ℕ = 1024 * 2 ^ k in
    let all : length (s ++ t) ≡ 1024 * y + length t = length-append s t ∙ ap (λ (n : ℕ). n + length t) ls in
    let power : 0 < 2 ^ k = pow_pos k in
    let is : IsLeftLen (length (s ++ t)) l = record {
      form = (k, refl);
      below = omega arith;
      largest = λ j lt. elim (cases_lt k j) [
        | inl above ↦ let m : 2 ^ suc k ≤ 2 ^ j = pow_mono above in absurd (omega arith)
        | inr at ↦ let m : 2 ^ j ≤ 2 ^ k = pow_mono at in omega arith
      ];
    } in
    let fits : l ≤ length s = omega arith in
    let front : take l (s ++ t) ≡ take l s = take-append-le l s t fits in
    let back : drop l (s ++ t) ≡ drop l s ++ t = drop-append-le l s t fits in
    let count : l / 1024 ≡ 2 ^ k = omega arith in
    top_input-parent mode first (s ++ t) l is (omega arith)
    ∙ (λ i. parent_input mode (subtree_cv mode first (front i)) (subtree_cv mode (first + count i) (back i)))

-- the input x joined with the subtrees on its left, the nearest last
abbrev pub joined : Mode → List (List ℕ) → Input → Input
joined mode [] x = x
joined mode (v ∷ vs) x = parent_input mode v (cv (joined mode vs x))

pub joined-push : (mode : Mode) (vs : List (List ℕ)) (v : List ℕ) (x : Input)
    → joined mode (vs ++ v ∷ []) x ≡ joined mode vs (parent_input mode v (cv x))
joined-push mode [] v x = refl
joined-push mode (w ∷ vs) v x = ap (λ (r : Input). parent_input mode w (cv r)) (joined-push mode vs v x)

-- eights of chunks that a power of two is among, and twice it is above: it is of eights, and leaves room for eight more
eights : (k q : ℕ) → 2 ^ k ≤ 8 * q → 8 * q < 2 ^ suc k → (r : ℕ) × (2 ^ k ≡ 8 * r) × (8 * q + 8 ≤ 2 ^ suc k)
eights k q low high = elim (cases_lt k 3) [
  | inl less ↦
      let small : 2 ^ suc k ≤ 8 = pow_mono {i = suc k} {j = 3} (omega arith) in
      let some : 0 < 2 ^ k = pow_pos k in
      absurd (omega arith)
  | inr more ↦
      let r : ℕ = 2 ^ (k - 3) in
      let split : k ≡ 3 + (k - 3) = omega arith in
      let power : 2 ^ k ≡ 8 * r = ap (λ (i : ℕ). 2 ^ i) split ∙ pow-add 2 3 (k - 3) in
      let twice : 2 ^ suc k ≡ 2 * 2 ^ k = omega arith in
      (r, power, omega arith)
]

-- the top over eights of whole chunks s and the last bytes t, of at most eight chunks
pub top_input-joined : (k : ℕ) (mode : Mode) (first : ℕ) (s t : List ℕ) (y q : ℕ) → y ≡ 8 * q → length s ≡ 1024 * y → y < 2 ^ k → 0 < length t → length t ≤ 8192
    → top_input mode first (s ++ t) ≡ joined mode (whole_subtrees k mode first s) (top_input mode (first + y) t)
top_input-joined zero mode first s t y q ey ls yk some few =
    let none : y ≡ 0 = omega arith in
    let empty : s ≡ [] = nil_from_length s (omega arith) in
    let at : first ≡ first + y = omega arith in
    (λ i. top_input mode first (empty i ++ t)) ∙ (λ i. top_input mode (at i) t)
    ∙ sym (ap (λ (vs : List (List ℕ)). joined mode vs (top_input mode (first + y) t)) (whole_subtrees_zero mode first s))
top_input-joined (suc k) mode first s t y q ey ls yk some few = elim (cases_lt y (2 ^ k)) [
  | inl less ↦
      top_input-joined k mode first s t y q ey ls less some few
      ∙ ap (λ (vs : List (List ℕ)). joined mode vs (top_input mode (first + y) t)) (sym (whole_subtrees_left k mode first s (omega arith)))
  | inr more ↦
      let l : ℕ = 1024 * 2 ^ k in
      let rest : List ℕ = drop l s in
      let size : length rest ≡ 1024 * (y - 2 ^ k) = omega (arith, length-drop l s) in
      let place : first + 2 ^ k + (y - 2 ^ k) ≡ first + y = omega arith in
      let e = eights k q (omega arith) (omega arith) in
      let power : 2 ^ k ≡ 8 * e.0 = e.1 in
      let room : 8 * q + 8 ≤ 2 ^ suc k = e.2 in
      top_input_whole k mode first s t y ls more some (omega arith)
      ∙ ap (λ (r : Input). parent_input mode (subtree_cv mode first (take l s)) (cv r))
      (top_input-joined k mode (first + 2 ^ k) rest t (y - 2 ^ k) (q - e.0) (omega arith) size (omega arith) some few
      ∙ (λ i. joined mode (whole_subtrees k mode (first + 2 ^ k) rest) (top_input mode (place i) t)))
      ∙ ap (λ (vs : List (List ℕ)). joined mode vs (top_input mode (first + y) t)) (sym (whole_subtrees_taken k mode first s (omega arith)))
]
