-- The top of what a hasher has taken in.
use Rattle.std.proofs.Common.{◌≡◌, ℕ, ◌*◌, ◌/◌, ◌%◌, ◌^◌, ◌<◌, ◌≤◌, List, [], ◌++◌, length, sym, ◌∙◌, arith, inl, inr, zero-add}
use Rattle.std.proofs.lemmas.Bool.{cases_lt}
use Rattle.std.proofs.lemmas.List.{nil_from_length}
use Rattle.b3tree.specs.declared.mode.Mode.{Mode}
use Rattle.b3tree.specs.Stack.{whole_subtrees}
use Rattle.b3tree.specs.Tree.{top_input}
use Rattle.b3tree.proofs.Subtrees.{joined, top_input-joined, whole_subtrees-nil}

-- eights of whole chunks and the last bytes, of which there are some unless there are none at all
pub top_input-taken : (mode : Mode) (earlier last : List ℕ) (chunks : ℕ) → chunks % 8 ≡ 0 → length earlier ≡ 1024 * chunks → chunks < 2 ^ 54 → length last ≤ 8192
    → (0 < chunks → 0 < length last)
    → top_input mode 0 (earlier ++ last) ≡ joined mode (whole_subtrees 54 mode 0 earlier) (top_input mode chunks last)
top_input-taken mode earlier last chunks eighths size bound few ends = elim (cases_lt 0 (length last)) [
  | inl some ↦
      top_input-joined 54 mode 0 earlier last chunks (chunks / 8) (omega arith) size bound some few
      ∙ (λ i. joined mode (whole_subtrees 54 mode 0 earlier) (top_input mode (zero-add chunks i) last))
  | inr none ↦
      elim (cases_lt 0 chunks) [
        | inl more ↦ let some : 0 < length last = ends more in absurd (omega arith)
        | inr zero ↦
            let no_chunks : chunks ≡ 0 = omega arith in
            let empty : earlier ≡ [] = nil_from_length earlier (omega arith) in
            (λ i. top_input mode 0 (empty i ++ last))
            ∙ sym ((λ i. joined mode (whole_subtrees 54 mode 0 (empty i)) (top_input mode (no_chunks i) last))
            ∙ (λ i. joined mode (whole_subtrees-nil 54 mode 0 i) (top_input mode 0 last)))
      ]
]
