-- Nodes that are cut out of bytes, one part after another.
use Rattle.std.proofs.Common.{Result, Ok, Err, IfOk, OnOk, ◌≡◌, ℕ, ◌+◌, ◌<◌, ◌≤◌, List, [], ◌++◌, length, take, drop, nat_le, Bool, true, false, refl, sym, ap, ◌∙◌, arith, lit≤}
use Rattle.std.specs.Int.{from_le_bytes, w64}
use Rattle.std.proofs.lemmas.Bool.{le-ltb, leb-true}
use Rattle.std.proofs.lemmas.List.{append-nil, append_assoc, drop_at, take-take}
use Rattle.std.proofs.lemmas.List.Sums.{sum_by-append}
use Rattle.b3tree.specs.Pieces.{piece}
use Rattle.bao_text.specs.Cut.{Cuts, claimed, cut_nodes, cut_text, has_all}
use Rattle.bao_text.specs.Nodes.{TreeNode, nodes, size}
use Rattle.bao_text.proofs.Cutting.{cut_nodes-append, cut_nodes-append_short, has_all-append, has_all-append_short}
use Rattle.bao_text.proofs.Runs.{IsRun}

-- nothing is wanted
pub Cuts-none : (Holds : List ℕ → Type 0) (old : List ℕ) (nodes : List TreeNode) (n : ℕ) → nodes ≡ [] → Cuts Holds old old nodes n true
Cuts-none Holds old nodes n none = record {
  cut = λ s _. sym (append-nil old) ∙ ap (λ (xs : List TreeNode). old ++ cut_nodes s xs) (sym none);
  all = λ s _ _. ap (has_all s) (sym none);
  few = omega arith;
}

-- one part, as it was copied: of a copy that was made, the type of faults is any
pub Cuts-run : (E : Type 0) (Holds : List ℕ → Type 0) (old new : List ℕ) (at k n : ℕ) (nodes : List TreeNode) (result : Result Bool E) → IsRun at k nodes → n ≤ k
    → ((s : List ℕ) → Holds s → OnOk result (new ≡ old ++ piece s at k)) → ((s : List ℕ) → Holds s → IfOk result (λ whole. 0 < k → whole ≡ nat_le (at + k) (length s)))
    → OnOk result (length new ≤ length old + k) → IfOk result (λ whole. Cuts Holds old new nodes n whole)
Cuts-run E Holds old new at k n nodes (Ok whole) run some part all few = record {
  cut = λ s is. part s is ∙ ap (λ (xs : List ℕ). old ++ xs) (sym (run.cut s));
  all = λ s is more. let over : 0 < k = omega arith in all s is over ∙ sym (run.all s over);
  few = omega (arith, run.len, few);
}
Cuts-run E Holds old new at k n nodes (Err fault) run some part all few = tt

-- the nodes after those that aren't all there count for nothing
pub Cuts-short : (Holds : List ℕ → Type 0) (old new : List ℕ) (xs ys : List TreeNode) (k n : ℕ) → 0 < k → Cuts Holds old new xs k false → Cuts Holds old new (xs ++ ys) n false
Cuts-short Holds old new xs ys k n some h = record {
  cut = λ s is. h.cut s is ∙ ap (λ (bytes : List ℕ). old ++ bytes) (sym (cut_nodes-append_short s xs ys (sym (h.all s is some))));
  all = λ s is _. sym (has_all-append_short s xs ys (sym (h.all s is some)));
  few = omega (arith, h.few, sum_by-append size xs ys);
}

-- those after nodes that are all there follow
pub Cuts-then : (Holds : List ℕ → Type 0) (old mid new : List ℕ) (xs ys : List TreeNode) (k m n : ℕ) (whole : Bool) → 0 < k → 0 < m
    → Cuts Holds old mid xs k true → Cuts Holds mid new ys m whole → Cuts Holds old new (xs ++ ys) n whole
Cuts-then Holds old mid new xs ys k m n whole some more a b = record {
  cut = λ s is. rw (b.cut s is, a.cut s is, cut_nodes-append s xs ys (sym (a.all s is some)), append_assoc) refl;
  all = λ s is _. rw (has_all-append s xs ys (sym (a.all s is some))) (b.all s is more);
  few = omega (arith, a.few, b.few, sum_by-append size xs ys);
}

-- A slice: the length, and then the nodes.
pub slice_cut : (old mid new s : List ℕ) (start len total : ℕ) → mid ≡ old ++ piece s 0 8 → true ≡ nat_le (0 + 8) (length s) → total ≡ claimed (drop (length old) mid)
    → new ≡ mid ++ cut_nodes s (nodes total start len) → new ≡ old ++ cut_text s start len
slice_cut old mid new s start len total begin there is rest =
    let some : 8 ≤ length s = leb-true 8 (length s) (sym there) in
    let first : drop (length old) mid ≡ take 8 s = ap (drop (length old)) begin ∙ drop_at old (take 8 s) (length old) refl in
    let claim : total ≡ claimed s = is ∙ (λ i. from_le_bytes w64 (take 8 (first i))) ∙ ap (from_le_bytes w64) (take-take 8 8 s (lit≤ tt)) in
    rest ∙ rw (begin, claim, le-ltb (length s) 8 some, append_assoc) refl
