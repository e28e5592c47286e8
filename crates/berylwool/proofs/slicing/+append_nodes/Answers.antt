use Rattle.std.proofs.Common.{◌≡◌, ◌∙◌, ℕ, ◌+◌, ◌-◌, ◌*◌, List, [], ◌∷◌, ◌++◌, drop, take, Result, Ok, Err, OnOk, ap, arith, refl, sym}
use Rattle.bao_text.specs.Nodes.{left, right, subtree_size}
use Rattle.berylwool.proofs.Beside.{beside_chunk, beside_none, beside_parent}
use Rattle.berylwool.proofs.slicing.+append_nodes.Goals as goal

on_ok : {T E : Type 0} (r : Result T E) {P Q : Type 0} → OnOk r P → (P → Q) → OnOk r Q
on_ok (Ok x) p f = f p
on_ok (Err e) p f = tt

pub returns-then-not-wants : goal.returns-then-not-wants
returns-then-not-wants t c = λ own sides source has.
    beside_none c.args.outline.now c.args.chunks.now c.args.first c.args.choice.now c.args.number c.args.n sides source _ _ (sym c.wants.ensures ∙ c.if-not-wants.true) refl

pub returns-then-n-chunk_len : goal.returns-then-n-chunk_len
returns-then-n-chunk_len t c = λ own sides source has.
    let chunks : List ℕ = c.args.chunks.now in
    let n : ℕ = c.args.n in
    let old : List ℕ = c.args.into.now.items in
    let at_is : c.from.result ≡ 1024 * (c.args.number - c.args.first) = omega (arith, c.from.ensures, c.saturating_sub.ensures) in
    let len_is : c.from-then-n-chunk_len.result ≡ n = omega (arith, c.from-then-n-chunk_len.ensures) in
    let part : c.part_of.result.now ≡ take n (drop (1024 * (c.args.number - c.args.first)) chunks) =
    c.part_of.ensures ∙ ap (λ (k : ℕ). take k (drop c.from.result chunks)) len_is ∙ ap (λ (k : ℕ). take n (drop k chunks)) at_is in
    beside_chunk c.args.outline.now chunks c.args.first c.args.choice.now c.args.number n sides source old _ (sym c.wants.ensures ∙ c.if-not-wants.false)
    c.if-n-chunk_len.true c.requires.chunks (c.in_ok-extend_from_slice.ensures.items ∙ ap (λ (xs : List ℕ). old ++ xs) part)

pub returns : goal.returns
returns t c =
    let old : List ℕ = c.args.into.now.items in
    let size : c.args.at + 64 - c.args.at ≡ 64 = omega arith in
    on_ok c.append_nodes-2.result c.append_nodes-2.ensures (λ third own sides source has.
    beside_parent c.args.outline.now c.args.chunks.now c.args.first c.args.choice.now own c.args.number c.args.n c.left_len-left_len.result sides source c.args.at
    old c.extend_from_slice-2.new.self.items c.append_nodes.new.into.items c.append_nodes-2.new.into.items (omega (arith, c.if-n-chunk_len.false))
    (sym c.wants.ensures ∙ c.if-not-wants.false) c.left_len-left_len.ensures.value has
    (c.in_ok-extend_from_slice-2.ensures.items ∙ ap (λ (k : ℕ). old ++ take k (drop c.args.at c.args.outline.now)) size)
    (λ its. c.in_ok-append_nodes.ensures own (sides ++ left ∷ []) (source + 64) its)
    (λ its. third own (sides ++ right ∷ []) (source + 64 + subtree_size c.left_len-left_len.result) its))
