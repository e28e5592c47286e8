use Rattle.std.proofs.Common.{◌≡◌, ◌+◌, ◌-◌, ◌*◌, ◌%◌, ◌^◌, ◌<◌, ◌≤◌, ℕ, List, [], ◌∷◌, ◌++◌, length, take, get_or, ◌∙◌, sym, ap, arith}
use Rattle.std.proofs.lemmas.List.{take_more}
use Rattle.b3word.specs.declared.input.Input.{Input}
use Rattle.b3word.specs.Compression.{cv}
use Rattle.b3tree.specs.declared.mode.Mode.{Mode}
use Rattle.b3tree.specs.Hashing.{rooted}
use Rattle.b3tree.specs.Stack.{whole_subtrees}
use Rattle.b3tree.specs.Tree.{parent_input, top_input}
use Rattle.b3tree.proofs.Subtrees.{joined, joined-push}
use Rattle.b3tree.proofs.Taking.{top_input-taken}
use Rattle.b3tree.proofs.hasher.Hasher.root.Goals as goal

-- the values up to i, joined with x, from one fewer
joined_from : (mode : Mode) (values : List (List ℕ)) (i : ℕ) (x y : Input) → 0 < i → i ≤ length values
    → y ≡ parent_input mode (get_or values (i - 1) []) (cv x) → joined mode (take (i - 1) values) y ≡ joined mode (take i values) x
joined_from mode values i x y some fits e =
    let back : i - 1 + 1 ≡ i = omega arith in
    let one : i - 1 < length values = omega arith in
    let more : take (i - 1 + 1) values ≡ take (i - 1) values ++ get_or values (i - 1) [] ∷ [] = take_more values (i - 1) [] one in
    ap (joined mode (take (i - 1) values)) e
    ∙ sym (joined-push mode (take (i - 1) values) (get_or values (i - 1) []) x)
    ∙ ap (λ (vs : List (List ℕ)). joined mode vs x) (sym more ∙ ap (λ (n : ℕ). take n values) back)

pub joined-preserved : goal.joined-preserved
joined-preserved c =
    joined_from c.args.self.now.mode c.as_slice-values.result.now c.joined.i c.joined.input c.parent_input-input.result c.joined-test.true c.joined.auto.i
    (c.parent_input-input.ensures ∙ ap (parent_input c.args.self.now.mode (get_or c.as_slice-values.result.now (c.joined.i - 1) [])) c.cv.ensures)
    ∙ c.joined.invariant

pub returns : goal.returns
returns c = λ mode s held.
    let own : Mode = c.args.self.now.mode in
    let number : ℕ = c.args.self.now.chunks in
    let none : c.joined.i ≡ 0 = omega arith in
    let values : c.as_slice-values.result.now ≡ whole_subtrees 54 mode 0 held.earlier = c.as_slice-values.ensures.value ∙ held.splits.stack in
    let start : c.top_input-input.result ≡ top_input mode number held.last =
    c.top_input-input.ensures.value ∙ (λ i. top_input (held.splits.same_mode i) number (held.splits.buffer i)) in
    let fits : 1024 * number + c.args.self.now.buffered < 2 ^ 64 = c.args.self.now.fits in
    let in_buffer : c.args.self.now.buffered ≤ 8192 = c.args.self.now.in_buffer in
    let eighths : number % 8 ≡ 0 = c.args.self.now.eighths in
    let bound : number < 2 ^ 54 = omega arith in
    let few : length held.last ≤ 8192 = omega (arith, held.splits.last_len) in
    let ends : 0 < number → 0 < length held.last = λ more. rw held.splits.last_len (held.ends more) in
    let done : c.joined.input ≡ joined own c.as_slice-values.result.now c.top_input-input.result =
    (λ i. joined own (take (sym none i) c.as_slice-values.result.now) c.joined.input) ∙ c.joined.invariant in
    c.rooted.ensures
    ∙ ap rooted (done ∙ (λ i. joined (held.splits.same_mode i) (values i) (start i))
    ∙ sym (top_input-taken mode held.earlier held.last number eighths held.splits.chunks bound few ends) ∙ ap (top_input mode 0) (sym held.whole))
