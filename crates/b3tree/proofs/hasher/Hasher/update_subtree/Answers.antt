use Rattle.std.proofs.Common.{◌≡◌, ◌<◌, ℕ, ◌+◌, ◌*◌, ◌/◌, ◌%◌, ◌^◌, ◌++◌, ◌∙◌, sym, ap, arith, length-append, pow_pos}
use Rattle.b3tree.specs.declared.mode.Mode.{Mode}
use Rattle.b3tree.specs.Stack.{whole_subtrees}
use Rattle.b3tree.specs.Tree.{subtree_cv}
use Rattle.b3tree.proofs.hasher.Hasher.update_subtree.Goals as goal

pub returns-clause-splits : goal.returns-clause-splits
returns-clause-splits c = λ mode earlier piece held size value.
    let own : Mode = c.args.self.now.mode in
    let n : ℕ = c.args.chunks in
    let x : ℕ = c.args.self.now.chunks in
    let k : ℕ = c.requires.whole.0 in
    let power : n ≡ 2 ^ k = c.requires.whole.1 in
    let some : 0 < 2 ^ k = pow_pos k in
    let positive : 0 < n = omega arith in
    let place : x % n ≡ 0 = c.requires.place in
    let whole : n * (x / n) ≡ x = omega arith in
    let number : 2 ^ k * (x / n) ≡ x = ap (λ (m : ℕ). m * (x / n)) (sym power) ∙ whole in
    let bound : 2 ^ k * (x / n + 1) < 2 ^ 54 = omega (arith, c.requires.fits) in
    let stack : c.push_subtree.new.stack.items ≡ whole_subtrees 54 own 0 (earlier ++ piece) =
    c.push_subtree.ensures k earlier piece (held.chunks ∙ ap (λ (m : ℕ). 1024 * m) (sym number)) (size ∙ ap (λ (m : ℕ). 1024 * m) power) bound
    (held.stack ∙ (λ i. whole_subtrees 54 (sym held.same_mode i) 0 earlier)) (value ∙ ap (λ (m : ℕ). subtree_cv own m piece) (sym number)) in
    record {
      same_mode = held.same_mode;
      chunks = omega (arith, length-append earlier piece, held.chunks);
      stack = stack ∙ (λ i. whole_subtrees 54 (held.same_mode i) 0 (earlier ++ piece));
      last_len = held.last_len;
      buffer = held.buffer;
    }
