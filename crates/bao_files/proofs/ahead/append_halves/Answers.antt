use Rattle.std.proofs.Common.{rules, ◌≡◌, ℕ, List, [], ◌+◌, ◌-◌, ◌*◌, ◌/◌, length, subst, arith}
use Rattle.b3tree.specs.Tree.{parent_input}
use Rattle.bao_text.specs.Choice.{wants}
use Rattle.b3par.specs.Encodings.{GainsText}
use Rattle.b3par.proofs.Parents.{SplitsAt, own_text}
use Rattle.bao_files.specs.Ahead.{all_of}
use Rattle.bao_files.proofs.Halves.{halves}
use Rattle.bao_files.proofs.ahead.append_halves.Goals as goal

pub returns : goal.returns
returns g c =
    let contents = g.S.Source.contents c.args.source.now in
    let choice = c.args.choice.now in
    let mode = c.args.mode.now in
    let first = c.args.first in
    let len : ℕ = length c.args.bytes.now in
    let l = c.left_len-left_len.result in
    let left = c.in-Some-Some.left in
    let right = c.in-Some-Some.right in
    let parent : List ℕ = c.put_wanted.new.parent.items in
    let near : List ℕ = c.join_mut-left.new.f.5.now.items in
    let far : List ℕ = c.join_mut-left.new.g.5.now.items in
    let splits : SplitsAt mode first len l = record {
      parts = c.left_len-left_len.ensures.parts mode first;
      value = c.left_len-left_len.ensures.value;
      whole = omega (arith, c.left_len-left_len.ensures.largest.form.1);
      below = c.left_len-left_len.ensures.largest.below;
      more = c.requires.more;
    } in
    let a : GainsText contents choice mode first l [] near left = search rules in
    let rest : GainsText contents choice mode (first + l / 1024) (length c.split_at_mut-left.result.1.now) [] far right = search rules in
    let size : length c.split_at_mut-left.result.1.now ≡ len - l = omega (arith, c.split_at_mut-left.ensures.back_len) in
    let b : GainsText contents choice mode (first + l / 1024) (len - l) [] far right =
    subst (λ (n : ℕ). GainsText contents choice mode (first + l / 1024) n [] far right) size rest in
    let own : parent ≡ own_text (wants choice (1024 * first) len) left right = search rules in
    let made : GainsText contents choice mode first len [] (all_of (record { parent = c.put_wanted.new.parent; near = c.join_mut-left.new.f.5.now; far = c.join_mut-left.new.g.5.now })) _ =
    halves contents choice mode first len l left right parent near far splits a b own in
    rw (c.parent_input.ensures, c.cv.ensures, c.cv-2.ensures) made
