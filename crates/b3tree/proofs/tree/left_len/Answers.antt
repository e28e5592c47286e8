use Rattle.std.proofs.Common.{◌≡◌, ℕ, ◌*◌, ◌%◌, ◌^◌, ◌<◌, ◌∙◌, sym, subst, arith}
use Rattle.b3tree.specs.Tree.{IsLeftLen, left_len}
use Rattle.b3tree.proofs.LeftLen.{left_len_shifted, left_len-IsLeftLen}
use Rattle.b3tree.proofs.TopInput.{top_input-parent}
use Rattle.b3tree.proofs.tree.left_len.Goals as goal

pub returns : goal.returns
returns c =
    let l : ℕ = 1024 * 2 ^ c.ilog2.result % 18446744073709551616 in
    let whole : l ≡ 1024 * 2 ^ c.ilog2.result = omega arith in
    let value : l ≡ left_len c.args.len =
    whole ∙ left_len_shifted c.args.len c.ilog2.result c.requires c.ilog2.ensures.power_le c.ilog2.ensures.next_power_gt in
    let largest : IsLeftLen c.args.len l = subst (IsLeftLen c.args.len) (sym value) (left_len-IsLeftLen c.args.len c.requires) in
    record {
      value = value;
      largest = largest;
      parts = λ mode first s size.
          top_input-parent mode first s l (subst (λ (n : ℕ). IsLeftLen n l) (sym size) largest) (subst (λ (n : ℕ). 1024 < n) (sym size) c.requires);
    }
