use Rattle.std.proofs.Common.{◌+◌, ◌*◌, sym, ap, ◌∙◌}
use Rattle.std.specs.Prelude.{is_some}
use Rattle.bao_check.specs.Checked.{piece_places, piece_text}
use Rattle.bao_check.specs.Parents.{parent_in}
use Rattle.determined_texts.proofs.Same.{same_parent}
use Rattle.determined_texts.proofs.Spans.{one_mask}
use Rattle.determined_texts.proofs.pieces.parents_of_determined.Goals as goal

pub returns : goal.returns
returns c =
    let a = c.args.a.now in
    one_mask (λ i. is_some (parent_in (piece_text a) (piece_places a) (64 * c.args.group + i))) c.parents_of.result c.parents_of-2.result c.parents_of.type_inv c.parents_of-2.type_inv c.parents_of.ensures
    (λ i low. c.parents_of-2.ensures i low ∙ sym (ap is_some (same_parent a c.args.b.now c.requires (64 * c.args.group + i))))
