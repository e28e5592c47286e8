use Rattle.bao_check.specs.Accepted.{IsAccepted, outboard_nodes}
use Rattle.bao_check.specs.Outline.{IsOutline}
use Rattle.bao_check.specs.Faults.{IsFirstFault}
use Rattle.determined_texts.specs.Texts.{SameOutline}
use Rattle.determined_texts.proofs.OneFault.{checks_agree, one_fault, same_outline}
use Rattle.determined_texts.proofs.checks.check_outboard_determined.Goals as goal

pub returns : goal.returns
returns c =
    checks_agree (λ x. IsOutline x c.args.mode.now c.args.root.now.0 c.args.text.now) SameOutline
    (IsAccepted c.args.mode.now c.args.root.now.0 c.args.text.now (outboard_nodes c.args.text.now))
    (IsFirstFault c.args.mode.now c.args.root.now.0 c.args.text.now (outboard_nodes c.args.text.now))
    (same_outline c.args.mode.now c.args.root.now.0 c.args.text.now)
    (one_fault c.args.mode.now c.args.root.now.0 c.args.text.now (outboard_nodes c.args.text.now))
    c.check_outboard.result c.check_outboard-2.result c.check_outboard.ensures.accepted c.check_outboard-2.ensures.accepted c.check_outboard.ensures.outline c.check_outboard-2.ensures.outline
    c.check_outboard.ensures.fault c.check_outboard-2.ensures.fault
