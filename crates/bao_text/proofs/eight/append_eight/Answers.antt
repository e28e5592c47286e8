use Rattle.std.proofs.Common.{◌∙◌}
use Rattle.std.proofs.lemmas.List.{append_assoc}
use Rattle.std.proofs.lemmas.Result.{on_ok_weaker}
use Rattle.bao_text.proofs.eight.append_eight.Goals as goal

pub returns : goal.returns
returns c =
    on_ok_weaker c.append_four-2.result (λ h. h ∙ rw (c.in_ok-append_four.ensures, c.in_ok-append_parent.ensures) (simp append_assoc)) c.append_four-2.ensures
