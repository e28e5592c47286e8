use Rattle.std.proofs.Common.{◌||◌, ◌∙◌}
use Rattle.std.proofs.lemmas.Result.{IfOk-weaker}
use Rattle.clap.specs.declared.builder.command.Command.{Command}
use Rattle.bao_request.proofs.rules.with_command.Goals as goal

pub returns : goal.returns
returns c = IfOk-weaker c.subcommand.result _ _ (λ (r : Command) h. record {
  app_is = h.shape c.requires.command;
  globals = h.globals ∙ (λ i. c.requires.program i || c.requires.command i);
}) c.subcommand.ensures
