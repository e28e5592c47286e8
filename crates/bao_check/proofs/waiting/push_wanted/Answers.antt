use Rattle.bao_check.proofs.ChunkBytes.{waiting_kinds-put}
use Rattle.bao_check.proofs.Feeding.{before_last}
use Rattle.bao_check.proofs.waiting.push_wanted.Goals as goal

pub returns-then-wants-clause-before : goal.returns-then-wants-clause-before
returns-then-wants-clause-before c = before_last c.args.choice.now c.args.waiting.now.items c.push.new.self.items _ c.push.ensures.items

pub returns-then-wants-clause-kinds : goal.returns-then-wants-clause-kinds
returns-then-wants-clause-kinds c = waiting_kinds-put c.args.choice.now c.args.waiting.now.items c.push.new.self.items _ c.push.ensures.items
