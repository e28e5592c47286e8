use Rattle.std.proofs.Common.{subst, sym}
use Rattle.b3tree.specs.declared.mode.Mode.{Mode}
use Rattle.b3tree.specs.Valid.{IsKeyed}
use Rattle.holders.specs.declared.grain.Grain.TheVariants.{Chunk as ByChunk}
use Rattle.gather.specs.declared.report.Report.{Report}
use Rattle.berylwool.specs.Gathering.{GathersOn, report_of}
use Rattle.berylwool.proofs.Rounds.{gathers}
use Rattle.berylwool.proofs.gathering.salvaged.Goals as goal

pub returns-clause-gathers : goal.returns-clause-gathers
returns-clause-gathers c =
    let done = gathers ByChunk c.args.store.now c.args.text.now c.new.result c.salvage.new.holders c.counts-sums.result c.salvage.new.report c.args.seat.now c.salvage.new.seat
    (subst (λ (mode : Mode). IsKeyed mode) c.mode-mode.ensures c.is_keyed.ensures) (λ i. (c.new.ensures i).now) c.requires c.salvage.ensures.has c.salvage.ensures.reports c.salvage.ensures.claims (c.salvage.ensures.served tt) in
    subst (λ (report : Report). GathersOn c.args.text.now report (report_of c.shown.result) c.args.seat.now c.salvage.new.seat) c.counts-sums.ensures
    (subst (λ (report : Report). GathersOn c.args.text.now c.counts-sums.result report c.args.seat.now c.salvage.new.seat) (sym c.shown.ensures) done)
