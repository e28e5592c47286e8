use Rattle.std.proofs.Common.{Err, ap}
use Rattle.bao_sums.specs.declared.fault.SumsFault.TheVariants.{TooLong}
use Rattle.bao_sums.proofs.Long.{same_fault, too_long}
use Rattle.bao_sums.proofs.text.read_text.Goals as goal

pub returns-in_err-bytes-clause-long : goal.returns-in_err-bytes-clause-long
returns-in_err-bytes-clause-long g c is =
    too_long (g.D.Disk.at c.args.disk.now c.args.path.now) (g.D.Input.Source.contents c.in_ok-input.input) (g.D.Input.Read.remaining c.in_ok-input.input) c.extent.result c.regular_len-len.result
    c.in_ok-input.ensures.opened c.extent.ensures c.regular_len-len.ensures
    (c.in_err-bytes.ensures.long (ap Err (same_fault c.from_residual-in_err-bytes.result c.in_err-bytes.field-0.0 TooLong c.from_residual-in_err-bytes.ensures.1 is)))
