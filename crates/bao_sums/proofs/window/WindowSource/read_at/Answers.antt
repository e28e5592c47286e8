use Rattle.std.proofs.Common.{rules, ◌≡◌, ◌+◌, ◌<◌, length}
use Rattle.std.proofs.lemmas.Result.{IfOk-weaker}
use Rattle.bao_decode.proofs.Cuttings.{paired}
use Rattle.bao_sums.proofs.Windows.{window_read}
use Rattle.bao_sums.proofs.window.WindowSource.read_at.Goals as goal

pub returns-in-Some-clause-bytes : goal.returns-in-Some-clause-bytes
returns-in-Some-clause-bytes g c =
    let it = c.args.self.now in
    let at : c.args.at ≡ it.start + c.in-Some.skip = search rules in
    let within : c.in-Some.skip < length it.held.now = search rules in
    IfOk-weaker c.read_at.result _ _ (λ count both. window_read (g.S.Source.contents it.source.now) it.held.now c.read_at.new.buf it.start c.args.at c.in-Some.skip count it.given at within both.0.0 both.1)
    (paired _ _ c.read_at.result c.read_at.ensures.bound c.read_at.ensures.bytes)
