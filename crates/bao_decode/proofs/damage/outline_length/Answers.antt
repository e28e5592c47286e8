use Rattle.std.proofs.Common.{rules, ◌≡◌, ◌-◌, ◌+◌, ◌*◌, ◌∙◌, sym}
use Rattle.bao_text.specs.Choice.{chunk_count}
use Rattle.bao_decode.proofs.Judging.{outline_is}
use Rattle.bao_decode.proofs.damage.outline_length.Goals as goal

pub returns : goal.returns
returns g c =
    let size : c.from.result ≡ c.args.size = search rules in
    let same : c.parent_hash.result.0 ≡ c.args.root.now.0 = search rules in
    let sized : c.args.size ≡ 8 + 64 * (chunk_count c.in-Ok.total - 1) = sym size ∙ search rules in
    let parent = c.in-Some.ensures.some in
    outline_is c.args.mode.now c.args.root.now.0 (g.S.Source.faultless c.args.outboard.now) c.args.size c.in-Ok.total (g.S.Source.contents c.args.outboard.now) c.in-Ok.ensures.claims sized
    (λ more. (c.in-Some.parent, parent.1, parent.0, sym c.parent_hash.ensures ∙ same))
