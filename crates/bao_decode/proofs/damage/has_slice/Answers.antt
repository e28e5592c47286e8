use Rattle.std.proofs.Common.{ap, subst, sym}
use Rattle.bao_decode.proofs.Judging.{slice_refused}
use Rattle.bao_decode.proofs.damage.has_slice.Goals as goal

pub returns-in-Err : goal.returns-in-Err
returns-in-Err g c =
    let has = g.S.Source.contents in
    let never = g.S.Source.faultless in
    let woven = c.in-Ok.woven in
    let same = c.in-Ok.ensures.same in
    slice_refused c.args.mode.now c.args.root.now.0 c.args.start c.args.len (never woven.outboard.now × never woven.copy.now) (never c.args.outboard.now × never c.args.copy.now)
    (has c.args.outboard.now) (has c.args.copy.now) (has woven.outboard.now) (has woven.copy.now) woven.total woven.start woven.len c.in-Err.field-0 (ap has same.0) (ap has same.1) same.2 same.3
    (λ sure. (subst never (sym same.0) sure.0, subst never (sym same.1) sure.1)) c.in-Ok.ensures.claims c.in-Err.ensures.err
