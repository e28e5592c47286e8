use Rattle.std.proofs.Common.{◌+◌, ◌%◌, ◌≤◌, ◌≡◌, arith, rules}
use Rattle.bao_windows.proofs.Writing.{begun_put}
use Rattle.bao_windows.specs.Windows.{AreValued, IsFrom, fixed_for}
use Rattle.bao_windows.specs.Written.{AreNext}
use Rattle.bao_windows.proofs.driver.write_window.Goals as goal

pub put_window-requires : goal.put_window-requires
put_window-requires g c = record {
  mode = c.args.wanted.now.mode;
  at = c.args.at;
  total = c.args.total;
  are = c.requires.whole.valued;
  taken = c.requires.taken;
  aligned = c.requires.aligned;
  fits = omega (arith, c.ranges.total);
}

pub join_mut-filled-requires-after_bounds : goal.join_mut-filled-requires-after_bounds
join_mut-filled-requires-after_bounds g c κs within =
    let next : AreNext (AreValued c.args.window.now) c.args.hasher.now = record {
      mode = c.args.wanted.now.mode;
      at = c.args.at;
      total = c.args.total;
      are = c.requires.whole.valued;
      taken = c.requires.taken;
      aligned = c.requires.aligned;
      fits = omega (arith, c.ranges.total);
    } in
    let ends : c.args.at + c.min.result ≤ c.args.total = omega (arith, c.min.ensures, c.requires.below) in
    let whole : (c.args.at + c.min.result) % 65536 ≡ 0 = omega (arith, c.min.ensures, c.requires.below, c.requires.aligned, c.saturating_mul-count.ensures, c.if-end-total.false, c.ranges.total) in
    search rules

pub returns-in-Err-clause-begun : goal.returns-in-Err-clause-begun
returns-in-Err-clause-begun g c =
    begun_put (IsFrom c.args.wanted.now g.S.Source.contents g.S.Source.faultless c.args.sources.now) (fixed_for c.args.wanted.now) c.args.at c.args.total c.args.window.now
    (g.W.Write.contents c.args.out.now) (g.W.Write.contents c.put_window.new.out) c.requires.whole c.put_window.ensures.begun

pub returns-in-Err-put-clause-begun : goal.returns-in-Err-put-clause-begun
returns-in-Err-put-clause-begun g c =
    begun_put (IsFrom c.args.wanted.now g.S.Source.contents g.S.Source.faultless c.args.sources.now) (fixed_for c.args.wanted.now) c.args.at c.args.total c.args.window.now
    (g.W.Write.contents c.args.out.now) _ c.requires.whole (search rules)
