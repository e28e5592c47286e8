use Rattle.std.proofs.Common.{ℕ, ◌-◌, ◌/◌, ◌<◌, arith}
use Rattle.bao_text.specs.Cut.{slice_len}
use Rattle.berylwool.proofs.FrontGood.{slice_len-mono}
use Rattle.berylwool.proofs.fronts.front_len.Goals as goal

pub search-preserved : goal.search-preserved
search-preserved c =
    let middle : ℕ = c.search.most - (c.search.most - c.search.part) / 2 in
    let long : c.args.at < slice_len c.args.total c.args.start middle = omega (arith, c.if-slice_size-at-2.false, c.slice_size-in-search.ensures.value, c.from-at.ensures) in
    record {
      order = omega (arith, c.search-test.true);
      within = omega (arith, c.search.invariant.within);
      before = c.search.invariant.before;
      beyond = λ more above below. omega (arith, long, slice_len-mono c.args.total c.args.start middle more (omega (arith, above)));
    }
