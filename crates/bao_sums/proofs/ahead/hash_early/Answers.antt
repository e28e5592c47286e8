use Rattle.std.proofs.Common.{All, arith, slice_index_or, subst, sym}
use Rattle.bao_files.proofs.Results.{with_right}
use Rattle.bao_sums.specs.Early.{IsHashedEarly, IsOpened}
use Rattle.bao_sums.proofs.ahead.hash_early.Goals as goal

pub returns : goal.returns
returns g c =
    let at = g.D.Disk.at c.args.disk.now in
    let mode = c.args.mode.now in
    let opened : All (IsOpened g.D.Input.Source.contents g.D.Input.Read.remaining at) c.as_slice.result.now =
    subst (All (IsOpened g.D.Input.Source.contents g.D.Input.Read.remaining at)) (sym c.as_slice.ensures.value) c.in_ok-batch.ensures in
    with_right c.joined.result _
    (λ all each. each at mode (λ i d below.
    subst (λ xs. All (IsHashedEarly at mode) (slice_index_or xs i d).items) (sym c.as_slice-2.ensures.value)
    (c.in_ok-shares.ensures at opened i d (omega (arith, below, c.as_slice-2.ensures.len)))))
    c.joined.ensures
