use Rattle.std.proofs.Common.{◌≡◌, ℕ, List, [], ◌++◌, refl, subst, sym, ◌<◌}
use Rattle.std.proofs.KnownBytes.{Consumes-all, Consumes-nil, Consumes-trans}
use Rattle.bao_files.proofs.Results.{with_some}
use Rattle.b3tree.proofs.BlockWords.{AreBytes-append, AreBytes-nil}
use Rattle.b3tree.specs.Taken.{Holds}
use Rattle.bao_files.proofs.reading.hash_reader.Goals as goal

pub reads-init : goal.reads-init
reads-init g c = (c.requires, ([], Consumes-nil (g.R.Read.remaining c.args.reader.now), AreBytes-nil, c.new-hasher.ensures.holds))

pub reads-preserved : goal.reads-preserved
reads-preserved g c =
    let taken : List ℕ = c.reads.invariant.1.0 in
    let piece : List ℕ = c.in_ok-hash_some.ensures.taken.0 in
    let given = c.in_ok-hash_some.ensures.taken in
    let before = c.reads.invariant.1 in (
      subst (λ n. 0 < n) (sym c.hash_some.ensures.room) c.reads.invariant.0,
      (
        taken ++ piece,
        Consumes-trans (g.R.Read.remaining c.args.reader.now) (g.R.Read.remaining c.reads.reader) (g.R.Read.remaining c.hash_some.new.reader) taken piece before.1 given.1,
        AreBytes-append taken piece before.2 given.2,
        given.3 c.args.mode.now taken before.3,
      ),
    )

pub returns-then-branch-eq0-clause-all : goal.returns-then-branch-eq0-clause-all
returns-then-branch-eq0-clause-all g c =
    let taken : List ℕ = c.reads.invariant.1.0 in
    let piece : List ℕ = c.in_ok-hash_some.ensures.taken.0 in
    let given = c.in_ok-hash_some.ensures.taken in
    let before = c.reads.invariant.1 in
    let old = g.R.Read.remaining c.args.reader.now in
    let new = g.R.Read.remaining c.hash_some.new.reader in
    let all = Consumes-trans old (g.R.Read.remaining c.reads.reader) new taken piece before.1 given.1 in
    let end = c.in_ok-hash_some.ensures.end c.if-branch-eq0.true in
    with_some
    old
    _
    (λ left (same : taken ++ piece ≡ [] ++ left). subst (Holds c.hash_some.new.hasher c.args.mode.now) same (given.3 c.args.mode.now taken before.3))
    (Consumes-all old new (taken ++ piece) [] (taken ++ piece) all end refl)

pub returns-then-branch-eq0-clause-some : goal.returns-then-branch-eq0-clause-some
returns-then-branch-eq0-clause-some g c =
    let taken : List ℕ = c.reads.invariant.1.0 in
    let piece : List ℕ = c.in_ok-hash_some.ensures.taken.0 in (
      taken ++ piece,
      AreBytes-append taken piece c.reads.invariant.1.2 c.in_ok-hash_some.ensures.taken.2,
      c.in_ok-hash_some.ensures.taken.3 c.args.mode.now taken c.reads.invariant.1.3,
    )
