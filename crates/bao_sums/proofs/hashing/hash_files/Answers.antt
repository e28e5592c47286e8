use Rattle.std.proofs.Common.{◌≡◌, ◌<◌, ◌≤◌, ℕ, List, All, arith, length, subst, sym}
use Rattle.std.proofs.lemmas.List.{length-map, take_all}
use Rattle.std.specs.List.{list_all}
use Rattle.bao_sums.specs.Each.{PrintsEach}
use Rattle.bao_sums.proofs.Known.{prints_known}
use Rattle.bao_files.proofs.Readable.{passed_on}
use Rattle.bao_sums.specs.Hashed.{IsReadingAt, hash_line, is_given, paths_of}
use Rattle.bao_sums.specs.Early.{IsHashedEarly}
use Rattle.bao_sums.proofs.Each.{all_more, fault_after, one_more}
use Rattle.bao_sums.proofs.hashing.hash_files.Goals as goal

pub returns-in_err-is_given-clause-fault : goal.returns-in_err-is_given-clause-fault
returns-in_err-is_given-clause-fault g c =
    passed_on c.from_residual.result c.in_err-is_given.field-0.0 _ c.from_residual.ensures.1
    (fault_after (IsReadingAt (g.D.Disk.faultless c.args.disk.now) (g.D.Disk.at c.args.disk.now)) (hash_line c.args.hashing.now.mode.now c.args.hashing.now.names)
    (paths_of c.args.hashing.now.files.now) c.items.index c.path_at-path.result.now
    (g.O.Write.contents c.args.out.now) (g.O.Write.contents c.items.out) (g.O.Write.contents c.hash_one.new.out) _ c.in_err-is_given.field-0.0
    (subst (λ (n : ℕ). c.items.index < n) (sym (length-map c.args.hashing.now.files.now (λ file. file.now))) (omega (arith, c.items-test.true))) c.path_at-path.ensures
    c.items.invariant.0 c.in_err-is_given.ensures.fault)

pub items-preserved : goal.items-preserved
items-preserved g c = (
  one_more (IsReadingAt (g.D.Disk.faultless c.args.disk.now) (g.D.Disk.at c.args.disk.now)) (hash_line c.args.hashing.now.mode.now c.args.hashing.now.names)
      (paths_of c.args.hashing.now.files.now) c.items.index c.path_at-path.result.now
      (g.O.Write.contents c.args.out.now) (g.O.Write.contents c.items.out) (g.O.Write.contents c.hash_one.new.out) _ _ _
      (subst (λ (n : ℕ). c.items.index < n) (sym (length-map c.args.hashing.now.files.now (λ file. file.now))) (omega (arith, c.items-test.true))) c.path_at-path.ensures
      (λ ys y before last. all_more is_given ys y c.items.whole c.in_ok-is_given.is_given c.both-whole.result c.both-whole.ensures before last)
      c.items.invariant.0 c.in_ok-is_given.ensures.one,
  subst (λ (all : _). All (IsHashedEarly (g.D.Disk.at c.args.disk.now) c.args.hashing.now.mode.now) all.items) (sym c.in_ok-is_given.ensures.same) c.go_on.ensures,
)

pub returns-clause-known : goal.returns-clause-known
returns-clause-known g c sure known =
    let paths = paths_of c.args.hashing.now.files.now in
    let Is = IsReadingAt (g.D.Disk.faultless c.args.disk.now) (g.D.Disk.at c.args.disk.now) in
    let line = hash_line c.args.hashing.now.mode.now c.args.hashing.now.names in
    let long : length paths ≤ c.items.index = subst (λ (n : ℕ). n ≤ c.items.index) (sym (length-map c.args.hashing.now.files.now (λ file. file.now))) (omega (arith, c.items-test.false)) in
    prints_known (g.D.Disk.faultless c.args.disk.now) (g.D.Disk.at c.args.disk.now) line paths (g.O.Write.contents c.args.out.now) (g.O.Write.contents c.items.out) c.items.whole
    (subst (λ (ps : List (List ℕ)). PrintsEach Is line ps (g.O.Write.contents c.args.out.now) (g.O.Write.contents c.items.out) (λ readings. c.items.whole ≡ list_all is_given readings))
    (take_all c.items.index paths long) c.items.invariant.0) sure known
