use Rattle.bao_files.proofs.Hashes.{prints_hash, prints_known}
use Rattle.bao_files.proofs.reading.print_input.Goals as goal

-- src/reading.rt:137:13
pub returns-in-Some-clause-all : goal.returns-in-Some-clause-all
returns-in-Some-clause-all g c =
    prints_known c.args.mode.now (g.I.Source.contents c.args.input.now) (g.I.Read.remaining c.args.input.now) c.in-Some.hash.0 c.args.at c.args.len
    (g.W.Write.contents c.args.out.now) (g.W.Write.contents c.print_digits.new.out) c.print_digits.result
    c.if-at-eq0.true c.if-len-eq-HASH_LEN.true c.in-Some.ensures.all c.print_digits.ensures.prints

-- src/reading.rt:137:13
pub returns-in-Some-clause-some : goal.returns-in-Some-clause-some
returns-in-Some-clause-some g c =
    let some = c.in-Some.ensures.some in (
      some.0,
      some.1,
      prints_hash c.args.mode.now some.0 c.in-Some.hash.0 c.args.at c.args.len
          (g.W.Write.contents c.args.out.now) (g.W.Write.contents c.print_digits.new.out) c.print_digits.result
          c.if-at-eq0.true c.if-len-eq-HASH_LEN.true some.2 c.print_digits.ensures.prints,
    )
