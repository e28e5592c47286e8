use Rattle.std.proofs.Common.{◌≡◌, false, true, refl}
use Rattle.bao_windows.proofs.Parts.{end_each, end_found, end_lacks, end_none, end_of, there_at}
use Rattle.bao_windows.proofs.length.length_from.Goals as goal

pub returns-in-Some-tail-clause-each : goal.returns-in-Some-tail-clause-each
returns-in-Some-tail-clause-each g c =
    end_each g.S.Source.contents g.S.Source.faultless c.args.wanted.now c.args.sources.now c.args.place c.index-sources-place.result c.args.start c.in_ok-piece.field-0 c.requires.fitting
    (there_at c.args.sources.now c.args.place c.index-sources-place.result c.requires.place c.index-sources-place.is) c.requires.start c.in_ok-piece.ensures c.in-Some.piece c.in-Some-tail.tail c.length.result c.in-Some.is c.in-Some-tail.ensures.piece c.length.ensures.binds

pub returns-in-Some-tail-clause-of : goal.returns-in-Some-tail-clause-of
returns-in-Some-tail-clause-of g c =
    end_of g.S.Source.contents g.S.Source.faultless c.args.wanted.now c.args.sources.now c.args.place c.index-sources-place.result c.args.start c.in_ok-piece.field-0 c.requires.fitting
    (there_at c.args.sources.now c.args.place c.index-sources-place.result c.requires.place c.index-sources-place.is) c.requires.start c.in_ok-piece.ensures c.in-Some.piece c.in-Some-tail.tail c.length.result c.in-Some.is c.in-Some-tail.ensures.piece c.length.ensures.value

pub returns-in-Some-tail-clause-certified : goal.returns-in-Some-tail-clause-certified
returns-in-Some-tail-clause-certified g c =
    end_found g.S.Source.contents g.S.Source.faultless c.args.wanted.now c.args.sources.now c.args.place c.index-sources-place.result c.args.start c.in_ok-piece.field-0 c.requires.fitting
    (there_at c.args.sources.now c.args.place c.index-sources-place.result c.requires.place c.index-sources-place.is) c.requires.start c.in_ok-piece.ensures c.in-Some.piece c.in-Some-tail.tail c.length.result c.in-Some.is (c.in-Some-tail.ensures.there.0 refl) c.in-Some-tail.ensures.piece c.length.ensures.value

pub returns-in-None-tail-clause-refused : goal.returns-in-None-tail-clause-refused
returns-in-None-tail-clause-refused g c = λ _.
    end_lacks g.S.Source.contents g.S.Source.faultless c.args.wanted.now c.args.sources.now c.args.place c.index-sources-place.result c.args.start c.in_ok-piece.field-0 c.requires.fitting
    (there_at c.args.sources.now c.args.place c.index-sources-place.result c.requires.place c.index-sources-place.is) c.requires.start c.in_ok-piece.ensures c.in-Some.piece c.in-Some.is (λ holds. let wrong : false ≡ true = c.in-None-tail.ensures.there.1 holds in cc)

pub returns-in-None-clause-refused : goal.returns-in-None-clause-refused
returns-in-None-clause-refused g c = λ _.
    end_none g.S.Source.contents g.S.Source.faultless c.args.wanted.now c.args.sources.now c.args.place c.index-sources-place.result c.args.start c.in_ok-piece.field-0 c.requires.fitting
    (there_at c.args.sources.now c.args.place c.index-sources-place.result c.requires.place c.index-sources-place.is) c.requires.start c.in_ok-piece.ensures c.in-None.is
