use Rattle.bao_windows.proofs.Parts.{if_ok, refused_found, refused_none, took_found, there_at, value_found}
use Rattle.bao_windows.proofs.taking.take_part.Goals as goal

pub returns-in-Some-clause-took : goal.returns-in-Some-clause-took
returns-in-Some-clause-took g c =
    let sources = c.args.sources.now in
    let source = c.index-sources-place.result in
    if_ok c.append_part.result _ _
    (λ took takes. took_found g.S.Source.contents g.S.Source.faultless c.args.wanted.now sources c.args.place source c.args.part.start c.args.span c.in_ok-piece.field-0 c.requires.fitting
    (there_at sources c.args.place source c.requires.place c.index-sources-place.is) c.in_ok-piece.ensures c.in-Some.piece took c.args.part.len _ _ c.in-Some.is takes) c.append_part.ensures

pub returns-in-Some-clause-value : goal.returns-in-Some-clause-value
returns-in-Some-clause-value g c =
    let sources = c.args.sources.now in
    let source = c.index-sources-place.result in
    if_ok c.append_part.result _ _
    (λ took takes. value_found g.S.Source.contents g.S.Source.faultless c.args.wanted.now sources c.args.place source c.args.part.start c.args.span c.in_ok-piece.field-0 c.requires.fitting
    (there_at sources c.args.place source c.requires.place c.index-sources-place.is) c.in_ok-piece.ensures c.in-Some.piece took c.args.part.len _ _ c.group_value-slot.result c.in-Some.is
    c.group_value-slot.ensures takes) c.append_part.ensures

pub returns-in-Some-clause-refused : goal.returns-in-Some-clause-refused
returns-in-Some-clause-refused g c =
    let sources = c.args.sources.now in
    let source = c.index-sources-place.result in
    if_ok c.append_part.result _ _
    (λ took takes. refused_found g.S.Source.contents g.S.Source.faultless c.args.wanted.now sources c.args.place source c.args.part.start c.args.span c.in_ok-piece.field-0 c.requires.fitting
    (there_at sources c.args.place source c.requires.place c.index-sources-place.is) c.in_ok-piece.ensures c.in-Some.piece took c.args.part.len _ _ c.in-Some.is takes) c.append_part.ensures

pub returns-in-None-clause-refused : goal.returns-in-None-clause-refused
returns-in-None-clause-refused g c = λ _.
    let sources = c.args.sources.now in
    let source = c.index-sources-place.result in
    refused_none g.S.Source.contents g.S.Source.faultless c.args.wanted.now sources c.args.place source c.args.part.start c.args.span c.in_ok-piece.field-0 c.requires.fitting
    (there_at sources c.args.place source c.requires.place c.index-sources-place.is) c.in_ok-piece.ensures c.args.part.len c.in-None.is
