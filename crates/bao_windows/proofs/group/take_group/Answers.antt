use Rattle.std.proofs.Common.{rules, ◌≡◌, ◌∙◌, Bool, false, sym}
use Rattle.holders.specs.declared.grain.Grain.TheVariants.{Group, Chunk}
use Rattle.bao_windows.proofs.Parts.{if_ok}
use Rattle.bao_windows.specs.Available.{LacksGroup, LacksOne}
use Rattle.bao_windows.proofs.group.take_group.Goals as goal

pub returns-in-Chunk-clause-lacks : goal.returns-in-Chunk-clause-lacks
returns-in-Chunk-clause-lacks g c =
    let none : c.in_ok-take_any.field-0 ≡ false = search rules in
    if_ok c.take_chunks.result (λ (took : Bool). took ≡ false → LacksOne g.S.Source.contents g.S.Source.faultless c.args.wanted.now c.args.sources.now c.args.part.start c.args.part.len)
    (λ (took : Bool). took ≡ false → LacksGroup g.S.Source.contents g.S.Source.faultless c.args.wanted.now c.args.sources.now c.args.part.start c.args.part.len)
    (λ took lacks is_false. record { group = c.in_ok-take_any.ensures.refused none; chunk = λ _. lacks is_false }) c.take_chunks.ensures.lacks

pub returns-in-Group-clause-lacks : goal.returns-in-Group-clause-lacks
returns-in-Group-clause-lacks g c = λ _.
    let none : c.in_ok-take_any.field-0 ≡ false = search rules in
    record { group = c.in_ok-take_any.ensures.refused none; chunk = λ by. let no : Group ≡ Chunk = sym c.in-Group.is ∙ by in cc }
