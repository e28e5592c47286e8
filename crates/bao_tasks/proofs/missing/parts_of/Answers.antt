use Rattle.std.proofs.Common.{◌≡◌, ◌∙◌, ℕ, ◌+◌, ◌-◌, ◌≤◌, [], ◌∷◌, ◌++◌, map, Option, IfSome, ap, subst, sym, arith}
use Rattle.std.proofs.lemmas.List.{map-append}
use Rattle.bao_tasks.specs.Missing.{AreGaps, IsNextGap, JudgesUnit, Tells, place_of, span_len, span_of}
use Rattle.bao_tasks.specs.declared.missing.Span.{Span}
use Rattle.bao_tasks.proofs.Gaps.{bytes_more, gap_more, gaps_all, parts_all}
use Rattle.bao_tasks.proofs.missing.parts_of.Goals as goal

pub returns-in_default-clause-parts : goal.returns-in_default-clause-parts
returns-in_default-clause-parts g c =
    let wanted = c.args.wanted.now in
    let sources = c.args.sources.now in
    let units : ℕ = c.units_of-units.result in
    let so_far = c.gaps.invariant.gaps in
    let all = gaps_all (JudgesUnit g.S.Source.contents g.S.Source.faultless wanted sources) units c.gaps.from so_far.0 so_far.2 (c.in_ok-gap.ensures.none c.in_default.is) in
    parts_all (JudgesUnit g.S.Source.contents g.S.Source.faultless wanted sources) units wanted.grain c.args.most c.gaps.parts c.args.total so_far.0 c.gaps.invariant.total c.units_of-units.ensures c.gaps.invariant.looked so_far.1 all

pub returns-clause-parts : goal.returns-clause-parts
returns-clause-parts g c =
    let wanted = c.args.wanted.now in
    let sources = c.args.sources.now in
    let units : ℕ = c.units_of-units.result in
    let so_far = c.gaps.invariant.gaps in
    let none : AreGaps (JudgesUnit g.S.Source.contents g.S.Source.faultless wanted sources) units c.gaps.from [] =
    (λ u low high. absurd (omega (arith, low, high, c.gaps-test.false))) in
    let all = gaps_all (JudgesUnit g.S.Source.contents g.S.Source.faultless wanted sources) units c.gaps.from so_far.0 so_far.2 none in
    parts_all (JudgesUnit g.S.Source.contents g.S.Source.faultless wanted sources) units wanted.grain c.args.most c.gaps.parts c.args.total so_far.0 c.gaps.invariant.total c.units_of-units.ensures c.gaps.invariant.looked so_far.1 all

pub gaps-preserved : goal.gaps-preserved
gaps-preserved g c =
    let wanted = c.args.wanted.now in
    let sources = c.args.sources.now in
    let units : ℕ = c.units_of-units.result in
    let total : ℕ = c.args.total in
    let from : ℕ = c.gaps.from in
    let gap = c.in-Some.gap in
    let before = c.gaps.invariant in
    let so_far = before.gaps in
    let spans = (λ (it : ℕ × ℕ). span_of wanted.grain total it) in
    let next : IsNextGap (JudgesUnit g.S.Source.contents g.S.Source.faultless wanted sources) units from gap.0 gap.1 =
    subst (λ (o : Option (ℕ × ℕ)). IfSome o (λ it. IsNextGap (JudgesUnit g.S.Source.contents g.S.Source.faultless wanted sources) units from it.0 it.1)) c.in-Some.is c.in_ok-gap.ensures.some in
    let part : c.bytes_of.result ≡ span_of wanted.grain total gap = c.bytes_of.ensures in
    let size : span_len c.bytes_of.result ≡ place_of wanted.grain total gap.1 - place_of wanted.grain total gap.0 = ap span_len part in
    let fits : c.gaps.parts.bytes + (place_of wanted.grain total gap.1 - place_of wanted.grain total gap.0) ≤ place_of wanted.grain total gap.1 =
    bytes_more wanted.grain total from gap.0 gap.1 c.gaps.parts.bytes before.bytes next.before.after (omega (arith, next.some)) in
    let same : map spans so_far.0 ++ c.bytes_of.result ∷ [] ≡ map spans (so_far.0 ++ gap ∷ []) =
    ap (λ (it : Span). map spans so_far.0 ++ it ∷ []) part ∙ sym (map-append spans so_far.0 (gap ∷ [])) in
    record {
      within = next.gap.within;
      total = c.add.ensures.total ∙ before.total;
      certified = c.add.ensures.certified ∙ before.certified;
      looked = c.add.ensures.looked ∙ before.looked;
      count = omega (arith, c.in_ok-add.ensures.count, before.count, next.before.after, next.some);
      bytes = omega (arith, c.in_ok-add.ensures.bytes, size, fits);
      gaps = (
        so_far.0 ++ gap ∷ [],
        subst (Tells c.args.most c.add.new.self) same (c.in_ok-add.ensures.told (map spans so_far.0) so_far.1),
        gap_more (JudgesUnit g.S.Source.contents g.S.Source.faultless wanted sources) units from so_far.0 gap so_far.2 next,
      );
    }
