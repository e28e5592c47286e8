use Rattle.std.proofs.Common.{rules, ◌≡◌, ℕ, ◌+◌, ◌-◌, ◌*◌, ◌<◌, ◌≤◌, min, length, refl, ap, ◌∙◌, arith}
use Rattle.std.proofs.lemmas.Result.{err_from_is_err_and}
use Rattle.bao_text.specs.Cut.{claimed}
use Rattle.bao_check.specs.declared.outline.Outline.{Outline}
use Rattle.bao_check.specs.Bare.{AreGoodBare}
use Rattle.bao_check.specs.Beside.{bare_len}
use Rattle.bao_check.specs.Outline.{outline_mode, outline_root, outline_text}
use Rattle.bao_check.specs.Walk.{asked_root}
use Rattle.bao_check.proofs.BareChecked.{bare_long, walked_fault, walked_good}
use Rattle.bao_check.proofs.Outlines.{outboard-fits}
use Rattle.bao_check.proofs.checks.check_chunks.Goals as goal

-- where the chunks have to end
at_is : (first count total claim len from least : ℕ) → claim ≡ total → claim < 18446744073709551616 → 1 ≤ count → len ≡ min (1024 * count) 18446744073709551615
    → from ≡ min (1024 * first + len) 18446744073709551615 → least ≡ min from claim → least - 1024 * first ≡ bare_len total (1024 * first) (1024 * count)
at_is first count total claim len from least is small some e f g = omega arith

both_ways : {a b m : ℕ} → m ≤ a → a ≤ b → b ≡ m → a ≡ m
both_ways low high same = omega arith

pub check_part-requires-clause-fits : goal.check_part-requires-clause-fits
check_part-requires-clause-fits c = search (rules, arith, outboard-fits)

pub returns-in_err-check_part : goal.returns-in_err-check_part
returns-in_err-check_part c =
    let p = err_from_is_err_and c.from_residual.result c.from_residual.ensures.1 in
    let outline : Outline = c.args.outline.now in
    let asked_is = c.of_root-asked.ensures ∙ ap asked_root c.root.ensures in
    rw (p.1, p.2)
    (walked_fault _ c.of_root-asked.result c.claimed-total.result c.args.count (outline_mode outline) (outline_root outline) c.mode.ensures asked_is c.claimed-total.ensures refl c.requires.1
    c.in_err-check_part.field-0.0 c.in_err-check_part.ensures.err)

pub returns-then-at-chunks : goal.returns-then-at-chunks
returns-then-at-chunks c =
    let outline : Outline = c.args.outline.now in
    let asked_is = c.of_root-asked.ensures ∙ ap asked_root c.root.ensures in
    let total : c.claimed-total.result ≡ claimed (outline_text outline) = c.claimed-total.ensures in
    let good : AreGoodBare (outline_mode outline) (outline_root outline) (outline_text outline) c.args.first c.args.chunks.now (c.args.first + c.args.count) =
    walked_good _ c.of_root-asked.result c.claimed-total.result c.args.count (outline_mode outline) (outline_root outline) c.mode.ensures asked_is c.claimed-total.ensures refl c.requires.1
    c.in_ok-check_part.ensures.ok in (
      good,
      at_is c.args.first c.args.count (claimed (outline_text outline)) c.claimed-total.result c.saturating_mul.result c.saturating_add.result c.min.result total c.claimed-total.type_inv c.requires.0
          c.saturating_mul.ensures c.saturating_add.ensures c.min.ensures,
      c.if-at-chunks.true,
    )

pub returns : goal.returns
returns c =
    let outline : Outline = c.args.outline.now in
    let asked_is = c.of_root-asked.ensures ∙ ap asked_root c.root.ensures in
    let total : c.claimed-total.result ≡ claimed (outline_text outline) = c.claimed-total.ensures in
    let good : AreGoodBare (outline_mode outline) (outline_root outline) (outline_text outline) c.args.first c.args.chunks.now (c.args.first + c.args.count) =
    walked_good _ c.of_root-asked.result c.claimed-total.result c.args.count (outline_mode outline) (outline_root outline) c.mode.ensures asked_is c.claimed-total.ensures refl c.requires.1
    c.in_ok-check_part.ensures.ok in
    let long : bare_len (claimed (outline_text outline)) (1024 * c.args.first) (1024 * c.args.count) ≤ length c.args.chunks.now =
    bare_long (outline_mode outline) (outline_root outline) (outline_text outline) c.args.first c.args.count c.args.chunks.now c.requires.0 c.requires.1 good in
    let end : c.min.result - 1024 * c.args.first ≡ bare_len (claimed (outline_text outline)) (1024 * c.args.first) (1024 * c.args.count) =
    at_is c.args.first c.args.count (claimed (outline_text outline)) c.claimed-total.result c.saturating_mul.result c.saturating_add.result c.min.result total c.claimed-total.type_inv c.requires.0
    c.saturating_mul.ensures c.saturating_add.ensures c.min.ensures in
    record { good = good; ends = both_ways long c.if-at-chunks.false end }
