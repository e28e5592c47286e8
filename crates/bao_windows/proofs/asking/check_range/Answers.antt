use Rattle.std.proofs.Common.{◌≡◌, ◌↔◌, ◌∙◌, ◌-◌, ◌*◌, ◌/◌, ℕ, min, IfOk, IsOk, ap, arith, subst, sym}
use Rattle.bao_check.specs.Accepted.{IsAccepted}
use Rattle.bao_check.specs.Bare.{bare_part}
use Rattle.bao_check.specs.Outline.{outline_claimed, outline_mode, outline_root, outline_text}
use Rattle.bao_check.specs.Beside.{beside_text}
use Rattle.bao_text.specs.Choice.{chunk_count}
use Rattle.holders.proofs.Slices.{piece_is}
use Rattle.holders.specs.Pieces.{nodes_of, piece_of}
use Rattle.holders.specs.declared.form.Form.{Form}
use Rattle.holders.specs.declared.form.Form.TheVariants.{Bare}
use Rattle.holders.specs.declared.piece.Piece.{Piece}
use Rattle.bao_windows.proofs.Making.{made_piece}
use Rattle.bao_windows.proofs.Parts.{if_ok}
use Rattle.bao_windows.specs.Asked.{made_in, mode_in, root_in}
use Rattle.bao_windows.specs.Available.{IsWithin}
use Rattle.bao_windows.proofs.asking.check_range.Goals as goal

-- the slice that is checked beside an outline
made : (start len claimed count : ℕ) (outline : _) (text : _) → IsWithin (Bare outline) start → claimed ≡ outline_claimed outline.now → count ≡ min (chunk_count len) (chunk_count claimed - start / 1024)
    → made_piece outline.now (1024 * (start / 1024)) (bare_part count) text ≡ made_in (Bare outline) start len text
made start len claimed count outline text within claims is =
    let place : 1024 * (start / 1024) ≡ start = omega (arith, within.0) in
    let same : count ≡ min (chunk_count len) (chunk_count (outline_claimed outline.now) - start / 1024) = is ∙ ap (λ (n : ℕ). min (chunk_count len) (chunk_count n - start / 1024)) claims in
    λ i. made_piece outline.now (place i) (bare_part (same i)) text

pub returns-in-Bare-clause-accepted : goal.returns-in-Bare-clause-accepted
returns-in-Bare-clause-accepted c =
    let start : ℕ = c.args.range.start in
    let wanted = c.args.wanted.now in
    let outline = c.in-Bare.outline in
    let it = made start c.args.range.len c.claimed.result c.chunks_in-count.result outline c.args.text.now (subst (λ (form : Form). IsWithin form start) c.in-Bare.is c.requires) c.claimed.ensures c.chunks_in-count.ensures in
    subst (λ (form : Form). IsOk c.check_bare.result ↔ IsAccepted (mode_in form wanted) (root_in form wanted) (made_in form start c.args.range.len c.args.text.now).text (nodes_of (made_in form start c.args.range.len c.args.text.now))) (sym c.in-Bare.is)
    (subst (λ (p : Piece). IsOk c.check_bare.result ↔ IsAccepted (outline_mode outline.now) (outline_root outline.now) p.text (nodes_of p)) it c.check_bare.ensures.slice)

pub returns-in-Bare-clause-piece : goal.returns-in-Bare-clause-piece
returns-in-Bare-clause-piece c =
    let start : ℕ = c.args.range.start in
    let outline = c.in-Bare.outline in
    let it = made start c.args.range.len c.claimed.result c.chunks_in-count.result outline c.args.text.now (subst (λ (form : Form). IsWithin form start) c.in-Bare.is c.requires) c.claimed.ensures c.chunks_in-count.ensures in
    let text = beside_text (outline_text outline.now) (1024 * (start / 1024)) (bare_part c.chunks_in-count.result) c.args.text.now in
    subst (λ (form : Form). IfOk c.check_bare.result (λ piece. piece_of 0 piece ≡ made_in form start c.args.range.len c.args.text.now)) (sym c.in-Bare.is)
    (if_ok c.check_bare.result _ _ (λ piece is. piece_is 0 piece (outline_mode outline.now) (outline_root outline.now) (1024 * (start / 1024)) (bare_part c.chunks_in-count.result) text is ∙ it) c.check_bare.ensures.piece)
