use Rattle.std.proofs.Common.{◌≡◌, ◌∙◌, ℕ, ◌+◌, ◌-◌, ◌/◌, ◌%◌, ◌≤◌, List, Some, drop, length, length-take, ap, arith, sym}
use Rattle.std.proofs.lemmas.Option.{slice_get_past}
use Rattle.bao_check.specs.Checked.{piece_places, piece_text}
use Rattle.bao_check.specs.Pieces.{chunk_in}
use Rattle.holders.specs.declared.piece.Piece.{Piece}
use Rattle.holders.specs.Pieces.{chunk_bytes, piece_of}
use Rattle.berylwool.proofs.Bytes.{byte_there, bytes_there}
use Rattle.berylwool.proofs.decoding.bytes_at.Goals as goal

pub returns-then-count-eq0-clause-none : goal.returns-then-count-eq0-clause-none
returns-then-count-eq0-clause-none c = λ _ some.
    let piece : Piece = piece_of 0 c.args.piece.now in
    let bytes : List ℕ = c.in_ok-bytes.bytes.now in
    let here : 0 + c.args.at / 1024 ≡ c.args.at / 1024 = omega arith in
    let has : chunk_bytes piece (c.args.at / 1024) ≡ Some bytes =
    ap (λ (k : ℕ). chunk_in (piece_text c.args.piece.now) (piece_places c.args.piece.now) k) here ∙ sym c.in_ok-bytes.ensures.value in
    let past : length bytes ≤ c.args.at % 1024 = omega (arith, some, c.if-count-eq0.true, c.min.ensures, c.saturating_sub.ensures, c.min-count.ensures) in
    byte_there piece c.args.at bytes has ∙ slice_get_past bytes (c.args.at % 1024) past

pub returns-clause-are : goal.returns-clause-are
returns-clause-are c = λ i below.
    let piece : Piece = piece_of 0 c.args.piece.now in
    let bytes : List ℕ = c.in_ok-bytes.bytes.now in
    let here : 0 + c.args.at / 1024 ≡ c.args.at / 1024 = omega arith in
    let has : chunk_bytes piece (c.args.at / 1024) ≡ Some bytes =
    ap (λ (k : ℕ). chunk_in (piece_text c.args.piece.now) (piece_places c.args.piece.now) k) here ∙ sym c.in_ok-bytes.ensures.value in
    let n : ℕ = c.args.at % 1024 + c.min-count.result - c.args.at % 1024 in
    let fits : c.args.at % 1024 + n ≤ 1024 = omega (arith, c.min.ensures, c.saturating_sub.ensures, c.min-count.ensures) in
    bytes_there piece c.args.at n i bytes has fits (omega (arith, below, length-take n (drop (c.args.at % 1024) bytes)))
