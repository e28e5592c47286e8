use Rattle.std.proofs.Common.{◌≡◌, List, ℕ, length, true}
use Rattle.bao_check.specs.Checked.{piece_text}
use Rattle.bao_check.specs.declared.fault.CheckFault.TheVariants as check
use Rattle.bao_decode.proofs.Ranges.{accepted_of, trails}
use Rattle.bao_files.proofs.Results.{with_fault}
use Rattle.bao_decode.proofs.decode.read_text.Goals as goal

pub returns-clause-fault : goal.returns-clause-fault
returns-clause-fault g c =
    let piece = c.in_ok-piece.piece in
    let text : List ℕ = piece_text piece in
    let accepted = accepted_of piece c.args.mode.now c.args.root.now.0 c.args.start c.args.len c.in_ok-piece.ensures.piece in
    let before = g.R.Read.remaining c.args.reader.now in
    let after = g.R.Read.remaining c.check_stream.new.reader in
    with_fault
    c.ended.result
    (λ fault. (fault ≡ check.Trailing (length text)) × (c.in_ok-has_more.field-0 ≡ true))
    (λ fault is. trails before after c.args.mode.now c.args.root.now.0 c.args.start c.args.len text fault accepted c.in_ok-piece.ensures.reader (c.in_ok-has_more.ensures.more is.1) is.0)
    c.ended.ensures.err
