use Rattle.std.proofs.Common.{append_assoc, rules}
use Rattle.std.proofs.lemmas.Fmt.{contents_after_writes}
use Rattle.bao_files.proofs.progress_line.shown_line.Goals as goal

pub returns : goal.returns
returns c =
    let read = contents_after_writes _ (λ line. line.bytes) (λ _ _ _ one. one) c.put_files.new.line _ c.write.new.self c.in_ok-write.ensures.writes in
    search (rules, append_assoc)
