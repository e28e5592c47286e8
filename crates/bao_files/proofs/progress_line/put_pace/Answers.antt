use Rattle.std.proofs.lemmas.Bool.{cond-true, le-leb}
use Rattle.std.proofs.lemmas.Fmt.{contents_after_writes}
use Rattle.std.proofs.lemmas.Result.{on_ok_weaker}
use Rattle.bao_files.proofs.progress_line.put_pace.Goals as goal

pub returns : goal.returns
returns c =
    rw (cond-true _ _ _ (le-leb _ _ c.if-done-millis.false))
    (on_ok_weaker c.write.result
    (contents_after_writes _ (λ line. line.bytes) (λ _ _ _ one. one) c.args.line.now _ c.write.new.self)
    c.write.ensures.writes)
