use Rattle.std.proofs.Common.{IfSome, subst}
use Rattle.bao_decode.specs.Ranges.{part_bytes}
use Rattle.bao_decode.specs.TextPass.{TextStops, task_of_part}
use Rattle.bao_decode.specs.declared.copy_pass.PassFault.{PassFault}
use Rattle.bao_decode.proofs.Decodings.{draft_flushed, draft_names, draft_refused, draft_unread, draft_unwritten, flushed_names, text_flushed_some}
use Rattle.bao_decode.proofs.decode.write_draft.Goals as goal

pub returns-in-Ok-text_pass-clause-some : goal.returns-in-Ok-text_pass-clause-some
returns-in-Ok-text_pass-clause-some g c =
    let done = c.in-Ok-text_pass.ensures.ok in
    text_flushed_some (part_bytes c.args.part.now) c.args.mode.now c.args.root.now.0 c.args.part.now (g.S.Source.contents c.args.source.now) (g.W.Write.contents c.args.out.now) (g.W.Write.contents c.text_pass.new.out)
    (g.W.Write.contents c.flushed.new.out) done.0 c.in-Ok-text_pass.count c.flushed.result done.1 done.2 done.3 c.flushed.ensures.keeps c.flushed.ensures.ok

pub returns-in-Ok-text_pass-clause-known : goal.returns-in-Ok-text_pass-clause-known
returns-in-Ok-text_pass-clause-known g c =
    let done = c.in-Ok-text_pass.ensures.ok in
    draft_flushed c.args.mode.now c.args.root.now.0 c.args.part.now (g.S.Source.contents c.args.source.now) (g.S.Source.faultless c.args.source.now) c.args.file c.args.path
    (g.W.Write.contents c.args.out.now) (g.W.Write.contents c.text_pass.new.out) (g.W.Write.contents c.flushed.new.out) done.0 c.in-Ok-text_pass.count c.flushed.result done.1 done.2 done.3
    c.flushed.ensures.keeps c.flushed.ensures.ok c.flushed.ensures.err

pub returns-in-Ok-text_pass-clause-paths : goal.returns-in-Ok-text_pass-clause-paths
returns-in-Ok-text_pass-clause-paths g c = flushed_names c.args.file c.args.path c.flushed.result c.flushed.ensures.err

pub returns-in-Err-Check-clause-known : goal.returns-in-Err-Check-clause-known
returns-in-Err-Check-clause-known g c =
    subst (λ (f : PassFault). IfSome (g.S.Source.contents c.args.source.now) (λ s. TextStops (task_of_part c.args.mode.now c.args.root.now.0 c.args.part.now) (g.S.Source.faultless c.args.source.now)
    c.args.part.now s (g.W.Write.contents c.args.out.now) (g.W.Write.contents c.text_pass.new.out) f)) c.in-Err-Check.field-0-is c.in-Err-Check.ensures.err

pub returns-in-Err-Input-clause-known : goal.returns-in-Err-Input-clause-known
returns-in-Err-Input-clause-known g c =
    draft_unread c.args.mode.now c.args.root.now.0 c.args.part.now (g.S.Source.contents c.args.source.now) (g.S.Source.faultless c.args.source.now) c.args.file c.args.path
    (g.W.Write.contents c.args.out.now) (g.W.Write.contents c.text_pass.new.out)
    (subst (λ (f : PassFault). IfSome (g.S.Source.contents c.args.source.now) (λ s. TextStops (task_of_part c.args.mode.now c.args.root.now.0 c.args.part.now) (g.S.Source.faultless c.args.source.now)
    c.args.part.now s (g.W.Write.contents c.args.out.now) (g.W.Write.contents c.text_pass.new.out) f)) c.in-Err-Input.field-0-is c.in-Err-Input.ensures.err)

pub returns-in-Ok-verify_pass-clause-known : goal.returns-in-Ok-verify_pass-clause-known
returns-in-Ok-verify_pass-clause-known g c =
    let done = c.in-Ok-verify_pass.ensures.ok in
    draft_unwritten c.args.mode.now c.args.root.now.0 c.args.part.now (g.S.Source.contents c.args.source.now) (g.S.Source.faultless c.args.source.now) c.args.file c.args.path
    (g.W.Write.contents c.args.out.now) (g.W.Write.contents c.text_pass.new.out) done.0 done.1
    (subst (λ (f : PassFault). IfSome (g.S.Source.contents c.args.source.now) (λ s. TextStops (task_of_part c.args.mode.now c.args.root.now.0 c.args.part.now) (g.S.Source.faultless c.args.source.now)
    c.args.part.now s (g.W.Write.contents c.args.out.now) (g.W.Write.contents c.text_pass.new.out) f)) c.in-Err-Output.field-0-is c.in-Err-Output.ensures.err)

pub returns-clause-known : goal.returns-clause-known
returns-clause-known g c =
    draft_refused c.args.mode.now c.args.root.now.0 c.args.part.now (g.S.Source.contents c.args.source.now) (g.S.Source.faultless c.args.source.now) c.args.file c.args.path
    (g.W.Write.contents c.args.out.now) (g.W.Write.contents c.text_pass.new.out) c.in-Err.fault c.first_fault.result c.first_fault.ensures
    (subst (λ (f : PassFault). IfSome (g.S.Source.contents c.args.source.now) (λ s. TextStops (task_of_part c.args.mode.now c.args.root.now.0 c.args.part.now) (g.S.Source.faultless c.args.source.now)
    c.args.part.now s (g.W.Write.contents c.args.out.now) (g.W.Write.contents c.text_pass.new.out) f)) c.in-Err-Output.field-0-is c.in-Err-Output.ensures.err)
    c.in-Err.ensures.err

pub returns-clause-paths : goal.returns-clause-paths
returns-clause-paths g c = draft_names c.args.file c.args.path c.in-Err.fault c.first_fault.result c.first_fault.ensures
