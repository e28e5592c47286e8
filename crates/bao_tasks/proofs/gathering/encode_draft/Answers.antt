use Rattle.std.proofs.Common.{Err, true, subst, sym}
use Rattle.std.proofs.lemmas.Result.{err_from_is_err_and}
use Rattle.bao_files.specs.Disks.{IsKnown}
use Rattle.holders.specs.Lists.{IsFromSource}
use Rattle.bao_tasks.specs.declared.gathered_fault.GatheredFault.{GatheredFault}
use Rattle.bao_tasks.specs.FromFiles.{fixed_of}
use Rattle.bao_tasks.specs.Givens.{shown_contents, shown_faultless}
use Rattle.bao_tasks.specs.TakenFiles.{HasSound, IsGatheredFrom}
use Rattle.std.specs.Bool.{⊤}
use Rattle.bao_tasks.proofs.Rewritten.{encoded_of, not_written, rewritten}
use Rattle.bao_tasks.proofs.gathering.encode_draft.Goals as goal

pub returns-in_err-count-clause-gathered : goal.returns-in_err-count-clause-gathered
returns-in_err-count-clause-gathered g c =
    let how = c.args.how.now in
    let fixed = fixed_of how in
    let contents = shown_contents {P = g.row.P.Denot} g.S.Source.contents in
    let faultless = shown_faultless {P = g.row.P.Denot} g.S.Source.faultless in
    let items = c.args.taken.now.givens.items in
    let handed = IsFromSource how.wanted.form contents faultless items in
    let known : Type 0 = IsKnown (g.D.Disk.at c.args.disk.now c.args.path.now) in
    let out = g.D.Draft.Write.contents c.args.out.now in
    let exit = err_from_is_err_and c.from_residual.result c.from_residual.ensures.1 in
    rw exit.1 (subst (λ (f : GatheredFault). IsGatheredFrom handed how.wanted.form fixed how (HasSound contents faultless items) known true out out (Err f)) (sym exit.2)
    (not_written handed how.wanted.form fixed how (HasSound contents faultless items) known ⊤ true (g.D.Draft.Write.contents c.in-Ok.draft) (g.D.Draft.Write.contents c.gather_into.new.out) out out
    c.in_err-count.field-0.0 (λ _. tt) c.in_err-count.ensures.gathered))

pub returns-in-Ok-encode_input-clause-gathered : goal.returns-in-Ok-encode_input-clause-gathered
returns-in-Ok-encode_input-clause-gathered g c =
    let how = c.args.how.now in
    let contents = shown_contents {P = g.row.P.Denot} g.S.Source.contents in
    let faultless = shown_faultless {P = g.row.P.Denot} g.S.Source.faultless in
    let items = c.args.taken.now.givens.items in
    let draft = g.D.Draft.Write.contents c.gather_into.new.out in
    let old = g.D.Draft.Write.contents c.args.out.now in
    let new = g.D.Draft.Write.contents c.encode_input.new.out in
    rewritten (IsFromSource how.wanted.form contents faultless items) how.wanted.form (fixed_of how) how (HasSound contents faultless items)
    (IsKnown (g.D.Disk.at c.args.disk.now c.args.path.now)) ⊤ true (g.D.Draft.Write.contents c.in-Ok.draft) draft old new c.in_ok-count.count (λ _. tt) c.in-Ok.ensures.known c.in_ok-count.ensures.gathered
    (λ known. encoded_of draft (g.D.Input.Source.contents c.in_ok-blob.blob) (g.D.Input.Read.remaining c.in_ok-blob.blob) how.wanted.mode c.args.path c.args.path old new c.in-Ok-encode_input.hash
    c.in_ok-blob.ensures.opened c.in-Ok-encode_input.ensures.all)
