use Rattle.std.proofs.Common.{◌≡◌, ◌∙◌, List, [], ℕ, Some, refl, subst, sym}
use Rattle.std.proofs.lemmas.Option.{same_Some}
use Rattle.std.proofs.lemmas.Result.{err_from_is_err_and}
use Rattle.std.specs.Bool.{⊤}
use Rattle.std.specs.Io.KnownBytes.{Appends}
use Rattle.holders.specs.Lists.{IsFromSource}
use Rattle.bao_tasks.specs.Gathered.{IsExcusedWrite, gathered_text}
use Rattle.bao_tasks.specs.FromFiles.{fixed_of}
use Rattle.bao_tasks.specs.Givens.{shown_contents, shown_faultless}
use Rattle.bao_tasks.specs.TakenFiles.{HasSound}
use Rattle.bao_tasks.proofs.Rewritten.{excused, rewritten}
use Rattle.bao_tasks.proofs.gathering.write_held.Goals as goal

pub returns-in_err-write_whole-clause-gathered : goal.returns-in_err-write_whole-clause-gathered
returns-in_err-write_whole-clause-gathered g c =
    let how = c.args.how.now in
    let contents = shown_contents {P = g.row.P.Denot} g.S.Source.contents in
    let faultless = shown_faultless {P = g.row.P.Denot} g.S.Source.faultless in
    let items = c.args.taken.now.givens.items in
    let old = g.W.Write.contents c.args.out.now in
    let new = g.W.Write.contents c.write_whole.new.out in
    let exit = err_from_is_err_and c.from_residual.result c.from_residual.ensures.1 in
    rw exit.1 (excused (IsFromSource how.wanted.form contents faultless items) how.wanted.form (fixed_of how) how (HasSound contents faultless items)
    ⊤ how.encode old new exit.0 (subst IsExcusedWrite (sym exit.2) tt))

pub returns-clause-gathered : goal.returns-clause-gathered
returns-clause-gathered g c =
    let how = c.args.how.now in
    let contents = shown_contents {P = g.row.P.Denot} g.S.Source.contents in
    let faultless = shown_faultless {P = g.row.P.Denot} g.S.Source.faultless in
    let items = c.args.taken.now.givens.items in
    let old = g.W.Write.contents c.args.out.now in
    let new = g.W.Write.contents c.write_whole.new.out in
    let held : List ℕ = c.gather_into.new.out.items in
    rewritten (IsFromSource how.wanted.form contents faultless items) how.wanted.form (fixed_of how) how (HasSound contents faultless items)
    ⊤ ⊤ how.encode (Some c.new-blob.result.items) (Some held) old new c.in-Ok.count (λ _. tt) (λ _. subst (λ (s : List ℕ). Some s ≡ Some []) (sym c.new-blob.ensures.items) refl) c.in-Ok.ensures.gathered
    (λ _ blob is. subst (λ (s : List ℕ). Appends old new (gathered_text how.encode how.wanted.mode s)) (c.as_slice-2.ensures.value ∙ same_Some held blob is) c.in_ok-write_whole.ensures.text)
