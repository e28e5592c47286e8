use Rattle.std.proofs.Common.{◌≡◌, ◌∙◌, ◌<◌, ℕ, List, length, Option, is_some, Result, true, arith, subst, inl, inr}
use Rattle.std.proofs.lemmas.Option.{slice_get_within}
use Rattle.std.specs.Io.KnownBytes.{Appends}
use Rattle.bao_windows.specs.declared.fault.GatherFault.{GatherFault}
use Rattle.holders.specs.Lists.{IsFromSource}
use Rattle.bao_tasks.specs.declared.gathered_fault.GatheredFault.{GatheredFault}
use Rattle.bao_tasks.specs.TakenFiles.{HasSound, IsRightOf, open_fault}
use Rattle.bao_tasks.specs.Gathered.{gathered_text}
use Rattle.bao_tasks.specs.FromFiles.{fixed_of}
use Rattle.bao_tasks.specs.Givens.{shown_contents, shown_faultless}
use Rattle.bao_tasks.proofs.FromFiles.{open_starved}
use Rattle.bao_tasks.proofs.Lists.{all_of_draft}
use Rattle.bao_tasks.proofs.Together.{one_of}
use Rattle.bao_tasks.proofs.gathering.attempt.Goals as goal

pub returns-in-Ok-ended-clause-right : goal.returns-in-Ok-ended-clause-right
returns-in-Ok-ended-clause-right g c = λ known blob is.
    let how = c.args.how.now in
    let handed = IsFromSource how.wanted.form (shown_contents g.S.Source.contents) (shown_faultless g.S.Source.faultless) c.args.taken.now.givens.items in
    let before : Option (List ℕ) = g.D.Draft.Write.contents c.in-Ok.out in
    let after : Option (List ℕ) = g.D.Draft.Write.contents c.write_taken-ended.new.out in
    let text : List ℕ = gathered_text how.encode how.wanted.mode blob in
    let right = subst (λ (r : Result ℕ GatheredFault). IsRightOf handed (fixed_of how) how.encode blob before after r) c.in-Ok-ended.is
    (c.write_taken-ended.ensures.gathered.right known blob is) in
    elim right [
      | inl done ↦ inl (done.0, all_of_draft after text (subst (λ (t : Option (List ℕ)). Appends t after text) (c.in-Ok.ensures.known known) done.1))
      | inr pair ↦ inr pair
    ]

pub returns-then-count-tried-clause-left : goal.returns-then-count-tried-clause-left
returns-then-count-tried-clause-left g c = λ is known blob enough before.
    let how = c.args.how.now in
    let given = shown_contents {P = g.row.P.Denot} g.S.Source.contents in
    let sound = shown_faultless {P = g.row.P.Denot} g.S.Source.faultless in
    let items = c.args.taken.now.givens.items in
    elim before [
      | inl none ↦
          let one = one_of (HasSound given sound items) how.wanted.form (fixed_of how) how blob enough in
          let within : one.1.place < length items = slice_get_within items one.1.place one.1.source one.1.there in
          absurd (omega (arith, none, within))
      | inr met ↦ inl met
    ]

pub returns-then-is_some-clause-left : goal.returns-then-is_some-clause-left
returns-then-is_some-clause-left g c = λ is known blob enough before.
    let how = c.args.how.now in
    let fixed = fixed_of how in
    let handed = IsFromSource how.wanted.form (shown_contents {P = g.row.P.Denot} g.S.Source.contents) (shown_faultless {P = g.row.P.Denot} g.S.Source.faultless) c.args.taken.now.givens.items in
    let met : c.unfinished_by-tried.result ≡ open_fault c.write_taken-ended.result = c.unfinished_by-tried.ensures in
    let some : is_some c.unfinished_by-tried.result ≡ true = cc in
    let helps : is_some (open_fault c.write_taken-ended.result) ≡ true = subst (λ (f : Option GatherFault). is_some f ≡ true) met some in
    elim (open_starved handed fixed how.encode blob (g.D.Draft.Write.contents c.in-Ok.out) (g.D.Draft.Write.contents c.write_taken-ended.new.out) c.write_taken-ended.result
    (c.write_taken-ended.ensures.gathered.available known blob enough) helps) [
      | inl starved ↦ inl (met ∙ starved)
      | inr pair ↦ inr pair
    ]
