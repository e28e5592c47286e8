use Rattle.std.specs.Borrow.{Bor}
use Rattle.std.proofs.Common.{◌≡◌, ◌<◌, ℕ, List, [], Bool, false, Some, ◌∙◌, get_or, length, arith, ap}
use Rattle.std.proofs.lemmas.Option.{slice_get-get_or, slice_get_within}
use Rattle.bao_tasks.specs.Givens.{given_contents, is_given_faultless, most_bytes, shown_contents, shown_faultless}
use Rattle.bao_tasks.specs.MissingInFiles.{IsReachIn}
use Rattle.bao_tasks.specs.TakenFiles.{IsReachOf}
use Rattle.bao_tasks.proofs.MissingInFiles.{reach_as}
use Rattle.bao_tasks.proofs.Taking.{same_kind, taking_more}
use Rattle.bao_tasks.proofs.gathering.take_files.Goals as goal

pub loop-place-preserved : goal.loop-place-preserved
loop-place-preserved g c =
    let at = g.D.Disk.at c.args.disk.now in
    let paths : List (Bor (List ℕ)) = c.args.paths.now in
    let kinds : List Bool = c.args.kinds.now in
    let n : ℕ = c.loop-place.place in
    let within : n < length c.args.paths.now = omega arith in
    let within_kinds : n < length c.args.kinds.now = omega arith in
    let none : Bor (List ℕ) = record { ref_ptr = (0, 0); now = [] } in
    let kind : get_or kinds n false ≡ c.args.regular = same_kind (get_or kinds n false) c.args.regular c.if-kinds-place.false in
    let how = c.args.how.now in
    let contents = shown_contents {P = g.row.P.Denot} (given_contents g.D.Input.Source.contents) in
    let faultless = shown_faultless {P = g.row.P.Denot} (is_given_faultless g.D.Input.Source.faultless) in
    taking_more contents faultless (g.D.Disk.faultless c.args.disk.now) (IsReachIn how.wanted how.long how.capacity at paths)
    (IsReachOf contents faultless how.wanted how.long how.capacity c.loop-place.taken.givens.items) (λ n. most_bytes how.wanted.form n) at paths c.args.regular c.args.taken.now.starved c.args.taken.now.givens.items kinds n c.loop-place.taken.starved
    c.take-fate.new.taken.starved c.loop-place.taken.givens.items c.take-fate.new.taken.givens.items (get_or paths n none) c.requires.kinds
    (slice_get-get_or kinds n false within_kinds ∙ ap (λ (b : Bool). Some b) kind) (slice_get-get_or paths n none within) c.take-fate.ensures.starved c.take-fate.ensures.absent c.take-fate.ensures.taken
    c.take-fate.ensures.there
    (λ are surely n near. reach_as contents faultless (g.D.Disk.faultless c.args.disk.now) how.wanted how.long how.capacity at paths c.loop-place.taken.givens.items are surely n near)
    c.loop-place.invariant

pub returns-clause-there : goal.returns-clause-there
returns-clause-there g c = λ yes sure i path bytes there named stored.
    c.loop-place.invariant.there yes sure i path bytes (omega (arith, slice_get_within c.args.paths.now i path there)) there named stored
