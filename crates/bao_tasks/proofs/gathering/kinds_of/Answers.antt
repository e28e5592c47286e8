use Rattle.std.specs.Borrow.{Bor}
use Rattle.std.proofs.Common.{rules, ◌≡◌, ◌<◌, ◌+◌, ◌∷◌, ◌++◌, [], ℕ, List, Bool, Some, get_or, length, slice_get, sym, subst, arith}
use Rattle.std.proofs.lemmas.Option.{slice_get-get_or, slice_get_within}
use Rattle.bao_files.specs.Disks.{IsStored}
use Rattle.bao_tasks.specs.FromFiles.{is_regular}
use Rattle.bao_tasks.proofs.Taking.{kind_more}
use Rattle.bao_tasks.proofs.gathering.kinds_of.Goals as goal

pub loop-place-preserved : goal.loop-place-preserved
loop-place-preserved g c =
    let paths : List (Bor (List ℕ)) = c.args.paths.now in
    let n : ℕ = c.loop-place.place in
    let within : n < length c.args.paths.now = omega arith in
    let none : Bor (List ℕ) = record { ref_ptr = (0, 0); now = [] } in
    let size : length c.push.new.self.items ≡ c.loop-place.place + 1 = search rules in
    let pushed : c.push.new.self.items ≡ c.loop-place.kinds.items ++ c.kind_of-is_regular.result.0 ∷ [] = c.in_ok-push.ensures.items in (
      size,
      subst (λ (kinds : List Bool). (i : ℕ) (p : Bor (List ℕ)) → i < n + 1 → slice_get paths i ≡ Some p → IsStored (g.D.Disk.at c.args.disk.now p.now) → slice_get kinds i ≡ Some (is_regular p.now))
          (sym pushed)
          (kind_more (g.D.Disk.at c.args.disk.now) paths c.loop-place.kinds.items c.kind_of-is_regular.result.0 (get_or paths n none) n c.loop-place.invariant.0
          (slice_get-get_or paths n none within) c.kind_of-is_regular.ensures c.loop-place.invariant.1),
    )

pub returns-clause-kinds : goal.returns-clause-kinds
returns-clause-kinds g c = λ i path there stored.
    c.loop-place.invariant.1 i path (omega (arith, c.loop-place-test.false, slice_get_within c.args.paths.now i path there)) there stored
