use Rattle.std.proofs.Common.{◌+◌, ◌≤◌, ◌++◌, List, ℕ, ap, arith, inl, inr, length, length-append, refl, subst}
use Rattle.b3tree.specs.Taken.{Holds}
use Rattle.bao_windows.proofs.Bytes.{place_of}
use Rattle.bao_windows.proofs.output.take_slot.Goals as goal

pub update_subtree-requires-clause-whole : goal.update_subtree-requires-clause-whole
update_subtree-requires-clause-whole c = (6, refl)

pub returns-in-Ok : goal.returns-in-Ok
returns-in-Ok c = λ mode at total valued s size taken.
    let bytes : List ℕ = c.args.slot.now.bytes.items in
    let last : total ≤ at + 65536 = valued.value.none c.in-None.is in
    let same = c.as_slice.ensures.value in
    record {
      part = λ under. absurd (omega (arith, under, length-append s bytes, size, valued.size, last));
      all = λ _. elim (place_of at total) [
        | inl more ↦
            subst (λ (xs : List ℕ). Holds c.update.new.self mode (s ++ xs)) same
            (c.in-Ok.ensures.ended mode s (taken.part (omega (arith, size, more))) (omega (arith, valued.size, more, ap (λ (xs : List ℕ). length xs) same)))
        | inr none ↦ subst (λ (xs : List ℕ). Holds c.update.new.self mode (s ++ xs)) same (c.in-Ok.ensures.taken mode s (taken.all (omega (arith, size, none))))
      ];
    }
