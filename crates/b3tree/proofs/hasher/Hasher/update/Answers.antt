use Rattle.std.specs.Option.{SomeIff}
use Rattle.std.proofs.Common.{◌≡◌, eqb-true, true, Option, None, Some, is_some, ℕ, List, [], ◌++◌, take, length, ◌∙◌, refl, sym, ap, subst, arith, inl, inr}
use Rattle.std.proofs.lemmas.Bool.{true≢false}
use Rattle.std.proofs.lemmas.List.{append_assoc, append-nil, nil_from_length, take-append-drop}
use Rattle.b3tree.specs.declared.mode.Mode.{Mode}
use Rattle.b3tree.specs.Taken.{Holds}
use Rattle.b3tree.proofs.hasher.Hasher.update.Goals as goal

pub pieces-preserved : goal.pieces-preserved
pieces-preserved c =
    let rest : List ℕ = c.pieces.rest.now in
    let piece : List ℕ = take c.take_some-count.result rest in
    let cut : rest ≡ piece ++ c.split_at.result.1.now =
    sym (take-append-drop c.take_some-count.result rest) ∙ ap (λ (xs : List ℕ). piece ++ xs) (sym c.split_at.ensures.back) in
    let is : (done : List ℕ) → c.args.bytes.now ≡ done ++ rest → c.args.bytes.now ≡ done ++ piece ++ c.split_at.result.1.now =
    λ done e. e ∙ ap (λ (xs : List ℕ). done ++ xs) cut ∙ sym (append_assoc done piece c.split_at.result.1.now) in
    let holds : (mode : Mode) (s done : List ℕ) → Holds c.pieces.self mode (s ++ done) → Holds c.take_some-count.new.self mode (s ++ (done ++ piece)) =
    λ mode s done held. subst (λ (xs : List ℕ). Holds c.take_some-count.new.self mode xs)
    (ap (λ (xs : List ℕ). xs ++ piece) (sym held.whole) ∙ append_assoc s done piece)
    (c.take_some-count.ensures.taken mode held.earlier held.last held.splits) in (
      omega (arith, c.pieces.invariant.0, c.take_some-count.ensures.total, c.split_at.ensures.back_len),
      (λ mode s held.
          let before = c.pieces.invariant.1 mode s held in
          (before.0 ++ piece, is before.0 before.1, holds mode s before.0 before.2)),
      (λ mode s held.
          let before = c.pieces.invariant.2 mode s held in (
            before.0 ++ piece,
            is before.0 before.1,
            inl (elim before.2 [
              | inl held ↦ holds mode s before.0 held
              | inr none ↦
                  subst (λ (xs : List ℕ). Holds c.take_some-count.new.self mode xs)
                  (ap (λ (xs : List ℕ). xs ++ piece) (append-nil s) ∙ ap (λ (xs : List ℕ). s ++ (xs ++ piece)) (sym none.0))
                  (c.take_some-count.ensures.taken mode s [] none.1)
            ]),
          )),
    )

-- what is known of a result that is there
there : (r : Option ℕ) (P : Type 0) (v : ℕ) → SomeIff r P v → is_some r ≡ true → P
there None P v h e = absurd (true≢false (sym e))
there (Some x) P v h e = h.0

pub pieces-init : goal.pieces-init
pieces-init c = (
  there _ _ _ c.checked_add.ensures c.if-is_none.ensures,
  (λ mode s held. ([], refl, subst (λ (xs : List ℕ). Holds c.args.self.now mode xs) (sym (append-nil s)) held)),
  (λ mode s held. ([], refl, inr (refl, held))),
)

pub returns-clause-ended : goal.returns-clause-ended
returns-clause-ended c = λ mode s held some.
    let after = c.pieces.invariant.2 mode s held in
    let none : c.pieces.rest.now ≡ [] = nil_from_length c.pieces.rest.now (eqb-true (length c.pieces.rest.now) 0 (sym c.pieces-test.ensures)) in
    let all : c.args.bytes.now ≡ after.0 = after.1 ∙ ap (λ (xs : List ℕ). after.0 ++ xs) none ∙ append-nil after.0 in
    elim after.2 [
      | inl held ↦ subst (λ (xs : List ℕ). Holds c.pieces.self mode (s ++ xs)) (sym all) held
      | inr nothing ↦ absurd (omega (arith, ap length (all ∙ nothing.0)))
    ]
