use Rattle.std.proofs.Common.{◌≡◌, ℕ, List, None, Some, Option, IsSome, true, refl, ap, subst, ◌∙◌, arith, inl, inr}
use Rattle.std.specs.Prelude.{is_some}
use Rattle.std.proofs.lemmas.Bool.{cases_lt}
use Rattle.bao_check.specs.Checked.{piece_places, piece_text}
use Rattle.bao_check.specs.Pieces.{chunk_in}
use Rattle.bao_bind.specs.Verdict.{Compared, IsOurs}
use Rattle.bao_bind.proofs.CollidingPairs.{told}
use Rattle.bao_bind.proofs.bind.first_apart.Goals as goal
use Rattle.bao_bind.proofs.bind.first_apart.Goals.{in-Some-chunk+else-not-is_ours, in_default-chunk}

some_value : (o : Option (List ℕ)) → is_some o ≡ true → (bytes : List ℕ) × (o ≡ Some bytes)
some_value None h = cc
some_value (Some bytes) h = (bytes, refl)

some_is : (o : Option (List ℕ)) (bytes : List ℕ) → o ≡ Some bytes → IsSome o
some_is None bytes e = cc
some_is (Some x) bytes e = refl

same_value : (x y : List ℕ) → Some x ≡ Some y → x ≡ y
same_value x y e = cc

pub chunks-preserved : goal.chunks-preserved
chunks-preserved c = λ i bytes low high there.
    let in_piece : ℕ → Option (List ℕ) = chunk_in (piece_text c.args.piece.now) (piece_places c.args.piece.now) in
    elim (cases_lt i c.chunks.number) [
      | inl earlier ↦ c.chunks.invariant i bytes low earlier there
      | inr least ↦
          let is : c.chunks.number ≡ i = omega arith in
          elim c.match-chunk.branch [
            | in-Some-chunk+else-not-is_ours w ↦
                let same : w.in-Some-chunk.bytes.now ≡ bytes = same_value w.in-Some-chunk.bytes.now bytes (w.in-Some-chunk.ensures.value ∙ ap in_piece is ∙ there) in
                let ours : IsOurs c.args.blob.now c.claimed-claimed.result c.chunks.number w.in-Some-chunk.bytes.now = told w.is_ours.result w.is_ours.ensures w.if-not-is_ours.false in
                subst (λ (n : ℕ). IsOurs c.args.blob.now c.claimed-claimed.result n bytes) is
                (subst (IsOurs c.args.blob.now c.claimed-claimed.result c.chunks.number) same ours)
            | in_default-chunk w ↦ let bad : None ≡ Some bytes = w.in_default-chunk.ensures.value ∙ ap in_piece is ∙ there in cc
          ]
    ]

-- a chunk before the piece's first is none of its own
pub chunks-init : goal.chunks-init
chunks-init c = λ i bytes least below there.
    let in_piece : ℕ → Option (List ℕ) = chunk_in (piece_text c.args.piece.now) (piece_places c.args.piece.now) in
    let within = (c.chunks-first.ensures.spans i).0 (some_is (in_piece i) bytes there) in
    absurd (omega (arith, within.0, least, below, c.max-number.ensures))

pub returns-in-Some : goal.returns-in-Some
returns-in-Some c = λ before. subst (Compared c.args.blob.now c.args.piece.now c.args.from) c.in-Some.is before

pub returns : goal.returns
returns c = λ before i bytes below there.
    let in_piece : ℕ → Option (List ℕ) = chunk_in (piece_text c.args.piece.now) (piece_places c.args.piece.now) in
    let within = (c.chunks-first.ensures.spans i).0 (some_is (in_piece i) bytes there) in
    elim (cases_lt i c.args.from) [
      | inl earlier ↦ subst (Compared c.args.blob.now c.args.piece.now c.args.from) c.in_default.is before i bytes earlier there
      | inr least ↦
          let now : IsOurs c.args.blob.now c.claimed-claimed.result i bytes =
          c.chunks.invariant i bytes least (omega (arith, within.1, below, c.min-number-end.ensures, c.chunks-test.false)) there in
          subst (λ (n : ℕ). IsOurs c.args.blob.now n i bytes) c.claimed-claimed.ensures now
    ]
