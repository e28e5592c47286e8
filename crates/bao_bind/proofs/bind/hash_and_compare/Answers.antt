use Rattle.std.proofs.Common.{◌≡◌, ◌+◌, ◌-◌, ◌<◌, ℕ, List, length, ◌++◌, drop, None, Some, Option, true, false, IsSome, refl, sym, ap, ◌∙◌, arith, length-append}
use Rattle.std.specs.Prelude.{is_some, is_err, IfNone, OnOk, Result, Ok, Err}
use Rattle.std.proofs.lemmas.List.{append_assoc, take-append-drop}
use Rattle.bao_text.specs.Choice.{chunk_count}
use Rattle.bao_check.specs.declared.checked.Checked.{Checked}
use Rattle.bao_check.specs.Checked.{piece_claimed, piece_mode, piece_places, piece_text}
use Rattle.bao_check.specs.Pieces.{chunk_in}
use Rattle.bao_bind.specs.declared.chunk_run.ChunkRun.{ChunkRun}
use Rattle.bao_bind.specs.Verdict.{AgreesWith, Compared}
use Rattle.bao_bind.proofs.bind.hash_and_compare.Goals as goal

some_value : (o : Option (List ℕ)) → is_some o ≡ true → (bytes : List ℕ) × (o ≡ Some bytes)
some_value None h = cc
some_value (Some bytes) h = (bytes, refl)

some_is : (o : Option (List ℕ)) (bytes : List ℕ) → o ≡ Some bytes → IsSome o
some_is None bytes e = cc
some_is (Some x) bytes e = refl

-- what holds of an answer that is no fault
of_ok : {T E P : Type 0} (r : Result T E) → is_err r ≡ false → OnOk r P → P
of_ok (Ok x) h p = p
of_ok (Err e) h p = cc

-- all chunks of the piece are the blob's where those before the last are
all_ours : (blob : List ℕ) (piece : Checked) (after : ℕ) (found : Option ChunkRun)
    → ((i : ℕ) → IsSome (chunk_in (piece_text piece) (piece_places piece) i) → i < after)
    → Compared blob piece after found → IfNone found (AgreesWith blob piece)
all_ours blob piece after None within ours =
    let in_piece : ℕ → Option (List ℕ) = chunk_in (piece_text piece) (piece_places piece) in
    let last : ℕ = chunk_count (piece_claimed piece) - 1 in
    record {
      chunks = λ i bytes there. (ours i bytes (within i (some_is (in_piece i) bytes there)) there).0;
      tail = λ holds.
          let found : (bytes : List ℕ) × (in_piece last ≡ Some bytes) = some_value (in_piece last) holds in
          (ours last found.0 (within last holds) found.1).1 (omega arith);
    }
all_ours blob piece after (Some chunk) within ours = tt

pub unreachable-requires : goal.unreachable-requires
unreachable-requires c =
    let before = c.shares.invariant.0 in
    let over = (c.update.ensures.refused (piece_mode c.args.piece.now) before.0 before.2).0 (sym c.is_err.ensures.value ∙ c.if-is_err.true) in
    let all : length c.args.blob.now ≡ length before.0 + length c.shares.rest.now = ap length before.1 ∙ length-append before.0 c.shares.rest.now in
    omega (arith, over, all, c.split_at.ensures.front_len, c.min.ensures)

pub shares-preserved : goal.shares-preserved
shares-preserved c =
    let before = c.shares.invariant.0 in
    let rest : List ℕ = c.shares.rest.now in
    let share : List ℕ = c.split_at.result.0.now in
    let others : List ℕ = c.split_at.result.1.now in
    let cut : rest ≡ share ++ others =
    sym (take-append-drop c.min.result rest)
    ∙ ap (λ (xs : List ℕ). xs ++ drop c.min.result rest) (sym c.split_at.ensures.front)
    ∙ ap (λ (xs : List ℕ). share ++ xs) (sym c.split_at.ensures.back) in (
      (
        before.0 ++ share,
        before.1 ∙ ap (λ (xs : List ℕ). before.0 ++ xs) cut ∙ sym (append_assoc before.0 share others),
        of_ok c.update.result (sym c.is_err.ensures.value ∙ c.if-is_err.false) (c.update.ensures.taken (piece_mode c.args.piece.now) before.0 before.2),
      ),
      c.first_apart-apart.ensures c.shares.invariant.1,
    )

pub returns-clause-agrees : goal.returns-clause-agrees
returns-clause-agrees c =
    all_ours c.args.blob.now c.args.piece.now c.chunks-after.result.1 c.first_apart-apart-2.result (λ i some. ((c.chunks-after.ensures.spans i).0 some).1)
    (c.first_apart-apart-2.ensures c.shares.invariant.1)
