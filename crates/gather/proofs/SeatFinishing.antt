-- What finishing a blob found, in the state after all that its seat has seen.
use Rattle.gather.proofs.SeatCommon.{◌≡◌, ℕ, ◌+◌, List, [], ◌∷◌, ◌++◌, append_assoc, length, Option, None, Some, refl, sym, ap, subst, ◌∙◌, arith, inr, filled_whole, IsWhole, LacksByte, Length, Read, Event, SeatView, IsLegal, state_after, IsRead, State, read_bytes, record_lasts, read_means, SeatDidRead, Called, event_of, length_there, right_there, same_there}
use Rattle.gather.specs.FinishCalls.{Asks}

pub read_there : (old new : SeatView) (at len : ℕ) (bytes : List ℕ) → Called (Read at len bytes) old new → bytes ≡ read_bytes (state_after new.seen) at len
read_there old new at len bytes called =
    right_there (Read at len bytes) old new called ∙ ap (λ (s : State). read_bytes s at len) (sym (same_there (Read at len bytes) old new called (λ s. refl)))

-- the length stays recorded
pub recorded_then : (old then new : SeatView) (l at len : ℕ) (bytes : List ℕ) → Called (Length (Some l)) old then → Called (Read at len bytes) then new
    → (state_after new.seen).recorded ≡ Some l
recorded_then old then new l at len bytes asked read =
    let more : List Event = read.between ++ event_of then (Read at len bytes) ∷ [] in
    let is : new.seen ≡ then.seen ++ more = read.goes_on.seen_is ∙ append_assoc then.seen read.between (event_of then (Read at len bytes) ∷ []) in
    let legal : IsLegal new.fixed (then.seen ++ more) = subst (λ (h : List Event). IsLegal new.fixed h) is read.goes_on.legal in
    subst (λ (h : List Event). (state_after h).recorded ≡ Some l) (sym is)
    (record_lasts new.fixed then.seen more l legal (length_there old then (Some l) asked))

pub read_whole : (old then new : SeatView) (before after : List ℕ) (l : ℕ) → length before ≡ l → Called (Length (Some l)) old then
    → SeatDidRead then new 0 before after None → IsWhole (state_after new.seen) after
read_whole old then new before after l long asked read =
    let is : after ≡ read.bytes = filled_whole read.bytes before after read.filled read.answer in
    let len : length before ≡ length after = sym read.answer ∙ ap length (sym is) in
    record {
      recorded = recorded_then old then new l 0 (length before) read.bytes asked read.called ∙ ap (λ (k : ℕ). Some k) (sym long ∙ len);
      held = ap (λ (k : ℕ). read_bytes (state_after new.seen) 0 k) (sym len) ∙ sym (read_there then new 0 (length before) read.bytes read.called) ∙ sym is;
    }

pub read_lacks : (old then new : SeatView) (before after : List ℕ) (p l : ℕ) → length before ≡ l → Called (Length (Some l)) old then
    → SeatDidRead then new 0 before after (Some p) → LacksByte (state_after new.seen)
read_lacks old then new before after p l long asked read =
    let is : IsRead (state_after new.seen) 0 (length before) read.bytes =
    (read_means (state_after new.seen) 0 (length before) read.bytes).0 (read_there then new 0 (length before) read.bytes read.called) in
    record {
      len = length before;
      recorded = recorded_then old then new l 0 (length before) read.bytes asked read.called ∙ ap (λ (k : ℕ). Some k) (sym long);
      position = 0 + length read.bytes;
      below = omega (arith, read.answer.0);
      missing = is.missing read.answer.0;
    }

pub asks_both : (old then new : SeatView) (before after : List ℕ) (l : ℕ) (missing : Option ℕ) → length before ≡ l → Called (Length (Some l)) old then
    → SeatDidRead then new 0 before after missing → Asks old new
asks_both old then new before after l missing long asked read =
    inr (record { len = l; then = then; length = asked; bytes = read.bytes; read = subst (λ (k : ℕ). Called (Read 0 k read.bytes) then new) long read.called })
