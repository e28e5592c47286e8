-- What a history stores is of accepted texts.
use Rattle.gather.proofs.Common.{◌≡◌, ◌⊎◌, ℕ, List, [], ◌∷◌, Some, subst, inl, inr, cases_Bool, Fixed, Call, Take, Give, Commit, Settle, Read, Length, Parents, Serve, Event, Piece, Store, IsRightReply, after, after_call, AreLegalFrom, run, in_mask, Name, State, fixed_of, state_of}
use Rattle.gather.specs.Worked.{AddsCertified, AreFrom, HasWorked, IsCertified, IsFrom}

by_call : (handed : Piece → Type 0) (fixed : Fixed) (s : State) (who : List Name) (call : Call) → IsFrom handed call → IsRightReply fixed s who call → (c : ℕ) (bytes : List ℕ)
    → (after_call who call s).held c ≡ Some bytes → (s.held c ≡ Some bytes) ⊎ IsCertified handed fixed c bytes
by_call handed fixed s who (Take group want granted) from right c bytes is = inl is
by_call handed fixed s who (Give group mask given) from right c bytes is = inl is
by_call handed fixed s who (Commit group piece committed) from right c bytes is = elim (cases_Bool (in_mask group committed c)) [
  | inl hit ↦ inr (record { piece = piece; from = from; accepted = right.0; has = rw hit at is })
  | inr miss ↦ inl (rw miss at is)
]
by_call handed fixed s who (Settle piece answer) from right c bytes is = inl is
by_call handed fixed s who (Read at len read) from right c bytes is = inl is
by_call handed fixed s who (Length recorded) from right c bytes is = inl is
by_call handed fixed s who (Parents group piece answer) from right c bytes is = inl is
by_call handed fixed s who (Serve start len answer) from right c bytes is = inl is

by_events : (handed : Piece → Type 0) (fixed : Fixed) (s : State) (events : List Event) → AreFrom handed events → AreLegalFrom fixed s events → (c : ℕ) (bytes : List ℕ)
    → (run s events).held c ≡ Some bytes → (s.held c ≡ Some bytes) ⊎ IsCertified handed fixed c bytes
by_events handed fixed s [] from legal c bytes is = inl is
by_events handed fixed s (e ∷ events) from legal c bytes is = elim (by_events handed fixed (after s e) events from.1 legal.1 c bytes is) [
  | inl before ↦ by_call handed fixed s e.who e.call from.0 legal.0 c bytes before
  | inr certified ↦ inr certified
]

pub work_certified : (handed : Piece → Type 0) (old new : Store) (chunks parents : ℕ) → HasWorked handed old new chunks parents → AddsCertified handed old new
work_certified handed old new chunks parents worked c bytes is =
    by_events handed (fixed_of old) (state_of old) worked.events worked.from worked.legal c bytes (subst (λ (s : State). s.held c ≡ Some bytes) worked.after is)
