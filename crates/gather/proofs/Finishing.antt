-- What a read of all bytes below the recorded length tells, and what is known of bytes that are whole.
use Rattle.gather.proofs.Common.{true, false, ◌≡◌, ◌⊎◌, ℕ, ◌+◌, ◌*◌, ◌-◌, ◌/◌, ◌<◌, ◌≤◌, List, [], ◌++◌, length, drop, Option, None, Some, Ok, Err, Result, refl, slice_get, slice_index, sym, ap, subst, ◌∙◌, inl, inr, arith, length-append, get_or-append-add, cases_lt, append-nil, drop_all, get_or_append_left, IsErr, hash, IsKeyed, Fixed, Event, Store, IsLegal, state_after, IsRead, ReadMeans, State, byte_at, DidRead, CollisionCommitted, state_of, byte_binds, record_binds, base_recorded, read_means}
use Rattle.holders.proofs.Same.{all_same, same_bytes}
use Rattle.gather.specs.declared.fault.FinishFault.{FinishFault}
use Rattle.gather.specs.declared.fault.FinishFault.TheVariants.{NotTheRoot, Unfinished}
use Rattle.gather.specs.Finished.{Binds, BindsNone, BindsTo, Finishes, IsFinished, IsOther, IsUnfinished, IsWhole, Judges, LacksByte}

pub filled_whole : (bytes old new : List ℕ) → new ≡ bytes ++ drop (length bytes) old → length bytes ≡ length old → new ≡ bytes
filled_whole bytes old new filled all =
    filled ∙ ap (λ (rest : List ℕ). bytes ++ rest) (drop_all (length bytes) old (omega (arith, all))) ∙ append-nil bytes

-- the store's first bytes were read
pub record IsBegun (store : Store) (bytes : List ℕ) : Type 0 where
  pub held : (i : ℕ) → i < length bytes → byte_at (state_of store) (0 + i) ≡ Some (slice_index bytes i)

-- one part more
pub begun_more : ReadMeans → (store : Store) (bytes old part new : List ℕ) (at : ℕ) → at ≡ length bytes → IsBegun store bytes → DidRead store at old part None
    → new ≡ bytes ++ part → IsBegun store new
begun_more means store bytes old part new at here begun read is =
    let part_is : part ≡ read.bytes = filled_whole read.bytes old part read.filled read.answer in
    let count : length part ≡ length old = ap length part_is ∙ read.answer in
    let parts : length new ≡ length bytes + length part = ap length is ∙ length-append bytes part in
    let of_part : IsRead (state_of store) at (length old) part =
    subst (λ (xs : List ℕ). IsRead (state_of store) at (length old) xs) (sym part_is)
    ((means (state_of store) at (length old) read.bytes).0 (read.event []).right) in
    let early : (i : ℕ) → i < length bytes → slice_index new i ≡ slice_index bytes i = λ i below.
    ap (λ (xs : List ℕ). slice_index xs i) is ∙ get_or_append_left bytes part 0 i below in
    let late : (i : ℕ) → length bytes ≤ i → slice_index part (i - length bytes) ≡ slice_index new i = λ i after.
    let place : length bytes + (i - length bytes) ≡ i = omega (arith, after) in
    sym (get_or-append-add bytes part (i - length bytes) 0) ∙ ap (λ (k : ℕ). slice_index (bytes ++ part) k) place
    ∙ ap (λ (xs : List ℕ). slice_index xs i) (sym is) in
    let position : (i : ℕ) → length bytes ≤ i → at + (i - length bytes) ≡ 0 + i = λ i after. omega (arith, after, here) in
    record {
      held = λ i below. elim (cases_lt i (length bytes)) [
        | inl before ↦ begun.held i before ∙ ap (λ (x : ℕ). Some x) (sym (early i before))
        | inr after ↦
            ap (λ (q : ℕ). byte_at (state_of store) q) (sym (position i after))
            ∙ of_part.held (i - length bytes) (omega (arith, after, below, parts))
            ∙ ap (λ (x : ℕ). Some x) (late i after)
      ];
    }

-- a read that ends early, below the recorded length
pub read_lacks : ReadMeans → (store : Store) (at : ℕ) (old new : List ℕ) (p l : ℕ) → (state_of store).recorded ≡ Some l → at + length old ≤ l
    → DidRead store at old new (Some p) → LacksByte (state_of store)
read_lacks means store at old new p l recorded within read =
    let is : IsRead (state_of store) at (length old) read.bytes = (means (state_of store) at (length old) read.bytes).0 (read.event []).right in
    record {
      len = l;
      recorded = recorded;
      position = at + length read.bytes;
      below = omega (arith, read.answer.0, within);
      missing = is.missing read.answer.0;
    }

-- a recorded length is one
pub no_none : (recorded : Option ℕ) (l : ℕ) → recorded ≡ Some l → recorded ≡ None → ⊥
no_none recorded l is none = let no : Some l ≡ None = sym is ∙ none in cc

pub some_same : (k l : ℕ) → Some k ≡ Some l → k ≡ l
some_same k l e = cc

-- all bytes that are held after a history are the blob's, or a collision is exhibited
pub whole_binds : (fixed : Fixed) (history : List Event) (bytes : List ℕ) → IsKeyed fixed.mode → IsLegal fixed history → IsWhole (state_after history) bytes
    → BindsTo fixed history bytes
whole_binds fixed history bytes keyed legal whole blob is =
    let held : IsRead (state_after history) 0 (length bytes) bytes = (read_means (state_after history) 0 (length bytes) bytes).0 (sym whole.held) in
    let P = (c : ℕ) × CollisionCommitted fixed history blob c in
    let first = base_recorded fixed history (length bytes) legal whole.recorded in
    let at : (i : ℕ) → 1024 * fixed.base + (0 + i) ≡ 0 + i = λ i. omega (arith, first) in
    let each : (i : ℕ) → i < length bytes → (slice_get blob (0 + i) ≡ Some (slice_index bytes i)) ⊎ P = λ i below.
    elim (byte_binds fixed history blob (0 + i) (slice_index bytes i) keyed is legal (held.held i below)) [
      | inl same ↦ inl (subst (λ (n : ℕ). slice_get blob n ≡ Some (slice_index bytes i)) (at i) same)
      | inr from ↦ inr ((0 + i) / 1024, record { bytes = from.0.bytes; committed = from.0.chunk; pair = from.1 })
    ] in
    elim (record_binds fixed history blob (length bytes) keyed is legal whole.recorded) [
      | inr settled ↦ inr (inr (length bytes, record { settled = settled.0; pair = settled.1 }))
      | inl long ↦ elim (all_same blob bytes P (length bytes) each) [
        | inr pair ↦ inr (inl pair)
        | inl same ↦ inl (sym (same_bytes blob bytes long same))
      ]
    ]

-- bytes whose hash isn't the root are no blob's with the root
pub binds_none : (fixed : Fixed) (history : List Event) (bytes : List ℕ) → IsKeyed fixed.mode → IsLegal fixed history → IsWhole (state_after history) bytes
    → (hash fixed.mode bytes ≡ fixed.root.0 → ⊥) → BindsNone fixed history
binds_none fixed history bytes keyed legal whole other blob is = elim (whole_binds fixed history bytes keyed legal whole blob is) [
  | inl same ↦ absurd (other (ap (λ (xs : List ℕ). hash fixed.mode xs) same ∙ is.root))
  | inr named ↦ named
]

-- the verdict on bytes whose hash isn't the root
pub judged_other : (fixed : Fixed) (bytes : List ℕ) → IsKeyed fixed.mode → (hash fixed.mode bytes ≡ fixed.root.0 → ⊥) → Judges fixed bytes (Err NotTheRoot)
judged_other fixed bytes keyed other = record {
  root = tt;
  fault = refl;
  other = λ s whole. record { bytes = bytes; whole = whole; hashed = other };
  none = λ history legal whole. binds_none fixed history bytes keyed legal whole other;
}

pub judged_root : (fixed : Fixed) (bytes : List ℕ) → hash fixed.mode bytes ≡ fixed.root.0 → Judges fixed bytes (Ok tt)
judged_root fixed bytes root = record { root = root; fault = tt; other = tt; none = tt }

-- the verdict on bytes by their hash, as a caller names them
pub judged_at : (fixed own : Fixed) (given bytes hashed : List ℕ) (result : Result Unit FinishFault) → own ≡ fixed → given ≡ bytes → hashed ≡ hash own.mode given
    → ((xs : List ℕ) → hashed ≡ hash own.mode xs → Judges own xs result) → Judges fixed bytes result
judged_at fixed own given bytes hashed result same is value judges =
    subst (λ (f : Fixed). Judges f bytes result) same (judges bytes (value ∙ ap (λ (xs : List ℕ). hash own.mode xs) is))

pub judged_fault : (fixed : Fixed) (bytes : List ℕ) (result : Result Unit FinishFault) (fault : FinishFault) → Judges fixed bytes result → result ≡ Err fault
    → (fault ≡ NotTheRoot) × ((s : State) → IsWhole s bytes → IsOther fixed s)
    × ((history : List Event) → IsLegal fixed history → IsWhole (state_after history) bytes → BindsNone fixed history)
judged_fault fixed bytes (Ok done) fault judged is = let no : Ok done ≡ Err fault = is in cc
judged_fault fixed bytes (Err found) fault judged is =
    let same : found ≡ NotTheRoot = judged.fault in
    let told : Err found ≡ Err fault = is in
    (cc, judged.other, judged.none)

-- a blob that is answered, or a fault
pub finished : {T : Type 0} (bytes_of : T → List ℕ) (fixed : Fixed) (s : State) (blob : T) → IsFinished fixed s (bytes_of blob) → Finishes bytes_of fixed s (Ok blob)
finished bytes_of fixed s blob is = record {
  blob = is;
  no_length = λ none. absurd (no_none s.recorded (length (bytes_of blob)) is.whole.recorded none);
  unfinished = λ e. cc;
  other = λ e. cc;
}

same_fault : {T : Type 0} (a b : FinishFault) (result : Result T FinishFault) → result ≡ Err a → result ≡ Err b → a ≡ b
same_fault a b result is e = cc

pub failed : {T : Type 0} (bytes_of : T → List ℕ) (fixed : Fixed) (s : State) (fault : FinishFault) → (s.recorded ≡ None → fault ≡ Unfinished)
    → (fault ≡ Unfinished → IsUnfinished s) → (fault ≡ NotTheRoot → IsOther fixed s) → Finishes bytes_of fixed s (Err fault)
failed bytes_of fixed s fault none unfinished other = record {
  blob = tt;
  no_length = λ e. ap (λ (f : FinishFault). Err f) (none e);
  unfinished = λ e. unfinished (same_fault fault Unfinished _ refl e);
  other = λ e. other (same_fault fault NotTheRoot _ refl e);
}

pub binds_found : {T : Type 0} (bytes_of : T → List ℕ) (fixed : Fixed) (history : List Event) (blob : T) → IsKeyed fixed.mode → IsLegal fixed history
    → IsWhole (state_after history) (bytes_of blob) → Binds bytes_of fixed history (Ok blob)
binds_found bytes_of fixed history blob keyed legal whole =
    record { found = whole_binds fixed history (bytes_of blob) keyed legal whole; none = λ e. cc }

-- a verdict that is answered as a fault
pub verdict_finishes : {T : Type 0} (bytes_of : T → List ℕ) (fixed : Fixed) (s : State) (bytes : List ℕ) (verdict : Result Unit FinishFault) (result : Result T FinishFault)
    → Judges fixed bytes verdict → IsWhole s bytes → IsErr result → ((fault : FinishFault) → result ≡ Err fault → verdict ≡ Err fault) → Finishes bytes_of fixed s result
verdict_finishes bytes_of fixed s bytes verdict (Ok x) judged whole is passes = let never : false ≡ true = is in cc
verdict_finishes bytes_of fixed s bytes verdict (Err fault) judged whole is passes =
    let told = judged_fault fixed bytes verdict fault judged (passes fault refl) in
    failed bytes_of fixed s fault (λ none. absurd (no_none s.recorded (length bytes) whole.recorded none))
    (λ e. let no : NotTheRoot ≡ Unfinished = sym told.0 ∙ e in cc) (λ e. told.1 s whole)

pub verdict_binds : {T : Type 0} (bytes_of : T → List ℕ) (fixed : Fixed) (history : List Event) (bytes : List ℕ) (verdict : Result Unit FinishFault) (result : Result T FinishFault)
    → Judges fixed bytes verdict → IsLegal fixed history → IsWhole (state_after history) bytes → IsErr result → ((fault : FinishFault) → result ≡ Err fault → verdict ≡ Err fault)
    → Binds bytes_of fixed history result
verdict_binds bytes_of fixed history bytes verdict (Ok x) judged legal whole is passes = let never : false ≡ true = is in cc
verdict_binds bytes_of fixed history bytes verdict (Err fault) judged legal whole is passes =
    record { found = tt; none = λ e. (judged_fault fixed bytes verdict fault judged (passes fault refl)).2 history legal whole }
