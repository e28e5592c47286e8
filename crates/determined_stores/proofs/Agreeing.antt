-- Two stores that stand for the same, asked the same.
use Rattle.std.proofs.Common.{◌≡◌, ◌≢◌, ◌↔◌, ◌⊎◌, inl, inr, ℕ, ◌≤◌, false, List, [], length, Option, Some, is_some, not, ◌&&◌, Result, Ok, Err, IfOk, IfErr, refl, sym, ap, subst, ◌∙◌}
use Rattle.bao_check.specs.declared.checked.Checked.{Checked}
use Rattle.holders.specs.declared.fixed.Fixed.{Fixed}
use Rattle.store_core.specs.declared.fault.Missing.{Missing}
use Rattle.store_core.specs.declared.fault.ServeFault.{ServeFault}
use Rattle.store_core.specs.declared.fault.ServeFault.TheVariants as unserved
use Rattle.store_core.specs.declared.fault.StoreFault.{StoreFault}
use Rattle.store_core.specs.declared.fault.StoreFault.TheVariants as unstored
use Rattle.store_core.specs.declared.history.Call.{Call}
use Rattle.store_core.specs.declared.history.Call.TheVariants.{Take, Give, Commit, Settle, Read, Length, Parents, Serve}
use Rattle.store_core.specs.declared.history.Serving.TheVariants as serving
use Rattle.store_core.specs.declared.history.Storing.TheVariants.{Stored}
use Rattle.store_core.specs.declared.history.Settling.{Settling}
use Rattle.store_core.specs.declared.history.Settling.TheVariants as settling
use Rattle.store_core.specs.declared.store.Store.{Store}
use Rattle.store_core.specs.Events.{IsRightReply, after_call}
use Rattle.store_core.specs.Laws.{is_partial, question}
use Rattle.store_core.specs.Masks.{IsMaskOf}
use Rattle.store_core.specs.Names.{Name}
use Rattle.holders.specs.Pieces.{holds_parent, length_of, piece_of}
use Rattle.store_core.specs.States.{State, read_bytes}
use Rattle.store_core.specs.Stores.{DidRead, DidServe, DidStore, IsEvent, IsOf, IsSame, IsUnserved, Settles, fixed_of, missing_in, state_of}
use Rattle.store_core.proofs.Determined.{state_determines}
use Rattle.store_core.proofs.Tells.{mask_unique}
use Rattle.determined_texts.specs.Agreeing.{AgreeButFor, AgreeOrLack}
use Rattle.determined_stores.proofs.Replies.{Met, is_event, met_same, not_of, reads_same, slices_same, too_large}

-- the reply of the second is right for the first
right_there : (a b : Store) (who : List Name) (call : Call) → IsSame a b → IsRightReply (fixed_of b) (state_of b) who call → IsRightReply (fixed_of a) (state_of a) who call
right_there a b who call same right =
    subst (λ (s : State). IsRightReply (fixed_of a) s who call) same.state (subst (λ (x : Fixed). IsRightReply x (state_of b) who call) same.fixed right)

pub same_reply : (a a' b b' : Store) (who : List Name) (one other : Call) → IsSame a b → IsEvent a a' who one → IsEvent b b' who other
    → is_partial one ≡ false → question one ≡ question other → one ≡ other
same_reply a a' b b' who one other same e f whole asked =
    state_determines (fixed_of a) (state_of a) who one other e.right (right_there a b who other same f.right) whole asked

pub same_after : (a a' b b' : Store) (who : List Name) (one other : Call) → IsSame a b → IsEvent a a' who one → IsEvent b b' who other → one ≡ other → IsSame a' b'
same_after a a' b b' who one other same e f is = record {
  fixed = f.fixed ∙ same.fixed ∙ sym e.fixed;
  state = f.after ∙ ap (λ (s : State). after_call who other s) same.state ∙ ap (λ (c : Call). after_call who c (state_of a)) (sym is) ∙ sym e.after;
}

-- each fault but memory is either's or neither's
abbrev pub Pins : Result ℕ StoreFault → Result ℕ StoreFault → Type 0
Pins r s = (e : StoreFault) → (e ≡ unstored.Memory) ⊎ ((r ≡ Err e → s ≡ Err e) × (s ≡ Err e → r ≡ Err e))

pub agree : (r s : Result ℕ StoreFault) (P : Type 0) → Pins r s → ((m n : ℕ) → r ≡ Ok m → s ≡ Ok n → (m ≡ n) × P) → AgreeOrLack unstored.Memory (λ m n. (m ≡ n) × P) r s
agree (Ok m) (Ok n) P pins both = both m n refl refl
agree (Ok m) (Err f) P pins both = elim (pins f) [
  | inl memory ↦ memory
  | inr same ↦ let no : Ok m ≡ Err f = same.1 refl in cc
]
agree (Err e) (Ok n) P pins both = elim (pins e) [
  | inl memory ↦ memory
  | inr same ↦ let no : Ok n ≡ Err e = same.0 refl in cc
]
agree (Err e) (Err f) P pins both = elim (pins e) [
  | inl memory ↦ elim (pins f) [
    | inl also ↦ memory ∙ sym also
    | inr same ↦ let is : Err e ≡ Err f = same.1 refl in cc
  ]
  | inr same ↦ let is : Err f ≡ Err e = same.0 refl in cc
]

-- the events of two calls that answer masks
pub masks_agree : (a a' b b' : Store) (who : List Name) (call : ℕ → Call) (r s : Result ℕ StoreFault) → ((m : ℕ) → is_partial (call m) ≡ false)
    → ((m n : ℕ) → question (call m) ≡ question (call n)) → ((m n : ℕ) → call m ≡ call n → m ≡ n) → IsSame a b
    → IfOk r (λ m. IsEvent a a' who (call m)) → IfOk s (λ m. IsEvent b b' who (call m)) → Pins r s → AgreeOrLack unstored.Memory (λ m n. (m ≡ n) × IsSame a' b') r s
masks_agree a a' b b' who call r s whole asked fixes same did also pins =
    agree r s (IsSame a' b') pins (λ m n is too.
    let e : IsEvent a a' who (call m) = subst (λ (x : Result ℕ StoreFault). IfOk x (λ m. IsEvent a a' who (call m))) is did in
    let f : IsEvent b b' who (call n) = subst (λ (x : Result ℕ StoreFault). IfOk x (λ m. IsEvent b b' who (call m))) too also in
    let one : call m ≡ call n = same_reply a a' b b' who (call m) (call n) same e f (whole m) (asked m n) in
    (fixes m n one, same_after a a' b b' who (call m) (call n) same e f one))

pub takes_agree : (a a' b b' : Store) (who : List Name) (group want : ℕ) (r s : Result ℕ StoreFault) → IsSame a b
    → IfOk r (λ m. IsEvent a a' who (Take group want m)) → IfOk s (λ m. IsEvent b b' who (Take group want m)) → Pins r s → AgreeOrLack unstored.Memory (λ m n. (m ≡ n) × IsSame a' b') r s
takes_agree a a' b b' who group want r s same did also pins =
    masks_agree a a' b b' who (λ m. Take group want m) r s (λ m. refl) (λ m n. refl) (λ m n e. cc) same did also pins

pub commits_agree : (a a' b b' : Store) (who : List Name) (group : ℕ) (piece : Checked) (r s : Result ℕ StoreFault) → IsSame a b
    → IfOk r (λ m. IsEvent a a' who (Commit group (piece_of (fixed_of a).base piece) m)) → IfOk s (λ m. IsEvent b b' who (Commit group (piece_of (fixed_of b).base piece) m)) → Pins r s
    → AgreeOrLack unstored.Memory (λ m n. (m ≡ n) × IsSame a' b') r s
commits_agree a a' b b' who group piece r s same did also pins =
    masks_agree a a' b b' who (λ m. Commit group (piece_of (fixed_of a).base piece) m) r s (λ m. refl) (λ m n. refl) (λ m n e. cc) same did
    (subst (λ (z : Fixed). IfOk s (λ m. IsEvent b b' who (Commit group (piece_of z.base piece) m))) same.fixed also) pins

pub gives_agree : (a a' b b' : Store) (who : List Name) (group mask m n : ℕ) → IsSame a b → IsEvent a a' who (Give group mask m) → IsEvent b b' who (Give group mask n)
    → (m ≡ n) × IsSame a' b'
gives_agree a a' b b' who group mask m n same e f =
    let one : Give group mask m ≡ Give group mask n = same_reply a a' b b' who (Give group mask m) (Give group mask n) same e f refl refl in
    (cc, same_after a a' b b' who (Give group mask m) (Give group mask n) same e f one)

-- the faults of a take, and of a commit
pub take_pins : (group : ℕ) (x y : Fixed) (groups_of : Fixed → ℕ) (r s : Result ℕ StoreFault) → y ≡ x
    → (r ≡ Err unstored.NoGroup ↔ (groups_of x ≤ group)) → (s ≡ Err unstored.NoGroup ↔ (groups_of y ≤ group))
    → r ≢ Err unstored.OtherRoot → s ≢ Err unstored.OtherRoot → r ≢ Err unstored.OtherLength → s ≢ Err unstored.OtherLength → Pins r s
take_pins group x y groups_of r s e p q nr ns lr ls unstored.Memory = inl refl
take_pins group x y groups_of r s e p q nr ns lr ls unstored.NoGroup =
    inr ((λ is. q.1 (subst (λ (z : Fixed). groups_of z ≤ group) (sym e) (p.0 is))), λ is. p.1 (subst (λ (z : Fixed). groups_of z ≤ group) e (q.0 is)))
take_pins group x y groups_of r s e p q nr ns lr ls unstored.OtherRoot = inr ((λ is. absurd (nr is)), λ is. absurd (ns is))
take_pins group x y groups_of r s e p q nr ns lr ls unstored.OtherLength = inr ((λ is. absurd (lr is)), λ is. absurd (ls is))

pub commit_pins : (x y : Fixed) (piece : Checked) (r s : Result ℕ StoreFault) → y ≡ x
    → (r ≡ Err unstored.OtherRoot ↔ (¬ IsOf x piece)) → (s ≡ Err unstored.OtherRoot ↔ (¬ IsOf y piece))
    → r ≢ Err unstored.NoGroup → s ≢ Err unstored.NoGroup → r ≢ Err unstored.OtherLength → s ≢ Err unstored.OtherLength → Pins r s
commit_pins x y piece r s e p q nr ns lr ls unstored.Memory = inl refl
commit_pins x y piece r s e p q nr ns lr ls unstored.OtherRoot =
    inr ((λ is. q.1 (subst (λ (z : Fixed). ¬ IsOf z piece) (sym e) (p.0 is))), λ is. p.1 (subst (λ (z : Fixed). ¬ IsOf z piece) e (q.0 is)))
commit_pins x y piece r s e p q nr ns lr ls unstored.NoGroup = inr ((λ is. absurd (nr is)), λ is. absurd (ns is))
commit_pins x y piece r s e p q nr ns lr ls unstored.OtherLength = inr ((λ is. absurd (lr is)), λ is. absurd (ls is))

-- the length
pub lengths_agree : (a b : Store) (o p : Option ℕ) → IsSame a b → ((who : List Name) → IsEvent a a who (Length o)) → ((who : List Name) → IsEvent b b who (Length p)) → o ≡ p
lengths_agree a b o p same e f = (e []).right ∙ sym (right_there a b [] (Length p) same (f []).right)

-- a read
pub reads_agree : (a b : Store) (at : ℕ) (old other new next : List ℕ) (r s : Result (Unit {0}) Missing) → IsSame a b → old ≡ other → DidRead a at old new (missing_in r)
    → DidRead b at other next (missing_in s) → (r ≡ s) × (new ≡ next)
reads_agree a b at old other new next r s same e did also =
    let bytes : did.bytes ≡ also.bytes =
    (did.event []).right ∙ ap (λ (xs : List ℕ). read_bytes (state_of a) at (length xs)) e ∙ sym (right_there a b [] (Read at (length other) also.bytes) same (also.event []).right) in
    reads_same at old other new next did.bytes also.bytes r s e bytes did.filled also.filled did.answer also.answer

-- parents
pub parents_agree : (a a' b b' : Store) (group : ℕ) (piece : Checked) (r s : Result ℕ StoreFault) → IsSame a b
    → IfOk r (λ m. DidStore a a' group piece (Stored m)) → IfOk s (λ m. DidStore b b' group piece (Stored m))
    → IfOk r (λ mask. IsMaskOf group mask (λ m. holds_parent (piece_of (fixed_of a).base piece) m && not (is_some ((state_of a).parents m))))
    → IfOk s (λ mask. IsMaskOf group mask (λ m. holds_parent (piece_of (fixed_of b).base piece) m && not (is_some ((state_of b).parents m))))
    → Pins r s → AgreeOrLack unstored.Memory (λ m n. (m ≡ n) × IsSame a' b') r s
parents_agree a a' b b' group piece r s same did also all every pins =
    agree r s (IsSame a' b') pins (λ m n is too.
    let base : ℕ = (fixed_of a).base in
    let e : DidStore a a' group piece (Stored m) = subst (λ (x : Result ℕ StoreFault). IfOk x (λ m. DidStore a a' group piece (Stored m))) is did in
    let f : DidStore b b' group piece (Stored n) = subst (λ (x : Result ℕ StoreFault). IfOk x (λ m. DidStore b b' group piece (Stored m))) too also in
    let other : IsEvent b b' [] (Parents group (piece_of base piece) (Stored n)) =
    subst (λ (z : Fixed). IsEvent b b' [] (Parents group (piece_of z.base piece) (Stored n))) same.fixed (f []) in
    let ours : IsMaskOf group m (λ k. holds_parent (piece_of base piece) k && not (is_some ((state_of a).parents k))) =
    subst (λ (x : Result ℕ StoreFault). IfOk x (λ mask. IsMaskOf group mask (λ k. holds_parent (piece_of base piece) k && not (is_some ((state_of a).parents k))))) is all in
    let theirs : IsMaskOf group n (λ k. holds_parent (piece_of base piece) k && not (is_some ((state_of b).parents k))) =
    subst (λ (x : Result ℕ StoreFault). IfOk x (λ mask. IsMaskOf group mask (λ k. holds_parent (piece_of base piece) k && not (is_some ((state_of b).parents k))))) too every in
    let there : IsMaskOf group n (λ k. holds_parent (piece_of base piece) k && not (is_some ((state_of a).parents k))) =
    subst (λ (t : State). IsMaskOf group n (λ k. holds_parent (piece_of base piece) k && not (is_some (t.parents k)))) same.state theirs in
    let one : m ≡ n = mask_unique group m n (λ k. holds_parent (piece_of base piece) k && not (is_some ((state_of a).parents k))) ours there in
    (one, same_after a a' b b' [] (Parents group (piece_of base piece) (Stored m)) (Parents group (piece_of base piece) (Stored n)) same (e []) other (ap (λ k. Parents group (piece_of base piece) (Stored k)) one)))

-- whether the recorded length isn't the piece's
abbrev IsOther : Fixed → State → Checked → Type 0
IsOther fixed s piece = IsOf fixed piece × (s.recorded ≢ Some (length_of (piece_of fixed.base piece)))

pub parents_pin : (a b : Store) (piece : Checked) (r s : Result ℕ StoreFault) → IsSame a b
    → (r ≡ Err unstored.OtherRoot ↔ (¬ IsOf (fixed_of a) piece)) → (s ≡ Err unstored.OtherRoot ↔ (¬ IsOf (fixed_of b) piece))
    → (r ≡ Err unstored.OtherLength ↔ IsOther (fixed_of a) (state_of a) piece) → (s ≡ Err unstored.OtherLength ↔ IsOther (fixed_of b) (state_of b) piece)
    → r ≢ Err unstored.NoGroup → s ≢ Err unstored.NoGroup → Pins r s
parents_pin a b piece r s same p q lp lq nr ns unstored.Memory = inl refl
parents_pin a b piece r s same p q lp lq nr ns unstored.NoGroup = inr ((λ is. absurd (nr is)), λ is. absurd (ns is))
parents_pin a b piece r s same p q lp lq nr ns unstored.OtherRoot =
    inr ((λ is. q.1 (subst (λ (z : Fixed). ¬ IsOf z piece) (sym same.fixed) (p.0 is))), λ is. p.1 (subst (λ (z : Fixed). ¬ IsOf z piece) same.fixed (q.0 is)))
parents_pin a b piece r s same p q lp lq nr ns unstored.OtherLength = inr (
  (λ is. lq.1 (subst (λ (z : Fixed). IsOther z (state_of b) piece) (sym same.fixed) (subst (λ (t : State). IsOther (fixed_of a) t piece) (sym same.state) (lp.0 is)))),
  λ is. lp.1 (subst (λ (z : Fixed). IsOther z (state_of a) piece) same.fixed (subst (λ (t : State). IsOther (fixed_of b) t piece) same.state (lq.0 is))),
)

pub slices_agree : {V : Type 0} (items : V → List ℕ) (a b : Store) (start len : ℕ) (r s : Result V ServeFault) → IsSame a b
    → IfOk r (λ text. DidServe a start len (serving.Text (items text))) → IfErr r (λ fault. IsUnserved a start len fault)
    → IfOk s (λ text. DidServe b start len (serving.Text (items text))) → IfErr s (λ fault. IsUnserved b start len fault)
    → AgreeButFor unserved.Memory (λ x y. items x ≡ items y) r s
slices_agree items a b start len r s same p e q f =
    (slices_same items (λ x. DidServe a start len x) (λ y. DidServe b start len y) (λ fault. IsUnserved a start len fault) (λ fault. IsUnserved b start len fault) (Unit {0})
    (λ x y did also. ((did []).right ∙ sym (right_there a b [] (Serve start len y) same (also []).right), tt)) (λ h. h) (λ n h. h) (λ h. h) (λ n h. h) r s p e q f).0

-- a settled length is an event of the store
abbrev pub SettledBy : Fixed → Store → Store → Checked → Settling → Type 0
SettledBy fixed old new piece answer = (who : List Name) → IsEvent old new who (Settle (piece_of fixed.base piece) answer)

pub store_met : (old new : Store) (piece : Checked) (answer : Settling) → (answer ≡ settling.OtherRoot ↔ (¬ IsOf (fixed_of old) piece)) → Settles old new piece answer
    → Met (fixed_of old) piece (IsSame old new) (SettledBy (fixed_of old) old new piece answer) answer
store_met old new piece settling.OtherRoot root did = not_of did.0 did.1 refl
store_met old new piece settling.TooLarge root did = too_large did.0 did.1 did.2 refl
store_met old new piece settling.Settled root did = is_event (λ not. let no : settling.Settled ≡ settling.OtherRoot = root.1 not in cc) (did []).right.2 did
store_met old new piece settling.Known root did = is_event (λ not. let no : settling.Known ≡ settling.OtherRoot = root.1 not in cc) (did []).right.2 did
store_met old new piece settling.Differs root did = is_event (λ not. let no : settling.Differs ≡ settling.OtherRoot = root.1 not in cc) (did []).right.2 did

pub settles_agree : (a a' b b' : Store) (piece : Checked) (r s : Settling) → IsSame a b → (r ≡ settling.OtherRoot ↔ (¬ IsOf (fixed_of a) piece))
    → (s ≡ settling.OtherRoot ↔ (¬ IsOf (fixed_of b) piece)) → Settles a a' piece r → Settles b b' piece s → (r ≡ s) × IsSame a' b'
settles_agree a a' b b' piece r s same root also did too =
    let call : Settling → Call = λ x. Settle (piece_of (fixed_of a).base piece) x in
    met_same (fixed_of a) piece (IsSame a a') (SettledBy (fixed_of a) a a' piece r) (IsSame b b') (SettledBy (fixed_of a) b b' piece s) (IsSame a' b') r s
    (λ ours theirs. record { fixed = theirs.fixed ∙ same.fixed ∙ sym ours.fixed; state = theirs.state ∙ same.state ∙ sym ours.state })
    (λ had has.
    let one : call r ≡ call s = same_reply a a' b b' [] (call r) (call s) same (had []) (has []) refl refl in
    (cc, same_after a a' b b' [] (call r) (call s) same (had []) (has []) one))
    (store_met a a' piece r root did) (subst (λ (f : Fixed). Met f piece (IsSame b b') (SettledBy f b b' piece s) s) same.fixed (store_met b b' piece s also too))
