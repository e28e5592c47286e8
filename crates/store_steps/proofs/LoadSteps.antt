-- A load of a held word for a read is the machine's Load.
use Rattle.std.proofs.lemmas.Bool.Decides.{nat_tests}
use Rattle.std.proofs.Common.{◌≡◌, ◌≢◌, ◌⊎◌, ℕ, ◌+◌, ◌-◌, ◌*◌, ◌/◌, ◌%◌, ◌<◌, ◌≤◌, min, nat_le, ◌==◌, Bool, true, false, ◌&&◌, ◌||◌, if◌then◌else◌, List, [], ◌∷◌, ◌++◌, length, Option, None, Some, is_some, is_none, option_and_then, set, slice_get, slice_index, refl, sym, ap, subst, ◌∙◌, arith, inl, inr, eq-eqb, length-append}
use Rattle.std.proofs.lemmas.Bool.{both_ways, cases_Bool, cases_lt, le-leb, leb-false, lt-ltb, ne_eqb, or_left, or_parts, or_right}
use Rattle.std.proofs.lemmas.List.{get_or_append_left, set-get_or}
use Rattle.atomic_table.specs.Table.{State as Table, keeps, stepped}
use Rattle.bao_check.specs.declared.checked.Checked.{Checked}
use Rattle.holders.specs.declared.fixed.Fixed.{Fixed}
use Rattle.store_core.specs.declared.history.Call.TheVariants.{Read}
use Rattle.store_core.specs.declared.history.Event.{Event}
use Rattle.store_core.specs.declared.micro.MicroStep.TheVariants.{Load}
use Rattle.store_core.specs.declared.view.SeatView.{SeatView}
use Rattle.store_core.specs.declared.view.StoredWord.{StoredWord}
use Rattle.store_core.specs.Cells.{cell_bytes}
use Rattle.store_core.specs.Histories.{IsLegal, state_after}
use Rattle.store_core.specs.Laws.{IsCommitted, IsRead, IsSound}
use Rattle.store_core.specs.Machine.{Machine, ReadUnderWay, copied, is_shown, is_whole, loaded_group, position, read_of, shown_byte, store_of}
use Rattle.holders.specs.Room.{groups}
use Rattle.store_core.specs.Masks.{has_bit}
use Rattle.holders.specs.Pieces.{places_in}
use Rattle.store_core.specs.Schedules.{after_step, is_last_load, read_after, read_before}
use Rattle.store_core.specs.MachineInvariant.{IsReadSoFar}
use Rattle.store_core.specs.ScheduleRuns.{carried_on}
use Rattle.store_core.specs.States.{State, byte_at, read_bytes}
use Rattle.store_core.specs.Views.{stored}
use Rattle.store_core.proofs.CellWords.{cell_is}
use Rattle.store_core.proofs.Lasting.{held_lasts, legal_is_sound}
use Rattle.store_core.proofs.Loading.{carried_loaded, over_same}
use Rattle.store_core.proofs.Origins.{held_is_committed}
use Rattle.store_core.proofs.ReadLaws.{is_read, read_is}
use Rattle.store_core.proofs.Running.{IsBefore, before_is, load_step, loaded_part, past_none}
use Rattle.store_core.proofs.MachineInvariants.{chunk_fits, chunk_valid}
use Rattle.store_steps.specs.Layout.{cell_at, claim_word, held_word, length_word}
use Rattle.store_steps.specs.Machines.{IsAtMachine, IsReading, IsUnderWay}
use Rattle.store_steps.specs.Plays.{Loads}
use Rattle.store_steps.specs.Reads.{group_end, is_last, read_events}
use Rattle.store_steps.specs.Rule.{ViewFits, HasView, RuleHolds}
use Rattle.store_steps.specs.Simulates.{LoadIsLoad, load_events, load_reply}
use Rattle.store_core.specs.Knowledge.{event_of}
use Rattle.store_steps.proofs.LastLoad.{is_last-false, is_last-true}
use Rattle.store_steps.proofs.Looking.{reads_quiet}
use Rattle.store_steps.proofs.Simulating.{read_is_of, read_on, seat_is, stands_after, stored_is}
use Rattle.store_steps.proofs.StepViews.{fitting}
use Rattle.store_steps.proofs.Storers.{gets}
use Rattle.store_core.proofs.Going.{looked_state}

-- what is held, by a bit that shows it
held_by_bit : (o : Option (List ℕ)) (shown : Bool) (bytes : List ℕ) → shown ≡ is_some o → ((b : List ℕ) → o ≡ Some b → bytes ≡ b) → o ≡ (if shown then Some bytes else None)
held_by_bit None shown bytes is each = rw is refl
held_by_bit (Some b) shown bytes is each = rw is (ap (λ (x : List ℕ). Some x) (sym (each b refl)))

-- a read begins, or goes on below the limit
begun : (o : Option ReadUnderWay) (at len limit : ℕ) → ((r : ReadUnderWay) → o ≡ Some r → position r < limit)
    → (length (read_of o at len).bytes ≡ 0) ⊎ (position (read_of o at len) < limit)
begun o at len limit each = grind (arith, nat_tests)

-- how far a read comes
reaches : (s : State) (at len n : ℕ) → n ≤ len → ((i : ℕ) → i < n → is_some (byte_at s (at + i)) ≡ true) → n ≤ length (read_bytes s at len)
reaches s at len n within held =
    let r : IsRead s at len (read_bytes s at len) = read_is s at len in
    let here = held (length (read_bytes s at len)) in
    let missing = r.missing in grind (arith, nat_tests)

stops_at : (s : State) (at len n : ℕ) → byte_at s (at + n) ≡ None → length (read_bytes s at len) ≤ n
stops_at s at len n none =
    let r : IsRead s at len (read_bytes s at len) = read_is s at len in
    let held = r.held n in grind (arith, nat_tests)

module _ (fixed : Fixed) (pieces : List Checked) (s : Table Unit (List SeatView)) (m : Machine) (id group at len : ℕ) (view new : SeatView)
    (here : IsAtMachine fixed pieces s m id view) (there : group < groups fixed) (reading : IsReading m id at len)
    (group_is : group ≡ loaded_group fixed (read_before m id at len)) (loads : Loads group at len (held_word s.words group) view new)
    (after : RuleHolds fixed (stepped s group (held_word s.words group) id [] (new ∷ []) keeps)) where
  abbrev seen : State
  seen = state_after new.seen

  abbrev before : ReadUnderWay
  before = read_before m id at len

  abbrev later : ReadUnderWay
  later = read_after fixed m id at len

  abbrev limit : ℕ
  limit = 1024 * fixed.capacity

  fixed_is : new.fixed ≡ fixed
  fixed_is = let fits : ViewFits fixed here.kept.history s.words view = fitting fixed s here.kept id view here.is_seat in loads.looked.goes_on.fixed_is ∙ fits.fixed_is

  view_fixed : view.fixed ≡ fixed
  view_fixed = let fits : ViewFits fixed here.kept.history s.words view = fitting fixed s here.kept id view here.is_seat in fits.fixed_is

  legal_seen : IsLegal fixed new.seen
  legal_seen = subst (λ (f : Fixed). IsLegal f new.seen) fixed_is loads.looked.goes_on.legal

  sound : IsSound fixed seen
  sound = legal_is_sound fixed new.seen legal_seen

  -- the read's event leaves the state
  seen_is : state_after (view.seen ++ loads.looked.between) ≡ seen
  seen_is = sym (looked_state (read_events view group at len) view new (λ s. reads_quiet view group at len s) loads.looked)

  words_same : set s.words group (held_word s.words group) ≡ s.words
  words_same = set-get_or s.words group 0

  -- what the view has seen held is held in the words
  held_now : (c : ℕ) (bytes : List ℕ) → seen.held c ≡ Some bytes → (state_after after.history).held c ≡ Some bytes
  held_now c bytes h =
      let has : HasView (set s.views id (new ∷ [])) id 0 new = gets s.views id (view ∷ []) (new ∷ []) 0 new here.is_seat refl in
      let on = (after.views id 0 new has).continues in
      ap (λ (t : List Event). (state_after t).held c) on.is
      ∙ held_lasts fixed new.seen on.between c bytes (subst (λ (t : List Event). IsLegal fixed t) on.is after.legal) h

  -- the chunks of the group are held as the machine has them
  bytes_are : (c : ℕ) (bytes : List ℕ) → seen.held c ≡ Some bytes → cell_bytes (m.cell c) ≡ bytes
  bytes_are c bytes h =
      let low : c < fixed.capacity = sound.held_below c (ap (λ (o : Option (List ℕ)). is_some o) h) in
      let from : IsCommitted fixed new.seen c bytes = held_is_committed fixed new.seen c bytes legal_seen h in
      cell_is (m.cell c) bytes (chunk_valid from.piece.text (places_in from.piece) (from.piece.base + c) bytes from.accepted.bytes from.has) (chunk_fits fixed from.piece c bytes from.accepted from.has)
      (λ w cell.
      sym (here.stands.cells c w low cell) ∙ ap (λ (words : List ℕ). cell_at fixed words (129 * c + w)) (sym words_same)
      ∙ after.words.cells c w bytes (held_now c bytes h) cell)

  held_same : (c : ℕ) → c / 64 ≡ group → seen.held c ≡ (store_of m).held c
  held_same c of =
      held_by_bit (seen.held c) (is_shown m c) (cell_bytes (m.cell c))
      (ap (λ (g : ℕ). has_bit (m.held_word g) (c % 64)) of ∙ ap (λ (w : ℕ). has_bit w (c % 64)) (sym (here.stands.held group there)) ∙ loads.finds c of)
      (λ bytes h. bytes_are c bytes h)

  byte_same : (q : ℕ) → q / 65536 ≡ group → byte_at seen q ≡ byte_at (store_of m) q
  byte_same q of = ap (λ (o : Option (List ℕ)). option_and_then (λ bytes. slice_get bytes (q % 1024)) o) (held_same (q / 1024) (omega (arith, of)))

  -- the read before the load, as it was seen and as the machine has it
  in_view : IsBefore seen at len before
  in_view = before_is seen (m.seat id).reading at len
      (λ r is. let on : IsUnderWay fixed new r = read_on fixed pieces s m id view here new loads.looked.between _ loads.looked.goes_on r is in on.part) reading

  in_words : IsBefore (store_of m) at len before
  in_words = before_is (store_of m) (m.seat id).reading at len (here.stands.served.reads id) reading

  begins : (length before.bytes ≡ 0) ⊎ (position before < limit)
  begins = begun (m.seat id).reading at len limit (λ r is. let on : IsUnderWay fixed view r = read_is_of fixed pieces s m id view here r is in on.below)

  part_words : IsReadSoFar (store_of m) later
  part_words = loaded_part fixed m before in_words.part

  abbrev more : List ℕ
  more = copied m (loaded_group fixed before) (position before) (before.len - length before.bytes)

  count : length later.bytes ≡ length before.bytes + length more
  count = length-append before.bytes more

  -- A load that only reads in its group: the later read's bytes are seen held.
  part_seen : ((q : ℕ) → position before ≤ q → q < position later → q / 65536 ≡ group) → IsReadSoFar seen later
  part_seen inside = record {
    within = part_words.within;
    held = λ i h. elim (cases_lt i (length before.bytes)) [
      | inl early ↦ in_view.part.held i early ∙ ap (λ (x : ℕ). Some x) (sym (get_or_append_left before.bytes more 0 i early))
      | inr late ↦ byte_same (later.at + i) (inside (later.at + i) (omega (arith, late)) (omega (arith, h))) ∙ part_words.held i h
    ];
  }

  sound_words : IsSound fixed (store_of m)
  sound_words = here.stands.served.sound

  -- where the load's bytes lie, whether it is the last, and why
  pub record Ends : Type 0 where
    pub inside : (q : ℕ) → position before ≤ q → q < position later → q / 65536 ≡ group
    pub same : is_last fixed group at len seen ≡ is_last_load fixed m id at len
    pub missing : is_last_load fixed m id at len ≡ true → length later.bytes < later.len → byte_at seen (position later) ≡ None

  -- nothing that is asked could be held
  ends_past : limit ≤ position before → Ends
  ends_past past =
      let zero : length before.bytes ≡ 0 = elim begins [ inl none ↦ none | inr below ↦ absurd (omega (arith, past, below)) ] in
      let over : is_last_load fixed m id at len ≡ true = or_right _ _ (or_right _ _ (le-leb limit (position later) (omega (arith, past, count)))) in
      record {
        inside = λ q from to.
            let some : length before.bytes < length later.bytes = omega (arith, from, to) in
            let none : byte_at (store_of m) (later.at + length before.bytes) ≡ None = past_none fixed (store_of m) (position before) sound_words past in
            let never : None ≡ Some (slice_index later.bytes (length before.bytes)) = sym none ∙ part_words.held (length before.bytes) some in cc;
        same = is_last-true fixed group at len seen (inl (omega (arith, past, zero, in_view.at_is))) ∙ sym over;
        missing = λ last less. past_none fixed seen (position later) sound (omega (arith, past, count));
      }

  -- nothing is asked
  ends_none : before.len ≤ 0 → Ends
  ends_none none =
      let short : length later.bytes ≤ later.len = part_words.within in
      let over : is_last_load fixed m id at len ≡ true = or_left _ _ (eq-eqb (length later.bytes) later.len (omega (arith, short, none))) in
      record {
        inside = λ q from to. absurd (omega (arith, from, to, short, none));
        same = is_last-true fixed group at len seen (inl (omega (arith, none, in_view.len_is))) ∙ sym over;
        missing = λ last less. absurd (omega (arith, less, none));
      }

  module _ (below : position before < limit) (asks : 0 < before.len) where
    group_at : group ≡ position before / 65536
    group_at = group_is ∙ rw (lt-ltb (position before) limit below, lt-ltb 0 before.len asks) refl

    abbrev asked : ℕ
    asked = min (before.len - length before.bytes) (65536 - position before % 65536)

    abbrev found : List ℕ
    found = read_bytes (store_of m) (position before) asked

    size : length later.bytes ≡ length before.bytes + length found
    size =
        let e : carried_on fixed (store_of m) before ≡ later = carried_loaded fixed m before sound_words in
        let bytes : later.bytes ≡ before.bytes ++ found = sym (ap (λ (r : ReadUnderWay). r.bytes) e)
        ∙ ap (λ (b : Bool). if b then before.bytes ++ found else before.bytes) (lt-ltb (position before) limit below) in
        ap (λ (xs : List ℕ). length xs) bytes ∙ length-append before.bytes found

    read : IsRead (store_of m) (position before) asked found
    read = read_is (store_of m) (position before) asked

    inside : (q : ℕ) → position before ≤ q → q < position later → q / 65536 ≡ group
    inside q from to =
        let of : q / 65536 ≡ position before / 65536 = omega (arith, from, to, size, read.within) in of ∙ sym group_at

    part : IsReadSoFar seen later
    part = part_seen inside

    -- it stops in the group where a byte isn't held
    stops : length later.bytes < later.len → position later / 65536 ≡ position before / 65536 → byte_at seen (position later) ≡ None
    stops less of =
        let place : position before + length found ≡ position later = omega (arith, size) in
        byte_same (position later) (of ∙ sym group_at)
        ∙ subst (λ (q : ℕ). byte_at (store_of m) q ≡ None) place (read.missing (omega (arith, less, of, size)))

    within : length later.bytes ≤ len
    within = let w = part_words.within in omega (arith, w, in_view.len_is)

    reach : length later.bytes ≤ length (read_bytes seen at len)
    reach = reaches seen at len (length later.bytes) within
        (λ i h. ap (λ (p : ℕ). is_some (byte_at seen (p + i))) (sym in_view.at_is) ∙ ap (λ (o : Option ℕ). is_some o) (part.held i h))

    over_is : is_last_load fixed m id at len
        ≡ (is_whole later || ((position later / 65536 == position before / 65536) || nat_le limit (position later)))
    over_is = over_same fixed m before sound_words in_words.part

    -- it is the last for that, or since it is whole
    why_last : is_last_load fixed m id at len ≡ true → length later.bytes < later.len → (position later / 65536 ≡ position before / 65536) ⊎ (limit ≤ position later)
    why_last over less = let why : (is_whole later || ((position later / 65536 == position before / 65536) || nat_le limit (position later))) ≡ true = sym over_is ∙ over in grind (arith, nat_tests)

    -- where it stops
    none_later : is_last_load fixed m id at len ≡ true → length later.bytes < later.len → byte_at seen (position later) ≡ None
    none_later over less = elim (why_last over less) [ inl of ↦ stops less of | inr past ↦ past_none fixed seen (position later) sound past ]

    -- in the group or at its end
    in_group : position later ≤ group_end group
    in_group = omega (arith, size, read.within, group_at)

    last_here : is_last_load fixed m id at len ≡ true → is_last fixed group at len seen ≡ true
    last_here over = elim (cases_lt (length later.bytes) later.len) [
      | inl less ↦
          let none : byte_at seen (at + length later.bytes) ≡ None =
          subst (λ (p : ℕ). byte_at seen (p + length later.bytes) ≡ None) in_view.at_is (none_later over less) in
          let short : length (read_bytes seen at len) ≤ length later.bytes = stops_at seen at len (length later.bytes) none in
          elim (cases_lt (position later) (group_end group)) [
            | inl before_end ↦ is_last-true fixed group at len seen (inr (inr (omega (arith, short, before_end, in_view.at_is))))
            | inr at_end ↦
                let past : limit ≤ position later = elim (why_last over less) [ inl of ↦ absurd (omega (arith, of, at_end, group_at)) | inr past ↦ past ] in
                is_last-true fixed group at len seen (inr (inl (omega (arith, past, in_group))))
          ]
      | inr whole ↦ is_last-true fixed group at len seen (inr (inl (omega (arith, whole, in_group, in_view.at_is, in_view.len_is))))
    ]

    goes_here : is_last_load fixed m id at len ≡ false → is_last fixed group at len seen ≡ false
    goes_here goes =
        let parts = or_parts (is_whole later) ((position later / 65536 == position before / 65536) || nat_le limit (position later)) (sym over_is ∙ goes) in
        let more_parts = or_parts (position later / 65536 == position before / 65536) (nat_le limit (position later)) parts.1 in
        let short : length later.bytes ≢ later.len = λ e. both_ways _ parts.0 (eq-eqb (length later.bytes) later.len e) in
        let apart : position later / 65536 ≢ position before / 65536 = λ e. both_ways _ more_parts.0 (eq-eqb (position later / 65536) (position before / 65536) e) in
        let low : position later < limit = leb-false limit (position later) more_parts.1 in
        let less : length later.bytes < len = omega (arith, short, within, in_view.len_is) in
        let end : position later ≡ group_end group = omega (arith, apart, in_group, group_at, count) in
        is_last-false fixed group at len seen (omega (arith, less, low, count, in_view.at_is)) (omega (arith, end, low, less, in_view.at_is)) (omega (arith, end, reach, in_view.at_is))

    ends_group : Ends
    ends_group = record {
      inside = inside;
      same = elim (cases_Bool (is_last_load fixed m id at len)) [ inl over ↦ last_here over ∙ sym over | inr goes ↦ goes_here goes ∙ sym goes ];
      missing = none_later;
    }

  pub ends : Ends
  ends = elim (cases_lt (position before) limit) [
    | inl below ↦ elim (cases_lt 0 before.len) [ inl asks ↦ ends_group below asks | inr none ↦ ends_none none ]
    | inr past ↦ ends_past past
  ]

  pub seen_part : IsReadSoFar seen later
  seen_part = part_seen ends.inside

  same_bytes : is_last_load fixed m id at len ≡ true → read_bytes seen at len ≡ later.bytes
  same_bytes last =
      let is : later.bytes ≡ read_bytes seen later.at later.len =
      is_read seen later.at later.len later.bytes (record { within = seen_part.within; held = seen_part.held; missing = λ less. ends.missing last less }) in
      sym (is ∙ ap (λ (p : ℕ). read_bytes seen p later.len) in_view.at_is ∙ ap (λ (l : ℕ). read_bytes seen at l) in_view.len_is)

  pub events_are : read_events view group at len (state_after (view.seen ++ loads.looked.between)) ≡ load_events fixed m id at len view
  events_are =
      ap (λ (t : State). read_events view group at len t) seen_is
      ∙ ap (λ (b : Bool). if b then event_of view (Read at len (read_bytes seen at len)) ∷ [] else [])
      (ap (λ (f : Fixed). is_last f group at len seen) view_fixed ∙ ends.same)
      ∙ elim (cases_Bool (is_last_load fixed m id at len)) [
        | inl last ↦ rw last (ap (λ (bytes : List ℕ). event_of view (Read at len bytes) ∷ []) (same_bytes last))
        | inr goes ↦ rw goes refl
      ]

  -- the read that goes on
  under_way : is_last_load fixed m id at len ≡ false → IsUnderWay fixed new later
  under_way goes =
      let parts = or_parts (is_whole later) (((position later / 65536 == loaded_group fixed before) && is_none (shown_byte m (position later))) || nat_le limit (position later)) goes in
      let more_parts = or_parts ((position later / 65536 == loaded_group fixed before) && is_none (shown_byte m (position later))) (nat_le limit (position later)) parts.1 in
      let short : length later.bytes ≢ later.len = λ e. both_ways _ parts.0 (eq-eqb (length later.bytes) later.len e) in
      record { part = seen_part; more = omega (arith, short, part_words.within); below = leb-false limit (position later) more_parts.1 }

  pub read_stays : (r : ReadUnderWay) → (if is_last_load fixed m id at len then None else Some later) ≡ Some r → IsUnderWay fixed new r
  read_stays r is = elim (cases_Bool (is_last_load fixed m id at len)) [
    | inl last ↦ let none : None ≡ Some r = rw last at is in cc
    | inr goes ↦
        let some : Some later ≡ Some r = rw goes at is in
        let same : later ≡ r = cc in
        subst (λ (x : ReadUnderWay). IsUnderWay fixed new x) same (under_way goes)
  ]

pub load_is_load : LoadIsLoad
load_is_load fixed pieces s m id group at len view new here there reading group_is loads after =
    let found : ℕ = held_word s.words group in
    let next : Machine = after_step fixed pieces m (Load id at len) (load_reply fixed m id at len) in
    let same : set s.words group found ≡ s.words = set-get_or s.words group 0 in (
      record {
        legal = λ few. (few, reading);
        right = refl;
        stands = stands_after fixed pieces s m id view here new next
            (λ c. seat_is fixed pieces s m id view here c ∙ sym (loads.looked.claims_are c))
            (λ k c other. refl)
            group found (load_step fixed pieces m id at len (load_reply fixed m id at len) here.stands.served reading).served
            (λ c w below cell. ap (λ (words : List ℕ). cell_at fixed words (129 * c + w)) same ∙ here.stands.cells c w below cell)
            (λ g below. ap (λ (words : List ℕ). held_word words g) same ∙ here.stands.held g below)
            (λ c below. ap (λ (words : List ℕ). has_bit (claim_word fixed words (c / 64)) (c % 64)) same ∙ here.stands.claimed c below)
            (ap (λ (words : List ℕ). length_word fixed words) same ∙ here.stands.recorded)
            (λ c w wrote by below.
            ap (λ (words : List StoredWord). stored words (129 * c + w)) loads.looked.written_are
            ∙ stored_is fixed pieces s m id view here c w (rw (eq-eqb id id refl) at wrote) by below)
            (λ k c w other wrote by below. (rw (ne_eqb k id other) at wrote, refl))
            (λ r is. read_stays fixed pieces s m id group at len view new here there reading group_is loads after r (rw (eq-eqb id id refl) at is))
            (λ k other. rw (ne_eqb k id other) refl);
      },
      events_are fixed pieces s m id group at len view new here there reading group_is loads after,
    )
