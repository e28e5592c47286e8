-- Two seats that can meet have seen beginnings of one history, and finished calls stand in the order of real time.
use Rattle.std.proofs.Common.{◌≡◌, ◌⊎◌, ℕ, ◌+◌, List, [], ◌∷◌, ◌++◌, append-nil, arith, length, length-append, map, refl, sym, ap, subst, ◌∙◌, inl, inr}
use Rattle.std.proofs.lemmas.List.Elements.{filter-append}
use Rattle.store_core.specs.declared.history.Call.{Call}
use Rattle.store_core.specs.declared.history.Event.{Event}
use Rattle.store_core.specs.declared.view.Named.{Named}
use Rattle.store_core.specs.declared.view.SeatView.{SeatView}
use Rattle.store_core.specs.Histories.{AreOfOthers, events_of, is_by}
use Rattle.store_core.specs.Knowledge.{AreMet, Called, event_of}
use Rattle.store_core.specs.Views.{Continues, mine, names_of}
use Rattle.store_shared.specs.OneLine.{AreInOneLine, AreInRealTime}
use Rattle.store_steps.proofs.Lists.{others_split}

-- the one list goes on as the other does, and both come to the same
record GoesOnAs (short long after_short after_long : List Event) : Type 0 where
  more : List Event
  is : long ≡ short ++ more
  rest : after_short ≡ more ++ after_long

-- of two beginnings of one list the longer begins with the shorter
beginnings : (xs ys after_xs after_ys : List Event) → xs ++ after_xs ≡ ys ++ after_ys → GoesOnAs xs ys after_xs after_ys ⊎ GoesOnAs ys xs after_ys after_xs
beginnings [] ys after_xs after_ys same = inl (record { more = ys; is = refl; rest = same })
beginnings (x ∷ xs) [] after_xs after_ys same = inr (record { more = x ∷ xs; is = refl; rest = sym same })
beginnings (x ∷ xs) (y ∷ ys) after_xs after_ys same =
    let there : (x ∷ (xs ++ after_xs)) ≡ (y ∷ (ys ++ after_ys)) = same in
    let head : x ≡ y = cc in
    let tail : xs ++ after_xs ≡ ys ++ after_ys = cc in
    elim (beginnings xs ys after_xs after_ys tail) [
      | inl longer ↦ inl (record { more = longer.more; is = ap (λ (zs : List Event). y ∷ zs) longer.is ∙ ap (λ (z : Event). z ∷ (xs ++ longer.more)) (sym head); rest = longer.rest })
      | inr longer ↦ inr (record { more = longer.more; is = ap (λ (zs : List Event). x ∷ zs) longer.is ∙ ap (λ (z : Event). z ∷ (ys ++ longer.more)) head; rest = longer.rest })
    ]

-- what goes on to a history that continues what a seat has seen is by others, too
continues_to : (view : SeatView) (long after_long after_seen : List Event) → AreOfOthers (names_of view) after_seen → GoesOnAs view.seen long after_seen after_long → Continues view long
continues_to view long after_long after_seen others on = record {
  between = on.more;
  is = on.is;
  others = (others_split (names_of view) on.more after_long (subst (λ (events : List Event). AreOfOthers (names_of view) events) on.rest others)).0;
}

pub one_line : (first second new_first new_second : SeatView) → AreMet first second new_first new_second → AreInOneLine first second
one_line first second new_first new_second met =
    elim (beginnings first.seen second.seen met.after_first.between met.after_second.between (sym met.after_first.is ∙ met.after_second.is)) [
      | inl on ↦ inl (continues_to first second.seen met.after_second.between met.after_first.between met.after_first.others on)
      | inr on ↦ inr (continues_to second first.seen met.after_first.between met.after_second.between met.after_second.others on)
    ]

-- a seat's own calls in a history that continues what it has seen are those that it has seen
own_kept : (view : SeatView) (history : List Event) → Continues view history → events_of (names_of view) history ≡ mine view
own_kept view history on =
    ap (λ (events : List Event). events_of (names_of view) events) on.is ∙ filter-append (is_by (names_of view)) view.seen on.between
    ∙ ap (λ (events : List Event). mine view ++ events) on.others ∙ append-nil (mine view)

pub in_real_time : AreInRealTime
in_real_time other old new call before called after = elim after [
  | inl on ↦ (on.between, on.is)
  | inr on ↦
      let goes = called.goes_on in
      let own = event_of old call ∷ [] in
      let longer : length new.seen ≡ (length old.seen + length called.between) + 1 =
      ap length goes.seen_is ∙ length-append (old.seen ++ called.between) own ∙ ap (λ (n : ℕ). n + 1) (length-append old.seen called.between) in
      let beyond : length other.seen ≡ length new.seen + length on.between = ap length on.is ∙ length-append new.seen on.between in
      absurd (elim before [
        | inl was ↦ omega (arith, longer, beyond, ap length was.is ∙ length-append other.seen was.between)
        | inr was ↦
            let same : events_of (names_of new) other.seen ≡ events_of (names_of old) other.seen = ap (λ (nameds : List Named). events_of (map (λ named. named.name) nameds) other.seen) goes.names_are in
            let count : length (mine new) ≡ length (mine old) = ap length (sym (own_kept new other.seen on) ∙ same ∙ own_kept old other.seen was) in
            omega (arith, count, ap length goes.mine_is ∙ length-append (mine old) own)
      ])
]
