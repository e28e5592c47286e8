-- What a split and a join keep.
use Rattle.std.proofs.lemmas.Bool.Decides.{nat_tests}
use Rattle.std.proofs.Common.{arith, ◌≡◌, ℕ, Bool, ◌||◌, List, [], ◌∷◌, map, Option, None, Some, refl, ap, ◌∙◌, append-nil}
use Rattle.std.proofs.lemmas.List.Elements.{filter-append}
use Rattle.holders.specs.declared.fixed.Fixed.{Fixed}
use Rattle.store_core.specs.declared.history.Event.{Event}
use Rattle.store_core.specs.declared.view.Named.{Named}
use Rattle.store_core.specs.declared.view.SeatView.{SeatView}
use Rattle.store_core.specs.Histories.{IsLegal, events_of, state_after}
use Rattle.store_core.specs.Laws.{JoinKeeps, SplitKeeps}
use Rattle.store_core.specs.Names.{Name, has_name, same_name}
use Rattle.store_core.specs.States.{claims, is_among}
use Rattle.store_core.specs.Views.{Continues, merge_names, mine, names_of, put_name, raise_least, seat_claims}
use Rattle.store_core.proofs.Lasting.{claims_last}

-- the names of entries
abbrev pub plain : List Named → List Name
plain names = map (λ named. named.name) names

raised : (names : List Named) → plain (raise_least names) ≡ plain names
raised names = grind (arith, nat_tests)

pub split_keeps : SplitKeeps
split_keeps view = raised view.names

pub put-has : (named : Named) (others : List Named) (name : Name)
    → has_name (plain (put_name named others)) name ≡ (same_name name named.name || has_name (plain others) name)
put-has named [] name = refl
put-has named (other ∷ others) name = grind (arith, nat_tests, put-has named others name)

pub merge-has : (ours theirs : List Named) (name : Name)
    → has_name (plain (merge_names ours theirs)) name ≡ (has_name (plain ours) name || has_name (plain theirs) name)
merge-has [] theirs name = refl
merge-has (named ∷ ours) theirs name = grind (arith, nat_tests, put-has, merge-has ours theirs name)

-- what follows is of others, so a seat's own calls are the same
pub continued : (view : SeatView) (history : List Event) → Continues view history → events_of (names_of view) history ≡ mine view
continued view history k = grind (arith, nat_tests, filter-append, append-nil)

-- and so are its claims
pub claims_continued : (fixed : Fixed) (view : SeatView) (history : List Event) → Continues view history → IsLegal fixed history
    → (c : ℕ) → claims (names_of view) (state_after history) c ≡ seat_claims view c
claims_continued fixed view history k legal c = grind (arith, nat_tests, claims_last)

among_either : (ours theirs both : List Name) (o : Option Name) → ((name : Name) → has_name both name ≡ (has_name ours name || has_name theirs name))
    → is_among both o ≡ (is_among ours o || is_among theirs o)
among_either ours theirs both None h = refl
among_either ours theirs both (Some name) h = h name

pub join_keeps : JoinKeeps
join_keeps first second joined is =
    let names : (name : Name) → has_name (names_of joined) name ≡ (has_name (names_of first) name || has_name (names_of second) name) =
    λ name. ap (λ (ns : List Named). has_name (plain ns) name) is.names_are ∙ merge-has first.names second.names name in (
      names,
      continued first joined.seen is.after_first,
      continued second joined.seen is.after_second,
      λ legal c.
          among_either (names_of first) (names_of second) (names_of joined) ((state_after joined.seen).claim c) names
          ∙ ap (λ (b : Bool). b || claims (names_of second) (state_after joined.seen) c) (claims_continued joined.fixed first joined.seen is.after_first legal c)
          ∙ ap (λ (b : Bool). seat_claims first c || b) (claims_continued joined.fixed second joined.seen is.after_second legal c),
    )
