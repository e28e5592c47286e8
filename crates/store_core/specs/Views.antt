-- What a seat knows, and how seats split and join.
use Rattle.std.specs.Prelude.{◌≡◌, ℕ, ◌+◌, ◌/◌, ◌==◌, Bool, false, not, ◌||◌, if◌then◌else◌, List, [], ◌∷◌, ◌++◌, map, filter, Option, None, Some}
use Rattle.store_core.specs.declared.history.Call.{Call}
use Rattle.store_core.specs.declared.history.Call.TheVariants.{Take, Give, Commit, Settle, Read, Length, Parents, Serve}
use Rattle.store_core.specs.declared.history.Event.{Event}
use Rattle.store_core.specs.declared.view.Boundaries.{Boundaries}
use Rattle.store_core.specs.declared.view.Named.{Named}
use Rattle.store_core.specs.declared.view.SeatView.{SeatView}
use Rattle.store_core.specs.declared.view.StoredWord.{StoredWord}
use Rattle.store_core.specs.Masks.{in_mask}
use Rattle.store_core.specs.Names.{Name, name_le}
use Rattle.store_core.specs.States.{claims}
use Rattle.store_core.specs.Histories.{AreOfOthers, events_of, state_after}

-- whether a boundary is in this list
abbrev pub is_boundary : List Boundaries → ℕ → Bool
is_boundary [] m = false
is_boundary (b ∷ rest) m = in_mask b.group b.mask m || is_boundary rest m

-- whether the seat is storing the parent of a boundary
abbrev pub is_storing : SeatView → ℕ → Bool
is_storing view m = is_boundary view.storing m

abbrev pub names_of : SeatView → List Name
names_of view = map (λ named. named.name) view.names

-- the seat's own events, in order, among all that it has seen
abbrev pub mine : SeatView → List Event
mine view = events_of (names_of view) view.seen

-- whether the seat claims a chunk, after all that it has seen
abbrev pub seat_claims : SeatView → ℕ → Bool
seat_claims view c = claims (names_of view) (state_after view.seen) c

-- the word that was stored last under a number
abbrev pub stored : List StoredWord → ℕ → Option ℕ
stored [] number = None
stored (w ∷ words) number = if w.number == number then Some w.value else stored words number

-- the stored words, without those of the chunks in a group's mask
abbrev pub without_chunks : ℕ → ℕ → List StoredWord → List StoredWord
without_chunks group mask words = filter (λ w. not (in_mask group mask (w.number / 129))) words

-- the stored words that still count after a call of the seat: those of chunks whose claims end don't
abbrev pub written_after : Call → List StoredWord → List StoredWord
written_after (Take group want granted) words = words
written_after (Give group mask given) words = without_chunks group given words
written_after (Commit group piece committed) words = without_chunks group committed words
written_after (Settle piece answer) words = words
written_after (Read at len bytes) words = words
written_after (Length recorded) words = words
written_after (Parents group piece answer) words = words
written_after (Serve start len answer) words = words

-- A split increments the count of the least name, which comes first, and changes nothing else of the seat.
abbrev pub raise_least : List Named → List Named
raise_least [] = []
raise_least (named ∷ names) = record named { splits = named.splits + 1 } ∷ names

abbrev pub split_first : SeatView → SeatView
split_first view = record view { names = raise_least view.names }

-- The new seat has seen the same history. Its one name, the least name followed by the count, is new, so it has
-- neither claims nor calls.
abbrev pub new_names : List Named → List Named
new_names [] = []
new_names (named ∷ names) = record { name = named.name ++ named.splits ∷ []; splits = 0 } ∷ []

abbrev pub split_second : SeatView → SeatView
split_second view = record { fixed = view.fixed; names = new_names view.names; seen = view.seen; written = []; storing = []; parent_words = [] }

-- a name with its count inserted into others, in dictionary order
abbrev pub put_name : Named → List Named → List Named
put_name named [] = named ∷ []
put_name named (other ∷ others) = if name_le named.name other.name then named ∷ other ∷ others else other ∷ put_name named others

abbrev pub merge_names : List Named → List Named → List Named
merge_names [] others = others
merge_names (named ∷ names) others = put_name named (merge_names names others)

-- the history begins with all that a seat has seen, and what follows is by others
pub record Continues (view : SeatView) (history : List Event) : Type 0 where
  pub between : List Event
  pub is : history ≡ view.seen ++ between
  pub others : AreOfOthers (names_of view) between

-- Two seats join into one with the names and stored words of both, and so with the claims of both. The history
-- that it has seen begins with what each had seen, and has no other event of either, so each call of either is
-- in it once, in order.
pub record IsJoined (first second joined : SeatView) : Type 0 where
  pub fixed_first : joined.fixed ≡ first.fixed
  pub fixed_second : joined.fixed ≡ second.fixed
  pub names_are : joined.names ≡ merge_names first.names second.names
  pub after_first : Continues first joined.seen
  pub after_second : Continues second joined.seen
  pub written_are : joined.written ≡ first.written ++ second.written
  pub storing_are : joined.storing ≡ first.storing ++ second.storing
  pub parent_words_are : joined.parent_words ≡ first.parent_words ++ second.parent_words
