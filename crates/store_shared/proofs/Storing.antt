-- A cell is stored word by word, and a group's items one after another: chunks, or boundaries with their parents.
use Rattle.std.proofs.Common.{◌≡◌, ◌≢◌, ℕ, ◌+◌, ◌*◌, ◌/◌, ◌%◌, ◌<◌, ◌==◌, true, false, List, ◌∷◌, Option, None, Some, is_some, IsSome, Bor, refl, sym, ap, subst, ◌∙◌, arith, inl, inr, eqb-true, eq-eqb, ne_eqb}
use Rattle.std.specs.Option.{option_copied}
use Rattle.std.proofs.lemmas.Bool.{and_parts, cases_eq, false≢true}
use Rattle.holders.specs.declared.piece.Piece.{Piece}
use Rattle.store_core.specs.declared.view.SeatView.{SeatView}
use Rattle.store_core.specs.declared.view.StoredWord.{StoredWord}
use Rattle.store_core.specs.Masks.{has_bit, in_mask}
use Rattle.store_core.specs.Views.{is_storing, seat_claims, stored}
use Rattle.store_core.proofs.Putting.{in_mask_at}
use Rattle.store_steps.specs.Asks.{AreWordsStored}
use Rattle.store_steps.specs.Kinds.{Kind, Owns, bytes_in, chunk_kind, parent_kind, width, with_words, word_of, words_of}
use Rattle.store_shared.specs.StoredCells.{HasWords, HaveWords}

-- the newest word of a number counts, and words of other numbers don't hide one
stored-same : (words : List StoredWord) (number value : ℕ) → stored (record { number = number; value = value } ∷ words) number ≡ Some value
stored-same words number value = rw (eq-eqb number number refl) refl

stored-other : (words : List StoredWord) (number value other : ℕ) → number ≢ other
    → stored (record { number = number; value = value } ∷ words) other ≡ stored words other
stored-other words number value other differ = rw (ne_eqb number other differ) refl

-- two words of an item
apart : (first v w : ℕ) → v ≢ w → first + w ≢ first + v
apart first v w other e = other (omega (arith, e))

-- what is put into a view is there
got : (kind : Kind) (view : SeatView) (words : List StoredWord) → words_of kind (with_words kind view words) ≡ words
got chunk_kind view words = refl
got parent_kind view words = refl

-- and nothing else changes
put : (kind : Kind) (view : SeatView) (one other : List StoredWord) → with_words kind (with_words kind view one) other ≡ with_words kind view other
put chunk_kind view one other = refl
put parent_kind view one other = refl

pub owns_on : (kind : Kind) (old new : SeatView) (n : ℕ) → new ≡ with_words kind old (words_of kind new) → Owns kind old n → Owns kind new n
owns_on chunk_kind old new n rest own = ap (λ (v : SeatView). seat_claims v n) rest ∙ own
owns_on parent_kind old new n rest own = (ap (λ (v : SeatView). is_storing v n) rest ∙ own.0, subst (λ (v : SeatView). n < v.fixed.capacity) (sym rest) own.1)

-- no two items have a word in common
one_item : (kind : Kind) (n m v w : ℕ) → v < width kind → w < width kind → width kind * n + v ≡ width kind * m + w → n ≡ m
one_item chunk_kind n m v w low less e = omega (arith, low, less, e)
one_item parent_kind n m v w low less e = omega (arith, low, less, e)

-- the item of a bit of the mask
pub item_in : (group mask j item : ℕ) → item ≡ 64 * group + j → j < 64 → has_bit mask j ≡ true → in_mask group mask item ≡ true
item_in group mask j item at below bit = subst (λ (n : ℕ). in_mask group mask n ≡ true) (sym at) (in_mask_at group mask j below bit)

-- what is copied from an option is there where the option has something
pub there : (o : Option (Bor (List ℕ))) (bytes : Option (List ℕ)) → option_copied o ≡ bytes → is_some bytes ≡ true → IsSome o
there None bytes is some = absurd (false≢true (ap (λ (b : Option (List ℕ)). is_some b) is ∙ some))
there (Some x) bytes is some = refl

group_of : (group mask n : ℕ) → in_mask group mask n ≡ true → n / 64 ≡ group
group_of group mask n hit = eqb-true (n / 64) group (and_parts (n / 64 == group) (has_bit mask (n % 64)) hit).0

module _ (kind : Kind) where
  -- what two steps leave of a view
  rest_then : (old new later : SeatView) → new ≡ with_words kind old (words_of kind new) → later ≡ with_words kind new (words_of kind later)
      → later ≡ with_words kind old (words_of kind later)
  rest_then old new later one two =
      two ∙ ap (λ (v : SeatView). with_words kind v (words_of kind later)) one ∙ put kind old (words_of kind new) (words_of kind later)

  -- the next word
  pub word_more : (item : ℕ) (bytes : List ℕ) (w value : ℕ) (old new later : SeatView) → HasWords kind item bytes w old new → w < width kind
      → value ≡ word_of kind bytes w → later ≡ with_words kind new (record { number = width kind * item + w; value = value } ∷ words_of kind new)
      → HasWords kind item bytes (w + 1) old later
  word_more item bytes w value old new later k below value_is stores =
      let first : ℕ = width kind * item in
      let words : List StoredWord = record { number = first + w; value = value } ∷ words_of kind new in
      let there : words_of kind later ≡ words = ap (λ (v : SeatView). words_of kind v) stores ∙ got kind new words in
      let found : (number : ℕ) → stored (words_of kind later) number ≡ stored words number = λ number. ap (λ (ws : List StoredWord). stored ws number) there in
      record {
        rest = rest_then old new later k.rest (stores ∙ ap (λ (ws : List StoredWord). with_words kind new ws) (sym there));
        words = λ v h. found (first + v) ∙ elim (cases_eq v w) [
          | inl same ↦
              ap (λ (u : ℕ). stored words (first + u)) same ∙ stored-same (words_of kind new) (first + w) value
              ∙ ap (λ (x : ℕ). Some x) value_is ∙ sym (ap (λ (u : ℕ). Some (word_of kind bytes u)) same)
          | inr other ↦ stored-other (words_of kind new) (first + w) value (first + v) (apart first v w other) ∙ k.words v (omega (arith, h, other))
        ];
        others = λ number away. found number ∙ stored-other (words_of kind new) (first + w) value number (λ e. away w below (sym e)) ∙ k.others number away;
      }

  module _ (group mask : ℕ) (piece : Piece) (j : ℕ) (old new : SeatView) (k : HaveWords kind group mask piece j old new) where
    -- the words of one item more
    pub item_more : (item : ℕ) (bytes : List ℕ) (later : SeatView) → item ≡ 64 * group + j → j < 64 → bytes_in kind piece item ≡ Some bytes
        → HasWords kind item bytes (width kind) new later → HaveWords kind group mask piece (j + 1) old later
    item_more item bytes later at below there cell = record {
      rest = rest_then old new later k.rest cell.rest;
      words = λ n w bs hit low has h. elim (cases_eq n item) [
        | inl same ↦
            let both : Some bytes ≡ Some bs = sym there ∙ ap (λ (d : ℕ). bytes_in kind piece d) (sym same) ∙ has in
            let list : bytes ≡ bs = cc in
            ap (λ (d : ℕ). stored (words_of kind later) (width kind * d + w)) same ∙ cell.words w h ∙ ap (λ (xs : List ℕ). Some (word_of kind xs w)) list
        | inr other ↦
            let group_is : n / 64 ≡ group = group_of group mask n hit in
            cell.others (width kind * n + w) (λ v less e. other (one_item kind n item w v h less e)) ∙ k.words n w bs hit (omega (arith, low, other, group_is, at, below)) has h
      ];
    }

    -- an item whose bit isn't set
    pub item_none : has_bit mask j ≡ false → HaveWords kind group mask piece (j + 1) old new
    item_none none = record {
      rest = k.rest;
      words = λ n w bytes hit low has h. elim (cases_eq (n % 64) j) [
        | inl same ↦
            let set : has_bit mask (n % 64) ≡ true = (and_parts (n / 64 == group) (has_bit mask (n % 64)) hit).1 in
            absurd (false≢true (sym none ∙ ap (λ (i : ℕ). has_bit mask i) (sym same) ∙ set))
        | inr other ↦ k.words n w bytes hit (omega (arith, low, other)) has h
      ];
    }

  -- all words of a group's items are stored
  pub all_stored : (group mask : ℕ) (piece : Piece) (old new : SeatView) → HaveWords kind group mask piece 64 old new → AreWordsStored kind new group mask piece
  all_stored group mask piece old new k n w bytes hit has h = k.words n w bytes hit (omega arith) has h
