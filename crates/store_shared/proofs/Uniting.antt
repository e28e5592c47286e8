-- A joined seat is one seat of the one-thread store, once the claims of the one moved to the other.
use Rattle.std.proofs.lemmas.Bool.Decides.{nat_tests}
use Rattle.std.proofs.Common.{◌≡◌, ◌≢◌, ℕ, zero, suc, ◌/◌, ◌<◌, ◌≤◌, ◌==◌, Bool, false, ◌||◌, Option, None, Some, is_some, option_map, refl, sym, ap, ◌∙◌, arith}
use Rattle.std.proofs.lemmas.Bool.{ne_eqb}
use Rattle.store_core.specs.Laws.{IsSound}
use Rattle.holders.specs.Room.{groups}
use Rattle.store_core.specs.Histories.{state_after}
use Rattle.store_core.specs.Names.{Name, has_name, least_name}
use Rattle.store_core.proofs.Lasting.{legal_is_sound}
use Rattle.store_shared.specs.Partner.{JoinedCountsAsOne, Numbering, OthersCountAsBefore, all_moved}

-- a name of another seat stays so
others_stay : (number : Numbering) (n from to c : ℕ) (name : Name) → (number c name == from) ≡ false → all_moved number n from to c name ≡ number c name
others_stay number zero from to c name other = refl
others_stay number (suc n) from to c name other = let before = others_stay number n from to c name other in grind (arith, nat_tests)

-- so does a name at a chunk of another group
later_stay : (number : Numbering) (n from to c : ℕ) (name : Name) → n ≤ c / 64 → all_moved number n from to c name ≡ number c name
later_stay number zero from to c name late = refl
later_stay number (suc n) from to c name late = let before = later_stay number n from to c name in grind (arith, nat_tests)

-- and one of the seat whose claims moved becomes the other seat's
its_move : (number : Numbering) (n from to c : ℕ) (name : Name) → number c name ≡ from → c / 64 < n → all_moved number n from to c name ≡ to
its_move number zero from to c name is low = absurd (omega (arith, low))
its_move number (suc n) from to c name is low =
    let before = its_move number n from to c name is in
    let still = later_stay number n from to c name in grind (arith, nat_tests)

-- another seat's least name is left, and so is whose a claim is
least_left : (number : Numbering) (n from to c : ℕ) (o : Option Name) (own : ℕ) → own ≢ from → option_map (number c) o ≡ Some own
    → option_map (all_moved number n from to c) o ≡ Some own
least_left number n from to c None own differ is = cc
least_left number n from to c (Some name) own differ is =
    let its : number c name ≡ own = cc in
    let other : (number c name == from) ≡ false = ne_eqb (number c name) from (λ e. differ (sym its ∙ e)) in
    ap (λ (k : ℕ). Some k) (others_stay number n from to c name other ∙ its)

own_left : (number : Numbering) (n from to c : ℕ) (name : Name) (own : ℕ) → own ≢ from → own ≢ to → c / 64 < n
    → (number c name == own) ≡ (all_moved number n from to c name == own)
own_left number n from to c name own differ also low =
    let stays = others_stay number n from to c name in
    let moves = λ (was : number c name ≡ from). its_move number n from to c name was low in grind (arith, nat_tests)

-- whose a claim is after the move
own_both : (number : Numbering) (n from to c : ℕ) (name : Name) (ours theirs : Bool) → c / 64 < n → ours ≡ (number c name == to) → theirs ≡ (number c name == from)
    → (ours || theirs) ≡ (all_moved number n from to c name == to)
own_both number n from to c name ours theirs low our their =
    let stays = others_stay number n from to c name in
    let moves = λ (was : number c name ≡ from). its_move number n from to c name was low in grind (arith, nat_tests)

pub joined_counts_as_one : JoinedCountsAsOne
joined_counts_as_one fixed history number ours theirs joined seat other legal one two differ names least = record {
  least = λ c.
      ap (λ (o : Option Name). option_map (all_moved number (groups fixed) other seat c) o) least
      ∙ least_left number (groups fixed) other seat c (least_name ours) seat differ (one.least c);
  own = λ c name is.
      let sound : IsSound fixed (state_after history) = legal_is_sound fixed history legal in
      let below : c < fixed.capacity = sound.claimed_below c (ap (λ (o : Option Name). is_some o) is) in
      let low : c / 64 < groups fixed = omega (arith, below) in
      names name ∙ own_both number (groups fixed) other seat c name (has_name ours name) (has_name theirs name) low (one.own c name is) (two.own c name is);
}

pub others_count_as_before : OthersCountAsBefore
others_count_as_before fixed history number who seat other own legal is also differ = record {
  least = λ c. least_left number (groups fixed) other seat c (least_name who) own differ (is.least c);
  own = λ c name claimed.
      let sound : IsSound fixed (state_after history) = legal_is_sound fixed history legal in
      let below : c < fixed.capacity = sound.claimed_below c (ap (λ (o : Option Name). is_some o) claimed) in
      is.own c name claimed ∙ own_left number (groups fixed) other seat c name own differ also (omega (arith, below));
}
