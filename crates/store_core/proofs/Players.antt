-- Players in a list.
use Rattle.std.proofs.lemmas.Bool.Decides.{nat_tests}
use Rattle.std.proofs.Common.{◌≡◌, ◌≢◌, ℕ, zero, suc, ◌<◌, List, [], ◌∷◌, length, get_or, remove, None, Some, refl, sym, ◌∙◌, arith, eq-eqb}
use Rattle.std.proofs.lemmas.Bool.{ne_eqb}
use Rattle.store_core.specs.declared.schedule.Player.{Player}
use Rattle.store_core.specs.ScheduleRuns.{player_in}

-- the first with its number is the seat's
pub player_found : (players : List Player) (i n : ℕ) (d : Player) → i < length players → ((j : ℕ) → j < i → (get_or players j d).number ≢ n)
    → (get_or players i d).number ≡ n → player_in players n ≡ Some (get_or players i d)
player_found [] i n d below others is = absurd (omega arith)
player_found (p ∷ players) zero n d below others is = rw (eq-eqb p.number n is) refl
player_found (p ∷ players) (suc i) n d below others is =
    rw (ne_eqb p.number n (others 0 (omega arith))) (player_found players i n d (omega arith) (λ j h. others (suc j) (omega arith)) is)

pub player_none : (players : List Player) (n : ℕ) (d : Player) → ((j : ℕ) → j < length players → (get_or players j d).number ≢ n) → player_in players n ≡ None
player_none [] n d others = refl
player_none (p ∷ players) n d others = rw (ne_eqb p.number n (others 0 (omega arith))) (player_none players n d (λ j h. others (suc j) (omega arith)))

-- the others are found without it
pub player_rest : (players : List Player) (i n k : ℕ) (d : Player) → k ≢ n → (get_or players i d).number ≡ n → i < length players
    → player_in (remove players i) k ≡ player_in players k
player_rest [] i n k d apart is below = absurd (omega arith)
player_rest (p ∷ players) zero n k d apart is below = sym (rw (ne_eqb p.number k (λ same. apart (sym same ∙ is))) refl)
player_rest (p ∷ players) (suc i) n k d apart is below = grind (arith, nat_tests, player_rest players i n k d apart is)
