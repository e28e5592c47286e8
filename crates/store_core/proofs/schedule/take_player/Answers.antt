use Rattle.std.proofs.lemmas.Bool.Decides.{nat_tests}
use Rattle.std.proofs.Common.{◌≡◌, ℕ, ◌<◌, List, Option, None, Some, length, get_or, remove, refl, sym, ap, subst, ◌∙◌, arith}
use Rattle.std.proofs.lemmas.List.{get_or_read}
use Rattle.store_core.specs.declared.schedule.Player.{Player}
use Rattle.store_core.specs.ScheduleRuns.{IsTakenPlayer, player_in}
use Rattle.store_core.proofs.Players.{player_found, player_none, player_rest}
use Rattle.store_core.proofs.schedule.take_player.Goals as goal

-- the player that the code looks at, in the list at hand
at_hand : (now first : List Player) (i n : ℕ) (x d : Player) → now ≡ first → i < length now → x ≡ get_or now i x → x.number ≡ n → (get_or first i d).number ≡ n
at_hand now first i n x d e below is same = grind (arith, nat_tests, get_or_read)

pub returns-then-index-number-clause-is : goal.returns-then-index-number-clause-is
returns-then-index-number-clause-is c =
    let first : List Player = c.args.players.now.items in
    let r : Player = c.remove.result in
    let inside : c.loop-i.i < length c.loop-i.players.items = omega arith in
    let below : c.loop-i.i < length first = subst (λ (xs : List Player). c.loop-i.i < length xs) c.loop-i.invariant.0 inside in
    let found : player_in first c.args.number ≡ Some (get_or first c.loop-i.i r) =
    player_found first c.loop-i.i c.args.number r below (λ j h. c.loop-i.invariant.1 j r h)
    (at_hand c.loop-i.players.items first c.loop-i.i c.args.number c.index.result.now r c.loop-i.invariant.0 inside c.index.ensures c.if-index-number.true) in
    subst (λ (o : Option Player). IsTakenPlayer o r) (sym found) (c.remove.ensures.value ∙ ap (λ (xs : List Player). get_or xs c.loop-i.i r) c.loop-i.invariant.0)

pub returns-then-index-number-clause-others : goal.returns-then-index-number-clause-others
returns-then-index-number-clause-others c = λ k apart.
    let first : List Player = c.args.players.now.items in
    let r : Player = c.remove.result in
    let inside : c.loop-i.i < length c.loop-i.players.items = omega arith in
    let below : c.loop-i.i < length first = subst (λ (xs : List Player). c.loop-i.i < length xs) c.loop-i.invariant.0 inside in
    ap (λ (xs : List Player). player_in xs k) (c.remove.ensures.items ∙ ap (λ (xs : List Player). remove xs c.loop-i.i) c.loop-i.invariant.0)
    ∙ player_rest first c.loop-i.i c.args.number k r apart
    (at_hand c.loop-i.players.items first c.loop-i.i c.args.number c.index.result.now r c.loop-i.invariant.0 inside c.index.ensures c.if-index-number.true) below

pub returns-clause-is : goal.returns-clause-is
returns-clause-is c =
    let first : List Player = c.args.players.now.items in
    let d : Player = record { number = c.args.number; piece = None; reading = None } in
    let none : player_in first c.args.number ≡ None =
    player_none first c.args.number d (λ j h. c.loop-i.invariant.1 j d (omega (arith, h, ap length c.loop-i.invariant.0))) in
    subst (λ (o : Option Player). IsTakenPlayer o d) (sym none) (refl, refl)
