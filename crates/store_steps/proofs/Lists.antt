-- Views of seats, names among them, and events of others.
use Rattle.std.proofs.lemmas.Bool.Decides.{nat_tests}
use Rattle.std.proofs.Common.{arith, ◌≡◌, ℕ, zero, suc, false, List, [], ◌∷◌, ◌++◌, refl, sym, ap, ◌∙◌, Option, is_some}
use mathlib.Core.Option.{some, some-injective, some-ne-none}
use lib.ListN.{get_elem?}
use Rattle.atomic_table.specs.Table.{Me}
use Rattle.store_core.specs.declared.history.Event.{Event}
use Rattle.store_core.specs.declared.view.SeatView.{SeatView}
use Rattle.store_core.specs.Histories.{AreOfOthers, is_by}
use Rattle.store_core.specs.Names.{Name, share_name}
use Rattle.store_core.proofs.Lasting.{others_parts}
use Rattle.store_steps.specs.Grips.{first_of}
use Rattle.std.specs.Option.{option_map}

-- the parts of a seat with one view
pub one_part : (view other : SeatView) (part : ℕ) → get_elem? (view ∷ []) part ≡ some other → (part ≡ 0) × (other ≡ view)
one_part view other zero h = (refl, sym (some-injective view other h))
one_part view other (suc part) h = absurd (some-ne-none other (sym h))

-- what is there stays so under a map
pub is_some-map : {A B : Type 0} (f : A → B) (o : Option A) → is_some (option_map f o) ≡ is_some o
is_some-map f o = grind (arith, nat_tests)

-- all events are by callers with these names
abbrev pub AreBy : List Name → List Event → Type 0
AreBy who [] = Unit {0}
AreBy who (e ∷ events) = (e.who ≡ who) × AreBy who events

pub others_by : (names who : List Name) (events : List Event) → share_name names who ≡ false → AreBy who events → AreOfOthers names events
others_by names who [] apart by = refl
others_by names who (e ∷ events) apart by =
    let not_ours : is_by names e ≡ false = ap (λ (ns : List Name). share_name names ns) by.0 ∙ apart in
    rw not_ours (others_by names who events apart by.1)

-- parts of events of others
pub others_split : (names : List Name) (first second : List Event) → AreOfOthers names (first ++ second) → AreOfOthers names first × AreOfOthers names second
others_split names [] second h = (refl, h)
others_split names (e ∷ first) second h =
    let parts = others_parts names e (first ++ second) h in
    let more = others_split names first second parts.1 in (rw parts.0 more.0, more.1)

-- the views of a seat that has one, and of one with two
pub only : (views : List SeatView) (view : SeatView) → views ≡ view ∷ [] → views ≡ first_of views ∷ []
only views view is = is ∙ ap (λ (v : SeatView). v ∷ []) (sym (ap (λ (vs : List SeatView). first_of vs) is))

pub two_of : (both ours theirs : Me Unit (List SeatView)) → both ≡ (ours.0 ++ theirs.0, ours.1) → ours.0 ≡ first_of ours.0 ∷ [] → theirs.0 ≡ first_of theirs.0 ∷ []
    → both.0 ≡ first_of ours.0 ∷ first_of theirs.0 ∷ []
two_of both ours theirs is one two =
    ap (λ (m : Me Unit (List SeatView)). m.0) is ∙ ap (λ (vs : List SeatView). vs ++ theirs.0) one ∙ ap (λ (vs : List SeatView). first_of ours.0 ∷ vs) two
