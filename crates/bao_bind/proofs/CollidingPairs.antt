-- Pairs that are found.
use Rattle.std.proofs.Common.{◌≡◌, ◌≢◌, List, None, Some, Option, Bool, true, false, refl, sym, ap, subst, ◌∙◌}
use Rattle.std.specs.Prelude.{Contains, IsTrue, not}
use Rattle.b3word.specs.declared.input.Input.{Input}
use Rattle.b3word.specs.Compression.{cv}
use Rattle.bao_check.specs.Inputs.{Names}
use Rattle.bao_bind.specs.declared.pair.Pair.{Pair}
use Rattle.bao_bind.specs.Search.{Finds}

pub not_false : (b : Bool) → not b ≡ false → b ≡ true
not_false true h = refl
not_false false h = cc

-- what a test of a fact tells
pub told : {P : Type 0} (b : Bool) → ((IsTrue b → P) × (P → IsTrue b)) → b ≡ true → P
told true tells is = tells.0 refl
told false tells is = cc

pub told_not : {P : Type 0} (b : Bool) → ((IsTrue b → P) × (P → IsTrue b)) → b ≡ false → P → ⊥
told_not true tells is p = cc
told_not false tells is p = let bad : false ≡ true = tells.1 p in cc

-- two inputs that are made in two ways
pub Names-by : (ours theirs : List Input) (x y our their : Input) → x ≡ our → y ≡ their → Contains ours our → Contains theirs their → cv our ≡ cv their → our ≢ their
    → Names ours theirs x y
Names-by ours theirs x y our their x_is y_is our_there their_there same differ = record {
  our = subst (Contains ours) (sym x_is) our_there;
  their = subst (Contains theirs) (sym y_is) their_there;
  differ = λ e. differ (sym x_is ∙ e ∙ y_is);
  same = ap cv x_is ∙ same ∙ ap cv (sym y_is);
}

-- what is found in lists is found in larger ones
pub Finds-within : (ours theirs more others : List Input) (P Q : Type 0) (r : Option Pair) → ((x : Input) → Contains ours x → Contains more x)
    → ((y : Input) → Contains theirs y → Contains others y) → (P → Q) → Finds ours theirs P r → Finds more others Q r
Finds-within ours theirs more others P Q None left right next found = next found
Finds-within ours theirs more others P Q (Some pair) left right next found =
    record { our = left pair.ours found.our; their = right pair.theirs found.their; differ = found.differ; same = found.same }
