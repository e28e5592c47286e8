-- What inputs have in common that are equal once they are marked.
use Rattle.std.proofs.Common.{◌≡◌, false, true, sym, ◌∙◌}
use Rattle.std.specs.Prelude.{Bool}
use Rattle.b3word.specs.declared.input.Input.{Input}
use Rattle.b3tree.proofs.InputFlags.{low, rooted_low}
use Rattle.bao_check.specs.Inputs.{marked}

-- what two inputs have in common that are equal but for ROOT
pub record SameParts (x y : Input) : Type 0 where
  pub h : x.h ≡ y.h
  pub m : x.m ≡ y.m
  pub t : x.t ≡ y.t
  pub b : x.b ≡ y.b
  pub low : low x ≡ low y

pub same_parts : (top : Bool) (x y : Input) → marked top x ≡ marked top y → SameParts x y
same_parts false x y e = record { h = λ i. (e i).h; m = λ i. (e i).m; t = λ i. (e i).t; b = λ i. (e i).b; low = λ i. low (e i) }
same_parts true x y e = record {
  h = λ i. (e i).h;
  m = λ i. (e i).m;
  t = λ i. (e i).t;
  b = λ i. (e i).b;
  low = sym (rooted_low x) ∙ (λ i. low (e i)) ∙ rooted_low y;
}
