-- Outboard encodings that come in pieces answer alike.
use Rattle.std.proofs.Common.{◌≡◌, ◌↔◌, ◌⊎◌, IsOk, IfOk, inl, inr, List, ℕ, [], ◌++◌, Result, Ok, Err, OnOk, OnErr, IfErr, refl, sym, ap, subst, ◌∙◌, append-nil}
use Rattle.b3tree.specs.declared.mode.Mode.{Mode}
use Rattle.bao_check.specs.declared.fault.CheckFault.{CheckFault}
use Rattle.bao_check.specs.declared.fault.CheckFault.TheVariants.{Short, Mismatch, Trailing, Memory, Reader}
use Rattle.bao_check.specs.declared.outline.Outline.{Outline}
use Rattle.bao_check.specs.declared.feed.OutboardFeed.{OutboardFeed}
use Rattle.bao_check.specs.Accepted.{IsAccepted, outboard_nodes}
use Rattle.bao_check.specs.Faults.{IsFirstFault}
use Rattle.bao_check.specs.Outline.{IsOutline}
use Rattle.bao_check.specs.Feeds.{IsFeed, feed_mode, feed_root, feed_text}
use Rattle.bao_check.specs.Verified.{IsFaultFrom, IsGoodSoFar, IsPieceFault}
use Rattle.bao_check.proofs.Laws.{first_fault-not_accepted}
use Rattle.determined_texts.specs.Agreeing.{Agree, AgreeButFor}
use Rattle.determined_texts.specs.Texts.{SameFeed, SameOutline}
use Rattle.determined_texts.proofs.OneFault.{checks_agree, one_fault, same_outline}

-- a fault of each encoding that begins so is one of what there is
here : (mode : Mode) (root text : List ℕ) (f : CheckFault) → IsFaultFrom mode root text f → IsFirstFault mode root text (outboard_nodes text) f
here mode root text f bad = subst (λ (s : List ℕ). IsFirstFault mode root s (outboard_nodes s) f) (append-nil text) (bad [])

own : (mode : Mode) (root text : List ℕ) (f : CheckFault) → IsPieceFault mode root text f → (f ≡ Memory) ⊎ IsFirstFault mode root text (outboard_nodes text) f
own mode root text (Short at) bad = absurd bad
own mode root text (Mismatch at) bad = inr (here mode root text (Mismatch at) bad)
own mode root text (Trailing at) bad = inr (here mode root text (Trailing at) bad)
own mode root text Memory bad = inl refl
own mode root text Reader bad = absurd bad

-- bytes that are good so far are refused for lack of memory alone
only_memory : (mode : Mode) (root text : List ℕ) (f : CheckFault) → IsGoodSoFar mode root text → IsPieceFault mode root text f → f ≡ Memory
only_memory mode root text (Short at) good bad = absurd bad
only_memory mode root text (Mismatch at) (inl accepted) bad =
    absurd (first_fault-not_accepted mode root text (outboard_nodes text) (Mismatch at) (here mode root text (Mismatch at) bad) accepted)
only_memory mode root text (Mismatch at) (inr (end, short)) bad =
    let same : Short end ≡ Mismatch at = one_fault mode root text (outboard_nodes text) (Short end) (Mismatch at) short (here mode root text (Mismatch at) bad) in cc
only_memory mode root text (Trailing at) (inl accepted) bad =
    absurd (first_fault-not_accepted mode root text (outboard_nodes text) (Trailing at) (here mode root text (Trailing at) bad) accepted)
only_memory mode root text (Trailing at) (inr (end, short)) bad =
    let same : Short end ≡ Trailing at = one_fault mode root text (outboard_nodes text) (Short end) (Trailing at) short (here mode root text (Trailing at) bad) in cc
only_memory mode root text Memory good bad = refl
only_memory mode root text Reader good bad = absurd bad

both_faults : (mode : Mode) (root text : List ℕ) (e f : CheckFault) → IsPieceFault mode root text e → IsPieceFault mode root text f → (e ≡ f) ⊎ (e ≡ Memory) ⊎ (f ≡ Memory)
both_faults mode root text e f a b = elim (own mode root text e a) [
  | inl lack ↦ inr (inl lack)
  | inr first ↦
      elim (own mode root text f b) [
        | inl lack ↦ inr (inr lack)
        | inr also ↦ inl (one_fault mode root text (outboard_nodes text) e f first also)
      ]
]

agree : (mode : Mode) (root text : List ℕ) (r s : Result (Unit {0}) CheckFault) → OnOk r (IsGoodSoFar mode root text) → OnOk s (IsGoodSoFar mode root text)
    → IfErr r (IsPieceFault mode root text) → IfErr s (IsPieceFault mode root text) → AgreeButFor Memory (λ _ _. Unit {0}) r s
agree mode root text (Ok t) (Ok u) a b e f = tt
agree mode root text (Ok t) (Err h) a b e f = only_memory mode root text h a f
agree mode root text (Err g) (Ok u) a b e f = only_memory mode root text g b e
agree mode root text (Err g) (Err h) a b e f = both_faults mode root text g h e f

pub pushes_agree : (a b : OutboardFeed) (bytes : List ℕ) (r s : Result (Unit {0}) CheckFault) → SameFeed a b
    → OnOk r (IsGoodSoFar (feed_mode a) (feed_root a) (feed_text a ++ bytes)) → OnOk s (IsGoodSoFar (feed_mode b) (feed_root b) (feed_text b ++ bytes))
    → IfErr r (IsPieceFault (feed_mode a) (feed_root a) (feed_text a ++ bytes)) → IfErr s (IsPieceFault (feed_mode b) (feed_root b) (feed_text b ++ bytes)) → AgreeButFor Memory (λ _ _. Unit {0}) r s
pushes_agree a b bytes r s same good also bad worse =
    agree (feed_mode b) (feed_root b) (feed_text b ++ bytes) r s
    (subst (λ (T : Type 0). T) (λ i. OnOk r (IsGoodSoFar (same.mode_is i) (same.root_is i) (same.text_is i ++ bytes))) good) also
    (subst (λ (T : Type 0). T) (λ i. IfErr r (IsPieceFault (same.mode_is i) (same.root_is i) (same.text_is i ++ bytes))) bad) worse

-- of both the same has come, whatever it is called
alike : (a b x y : OutboardFeed) (s t : List ℕ) → SameFeed a b → s ≡ t → IsFeed x (feed_mode a) (feed_root a) s → IsFeed y (feed_mode b) (feed_root b) t → SameFeed x y
alike a b x y s t same e p q = record {
  mode_is = p.mode_is ∙ same.mode_is ∙ sym q.mode_is;
  root_is = p.root_is ∙ same.root_is ∙ sym q.root_is;
  text_is = p.text_is ∙ e ∙ sym q.text_is;
}

pub same_after : (a b x y : OutboardFeed) (bytes : List ℕ) (r s : Result (Unit {0}) CheckFault) → SameFeed a b → r ≡ s
    → OnOk r (IsFeed x (feed_mode a) (feed_root a) (feed_text a ++ bytes)) → OnOk s (IsFeed y (feed_mode b) (feed_root b) (feed_text b ++ bytes))
    → OnErr r (IsFeed x (feed_mode a) (feed_root a) (feed_text a)) → OnErr s (IsFeed y (feed_mode b) (feed_root b) (feed_text b)) → SameFeed x y
same_after a b x y bytes (Ok t) (Ok u) same one p q e f = alike a b x y (feed_text a ++ bytes) (feed_text b ++ bytes) same (ap (λ (s : List ℕ). s ++ bytes) same.text_is) p q
same_after a b x y bytes (Err t) (Err u) same one p q e f = alike a b x y (feed_text a) (feed_text b) same same.text_is e f
same_after a b x y bytes (Ok t) (Err u) same one p q e f = cc
same_after a b x y bytes (Err t) (Ok u) same one p q e f = cc

-- what is said of an outboard encoding that has come
pub record Said (mode : Mode) (root text : List ℕ) (r : Result Outline CheckFault) : Type 0 where
  pub accepted : IsOk r ↔ IsAccepted mode root text (outboard_nodes text)
  pub outline : IfOk r (λ outline. IsOutline outline mode root text)
  pub fault : IfErr r (λ fault. IsFirstFault mode root text (outboard_nodes text) fault)

pub outlines_agree : (a b : OutboardFeed) (r s : Result Outline CheckFault) → SameFeed a b → Said (feed_mode a) (feed_root a) (feed_text a) r
    → Said (feed_mode b) (feed_root b) (feed_text b) s → Agree SameOutline r s
outlines_agree a b r s same one other =
    let mode : Mode = feed_mode b in
    let root : List ℕ = feed_root b in
    let text : List ℕ = feed_text b in
    let also : Said mode root text r = subst (λ (T : Type 0). T) (λ i. Said (same.mode_is i) (same.root_is i) (same.text_is i) r) one in
    checks_agree (λ outline. IsOutline outline mode root text) SameOutline (IsAccepted mode root text (outboard_nodes text))
    (λ fault. IsFirstFault mode root text (outboard_nodes text) fault)
    (λ x y p q. same_outline mode root text x y p q) (λ e f p q. one_fault mode root text (outboard_nodes text) e f p q) r s also.accepted other.accepted also.outline other.outline
    also.fault other.fault
