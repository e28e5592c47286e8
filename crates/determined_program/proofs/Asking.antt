-- What a source has that is asked for, where its bytes are known.
use Rattle.std.proofs.Common.{◌≡◌, ◌⊎◌, inl, inr, ℕ, List, Option, None, Some, Result, Ok, Err, IfOk, refl, sym, ap, subst, ◌∙◌}
use Rattle.bao_check.specs.declared.checked.Checked.{Checked}
use Rattle.holders.specs.declared.piece.Piece.{Piece}
use Rattle.holders.specs.Pieces.{piece_of}
use Rattle.holders.specs.Places.{AreKnown}
use Rattle.bao_windows.proofs.Ends.{given_once}
use Rattle.bao_windows.proofs.Parts.{accepted_slice}
use Rattle.bao_windows.specs.Asked.{IsAnswer, made_in, mode_in, root_in}
use Rattle.bao_windows.specs.declared.wanted.Wanted.{Wanted}
use Rattle.determined_program.specs.Windows.{SameFound}

module _ {S : Type 0} (contents : S → Option (List ℕ)) (faultless : S → Type 0) (wanted : Wanted) (source : S) (at span : ℕ) (bytes : List ℕ) (known : AreKnown (contents source) bytes)
    (sound : faultless source) where
  abbrev Answer : Option Checked → Type 0
  Answer found = IsAnswer contents faultless wanted source at span found

  same_slice : (a b : Option Checked) (p : Answer a) (q : Answer b) → made_in wanted.form at span p.text ≡ made_in wanted.form at span q.text
  same_slice a b p q = ap (λ (text : List ℕ). made_in wanted.form at span text) (given_once wanted.form contents faultless source at _ p.text q.text bytes known sound p.given q.given)

  never : (x : Checked) → Answer (Some x) → Answer None → ⊥
  never x p q =
      q.none refl (accepted_slice (mode_in wanted.form wanted) (root_in wanted.form wanted) (made_in wanted.form at span q.text) x (p.some.0 ∙ same_slice (Some x) None p q) p.some.1)

  found_once : (a b : Option Checked) → Answer a → Answer b → SameFound a b
  found_once None None p q = tt
  found_once (Some x) None p q = never x p q
  found_once None (Some y) p q = never y q p
  found_once (Some x) (Some y) p q =
      let slice : piece_of 0 x ≡ piece_of 0 y = p.some.0 ∙ same_slice (Some x) (Some y) p q ∙ sym q.some.0 in
      record {
        mode_is = p.some.1.mode_is ∙ sym q.some.1.mode_is;
        root_is = p.some.1.root_is ∙ sym q.some.1.root_is;
        start_is = ap (λ (s : Piece). s.start) slice;
        len_is = ap (λ (s : Piece). s.len) slice;
        text_is = ap (λ (s : Piece). s.text) slice;
      }

  pub asked_once : {E : Type 0} (r s : Result (Option Checked) E) → IfOk r Answer → IfOk s Answer → IfOk r (λ a. IfOk s (λ b. SameFound a b))
  asked_once (Ok a) (Ok b) p q = found_once a b p q
  asked_once (Ok a) (Err f) p q = tt
  asked_once (Err e) s p q = tt
