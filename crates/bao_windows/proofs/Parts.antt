-- What comes of a part that is asked for.
use Rattle.std.proofs.Common.{◌≡◌, ◌⊎◌, ℕ, Bool, true, false, ◌<◌, List, length, get_or, IfOk, IfSome, Result, Ok, Err, Option, None, Some, slice_get, ◌∙◌, sym, ap, subst, inl, inr, refl}
use Rattle.std.proofs.lemmas.Option.{slice_get-get_or}
use Rattle.b3tree.specs.Hashing.{hash}
use Rattle.b3tree.specs.Valid.{AreBytes}
use Rattle.b3tree.specs.declared.mode.Mode.{Mode}
use Rattle.b3tree.specs.declared.values.Cv.{Cv}
use Rattle.bao_check.specs.Accepted.{IsAccepted}
use Rattle.bao_check.specs.Checked.{HoldsLast, piece_claimed, piece_mode, piece_nodes, piece_places, piece_root, piece_text}
use Rattle.bao_check.specs.Inputs.{NamesCollision}
use Rattle.bao_check.specs.Outline.{outline_text}
use Rattle.bao_check.specs.Tail.{tail_piece}
use Rattle.bao_check.specs.declared.checked.Checked.{Checked}
use Rattle.bao_check.specs.declared.tail.Tail.{Tail}
use Rattle.bao_check.proofs.BesidePlaces.{made-claimed}
use Rattle.holders.specs.Forms.{IsLengthOf}
use Rattle.holders.specs.Pieces.{EndsBlob, length_of, nodes_of, piece_of}
use Rattle.holders.specs.declared.form.Form.{Form}
use Rattle.holders.specs.declared.form.Form.TheVariants.{Slices, Bare}
use Rattle.holders.specs.declared.piece.Piece.{Piece}
use Rattle.bao_windows.proofs.Making.{handed_in}
use Rattle.bao_windows.proofs.Pieces.{added_value, length_each, some_is, takes_of}
use Rattle.bao_windows.specs.declared.wanted.Wanted.{Wanted}
use Rattle.bao_windows.specs.Asked.{IsAcceptedIn, IsAnswer, IsSound, made_in, mode_in, root_in}
use Rattle.bao_windows.specs.Available.{CertifiesEnd, GaveEnd, HasNot, HasRefused, HasRefusedEnd, IsAcceptedAs, IsEndOf, IsFitting, IsNoEnd, Refuses, RefusesEnd, end_start, gives_in, span_in}
use Rattle.bao_windows.specs.Windows.{IsAddedValue, IsFrom, IsLengthOfEach, IsValueIn, LacksChunk, Takes, TakesOf, fixed_for}

-- the source that is read at a place
pub there_at : {S : Type 0} (sources : List S) (place : ℕ) (source : S) → place < length sources → source ≡ get_or sources place source → slice_get sources place ≡ Some source
there_at {S = S} sources place source below is = slice_get-get_or sources place source below ∙ ap (λ (s : S). Some s) (sym is)

pub if_ok : {T E : Type 0} (r : Result T E) (P Q : T → Type 0) → ((x : T) → P x → Q x) → IfOk r P → IfOk r Q
if_ok (Ok x) P Q f p = f x p
if_ok (Err e) P Q f p = tt

-- where the outline is of the root, it is checked under the root in the mode
mode_same : (form : Form) (wanted : Wanted) → IsFitting wanted form → mode_in form wanted ≡ wanted.mode
mode_same Slices wanted fitting = refl
mode_same (Bare outline) wanted fitting = fitting.0

root_same : (form : Form) (wanted : Wanted) → IsFitting wanted form → root_in form wanted ≡ wanted.root.0
root_same Slices wanted fitting = refl
root_same (Bare outline) wanted fitting = fitting.1

pub sound_as : (wanted : Wanted) (piece : Checked) → IsFitting wanted wanted.form → IsSound piece (mode_in wanted.form wanted) (root_in wanted.form wanted) → IsSound piece wanted.mode wanted.root.0
sound_as wanted piece fitting sound = record {
  mode_is = sound.mode_is ∙ mode_same wanted.form wanted fitting;
  root_is = sound.root_is ∙ root_same wanted.form wanted fitting;
  bytes = sound.bytes;
  accepted = sound.accepted;
}

accepted_in : (wanted : Wanted) (slice : Piece) → IsFitting wanted wanted.form → IsAcceptedAs wanted slice → IsAcceptedIn wanted slice
accepted_in wanted slice fitting accepted =
    subst (λ (m : Mode). IsAccepted m (root_in wanted.form wanted) slice.text (nodes_of slice)) (sym (mode_same wanted.form wanted fitting))
    (subst (λ (r : List ℕ). IsAccepted wanted.mode r slice.text (nodes_of slice)) (sym (root_same wanted.form wanted fitting)) accepted)

-- a piece that is the slice is accepted as it
pub accepted_slice : (mode : Mode) (root : List ℕ) (slice : Piece) (piece : Checked) → piece_of 0 piece ≡ slice → IsSound piece mode root → IsAccepted mode root slice.text (nodes_of slice)
accepted_slice mode root slice piece is sound =
    subst (λ (p : Piece). IsAccepted mode root p.text (nodes_of p)) is
    (subst (λ (m : Mode). IsAccepted m root (piece_text piece) (piece_nodes piece)) sound.mode_is
    (subst (λ (r : List ℕ). IsAccepted (piece_mode piece) r (piece_text piece) (piece_nodes piece)) sound.root_is sound.accepted))

-- a slice that is made beside an outline claims its length
claims_length : (form : Form) (at : ℕ) (text : List ℕ) → IsLengthOf form (length_of (made_in form at 1 text))
claims_length Slices at text = tt
claims_length (Bare outline) at text = sym (made-claimed (outline_text outline.now) at (span_in (Bare outline) at 1) text outline.now.accepted.long)

module _ {S : Type 0} (contents : S → Option (List ℕ)) (faultless : S → Type 0) (wanted : Wanted) (sources : List S) (place : ℕ) (source : S) (at span : ℕ) (found : Option Checked)
    (fitting : IsFitting wanted wanted.form) (there : slice_get sources place ≡ Some source) (answer : IsAnswer contents faultless wanted source at span found) where
  -- the slice that was made
  abbrev slice : Piece
  slice = made_in wanted.form at span answer.text

  found_is : (piece : Checked) → found ≡ Some piece → (piece_of 0 piece ≡ slice) × IsSound piece wanted.mode wanted.root.0
  found_is piece is =
      let it = subst (λ (o : Option Checked). IfSome o (λ p. (piece_of 0 p ≡ slice) × IsSound p (mode_in wanted.form wanted) (root_in wanted.form wanted))) is answer.some in
      (it.0, sound_as wanted piece fitting it.1)

  came_from : (piece : Checked) → found ≡ Some piece → IsFrom wanted contents faultless sources (piece_of 0 piece)
  came_from piece is =
      subst (λ (p : Piece). IsFrom wanted contents faultless sources p) (sym (found_is piece is).0)
      (handed_in wanted.form contents faultless sources place source at (span_in wanted.form at span) answer.text there answer.given)

  -- what was refused, for this reason
  refused_by : (len : ℕ) → HasNot wanted slice at len → Refuses contents faultless wanted sources at len span place
  refused_by len why _ _ other same =
      subst (λ (s : S). HasRefused wanted.form contents faultless wanted s at len span) (some_is source other (sym there ∙ same)) (answer.text, answer.bytes, answer.given, why)

  -- nothing was found
  pub refused_none : (len : ℕ) → found ≡ None → Refuses contents faultless wanted sources at len span place
  refused_none len none = refused_by len (inl (λ accepted. answer.none none (accepted_in wanted slice fitting accepted)))

  -- what is taken of a piece that was found
  pub took_found : (piece : Checked) (took : Bool) (len : ℕ) (old new : List ℕ) → found ≡ Some piece → TakesOf took piece at len old new
      → Takes took (IsFrom wanted contents faultless sources) (fixed_for wanted) at len old new
  took_found piece took len old new is takes =
      takes_of took (IsFrom wanted contents faultless sources) wanted.mode wanted.root piece at len old new (found_is piece is).1 (came_from piece is) takes

  -- and the value that it has of that
  pub value_found : (piece : Checked) (took : Bool) (len : ℕ) (old new : List ℕ) (value : Option Cv) → found ≡ Some piece → IfSome value (IsValueIn piece at len) → TakesOf took piece at len old new
      → took ≡ true → IfSome value (IsAddedValue wanted.mode at old new)
  value_found piece took len old new value is = added_value piece wanted.mode at len old new value took (found_is piece is).1.mode_is

  pub refused_found : (piece : Checked) (took : Bool) (len : ℕ) (old new : List ℕ) → found ≡ Some piece → TakesOf took piece at len old new → took ≡ false
      → Refuses contents faultless wanted sources at len span place
  refused_found piece true len old new is takes none = let wrong : true ≡ false = none in cc
  refused_found piece false len old new is takes none =
      let it = found_is piece is in
      refused_by len (inr (subst (λ (p : Piece). AreBytes p.text) it.0 it.1.bytes, subst (λ (p : Piece). LacksChunk p at len) it.0 takes.1))

module _ {S : Type 0} (contents : S → Option (List ℕ)) (faultless : S → Type 0) (wanted : Wanted) (sources : List S) (place : ℕ) (source : S) (at : ℕ) (found : Option Checked)
    (fitting : IsFitting wanted wanted.form) (there : slice_get sources place ≡ Some source) (is_end : at ≡ end_start wanted.form)
    (answer : IsAnswer contents faultless wanted source at 1 found) where
  end_by : (P : Piece → Type 0) → P (made_in wanted.form at 1 answer.text) → GaveEnd wanted.form contents faultless source P
  end_by P p =
      subst (λ (q : ℕ). (text : List ℕ) × gives_in wanted.form contents faultless source q (span_in wanted.form q 1) text × P (made_in wanted.form q 1 text)) is_end
      (answer.text, answer.given, p)

  no_end : IsNoEnd wanted (made_in wanted.form at 1 answer.text) → RefusesEnd contents faultless wanted sources place
  no_end why _ other same =
      subst (λ (s : S). HasRefusedEnd wanted.form contents faultless wanted s) (some_is source other (sym there ∙ same)) (end_by (IsNoEnd wanted) why)

  pub end_none : found ≡ None → RefusesEnd contents faultless wanted sources place
  end_none none = no_end (inl (λ accepted. answer.none none (accepted_in wanted (made_in wanted.form at 1 answer.text) fitting accepted)))

  pub end_lacks : (piece : Checked) → found ≡ Some piece → (HoldsLast piece → ⊥) → RefusesEnd contents faultless wanted sources place
  end_lacks piece is lacks =
      let it = found_is contents faultless wanted sources place source at 1 found fitting there answer piece is in
      no_end (inr (λ ends. lacks (subst (λ (p : Piece). EndsBlob p) (sym it.0) ends)))

  pub end_found : (piece : Checked) (tail : Tail) (l : ℕ) → found ≡ Some piece → HoldsLast piece → tail_piece tail ≡ piece → l ≡ piece_claimed (tail_piece tail)
      → CertifiesEnd contents faultless wanted sources place l
  end_found piece tail l is last same value =
      let it = found_is contents faultless wanted sources place source at 1 found fitting there answer piece is in
      let slice : Piece = made_in wanted.form at 1 answer.text in (
        source,
        there,
        fitting,
        end_by (IsEndOf wanted l) (
          accepted_slice wanted.mode wanted.root.0 slice piece it.0 it.1,
          subst (λ (p : Piece). EndsBlob p) it.0 last,
          value ∙ ap (λ (p : Checked). piece_claimed p) same ∙ ap (λ (p : Piece). length_of p) it.0,
        ),
      )

  pub end_each : (piece : Checked) (tail : Tail) (l : ℕ) → found ≡ Some piece → tail_piece tail ≡ piece
      → ((blob : List ℕ) → AreBytes blob → hash (piece_mode (tail_piece tail)) blob ≡ piece_root (tail_piece tail)
      → (l ≡ length blob) ⊎ NamesCollision (piece_mode (tail_piece tail)) blob (piece_text (tail_piece tail)) (piece_places (tail_piece tail)))
      → IsLengthOfEach (IsFrom wanted contents faultless sources) (fixed_for wanted) l
  end_each piece tail l is same binds =
      length_each (IsFrom wanted contents faultless sources) wanted.mode wanted.root piece tail l (found_is contents faultless wanted sources place source at 1 found fitting there answer piece is).1
      (came_from contents faultless wanted sources place source at 1 found fitting there answer piece is) same binds

  pub end_of : (piece : Checked) (tail : Tail) (l : ℕ) → found ≡ Some piece → tail_piece tail ≡ piece → l ≡ piece_claimed (tail_piece tail) → IsLengthOf wanted.form l
  end_of piece tail l is same value =
      let it = found_is contents faultless wanted sources place source at 1 found fitting there answer piece is in
      subst (λ (n : ℕ). IsLengthOf wanted.form n) (sym (value ∙ ap (λ (p : Checked). piece_claimed p) same ∙ ap (λ (p : Piece). length_of p) it.0))
      (claims_length wanted.form at answer.text)
