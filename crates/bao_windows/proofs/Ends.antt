-- The length that sources certify is one, where their bytes are known.
use Rattle.std.proofs.Common.{◌≡◌, ◌⊎◌, ℕ, ◌<◌, ◌^◌, List, length, Option, None, Some, slice_get, ◌∙◌, sym, subst, arith, inl, inr}
use Rattle.std.proofs.lemmas.Bool.{cases_lt}
use Rattle.holders.specs.declared.form.Form.{Form}
use Rattle.holders.specs.declared.form.Form.TheVariants.{Slices, Bare}
use Rattle.holders.specs.Places.{AreKnown, IsLost, OfBytes}
use Rattle.holders.specs.declared.piece.Piece.{Piece}
use Rattle.holders.specs.Pieces.{EndsBlob, length_of}
use Rattle.bao_windows.specs.declared.wanted.Wanted.{Wanted}
use Rattle.bao_windows.specs.Available.{AreSound, CertifiesEnd, HasNoEnd, IsAcceptedAs, IsFirstEnd, RefusesEnd, end_span, end_start, gives_in, slice_in}

of_known : (contents : Option (List ℕ)) (P : List ℕ → Type 0) (bytes : List ℕ) → contents ≡ Some bytes → length bytes < 2 ^ 64 → OfBytes contents P → P bytes
of_known None P bytes is few given = cc
of_known (Some s) P bytes is few given =
    let same : s ≡ bytes = cc in subst P same (given (subst (λ (x : List ℕ). length x < 2 ^ 64) (sym same) few))

one_text : (faultless : Type 0) (a b text : List ℕ) → faultless → (a ≡ text) ⊎ IsLost faultless a → (b ≡ text) ⊎ IsLost faultless b → a ≡ b
one_text faultless a b text sound (inl ours) (inl theirs) = ours ∙ sym theirs
one_text faultless a b text sound (inr lost) theirs = absurd (lost.1 sound)
one_text faultless a b text sound (inl ours) (inr lost) = absurd (lost.1 sound)

-- what a source gives whose bytes are known is one
pub given_once : {S : Type 0} (form : Form) (contents : S → Option (List ℕ)) (faultless : S → Type 0) (source : S) (start span : ℕ) (a b bytes : List ℕ)
    → AreKnown (contents source) bytes → faultless source → gives_in form contents faultless source start span a → gives_in form contents faultless source start span b → a ≡ b
given_once Slices contents faultless source start span a b bytes known sound ours theirs =
    one_text (faultless source) a b _ sound (of_known (contents source) _ bytes known.0 known.1 ours) (of_known (contents source) _ bytes known.0 known.1 theirs)
given_once (Bare outline) contents faultless source start span a b bytes known sound ours theirs =
    one_text (faultless source) a b _ sound (of_known (contents source) _ bytes known.0 known.1 ours) (of_known (contents source) _ bytes known.0 known.1 theirs)

some_one : {S : Type 0} (x y : S) → Some x ≡ Some y → x ≡ y
some_one x y e = cc

module _ {S : Type 0} (contents : S → Option (List ℕ)) (faultless : S → Type 0) (wanted : Wanted) (sources : List S) (sound : AreSound contents faultless sources) where
  -- the piece that what a source gives for the end makes
  abbrev made : List ℕ → Piece
  made text = slice_in wanted.form (end_start wanted.form) (end_span wanted.form) text

  given_end : (place : ℕ) (source : S) (a b : List ℕ) → slice_get sources place ≡ Some source
      → gives_in wanted.form contents faultless source (end_start wanted.form) (end_span wanted.form) a → gives_in wanted.form contents faultless source (end_start wanted.form) (end_span wanted.form) b → a ≡ b
  given_end place source a b there ours theirs =
      let known = sound place source there in
      given_once wanted.form contents faultless source (end_start wanted.form) (end_span wanted.form) a b known.0 (known.1, known.2) known.3 ours theirs

  -- a source that certifies a length isn't refused
  apart : (place l : ℕ) → CertifiesEnd contents faultless wanted sources place l → RefusesEnd contents faultless wanted sources place → ⊥
  apart place l (source, there, fitting, (text, gave, (accepted, ends, is))) refuses =
      let refused = refuses fitting source there in
      let same : text ≡ refused.0 = given_end place source text refused.0 there gave refused.1 in
      elim refused.2 [
        | inl never ↦ never (subst (λ (s : List ℕ). IsAcceptedAs wanted (made s)) same accepted)
        | inr never ↦ never (subst (λ (s : List ℕ). EndsBlob (made s)) same ends)
      ]

  -- and certifies one
  one_at : (place l m : ℕ) → CertifiesEnd contents faultless wanted sources place l → CertifiesEnd contents faultless wanted sources place m → l ≡ m
  one_at place l m (source, there, fitting, (text, gave, (accepted, ends, is))) (other, also, fits, (bytes, given, (taken, last, size))) =
      let who : other ≡ source = some_one other source (sym also ∙ there) in
      let same : text ≡ bytes = given_end place source text bytes there gave (subst (λ (s : S). gives_in wanted.form contents faultless s (end_start wanted.form) (end_span wanted.form) bytes) who given) in
      is ∙ (λ i. length_of (made (same i))) ∙ sym size

  pub one_end : (l m : ℕ) → IsFirstEnd contents faultless wanted sources l → IsFirstEnd contents faultless wanted sources m → l ≡ m
  one_end l m p q = elim (cases_lt p.place q.place) [
    | inl less ↦ absurd (apart p.place l p.certifies (q.before p.place less))
    | inr above ↦ elim (cases_lt q.place p.place) [
      | inl less ↦ absurd (apart q.place m q.certifies (p.before q.place less))
      | inr below ↦
          let same : p.place ≡ q.place = omega (arith, above, below) in
          one_at q.place l m (subst (λ (k : ℕ). CertifiesEnd contents faultless wanted sources k l) same p.certifies) q.certifies
    ]
  ]

  -- where one has the end, it isn't so that none has it
  pub end_or_none : (l : ℕ) → IsFirstEnd contents faultless wanted sources l → HasNoEnd contents faultless wanted sources → ⊥
  end_or_none l p none = apart p.place l p.certifies (none p.place p.below)
