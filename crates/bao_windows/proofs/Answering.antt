-- What is answered where sources have between them what all slices of a blob with the root are made of.
use Rattle.std.proofs.Common.{◌≡◌, ◌⊎◌, ℕ, ◌^◌, ◌<◌, ◌≤◌, List, length, IfOk, IsErrOf, Result, Ok, Err, Option, Some, slice_get, ◌∙◌, ap, subst, arith, inl, inr, refl}
use Rattle.std.specs.Io.KnownBytes.{Appends}
use Rattle.b3tree.specs.Valid.{IsKeyed}
use Rattle.bao_text.proofs.Laws.{length-combined_text}
use Rattle.bao_text.specs.Choice.{chunk_count}
use Rattle.bao_text.specs.Texts.{combined_text}
use Rattle.holders.proofs.Slices.{true_slices}
use Rattle.holders.specs.Available.{HaveSlices}
use Rattle.bao_windows.specs.declared.fault.GatherFault.{GatherFault}
use Rattle.bao_windows.specs.declared.fault.GatherFault.TheVariants.{TooLarge, Unfinished, NotTheRoot, Memory, Starved}
use Rattle.holders.specs.Forms.{AreSlices, IsLengthOf}
use Rattle.holders.specs.Blobs.{HasCollision, IsOfNone}
use Rattle.holders.specs.Lists.{source_gives}
use Rattle.holders.specs.declared.fixed.Fixed.{Fixed}
use Rattle.holders.specs.declared.piece.Piece.{Piece}
use Rattle.holders.specs.Blobs.{IsBlob}
use Rattle.bao_windows.proofs.Making.{HaveAsked, copies_asked, copy_all, slices_asked}
use Rattle.bao_windows.proofs.Covered.{missing_none, no_end, source_true}
use Rattle.bao_windows.specs.declared.fault.WindowsFault.{WindowsFault}
use Rattle.bao_windows.specs.declared.fault.WindowsFault.TheVariants.{Gather, Write}
use Rattle.bao_windows.specs.declared.wanted.Wanted.{Wanted}
use Rattle.bao_windows.specs.Available.{HasNoEnd, IsMissing}
use Rattle.bao_windows.specs.Copies.{HaveCopies, IsOwn}
use Rattle.bao_windows.specs.Windows.{IsFrom, IsLengthOfEach, fixed_for}
use Rattle.bao_windows.specs.Written.{AreTooLong, IsOfWriting, IsWrittenOut, WroteBlob}

-- no source has the last chunk, or none has some group of a blob of the length that was certified
abbrev pub LacksSome : {S : Type 0} → (S → Option (List ℕ)) → (S → Type 0) → Wanted → List S → Type 0
LacksSome contents faultless wanted sources =
    HasNoEnd contents faultless wanted sources
    ⊎ ((total : ℕ) × IsLengthOf wanted.form total × IsLengthOfEach (IsFrom wanted contents faultless sources) (fixed_for wanted) total × IsMissing contents faultless wanted sources total)

lacks_some : {S : Type 0} (contents : S → Option (List ℕ)) (faultless : S → Type 0) (wanted : Wanted) (sources : List S) → IsKeyed wanted.mode
    → (blob : List ℕ) → IsBlob (fixed_for wanted) blob → length blob < 2 ^ 64 → HaveAsked wanted.form wanted.grain contents faultless wanted blob sources
    → LacksSome contents faultless wanted sources → HasCollision (IsFrom wanted contents faultless sources) (fixed_for wanted) blob
lacks_some contents faultless wanted sources keyed blob is short have (inl none) = absurd (no_end contents faultless wanted sources keyed blob is wanted.grain none short have)
lacks_some contents faultless wanted sources keyed blob is short have (inr some) = elim (some.2 blob is) [
  | inl long ↦ missing_none contents faultless wanted sources keyed blob is some.0 some.3 short long have
  | inr pair ↦ pair
]

too_long : {S : Type 0} (contents : S → Option (List ℕ)) (faultless : S → Type 0) (wanted : Wanted) (sources : List S) (capacity : ℕ) (blob : List ℕ) → IsBlob (fixed_for wanted) blob
    → chunk_count (length blob) ≤ capacity → AreTooLong (IsFrom wanted contents faultless sources) (fixed_for wanted) capacity
    → HasCollision (IsFrom wanted contents faultless sources) (fixed_for wanted) blob
too_long contents faultless wanted sources capacity blob is few are = elim (are blob is) [
  | inl more ↦ absurd (omega (arith, few, more))
  | inr pair ↦ pair
]

pub answered_by : {S : Type 0} (contents : S → Option (List ℕ)) (faultless : S → Type 0) (wanted : Wanted) (sources : List S) (capacity : ℕ) (old new : Option (List ℕ)) (result : Result ℕ WindowsFault)
    → IsKeyed wanted.mode → IfOk result (WroteBlob (IsFrom wanted contents faultless sources) wanted capacity old new)
    → (IsErrOf result (Gather TooLarge) → AreTooLong (IsFrom wanted contents faultless sources) (fixed_for wanted) capacity)
    → (IsErrOf result (Gather NotTheRoot) → IsOfNone (IsFrom wanted contents faultless sources) (fixed_for wanted))
    → (IsErrOf result (Gather Unfinished) → LacksSome contents faultless wanted sources)
    → (blob : List ℕ) → IsBlob (fixed_for wanted) blob → length blob < 2 ^ 64 → chunk_count (length blob) ≤ capacity
    → HaveAsked wanted.form wanted.grain contents faultless wanted blob sources
    → IsWrittenOut blob old new result ⊎ HasCollision (IsFrom wanted contents faultless sources) (fixed_for wanted) blob
answered_by contents faultless wanted sources capacity old new (Ok n) keyed wrote longer none lacks blob is short few have = elim (wrote.4 blob is) [
  | inl same ↦ inl (wrote.3 ∙ ap (λ (s : List ℕ). length s) same, subst (λ (s : List ℕ). Appends old new s) same wrote.5)
  | inr pair ↦ inr pair
]
answered_by contents faultless wanted sources capacity old new (Err Write) keyed wrote longer none lacks blob is short few have = inl tt
answered_by contents faultless wanted sources capacity old new (Err (Gather TooLarge)) keyed wrote longer none lacks blob is short few have =
    inr (too_long contents faultless wanted sources capacity blob is few (longer refl))
answered_by contents faultless wanted sources capacity old new (Err (Gather Unfinished)) keyed wrote longer none lacks blob is short few have =
    inr (lacks_some contents faultless wanted sources keyed blob is short have (lacks refl))
answered_by contents faultless wanted sources capacity old new (Err (Gather NotTheRoot)) keyed wrote longer none lacks blob is short few have = inr (none refl blob is)
answered_by contents faultless wanted sources capacity old new (Err (Gather Memory)) keyed wrote longer none lacks blob is short few have = inl tt
answered_by contents faultless wanted sources capacity old new (Err (Gather Starved)) keyed wrote longer none lacks blob is short few have = inl tt

-- a blob with the root, of no more chunks than these, is written where sources have between them what all its slices are made of
abbrev pub IsAnswered : {S : Type 0} → (S → Option (List ℕ)) → (S → Type 0) → Wanted → List S → ℕ → Option (List ℕ) → Option (List ℕ) → Result ℕ WindowsFault → Type 0
IsAnswered contents faultless wanted sources capacity old new result =
    (blob : List ℕ) → IsBlob (fixed_for wanted) blob → length blob < 2 ^ 64 → chunk_count (length blob) ≤ capacity
    → HaveAsked wanted.form wanted.grain contents faultless wanted blob sources
    → IsWrittenOut blob old new result ⊎ HasCollision (IsFrom wanted contents faultless sources) (fixed_for wanted) blob

module _ {S : Type 0} (contents : S → Option (List ℕ)) (faultless : S → Type 0) (wanted : Wanted) (sources : List S) (capacity : ℕ) (old new : Option (List ℕ)) (result : Result ℕ WindowsFault)
    (answered : IsAnswered contents faultless wanted sources capacity old new result) where
  -- so where they have all its slices
  pub covered_by : AreSlices wanted.form → (blob : List ℕ) → IsBlob (fixed_for wanted) blob → length blob < 2 ^ 64 → chunk_count (length blob) ≤ capacity
      → HaveSlices wanted.grain (source_gives contents faultless) wanted.mode blob sources
      → IsWrittenOut blob old new result ⊎ HasCollision (IsFrom wanted contents faultless sources) (fixed_for wanted) blob
  covered_by are blob is short few have =
      answered blob is short few (slices_asked wanted.form wanted.grain contents faultless wanted blob sources are short have)

  -- or one of them is its combined encoding
  pub available_by : AreSlices wanted.form → (blob : List ℕ) (i : ℕ) (source : S) → IsBlob (fixed_for wanted) blob → length (combined_text wanted.mode blob) < 2 ^ 64
      → chunk_count (length blob) ≤ capacity → slice_get sources i ≡ Some source → contents source ≡ Some (combined_text wanted.mode blob) → faultless source
      → IsWrittenOut blob old new result ⊎ HasCollision (IsFrom wanted contents faultless sources) (fixed_for wanted) blob
  available_by are blob i source is fits few there known sound =
      let short : length blob < 2 ^ 64 = omega (arith, fits, length-combined_text wanted.mode blob) in
      covered_by are blob is short few
      (true_slices wanted.grain (source_gives contents faultless) wanted.mode blob sources (source_true contents faultless sources wanted.mode blob i source short fits there known sound))

  -- or where they have its bytes beside its own outboard encoding
  pub beside_by : IsKeyed wanted.mode → (blob : List ℕ) → IsOwn wanted wanted.form blob → IsBlob (fixed_for wanted) blob → length blob < 2 ^ 64 → chunk_count (length blob) ≤ capacity
      → HaveCopies wanted.grain contents faultless blob sources
      → IsWrittenOut blob old new result ⊎ HasCollision (IsFrom wanted contents faultless sources) (fixed_for wanted) blob
  beside_by keyed blob own is short few have =
      answered blob is short few (copies_asked wanted.form wanted.grain contents faultless wanted blob sources own keyed short have)

  -- or one of them is the blob
  pub copied_by : IsKeyed wanted.mode → (blob : List ℕ) (i : ℕ) (source : S) → IsOwn wanted wanted.form blob → IsBlob (fixed_for wanted) blob → length blob < 2 ^ 64
      → chunk_count (length blob) ≤ capacity → slice_get sources i ≡ Some source → contents source ≡ Some blob → faultless source
      → IsWrittenOut blob old new result ⊎ HasCollision (IsFrom wanted contents faultless sources) (fixed_for wanted) blob
  copied_by keyed blob i source own is short few there known sound =
      beside_by keyed blob own is short few (copy_all wanted.grain contents faultless sources blob i source short there known sound)

-- where no length was certified
pub answered_length : {S : Type 0} (contents : S → Option (List ℕ)) (faultless : S → Type 0) (wanted : Wanted) (sources : List S) (capacity : ℕ) (old new : Option (List ℕ)) (fault : GatherFault)
    → IsKeyed wanted.mode → (fault ≡ Unfinished) ⊎ (fault ≡ Starved) → (fault ≡ Unfinished → HasNoEnd contents faultless wanted sources)
    → IsAnswered contents faultless wanted sources capacity old new (Err (Gather fault))
answered_length contents faultless wanted sources capacity old new Unfinished keyed is none =
    answered_by contents faultless wanted sources capacity old new (Err (Gather Unfinished)) keyed tt (λ e. cc) (λ e. cc) (λ e. inl (none refl))
answered_length contents faultless wanted sources capacity old new Starved keyed is none = λ blob is_blob short few have. inl tt
answered_length contents faultless wanted sources capacity old new TooLarge keyed is none = elim is [
  | inl same ↦ cc
  | inr same ↦ cc
]
answered_length contents faultless wanted sources capacity old new NotTheRoot keyed is none = elim is [
  | inl same ↦ cc
  | inr same ↦ cc
]
answered_length contents faultless wanted sources capacity old new Memory keyed is none = λ blob is_blob short few have. inl tt

never_too_large : (fault : WindowsFault) → IsOfWriting fault → fault ≡ Gather TooLarge → ⊥
never_too_large fault is same = elim is [
  | inl (inl one) ↦ cc
  | inl (inr (inl two)) ↦ cc
  | inl (inr (inr three)) ↦ cc
  | inr four ↦ cc
]

err_of : (fault other : WindowsFault) (result : Result ℕ WindowsFault) → result ≡ Err fault → IsErrOf result other → fault ≡ other
err_of fault other result is e = cc

-- where a blob of a length that was certified wasn't written
pub answered_written : {S : Type 0} (contents : S → Option (List ℕ)) (faultless : S → Type 0) (wanted : Wanted) (sources : List S) (capacity total : ℕ) (old new : Option (List ℕ)) (fault : WindowsFault)
    → IsKeyed wanted.mode → IsOfWriting fault → IsLengthOf wanted.form total → IsLengthOfEach (IsFrom wanted contents faultless sources) (fixed_for wanted) total
    → (fault ≡ Gather NotTheRoot → IsLengthOfEach (IsFrom wanted contents faultless sources) (fixed_for wanted) total → IsOfNone (IsFrom wanted contents faultless sources) (fixed_for wanted))
    → (fault ≡ Gather Unfinished → IsMissing contents faultless wanted sources total)
    → IsAnswered contents faultless wanted sources capacity old new (Err fault)
answered_written contents faultless wanted sources capacity total old new fault keyed is of lengths none missing =
    answered_by contents faultless wanted sources capacity old new (Err fault) keyed tt (λ e. absurd (never_too_large fault is (err_of fault (Gather TooLarge) (Err fault) refl e)))
    (λ e. none (err_of fault (Gather NotTheRoot) (Err fault) refl e) lengths) (λ e. inr (total, of, lengths, missing (err_of fault (Gather Unfinished) (Err fault) refl e)))

-- where the length that was certified is too long
pub longer : (handed : Piece → Type 0) (fixed : Fixed) (capacity total : ℕ) → capacity < chunk_count total → IsLengthOfEach handed fixed total → AreTooLong handed fixed capacity
longer handed fixed capacity total more lengths blob is = elim (lengths blob is) [
  | inl same ↦ inl (subst (λ (n : ℕ). capacity < chunk_count n) same more)
  | inr pair ↦ inr pair
]
