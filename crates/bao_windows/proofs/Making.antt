-- What is made of what sources give, in the one form and in the other.
use Rattle.std.proofs.Common.{◌≡◌, ℕ, ◌+◌, ◌-◌, ◌*◌, ◌/◌, ◌%◌, ◌^◌, ◌<◌, ◌≤◌, min, List, length, Option, Some, slice_get, ◌∙◌, sym, ap, subst, arith, inl, inr, refl}
use Rattle.b3tree.specs.declared.mode.Mode.{Mode}
use Rattle.b3tree.specs.Pieces.{piece as part}
use Rattle.b3tree.specs.Valid.{IsKeyed}
use Rattle.bao_check.proofs.Written.{claimed-chosen_text}
use Rattle.bao_check.specs.Bare.{bare_part}
use Rattle.bao_check.specs.Beside.{IsOfChunks, bare_len, beside_text}
use Rattle.bao_check.specs.declared.outline.Outline.{Outline}
use Rattle.bao_check.specs.Outline.{outline_claimed, outline_text}
use Rattle.bao_text.specs.Choice.{chunk_count, of_outboard}
use Rattle.bao_text.specs.Cut.{claimed}
use Rattle.holders.specs.Available.{HasSlice, HaveSlices}
use Rattle.holders.specs.declared.form.Form.{Form}
use Rattle.holders.specs.declared.form.Form.TheVariants.{Slices, Bare}
use Rattle.holders.specs.declared.grain.Grain.{Grain}
use Rattle.holders.specs.declared.grain.Grain.TheVariants.{Group as ByGroup, Chunk as ByChunk}
use Rattle.holders.specs.Forms.{AreSlices}
use Rattle.holders.specs.Lists.{IsFromSource, part_gives, source_gives}
use Rattle.holders.specs.Places.{IsPartAt}
use Rattle.holders.specs.declared.piece.Piece.{Piece}
use Rattle.bao_windows.proofs.Owning.{own_makes}
use Rattle.bao_windows.proofs.Served.{the_slice}
use Rattle.bao_windows.specs.declared.wanted.Wanted.{Wanted}
use Rattle.bao_windows.specs.Available.{IsFitting, IsWithin, end_span, end_start, gives_in, slice_in, slice_piece, span_in}
use Rattle.bao_windows.specs.Copies.{HasPart, HaveCopies, IsOwn, IsOwnOutline, IsPartBy}

-- the slice that is made of what a source gives came from it
pub handed_in : {S : Type 0} (form : Form) (contents : S → Option (List ℕ)) (faultless : S → Type 0) (sources : List S) (place : ℕ) (source : S) (at span : ℕ) (text : List ℕ)
    → slice_get sources place ≡ Some source → gives_in form contents faultless source at span text → IsFromSource form contents faultless sources (slice_in form at span text)
handed_in Slices contents faultless sources place source at span text there given = record { place = place; holder = source; there = there; given = given }
handed_in (Bare outline) contents faultless sources place source at span text there given =
    record { place = place; holder = source; there = there; given = record { bytes = text; given = given; is = refl } }

-- the slice that an outline's parents and a part make
abbrev pub made_piece : Outline → ℕ → ℕ → List ℕ → Piece
made_piece outline at span bytes = slice_piece at span (beside_text (outline_text outline) at span bytes)

-- how a group or a chunk of a blob of `total` bytes is asked for
abbrev pub IsAsked : Grain → ℕ → ℕ → ℕ → ℕ → Type 0
IsAsked ByGroup total at len span = (at % 65536 ≡ 0) × (len ≡ min 65536 (total - at)) × (span ≡ 65536)
IsAsked ByChunk total at len span = (at % 1024 ≡ 0) × (len ≡ min 1024 (total - at)) × (span ≡ 1024)

-- one of the sources gives nothing but what makes this slice of the blob
pub record Makes {S : Type 0} (form : Form) (contents : S → Option (List ℕ)) (faultless : S → Type 0) (mode : Mode) (blob : List ℕ) (sources : List S) (at span : ℕ) : Type 0 where
  pub place : ℕ
  pub source : S
  pub there : slice_get sources place ≡ Some source
  pub makes : (text : List ℕ) → gives_in form contents faultless source at span text → slice_in form at span text ≡ the_slice mode blob at span

-- The sources have between them what makes the slices of the blob that its length and its parts are asked for by.
pub record HaveAsked {S : Type 0} (form : Form) (grain : Grain) (contents : S → Option (List ℕ)) (faultless : S → Type 0) (wanted : Wanted) (blob : List ℕ) (sources : List S) : Type 0 where
  pub fitting : IsFitting wanted form
  pub end : Makes form contents faultless wanted.mode blob sources (end_start form) (end_span form)
  pub reaches : length blob ≤ end_start form + end_span form
  pub each : (at len span : ℕ) → at < length blob → IsAsked grain (length blob) at len span
      → IsWithin form at × (len ≤ span_in form at span) × Makes form contents faultless wanted.mode blob sources at (span_in form at span)

slice_makes : {S : Type 0} (contents : S → Option (List ℕ)) (faultless : S → Type 0) (mode : Mode) (blob : List ℕ) (sources : List S) (at span : ℕ)
    → HasSlice (source_gives contents faultless) mode blob at span sources → Makes Slices contents faultless mode blob sources at span
slice_makes contents faultless mode blob sources at span has = record {
  place = has.place;
  source = has.holder;
  there = has.there;
  makes = λ text given. ap (λ (s : List ℕ). slice_piece at span s) (has.gives_slice text given);
}

-- slices are
pub slices_asked : {S : Type 0} (form : Form) (grain : Grain) (contents : S → Option (List ℕ)) (faultless : S → Type 0) (wanted : Wanted) (blob : List ℕ) (sources : List S) → AreSlices form
    → length blob < 2 ^ 64 → HaveSlices grain (source_gives contents faultless) wanted.mode blob sources → HaveAsked form grain contents faultless wanted blob sources
slices_asked Slices ByGroup contents faultless wanted blob sources are short have = record {
  fitting = tt;
  end = slice_makes contents faultless wanted.mode blob sources (2 ^ 64 - 1) 1 have.end;
  reaches = omega (arith, short);
  each = λ at len span below asked. (
    tt,
    omega (arith, asked.1, asked.2),
    slice_makes contents faultless wanted.mode blob sources at span (have.each (at / 1024) at span (omega (arith, asked.0, below)) (omega (arith, asked.0), asked.2)),
  );
}
slices_asked Slices ByChunk contents faultless wanted blob sources are short have = record {
  fitting = tt;
  end = slice_makes contents faultless wanted.mode blob sources (2 ^ 64 - 1) 1 have.end;
  reaches = omega (arith, short);
  each = λ at len span below asked. (
    tt,
    omega (arith, asked.1, asked.2),
    slice_makes contents faultless wanted.mode blob sources at span (have.each (at / 1024) at span (omega (arith, asked.0, below)) (omega (arith, asked.0), asked.2)),
  );
}
slices_asked (Bare outline) grain contents faultless wanted blob sources are short have = absurd are

-- the blob's own outline and its bytes make its slice
own_slice : (wanted : Wanted) (outline : Outline) (blob : List ℕ) (at span : ℕ) (bytes : List ℕ) → IsKeyed wanted.mode → length blob < 2 ^ 64 → IsOwnOutline wanted outline blob
    → IsOfChunks (length blob) at span → bytes ≡ part blob at (bare_len (length blob) at span) → made_piece outline at span bytes ≡ the_slice wanted.mode blob at span
own_slice wanted outline blob at span bytes keyed short own of_chunks same =
    ap (λ (s : List ℕ). slice_piece at span s)
    ((λ i. beside_text (own.text_is i) at span (same i)) ∙ own_makes wanted.mode blob at span keyed short of_chunks)

-- it claims the blob's length
own_claims : (wanted : Wanted) (outline : Outline) (blob : List ℕ) → length blob < 2 ^ 64 → IsOwnOutline wanted outline blob → outline_claimed outline ≡ length blob
own_claims wanted outline blob short own = ap (λ (s : List ℕ). claimed s) own.text_is ∙ claimed-chosen_text (of_outboard (length blob)) wanted.mode blob short

-- and a source that gives these bytes gives what makes the slice
own_gives : {S : Type 0} (contents : S → Option (List ℕ)) (faultless : S → Type 0) (wanted : Wanted) (outline : Outline) (blob : List ℕ) (sources : List S) (at span len : ℕ) → IsKeyed wanted.mode
    → length blob < 2 ^ 64 → IsOwnOutline wanted outline blob → IsOfChunks (length blob) at span → len ≡ bare_len (length blob) at span
    → (has : HasPart contents faultless blob at len sources) (bytes : List ℕ) → part_gives contents faultless has.source at (bare_len (outline_claimed outline) at span) bytes
    → made_piece outline at span bytes ≡ the_slice wanted.mode blob at span
own_gives contents faultless wanted outline blob sources at span len keyed short own of_chunks size has bytes given =
    let count : bare_len (outline_claimed outline) at span ≡ len = ap (λ (total : ℕ). bare_len total at span) (own_claims wanted outline blob short own) ∙ sym size in
    let same : bytes ≡ part blob at len = has.gives_part bytes (subst (λ (k : ℕ). part_gives contents faultless has.source at k bytes) count given) in
    own_slice wanted outline blob at span bytes keyed short own of_chunks (same ∙ ap (λ (k : ℕ). part blob at k) size)

-- how many bytes the chunks may have that a part is asked for by
abbrev part_span : ℕ → ℕ → ℕ → ℕ
part_span total at span = bare_part (min (chunk_count span) (chunk_count total - at / 1024))

-- A part that is asked for is whole chunks of the blob.
record IsPartAsked (grain : Grain) (total at len span : ℕ) : Type 0 where
  of_chunks : IsOfChunks total at (part_span total at span)
  size : len ≡ bare_len total at (part_span total at span)
  fits : len ≤ part_span total at span
  within : (at % 1024 ≡ 0) × (at / 1024 < chunk_count total)
  by : IsPartBy grain total (at / 1024) at len

part_asked : (grain : Grain) (total at len span : ℕ) → total < 2 ^ 64 → at < total → IsAsked grain total at len span → IsPartAsked grain total at len span
part_asked ByGroup total at len span short below asked =
    let whole : at % 65536 ≡ 0 = asked.0 in
    let is : len ≡ min 65536 (total - at) = asked.1 in
    record {
      of_chunks = record { starts = omega (arith, whole); within = omega (arith, below); ends = omega (arith, whole, below, asked.2, short) };
      size = omega (arith, whole, below, is, asked.2, short);
      fits = omega (arith, whole, below, is, asked.2, short);
      within = (omega (arith, whole), omega (arith, below));
      by = (omega (arith, whole), is);
    }
part_asked ByChunk total at len span short below asked =
    let whole : at % 1024 ≡ 0 = asked.0 in
    let is : len ≡ min 1024 (total - at) = asked.1 in
    record {
      of_chunks = record { starts = omega (arith, whole); within = omega (arith, below); ends = omega (arith, whole, below, asked.2, short) };
      size = omega (arith, whole, below, is, asked.2, short);
      fits = omega (arith, whole, below, is, asked.2, short);
      within = (whole, omega (arith, below));
      by = (omega (arith, whole), is);
    }

-- plain copies beside the blob's own outline are
pub copies_asked : {S : Type 0} (form : Form) (grain : Grain) (contents : S → Option (List ℕ)) (faultless : S → Type 0) (wanted : Wanted) (blob : List ℕ) (sources : List S) → IsOwn wanted form blob
    → IsKeyed wanted.mode → length blob < 2 ^ 64 → HaveCopies grain contents faultless blob sources → HaveAsked form grain contents faultless wanted blob sources
copies_asked Slices grain contents faultless wanted blob sources own keyed short have = absurd own
copies_asked (Bare outline) grain contents faultless wanted blob sources own keyed short have =
    let n : ℕ = length blob in
    let start : ℕ = 1024 * (chunk_count n - 1) in
    let last : ℕ = min 1024 (n - start) in
    let claims : outline_claimed outline.now ≡ n = own_claims wanted outline.now blob short own in
    let has : HasPart contents faultless blob start last sources = have.end start last (refl, refl) in
    record {
      fitting = own.of_root;
      end = subst (λ (total : ℕ). Makes (Bare outline) contents faultless wanted.mode blob sources (1024 * (chunk_count total - 1)) (part_span total (1024 * (chunk_count total - 1)) 1)) (sym claims) (record {
        place = has.place;
        source = has.source;
        there = has.there;
        makes = λ text given.
            own_gives contents faultless wanted outline.now blob sources start (part_span n start 1) last keyed short own
            (record { starts = omega arith; within = omega arith; ends = omega arith }) (omega arith) has text given;
      });
      reaches = omega (arith, claims);
      each = λ at len span below asked.
          let is : IsPartAsked grain n at len span = part_asked grain n at len span short below asked in
          let one : HasPart contents faultless blob at len sources = have.each (at / 1024) at len is.within.1 is.by in
          subst (λ (total : ℕ). ((at % 1024 ≡ 0) × (at / 1024 < chunk_count total)) × (len ≤ part_span total at span)
          × Makes (Bare outline) contents faultless wanted.mode blob sources at (part_span total at span)) (sym claims) (
            is.within,
            is.fits,
            record {
              place = one.place;
              source = one.source;
              there = one.there;
              makes = λ text given. own_gives contents faultless wanted outline.now blob sources at (part_span n at span) len keyed short own is.of_chunks is.size one text given;
            },
          );
    }

-- a source that never fails, whose bytes are the blob, gives all of its parts
pub copy_has : {S : Type 0} (contents : S → Option (List ℕ)) (faultless : S → Type 0) (sources : List S) (blob : List ℕ) (i : ℕ) (source : S) (start len : ℕ) → length blob < 2 ^ 64
    → slice_get sources i ≡ Some source → contents source ≡ Some blob → faultless source → HasPart contents faultless blob start len sources
copy_has contents faultless sources blob i source start len short there known sound = record {
  place = i;
  source = source;
  there = there;
  gives_part = λ bytes given.
      let is : IsPartAt (Some blob) (faultless source) start len bytes = subst (λ (o : Option (List ℕ)). IsPartAt o (faultless source) start len bytes) known given in
      elim (is short) [
        | inl same ↦ same
        | inr lost ↦ absurd (lost.1 sound)
      ];
}

pub copy_all : {S : Type 0} (grain : Grain) (contents : S → Option (List ℕ)) (faultless : S → Type 0) (sources : List S) (blob : List ℕ) (i : ℕ) (source : S) → length blob < 2 ^ 64
    → slice_get sources i ≡ Some source → contents source ≡ Some blob → faultless source → HaveCopies grain contents faultless blob sources
copy_all grain contents faultless sources blob i source short there known sound = record {
  end = λ start len is. copy_has contents faultless sources blob i source start len short there known sound;
  each = λ c start len below is. copy_has contents faultless sources blob i source start len short there known sound;
}
