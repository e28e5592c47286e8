-- Sources that have between them what all slices of a blob with the root are made of.
use Rattle.std.proofs.Common.{◌≡◌, ◌⊎◌, ℕ, ◌+◌, ◌-◌, ◌/◌, ◌%◌, ◌^◌, ◌<◌, ◌≤◌, min, List, length, true, is_some, Option, None, Some, slice_get, ◌∙◌, sym, subst, arith, inl, inr, refl}
use Rattle.std.proofs.lemmas.Option.{slice_get_within}
use Rattle.b3tree.specs.declared.mode.Mode.{Mode}
use Rattle.b3tree.specs.Valid.{AreBytes, IsKeyed}
use Rattle.bao_check.proofs.Laws.{accepted_binds}
use Rattle.bao_check.specs.Pieces.{chunk_in}
use Rattle.bao_text.proofs.Laws.{cut_text-combined}
use Rattle.bao_text.specs.Choice.{slice_end, slice_start}
use Rattle.bao_text.specs.Texts.{combined_text, slice_text}
use Rattle.holders.specs.Available.{HasTrue}
use Rattle.holders.specs.declared.grain.Grain.{Grain}
use Rattle.holders.specs.declared.grain.Grain.TheVariants.{Group as ByGroup, Chunk as ByChunk}
use Rattle.holders.specs.Blobs.{HasCollision}
use Rattle.holders.specs.Lists.{source_gives}
use Rattle.holders.specs.Places.{IsCutAt}
use Rattle.holders.specs.declared.piece.Piece.{Piece}
use Rattle.holders.specs.Blobs.{IsBlob}
use Rattle.holders.specs.Pieces.{EndsBlob, places_in}
use Rattle.bao_windows.proofs.Making.{HaveAsked, Makes, handed_in}
use Rattle.bao_windows.proofs.Bytes.{chunk_long, place_of}
use Rattle.bao_windows.proofs.Served.{ends_there, present, slice_good, the_slice}
use Rattle.bao_windows.specs.declared.wanted.Wanted.{Wanted}
use Rattle.bao_windows.specs.Available.{AllRefuse, HasNoEnd, IsAcceptedAs, IsFitting, IsMissing, IsWithin, end_span, end_start, span_in}
use Rattle.bao_windows.specs.Windows.{IsFrom, LacksChunk, fixed_for}

-- So many bytes of a blob from a place on end with a chunk of the blob, and are no more than a slice of `span` bytes has from there on.
record IsPartOf (blob : List ℕ) (at len span : ℕ) : Type 0 where
  short : length blob < 2 ^ 64
  within : at + len ≤ length blob
  ends : ((at + len) % 1024 ≡ 0) ⊎ (at + len ≡ length blob)
  fits : len ≤ span

-- what is there
some_there : (o : Option (List ℕ)) → is_some o ≡ true → (bytes : List ℕ) × (o ≡ Some bytes)
some_there None h = cc
some_there (Some bytes) h = (bytes, refl)

module _ {S : Type 0} (contents : S → Option (List ℕ)) (faultless : S → Type 0) (wanted : Wanted) (sources : List S) (keyed : IsKeyed wanted.mode) (blob : List ℕ)
    (is : IsBlob (fixed_for wanted) blob) where
  abbrev Collides : Type 0
  Collides = HasCollision (IsFrom wanted contents faultless sources) (fixed_for wanted) blob

  -- where a blob's slice that was made of what a source gave lacks one of its chunks, there is a collision
  lacks_none : (at len span : ℕ) → IsPartOf blob at len span → IsFrom wanted contents faultless sources (the_slice wanted.mode blob at span) → AreBytes (slice_text wanted.mode blob at span)
      → LacksChunk (the_slice wanted.mode blob at span) at len → Collides
  lacks_none at len span part from bytes lacks =
      let c : ℕ = lacks.number in
      let text : List ℕ = slice_text wanted.mode blob at span in
      let low : slice_start (length blob) at / 1024 ≤ c = omega (arith, lacks.from, lacks.below, part.within) in
      let high : c < (slice_end (length blob) at span + 1023) / 1024 = omega (arith, lacks.from, lacks.below, part.within, part.fits) in
      let found = some_there (chunk_in text (places_in (the_slice wanted.mode blob at span)) c) (present wanted.mode blob at span c part.short low high) in
      let accepted = slice_good wanted.mode wanted.root blob at span keyed part.short is.root in
      elim (accepted_binds wanted.mode wanted.root.0 text blob at span c found.0 keyed is.bytes bytes is.root accepted found.1) [
        | inl there ↦ absurd (lacks.lacks found.0 found.1 (chunk_long blob found.0 c (at + len) there.0 lacks.below part.within part.ends))
        | inr named ↦ record {
          piece = the_slice wanted.mode blob at span;
          from = from;
          accepted = record { bytes = bytes; accepted = accepted; base = refl };
          pair = named;
        }
      ]

  -- so there is where all sources refuse a slice that one gives
  all_refuse : (at len span : ℕ) → IsFitting wanted wanted.form → IsWithin wanted.form at
      → Makes wanted.form contents faultless wanted.mode blob sources at (span_in wanted.form at span) → IsPartOf blob at len (span_in wanted.form at span)
      → AllRefuse contents faultless wanted sources at len span → Collides
  all_refuse at len span fitting within has part refused =
      let n : ℕ = span_in wanted.form at span in
      let why = refused has.place (slice_get_within sources has.place has.source has.there) fitting within has.source has.there in
      let same = has.makes why.0 why.2 in
      elim why.3 [
        | inl wrong ↦ absurd (wrong (subst (λ (p : Piece). IsAcceptedAs wanted p) (sym same) (slice_good wanted.mode wanted.root blob at n keyed part.short is.root)))
        | inr lacks ↦
            lacks_none at len n part
            (subst (λ (p : Piece). IsFrom wanted contents faultless sources p) same (handed_in wanted.form contents faultless sources has.place has.source at n why.0 has.there why.2))
            (subst (λ (p : Piece). AreBytes p.text) same lacks.0) (subst (λ (p : Piece). LacksChunk p at len) same lacks.1)
      ]

  -- a chunk of a part
  chunk_ends : (at len came n : ℕ) → at % 1024 ≡ 0 → came % 1024 ≡ 0 → came < len → n ≡ min 1024 (len - came) → ((at + len) % 1024 ≡ 0) ⊎ (at + len ≡ length blob)
      → ((at + came + n) % 1024 ≡ 0) ⊎ (at + came + n ≡ length blob)
  chunk_ends at len came n aligned step below n_is ends = elim (place_of (len - came) 1024) [
    | inl last ↦
        let all : at + came + n ≡ at + len = omega (arith, n_is, last, below) in
        elim ends [
          | inl whole ↦ inl (subst (λ (e : ℕ). e % 1024 ≡ 0) (sym all) whole)
          | inr end ↦ inr (all ∙ end)
        ]
    | inr more ↦ inl (omega (arith, n_is, more, aligned, step))
  ]

  -- a group ends so
  group_ends : (total at : ℕ) → at % 65536 ≡ 0 → at < total → total ≡ length blob → ((at + min 65536 (total - at)) % 1024 ≡ 0) ⊎ (at + min 65536 (total - at) ≡ length blob)
  group_ends total at aligned below same = elim (place_of (total - at) 65536) [
    | inl last ↦ inr (omega (arith, same, below, last))
    | inr more ↦ inl (omega (arith, more, aligned))
  ]

  -- where some group is missing though what makes its slices is given, there is a collision
  by_grain : (grain : Grain) (total : ℕ) (missing : IsMissing contents faultless wanted sources total) → wanted.grain ≡ grain → length blob < 2 ^ 64 → total ≡ length blob
      → HaveAsked wanted.form grain contents faultless wanted blob sources → Collides
  by_grain ByGroup total missing grain_is short same have =
      let at : ℕ = missing.at in
      let len : ℕ = min 65536 (total - at) in
      let asked = have.each at len 65536 (omega (arith, missing.below, same)) (missing.whole, omega (arith, same), refl) in
      all_refuse at len 65536 have.fitting asked.0 asked.2
      (record { short = short; within = omega (arith, same, missing.below); ends = group_ends total at missing.whole missing.below same; fits = asked.1 }) missing.lacks.group
  by_grain ByChunk total missing grain_is short same have =
      let at : ℕ = missing.at in
      let len : ℕ = min 65536 (total - at) in
      let one = missing.lacks.chunk grain_is in
      let n : ℕ = min 1024 (len - one.came) in
      let whole : at % 1024 ≡ 0 = omega (arith, missing.whole) in
      let ends = group_ends total at missing.whole missing.below same in
      let asked = have.each (at + one.came) n 1024 (omega (arith, one.below, missing.below, same))
      (omega (arith, whole, one.whole), omega (arith, one.whole, one.below, missing.whole, missing.below, same), refl) in
      all_refuse (at + one.came) n 1024 have.fitting asked.0 asked.2
      (record { short = short; within = omega (arith, same, missing.below, one.below); ends = chunk_ends at len one.came n whole one.whole one.below refl ends; fits = asked.1 }) one.refused

  pub missing_none : (total : ℕ) → IsMissing contents faultless wanted sources total → length blob < 2 ^ 64 → total ≡ length blob
      → HaveAsked wanted.form wanted.grain contents faultless wanted blob sources → HasCollision (IsFrom wanted contents faultless sources) (fixed_for wanted) blob
  missing_none total missing short same have = by_grain wanted.grain total missing refl short same have

  -- nor do all refuse what the length is asked for by
  pub no_end : (grain : Grain) → HasNoEnd contents faultless wanted sources → length blob < 2 ^ 64 → HaveAsked wanted.form grain contents faultless wanted blob sources → ⊥
  no_end grain none short have =
      let start : ℕ = end_start wanted.form in
      let n : ℕ = end_span wanted.form in
      let has = have.end in
      let why = none has.place (slice_get_within sources has.place has.source has.there) have.fitting has.source has.there in
      let same = has.makes why.0 why.1 in
      elim why.2 [
        | inl wrong ↦ wrong (subst (λ (p : Piece). IsAcceptedAs wanted p) (sym same) (slice_good wanted.mode wanted.root blob start n keyed short is.root))
        | inr ends ↦ ends (subst (λ (p : Piece). EndsBlob p) (sym same) (ends_there wanted.mode blob start n short have.reaches))
      ]

-- what is cut out of a combined encoding that is never lost
slices_of : (mode : Mode) (blob : List ℕ) (contents : Option (List ℕ)) (faultless : Type 0) (start len : ℕ) (text : List ℕ) → length blob < 2 ^ 64 → length (combined_text mode blob) < 2 ^ 64
    → contents ≡ Some (combined_text mode blob) → faultless → IsCutAt contents faultless start len text → text ≡ slice_text mode blob start len
slices_of mode blob contents faultless start len text short fits known sound cut =
    let is : IsCutAt (Some (combined_text mode blob)) faultless start len text = subst (λ (o : Option (List ℕ)). IsCutAt o faultless start len text) known cut in
    elim (is fits) [
      | inl same ↦ same ∙ cut_text-combined mode blob start len short
      | inr lost ↦ absurd (lost.1 sound)
    ]

-- a source that never fails, whose bytes are a blob's combined encoding, gives nothing but its slices
pub source_true : {S : Type 0} (contents : S → Option (List ℕ)) (faultless : S → Type 0) (sources : List S) (mode : Mode) (blob : List ℕ) (i : ℕ) (source : S)
    → length blob < 2 ^ 64 → length (combined_text mode blob) < 2 ^ 64 → slice_get sources i ≡ Some source → contents source ≡ Some (combined_text mode blob) → faultless source
    → HasTrue (source_gives contents faultless) mode blob sources
source_true contents faultless sources mode blob i source short fits there known sound = record {
  place = i;
  holder = source;
  there = there;
  gives_slices = λ start len text cut. slices_of mode blob (contents source) (faultless source) start len text short fits known sound cut;
}
