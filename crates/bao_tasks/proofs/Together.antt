-- What several sources have together, as it is asked of them.
use Rattle.std.proofs.Common.{◌≡◌, ◌⊎◌, ◌∙◌, ℕ, ◌-◌, ◌*◌, ◌<◌, min, Bool, true, false, List, length, Option, refl, sym, ap, subst, arith, inl, inr}
use Rattle.b3tree.specs.declared.mode.Mode.{Mode}
use Rattle.b3tree.specs.Pieces.{piece as part}
use Rattle.bao_check.specs.Accepted.{outboard_nodes, text_end}
use Rattle.bao_check.specs.Beside.{IsOfChunks, bare_len, beside_text}
use Rattle.bao_check.specs.Outline.{outline_claimed, outline_text}
use Rattle.bao_text.specs.Choice.{chunk_count}
use Rattle.bao_text.specs.Cut.{claimed}
use Rattle.bao_text.specs.Texts.{outboard_text}
use Rattle.bao_windows.specs.Copies.{HasPart, HaveCopies}
use Rattle.holders.proofs.Owning.{own_makes}
use Rattle.holders.specs.Available.{HasSlice, HaveSlices}
use Rattle.holders.specs.Forms.{AreSlices, made_of}
use Rattle.holders.specs.Lists.{part_gives, source_gives}
use Rattle.holders.specs.Parts.{HaveParts, IsAskedIn, IsEndIn, IsOwn}
use Rattle.holders.specs.Places.{IsCutAt, IsPartAt}
use Rattle.holders.specs.declared.form.Form.{Form}
use Rattle.holders.specs.declared.form.Form.TheVariants.{Slices, Bare}
use Rattle.holders.specs.declared.grain.Grain.{Grain}
use Rattle.holders.specs.declared.grain.Grain.TheVariants.{Group as ByGroup, Chunk as ByChunk}
use Rattle.holders.specs.declared.fixed.Fixed.{Fixed}
use Rattle.bao_tasks.specs.declared.gathering.Gathering.{Gathering}
use Rattle.bao_tasks.specs.FromFiles.{AreEnough, HasBytes, HasCut, HaveBytes, HaveCuts, HaveTogether}
use Rattle.bao_tasks.specs.TakenFiles.{HasSound}

-- texts that are enough are so among more
module _ (Has More : List ℕ → Type 0) (wider : (text : List ℕ) → Has text → More text) where
  cut_wider : (mode : Mode) (blob : List ℕ) (start len : ℕ) → HasCut Has mode blob start len → HasCut More mode blob start len
  cut_wider mode blob start len has = record { text = has.text; has = wider has.text has.has; few = has.few; cut = has.cut }

  bytes_wider : (blob : List ℕ) (start len : ℕ) → HasBytes Has blob start len → HasBytes More blob start len
  bytes_wider blob start len has = record { text = has.text; has = wider has.text has.has; few = has.few; bytes = has.bytes }

  pub have_wider : (grain : Grain) (blob : List ℕ) → HaveBytes Has grain blob → HaveBytes More grain blob
  have_wider grain blob have = record {
    few = have.few;
    end = λ start len is. bytes_wider blob start len (have.end start len is);
    each = λ c start len below asked. bytes_wider blob start len (have.each c start len below asked);
  }

  together_wider : (form : Form) (fixed : Fixed) (grain : Grain) (blob : List ℕ) → HaveTogether form fixed grain blob Has → HaveTogether form fixed grain blob More
  together_wider Slices fixed grain blob have = record {
    few = have.few;
    end = cut_wider fixed.mode blob _ _ have.end;
    each = λ c start len below asked. cut_wider fixed.mode blob start len (have.each c start len below asked);
  }
  together_wider (Bare outline) fixed grain blob have = (have.0, have_wider grain blob have.1)

  pub enough_wider : (form : Form) (fixed : Fixed) (how : Gathering) (blob : List ℕ) → AreEnough form fixed how blob Has → AreEnough form fixed how blob More
  enough_wider form fixed how blob enough = record {
    root = enough.root;
    room = enough.room;
    some = elim enough.some [
      | inl whole ↦ inl (record { text = whole.text; has = wider whole.text whole.has; text_is = whole.text_is; few = whole.few })
      | inr parts ↦ inr (together_wider form fixed how.wanted.grain blob parts)
    ];
  }

-- where each of them is there or memory ran out, memory ran out or all are there
pub all_taken : (starved : Bool) (Has More : List ℕ → Type 0) → ((text : List ℕ) → Has text → (starved ≡ true) ⊎ More text) → (starved ≡ true) ⊎ ((text : List ℕ) → Has text → More text)
all_taken true Has More each = inl refl
all_taken false Has More each = inr (λ text has. elim (each text has) [ inl wrong ↦ (let no : false ≡ true = wrong in cc) | inr there ↦ there ])

-- they have it together as slices, or as bytes beside the blob's own outboard encoding
pub by_parts : (X : Type 0) (form : Form) (fixed : Fixed) (grain : Grain) (blob : List ℕ) (Has : List ℕ → Type 0) → HaveTogether form fixed grain blob Has
    → (AreSlices form → HaveCuts Has grain fixed.mode blob → X) → (IsOwn form fixed blob → HaveBytes Has grain blob → X) → X
by_parts X Slices fixed grain blob Has have slices copies = slices tt have
by_parts X (Bare outline) fixed grain blob Has have slices copies = copies have.0 have.1

-- texts that are enough are some
pub one_of : (Has : List ℕ → Type 0) (form : Form) (fixed : Fixed) (how : Gathering) (blob : List ℕ) → AreEnough form fixed how blob Has → (text : List ℕ) × Has text
one_of Has form fixed how blob enough = elim enough.some [
  | inl whole ↦ (whole.text, whole.has)
  | inr parts ↦
      by_parts ((text : List ℕ) × Has text) form fixed how.wanted.grain blob Has parts (λ slices have. (have.end.text, have.end.has))
      (λ own have.
      let start : ℕ = 1024 * (chunk_count (length blob) - 1) in
      let last : HasBytes Has blob start (min 1024 (length blob - start)) = have.end start (min 1024 (length blob - start)) (refl, refl) in
      (last.text, last.has))
]

module _ {S : Type 0} (contents : S → Option (List ℕ)) (faultless : S → Type 0) (sources : List S) where
  -- the slice of a sound source is the one that is cut out of its text
  cut_gives : (mode : Mode) (blob : List ℕ) (start len : ℕ) → HasCut (HasSound contents faultless sources) mode blob start len
      → HasSlice (source_gives contents faultless) mode blob start len sources
  cut_gives mode blob start len has = record {
    place = has.has.place;
    holder = has.has.source;
    there = has.has.there;
    gives_slice = λ text given.
        elim ((subst (λ (c : Option (List ℕ)). IsCutAt c (faultless has.has.source) start len text) has.has.known given) has.few) [
          | inl same ↦ same ∙ has.cut
          | inr lost ↦ absurd (lost.1 has.has.sound)
        ];
  }

  pub slices_of : (grain : Grain) (mode : Mode) (blob : List ℕ) → HaveCuts (HasSound contents faultless sources) grain mode blob
      → HaveSlices grain (source_gives contents faultless) mode blob sources
  slices_of grain mode blob have =
      record { end = cut_gives mode blob _ _ have.end; each = λ c start len below asked. cut_gives mode blob start len (have.each c start len below asked) }

  -- its bytes are its text's
  bytes_given : (blob : List ℕ) (start len : ℕ) → (has : HasBytes (HasSound contents faultless sources) blob start len) (bytes : List ℕ)
      → part_gives contents faultless has.has.source start len bytes → bytes ≡ part blob start len
  bytes_given blob start len has bytes given =
      elim ((subst (λ (c : Option (List ℕ)). IsPartAt c (faultless has.has.source) start len bytes) has.has.known given) has.few) [
        | inl same ↦ same ∙ has.bytes
        | inr lost ↦ absurd (lost.1 has.has.sound)
      ]

  has_part : (blob : List ℕ) (start len : ℕ) → HasBytes (HasSound contents faultless sources) blob start len → HasPart contents faultless blob start len sources
  has_part blob start len has = record { place = has.has.place; source = has.has.source; there = has.has.there; gives_part = bytes_given blob start len has }

  pub copies_of : (grain : Grain) (blob : List ℕ) → HaveBytes (HasSound contents faultless sources) grain blob → HaveCopies grain contents faultless blob sources
  copies_of grain blob have = record {
    end = λ start len is. has_part blob start len (have.end start len is);
    each = λ c start len below asked. has_part blob start len (have.each c start len below asked);
  }

  -- beside a blob's own outboard encoding they make its slice
  own_slice : (form : Form) (fixed : Fixed) (blob : List ℕ) (start len n : ℕ) → IsOwn form fixed blob → IsOfChunks (length blob) start len → n ≡ bare_len (length blob) start len
      → HasBytes (HasSound contents faultless sources) blob start n → HasSlice (made_of form (part_gives contents faultless)) fixed.mode blob start len sources
  own_slice Slices fixed blob start len n own chunks size has = absurd own
  own_slice (Bare outline) fixed blob start len n own chunks size has = record {
    place = has.has.place;
    holder = has.has.source;
    there = has.has.there;
    gives_slice = λ text made.
        let asked : bare_len (outline_claimed outline.now) start len ≡ n = ap (λ (k : ℕ). bare_len k start len) own.of.claims ∙ sym size in
        let given : made.bytes ≡ part blob start n =
        bytes_given blob start n has made.bytes (subst (λ (k : ℕ). part_gives contents faultless has.has.source start k made.bytes) asked made.given) in
        let bytes : made.bytes ≡ part blob start (bare_len (length blob) start len) = given ∙ ap (λ (k : ℕ). part blob start k) size in
        let text_is : outline_text outline.now ≡ outboard_text fixed.mode blob = own.text_is in
        let claims : claimed (outboard_text fixed.mode blob) ≡ length blob = ap (λ (xs : List ℕ). claimed xs) (sym text_is) ∙ own.of.claims in
        let ends : length (outboard_text fixed.mode blob) ≡ text_end (outboard_nodes (outboard_text fixed.mode blob)) =
        subst (λ (xs : List ℕ). length xs ≡ text_end (outboard_nodes xs)) text_is outline.now.accepted.ends in
        made.is ∙ (λ i. beside_text (text_is i) start len (bytes i)) ∙ own_makes fixed.mode blob start len claims ends chunks;
  }

  -- the parts that are asked for beside it are whole chunks
  own_each : (form : Form) (fixed : Fixed) (grain : Grain) (blob : List ℕ) (c start len : ℕ) → IsOwn form fixed blob → HaveBytes (HasSound contents faultless sources) grain blob
      → c < chunk_count (length blob) → IsAskedIn form grain c start len → HasSlice (made_of form (part_gives contents faultless)) fixed.mode blob start len sources
  own_each Slices fixed grain blob c start len own have below asked = absurd own
  own_each (Bare outline) fixed ByGroup blob c start len own have below asked =
      let chunks : IsOfChunks (length blob) start len =
      record { starts = omega (arith, asked.0); within = omega (arith, asked.0, below); ends = omega (arith, asked.0, asked.1, below, own.of.claims) } in
      own_slice (Bare outline) fixed blob start len (min 65536 (length blob - start)) own chunks (omega (arith, asked.0, asked.1, below, own.of.claims))
      (have.each c start (min 65536 (length blob - start)) below (asked.0, refl))
  own_each (Bare outline) fixed ByChunk blob c start len own have below asked =
      let chunks : IsOfChunks (length blob) start len = record { starts = omega (arith, asked.0); within = omega (arith, asked.0, below); ends = omega (arith, asked.0, asked.1, below) } in
      own_slice (Bare outline) fixed blob start len (min 1024 (length blob - start)) own chunks (omega (arith, asked.0, asked.1, below))
      (have.each c start (min 1024 (length blob - start)) below (asked.0, refl))

  own_last : (form : Form) (fixed : Fixed) (grain : Grain) (blob : List ℕ) (start len : ℕ) → IsOwn form fixed blob → HaveBytes (HasSound contents faultless sources) grain blob
      → IsEndIn form start len → HasSlice (made_of form (part_gives contents faultless)) fixed.mode blob start len sources
  own_last Slices fixed grain blob start len own have is = absurd own
  own_last (Bare outline) fixed grain blob start len own have is =
      let at : start ≡ 1024 * (chunk_count (length blob) - 1) = is.0 ∙ ap (λ (k : ℕ). 1024 * (chunk_count k - 1)) own.of.claims in
      let chunks : IsOfChunks (length blob) start len = record { starts = omega (arith, at); within = omega (arith, at); ends = omega (arith, at, is.1) } in
      own_slice (Bare outline) fixed blob start len (min 1024 (length blob - start)) own chunks (omega (arith, at, is.1))
      (have.end start (min 1024 (length blob - start)) (at, refl))

  pub parts_of : (form : Form) (fixed : Fixed) (grain : Grain) (blob : List ℕ) → IsOwn form fixed blob → HaveBytes (HasSound contents faultless sources) grain blob
      → HaveParts form grain (part_gives contents faultless) fixed.mode blob sources
  parts_of form fixed grain blob own have = record {
    end = λ start len is. own_last form fixed grain blob start len own have is;
    each = λ c start len below asked. own_each form fixed grain blob c start len own have below asked;
  }
