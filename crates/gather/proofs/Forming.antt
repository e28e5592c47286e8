-- What is made of what holders give, and what of that is known of a blob's slices.
use Rattle.gather.proofs.Common.{◌≡◌, ◌∙◌, piece, ℕ, ◌+◌, ◌-◌, ◌*◌, ◌/◌, ◌^◌, ◌<◌, ◌≤◌, max, List, [], length, Ok, Err, false, true, refl, ap, arith, length-append, of_slice, sym, subst, Checked, CheckFault, IsAccepted, slice_nodes, bare_len, Outline, outline_claimed, Mode, chunk_count, slice_text, piece_of, IsOf, Fixed, Piece}
use Rattle.bao_check.proofs.BareFound.{bare_accepted}
use Rattle.bao_check.specs.Accepted.{outboard_nodes, text_end}
use Rattle.bao_check.specs.Bare.{bare_part}
use Rattle.bao_check.specs.Beside.{IsOfChunks, beside_text}
use Rattle.bao_check.specs.Outline.{outline_mode, outline_root, outline_text}
use Rattle.bao_text.specs.Cut.{claimed}
use Rattle.bao_text.specs.Texts.{length_text, outboard_text, subtree_text}
use Rattle.holders.specs.Available.{GivesSlice, HasSlice, HaveSlices, IsServed, slice_of}
use Rattle.holders.specs.declared.grain.Grain.{Grain}
use Rattle.holders.specs.declared.grain.Grain.TheVariants.{Group as ByGroup, Chunk as ByChunk}
use Rattle.holders.proofs.Owning.{own_makes}
use Rattle.gather.proofs.Serving.{is_of, later_slice, slice_good, slice_is}
use Rattle.holders.specs.declared.form.Form.{Form}
use Rattle.holders.specs.declared.form.Form.TheVariants.{Slices, Bare}
use Rattle.holders.specs.declared.form.ByteRange.{ByteRange}
use Rattle.holders.specs.Forms.{AreSlices, IsLengthOf, made_of}
use Rattle.gather.specs.Asked.{IsChunk, IsEnd, IsGroup, IsMade, IsPart, IsSliceCheck, checked_len, checked_text, chunks_of_part, form_mode, form_root}
use Rattle.holders.specs.Parts.{HaveParts, IsAskedIn, IsEndIn, IsFor, IsOutlineFor, IsOwn}
use Rattle.holders.specs.Holders.{AreLater, GivesNoMore, IsGiven}

-- what comes of a holder that gives no more is no more
pub made_no_more : {H : Type 0} (form : Form) (gives : H → ℕ → ℕ → List ℕ → Type 0) (old new : H) → GivesNoMore gives old new → GivesNoMore (made_of form gives) old new
made_no_more Slices gives old new no_more = no_more
made_no_more (Bare outline) gives old new no_more = λ start len text is. record { bytes = is.bytes; given = no_more start _ is.bytes is.given; is = is.is }

-- a checked piece is made of what its holder gave, which was read as a text
pub made_given : {H : Type 0} (form : Form) (gives : H → ℕ → ℕ → List ℕ → Type 0) (holder : H) (part : ByteRange) (text bytes : List ℕ) (piece : Piece) → text ≡ bytes → gives holder part.start part.len bytes
    → IsMade form part text piece → IsGiven (made_of form gives) holder piece
made_given Slices gives holder part text bytes piece same given made =
    subst (λ (n : ℕ). gives holder n piece.len piece.text) (sym made.0) (subst (λ (n : ℕ). gives holder part.start n piece.text) (sym made.1)
    (subst (λ (xs : List ℕ). gives holder part.start part.len xs) (sym (made.2 ∙ same)) given))
made_given (Bare outline) gives holder part text bytes piece same given made = record {
  bytes = text;
  given = subst (λ (n : ℕ). gives holder n (bare_len (outline_claimed outline.now) piece.start piece.len) text) (sym made.0)
      (subst (λ (n : ℕ). gives holder part.start n text) made.1 (subst (λ (xs : List ℕ). gives holder part.start part.len xs) (sym same) given));
  is = made.2;
}

-- slices that holders give are the parts that a worker of them asks for
pub slices_parts : {H : Type 0} (form : Form) (grain : Grain) (gives : H → ℕ → ℕ → List ℕ → Type 0) (mode : Mode) (blob : List ℕ) (holders : List H) → AreSlices form
    → HaveSlices grain (made_of form gives) mode blob holders → HaveParts form grain gives mode blob holders
slices_parts Slices grain gives mode blob holders are have = record {
  end = λ start len is. subst (λ (n : ℕ). HasSlice gives mode blob n len holders) (sym is.0)
      (subst (λ (n : ℕ). HasSlice gives mode blob (2 ^ 64 - 1) n holders) (sym is.1) have.end);
  each = have.each;
}
slices_parts (Bare outline) grain gives mode blob holders are have = absurd are

pub slices_for : (form : Form) (fixed : Fixed) (blob : List ℕ) → AreSlices form → IsFor form fixed blob
slices_for Slices fixed blob are = tt
slices_for (Bare outline) fixed blob are = absurd are

-- and go on to be
pub later_parts : {H : Type 0} (form : Form) (grain : Grain) (gives : H → ℕ → ℕ → List ℕ → Type 0) (mode : Mode) (blob : List ℕ) (old new : List H)
    → AreLater (made_of form gives) old new → HaveParts form grain gives mode blob old → HaveParts form grain gives mode blob new
later_parts form grain gives mode blob old new later have = record {
  end = λ start len is. later_slice (made_of form gives) mode blob start len old new later (have.end start len is);
  each = λ c start len below asked. later_slice (made_of form gives) mode blob start len old new later (have.each c start len below asked);
}

-- the slice that the length is asked for by
pub end_at : (form : Form) → (start : ℕ) × (len : ℕ) × IsEndIn form start len
end_at Slices = (2 ^ 64 - 1, 1, (refl, refl))
end_at (Bare outline) = (1024 * (chunk_count (outline_claimed outline.now) - 1), 1024, (refl, refl))

-- what is asked for the length is checked as that slice, which reaches the blob's end
pub end_checked : (form : Form) (part : ByteRange) (start len : ℕ) → IsEnd form part → IsEndIn form start len → (part.start ≡ start) × (checked_len form part ≡ len)
end_checked Slices part start len is end = (is.0 ∙ sym end.0, is.1 ∙ sym end.1)
end_checked (Bare outline) part start len is end = (omega (arith, is.0, end.0), omega (arith, is.1, end.1))

pub end_reaches : (form : Form) (fixed : Fixed) (blob : List ℕ) (start len : ℕ) → IsFor form fixed blob → IsServed fixed blob → IsEndIn form start len → length blob ≤ start + len
end_reaches Slices fixed blob start len of served end = omega (arith, served.few, end.0, end.1)
end_reaches (Bare outline) fixed blob start len of served end = omega (arith, of.claims, end.0, end.1)

-- what is asked for a group or a chunk is checked as the slice that the chunk is asked for by, and reaches it
pub group_checked : (form : Form) (fixed : Fixed) (blob : List ℕ) (group : ℕ) (part : ByteRange) (c : ℕ) → IsFor form fixed blob → IsGroup form group part → c < chunk_count (length blob) → c / 64 ≡ group
    → IsAskedIn form ByGroup c part.start (checked_len form part)
group_checked Slices fixed blob group part c of is below here = (omega (arith, is.0, here), is.1)
group_checked (Bare outline) fixed blob group part c of is below here = (omega (arith, is.0, here), omega (arith, is.1, of.claims, below, here))

pub chunk_checked : (form : Form) (c : ℕ) (part : ByteRange) → IsChunk form c part → IsAskedIn form ByChunk c part.start (checked_len form part)
chunk_checked Slices c part is = is
chunk_checked (Bare outline) c part is = (is.0, omega (arith, is.1))

pub asked_reaches : (form : Form) (fixed : Fixed) (blob : List ℕ) (grain : Grain) (c start len : ℕ) → IsFor form fixed blob → c < chunk_count (length blob) → IsAskedIn form grain c start len
    → (start ≤ 1024 * c) × (1024 * c < start + len)
asked_reaches Slices fixed blob ByGroup c start len of below asked = (omega (arith, asked.0), omega (arith, asked.0, asked.1))
asked_reaches Slices fixed blob ByChunk c start len of below asked = (omega (arith, asked.0), omega (arith, asked.0, asked.1))
asked_reaches (Bare outline) fixed blob ByGroup c start len of below asked = (omega (arith, asked.0), omega (arith, asked.0, asked.1, below, of.claims))
asked_reaches (Bare outline) fixed blob ByChunk c start len of below asked = (omega (arith, asked.0), omega (arith, asked.0, asked.1))

-- the form is of the blob's length
pub length_for : (form : Form) (fixed : Fixed) (blob : List ℕ) (l : ℕ) → IsFor form fixed blob → l ≡ length blob → IsLengthOf form l
length_for Slices fixed blob l of long = tt
length_for (Bare outline) fixed blob l of long = of.claims ∙ sym long

-- the text that is checked of what such a holder gave is the blob's slice
pub slice_given : {H : Type 0} (form : Form) (gives : H → ℕ → ℕ → List ℕ → Type 0) (mode : Mode) (blob : List ℕ) (holder : H) (part : ByteRange) (text given : List ℕ) → IsPart form part
    → GivesSlice (made_of form gives) mode blob part.start (checked_len form part) holder → text ≡ given → gives holder part.start part.len given
    → checked_text form part text ≡ slice_text mode blob part.start (checked_len form part)
slice_given Slices gives mode blob holder part text given whole slices same is = same ∙ slices given is
slice_given (Bare outline) gives mode blob holder part text given whole slices same is =
    slices (checked_text (Bare outline) part text) (record {
      bytes = text;
      given = subst (λ (n : ℕ). gives holder part.start n text) whole.2 (subst (λ (xs : List ℕ). gives holder part.start part.len xs) (sym same) is);
      is = refl;
    })

-- no slice is empty, so a holder that gives nothing but the blob's doesn't give nothing
never_empty : (mode : Mode) (blob : List ℕ) (start len : ℕ) → [] ≡ slice_text mode blob start len → ⊥
never_empty mode blob start len none =
    let no : 0 ≡ length (slice_text mode blob start len) = ap length none in
    absurd (omega (arith, no, length-append (length_text (length blob)) (subtree_text (of_slice (length blob) start len) mode 0 blob)))

-- nor are the bytes of a blob's chunks
never_bare : (fixed : Fixed) (outline : Outline) (blob : List ℕ) (part : ByteRange) → IsServed fixed blob → IsOutlineFor fixed outline blob
    → 1024 * (part.start / 1024) ≡ part.start → part.start < max (outline_claimed outline) 1 → part.len ≡ bare_len (outline_claimed outline) part.start (bare_part (chunks_of_part part))
    → beside_text (outline_text outline) part.start (bare_part (chunks_of_part part)) [] ≡ slice_text fixed.mode blob part.start (bare_part (chunks_of_part part)) → ⊥
never_bare fixed outline blob part served of starts within size none =
    let first : ℕ = part.start / 1024 in
    let count : ℕ = chunks_of_part part in
    let made : ℕ → List ℕ = λ start. beside_text (outline_text outline) start (bare_part count) [] in
    let good : IsAccepted fixed.mode fixed.root.0 (made part.start) (slice_nodes (made part.start) part.start (bare_part count)) =
    subst (λ (xs : List ℕ). IsAccepted fixed.mode fixed.root.0 xs (slice_nodes xs part.start (bare_part count))) (sym none) (served.accepted part.start (bare_part count)) in
    let here : IsAccepted (outline_mode outline) (outline_root outline) (made part.start) (slice_nodes (made part.start) part.start (bare_part count)) =
    subst (λ (mode : Mode). IsAccepted mode (outline_root outline) (made part.start) (slice_nodes (made part.start) part.start (bare_part count))) (sym of.mode_is)
    (subst (λ (root : List ℕ). IsAccepted fixed.mode root (made part.start) (slice_nodes (made part.start) part.start (bare_part count))) (sym of.root_is) good) in
    let bare = (bare_accepted (outline_mode outline) (outline_root outline) (outline_text outline) [] first count outline.accepted
    (omega (arith, of.claims, served.few)) (omega arith) (omega (arith, starts, within, size))).1
    (subst (λ (start : ℕ). IsAccepted (outline_mode outline) (outline_root outline) (made start) (slice_nodes (made start) start (bare_part count))) (sym starts) here) in
    let there = (bare.good first (omega arith) (omega arith)).0 in
    absurd (omega (arith, there, within, starts, of.claims, of.some))

pub slice_lost : {H : Type 0} (form : Form) (gives : H → ℕ → ℕ → List ℕ → Type 0) (fixed : Fixed) (blob : List ℕ) (holder : H) (part : ByteRange) → IsPart form part → IsFor form fixed blob
    → IsServed fixed blob → GivesSlice (made_of form gives) fixed.mode blob part.start (checked_len form part) holder → gives holder part.start part.len [] → ⊥
slice_lost Slices gives fixed blob holder part whole of served slices lost = never_empty fixed.mode blob part.start part.len (slices [] lost)
slice_lost (Bare outline) gives fixed blob holder part whole of served slices lost =
    never_bare fixed outline.now blob part served of whole.0 whole.1 whole.2
    (slice_given (Bare outline) gives fixed.mode blob holder part [] [] whole slices refl lost)

-- it is accepted as that slice
pub slice_made : (form : Form) (fixed known : Fixed) (part : ByteRange) (text : List ℕ) (piece : Checked) (blob : List ℕ) (start len : ℕ) → part.start ≡ start → checked_len form part ≡ len
    → checked_text form part text ≡ slice_text fixed.mode blob part.start (checked_len form part) → IsSliceCheck form known part text (Ok piece) → piece_of fixed.base piece ≡ slice_of fixed blob start len
slice_made form fixed known part text piece blob start len start_is len_is is check =
    slice_is fixed piece (form_mode form known) (form_root form known) part.start (checked_len form part) blob (checked_text form part text) check.1 is
    ∙ (ap (λ (n : ℕ). slice_of fixed blob n (checked_len form part)) start_is ∙ ap (λ (n : ℕ). slice_of fixed blob start n) len_is)

pub slice_of_store : (form : Form) (fixed known : Fixed) (blob : List ℕ) (part : ByteRange) (text : List ℕ) (piece : Checked) → IsFor form fixed blob → known ≡ fixed
    → IsSliceCheck form known part text (Ok piece) → IsOf fixed piece
slice_of_store Slices fixed known blob part text piece of same check = is_of fixed known piece part.start part.len text same check.1
slice_of_store (Bare outline) fixed known blob part text piece of same check = record {
  root = λ i. record { 0 = (check.1.root_is ∙ of.root_is) i };
  mode = check.1.mode_is ∙ of.mode_is;
}

pub slice_refused : (form : Form) (fixed known : Fixed) (part : ByteRange) (text blob : List ℕ) (fault : CheckFault) → IsFor form fixed blob → IsServed fixed blob → known ≡ fixed
    → checked_text form part text ≡ slice_text fixed.mode blob part.start (checked_len form part) → IsSliceCheck form known part text (Err fault) → ⊥
slice_refused Slices fixed known part text blob fault of served same is check =
    let no : false ≡ true = check.0.1 (slice_good fixed known blob text part.start part.len served same is) in cc
slice_refused (Bare outline) fixed known part text blob fault of served same is check =
    let made : List ℕ = checked_text (Bare outline) part text in
    let len : ℕ = checked_len (Bare outline) part in
    let good : IsAccepted fixed.mode fixed.root.0 made (slice_nodes made part.start len) = slice_good fixed fixed blob made part.start len served refl is in
    let here : IsAccepted (outline_mode outline.now) (outline_root outline.now) made (slice_nodes made part.start len) =
    subst (λ (mode : Mode). IsAccepted mode (outline_root outline.now) made (slice_nodes made part.start len)) (sym of.mode_is)
    (subst (λ (root : List ℕ). IsAccepted fixed.mode root made (slice_nodes made part.start len)) (sym of.root_is) good) in
    let no : false ≡ true = check.0.1 here in cc

-- what a holder gives of the slice that the length is asked for by
pub end_slice : {H : Type 0} (form : Form) (gives : H → ℕ → ℕ → List ℕ → Type 0) (mode : Mode) (blob : List ℕ) (holder : H) (part : ByteRange) (start len : ℕ) → IsEnd form part
    → IsEndIn form start len → GivesSlice (made_of form gives) mode blob start len holder → GivesSlice (made_of form gives) mode blob part.start (checked_len form part) holder
end_slice form gives mode blob holder part start len is end slice =
    let at = end_checked form part start len is end in
    subst (λ (n : ℕ). GivesSlice (made_of form gives) mode blob n (checked_len form part) holder) (sym at.0)
    (subst (λ (n : ℕ). GivesSlice (made_of form gives) mode blob start n holder) (sym at.1) slice)

-- one that gives nothing but a blob's bytes makes each slice, beside the blob's own outline
own_slice : {H : Type 0} (form : Form) (fixed : Fixed) (gives : H → ℕ → ℕ → List ℕ → Type 0) (blob : List ℕ) (start len : ℕ) (holder : H) → IsOwn form fixed blob
    → IsOfChunks (length blob) start len → ((at n : ℕ) (bytes : List ℕ) → gives holder at n bytes → bytes ≡ piece blob at n) → GivesSlice (made_of form gives) fixed.mode blob start len holder
own_slice Slices fixed gives blob start len holder own chunks true_bytes = absurd own
own_slice (Bare outline) fixed gives blob start len holder own chunks true_bytes = λ text made.
    let bytes : made.bytes ≡ piece blob start (bare_len (length blob) start len) =
    true_bytes start (bare_len (outline_claimed outline.now) start len) made.bytes made.given ∙ ap (λ (n : ℕ). piece blob start (bare_len n start len)) own.of.claims in
    let text_is : outline_text outline.now ≡ outboard_text fixed.mode blob = own.text_is in
    let claims : claimed (outboard_text fixed.mode blob) ≡ length blob = ap (λ (xs : List ℕ). claimed xs) (sym text_is) ∙ own.of.claims in
    let ends : length (outboard_text fixed.mode blob) ≡ text_end (outboard_nodes (outboard_text fixed.mode blob)) =
    subst (λ (xs : List ℕ). length xs ≡ text_end (outboard_nodes xs)) text_is outline.now.accepted.ends in
    made.is ∙ (λ i. beside_text (text_is i) start len (bytes i)) ∙ own_makes fixed.mode blob start len claims ends chunks
