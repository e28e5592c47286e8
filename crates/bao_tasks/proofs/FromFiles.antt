-- What the sources of files give, and what a try out of them answers.
use Rattle.std.specs.Borrow.{Bor}
use Rattle.std.proofs.Common.{if◌then◌else◌, ◌≡◌, ◌⊎◌, ℕ, zero, suc, ◌<◌, Bool, true, false, List, [], ◌∷◌, ◌++◌, length, Option, None, Some, IfSome, IsSome, is_some, MatchResult, Result, Ok, Err, slice_get, refl, sym, subst, arith, inl, inr, ◌∙◌, ◌≢◌}
use Rattle.std.proofs.lemmas.Option.{none-some, same_Some, slice_get_within}
use Rattle.std.specs.Bool.{⊤}
use Rattle.b3tree.specs.declared.mode.Mode.{Mode}
use Rattle.b3tree.specs.declared.values.Hash.{Hash}
use Rattle.bao_files.specs.declared.fault.FileFault.{FileFault}
use Rattle.bao_files.specs.declared.fault.FileFault.TheVariants as file
use Rattle.bao_files.specs.Disks.{FileState}
use Rattle.bao_text.specs.Texts.{combined_text}
use Rattle.bao_windows.specs.declared.fault.GatherFault.{GatherFault}
use Rattle.bao_windows.specs.declared.fault.GatherFault.TheVariants.{TooLarge, Unfinished, NotTheRoot, Starved}
use Rattle.bao_windows.specs.declared.fault.GatherFault.TheVariants as gather
use Rattle.holders.specs.declared.form.Form.{Form}
use Rattle.holders.specs.declared.form.Form.TheVariants.{Slices, Bare}
use Rattle.holders.specs.Forms.{AreSlices, IsLengthOf}
use Rattle.bao_windows.specs.Written.{AreTooLong}
use Rattle.holders.specs.Blobs.{HasCollision, fixed_as}
use Rattle.holders.specs.Lists.{IsFromSource}
use Rattle.holders.specs.Parts.{IsOwn}
use Rattle.holders.specs.Places.{IsCutAt, IsPartAt}
use Rattle.holders.specs.declared.fixed.Fixed.{Fixed}
use Rattle.holders.specs.declared.piece.Piece.{Piece}
use Rattle.holders.specs.Blobs.{IsBlob}
use Rattle.bao_tasks.specs.declared.gathered_fault.GatheredFault.{GatheredFault}
use Rattle.bao_tasks.specs.declared.gathered_fault.GatheredFault.TheVariants.{File, Gather, Outboard}
use Rattle.bao_tasks.specs.declared.gathering.Gathering.{Gathering}
use Rattle.bao_tasks.specs.Gathered.{IsWrittenOut}
use Rattle.bao_tasks.specs.GatheredFaults.{IsFirstUnread}
use Rattle.bao_tasks.specs.Givens.{most_bytes}
use Rattle.holders.proofs.Same.{pair_wider}
use Rattle.bao_tasks.specs.FromFiles.{IsExcusedFile, IsExcusedGathering, IsFromFile, IsPutAt, IsTextOf, file_bytes, never_fails, wanted_as}
use Rattle.bao_tasks.specs.MissingInFiles.{IsReachIn}
use Rattle.bao_tasks.specs.TakenFiles.{AreOfFiles, Follows, HasSound, IsDrafted, IsOfFile, IsOfWriting, IsRightDraft, IsTried, is_open, open_fault}

-- what is there in a list is there where more follows
pub still_there : {A : Type 0} (xs ys : List A) (i : ℕ) (x : A) → slice_get xs i ≡ Some x → slice_get (xs ++ ys) i ≡ Some x
still_there [] ys i x is = absurd (none-some x is)
still_there (y ∷ xs) ys zero x is = is
still_there (y ∷ xs) ys (suc i) x is = still_there xs ys i x is

pub last_there : {A : Type 0} (xs : List A) (x : A) → slice_get (xs ++ x ∷ []) (length xs) ≡ Some x
last_there [] x = refl
last_there (y ∷ xs) x = last_there xs x

-- what is there is one of those before, or the last
pub before_or_last : {A : Type 0} (xs : List A) (last x : A) (i : ℕ) → slice_get (xs ++ last ∷ []) i ≡ Some x → (slice_get xs i ≡ Some x) ⊎ (last ≡ x)
before_or_last [] last x zero is = inr (same_Some last x is)
before_or_last [] last x (suc i) is = absurd (none-some x is)
before_or_last (y ∷ xs) last x zero is = inl is
before_or_last (y ∷ xs) last x (suc i) is = before_or_last xs last x i is

module _ {S : Type 0} (contents : S → Option (List ℕ)) (faultless : S → Type 0) (sure : Type 0) where
  -- the bytes of a source are among those of more
  pub sound_kept : (Reach : ℕ → Type 0) (more : ℕ → Option (List ℕ)) (old new : List S) → Follows contents faultless sure Reach more old new → (bytes : List ℕ) → HasSound contents faultless old bytes
      → HasSound contents faultless new bytes
  sound_kept Reach more old new follows bytes has = record {
    place = has.place;
    source = has.source;
    there = subst (λ (xs : List S). slice_get xs has.place ≡ Some has.source) (sym follows.is) (still_there old (follows.source ∷ []) has.place has.source has.there);
    known = has.known;
    sound = has.sound;
  }

  -- so are those of the source that follows
  pub sound_last : (Reach : ℕ → Type 0) (more : ℕ → Option (List ℕ)) (old new : List S) → Follows contents faultless sure Reach more old new → sure → (bytes : List ℕ)
      → ((n : ℕ) → more n ≡ Some bytes)
      → HasSound contents faultless new bytes
  sound_last Reach more old new follows surely bytes is = record {
    place = length old;
    source = follows.source;
    there = subst (λ (xs : List S). slice_get xs (length old) ≡ Some follows.source) (sym follows.is) (last_there old follows.source);
    known = subst (λ (b : Option (List ℕ)). IfSome b (λ s. contents follows.source ≡ Some s)) (is follows.of.reach) (follows.of.known surely);
    sound = follows.of.sound surely;
  }

  -- it is of a file, as those before are
  pub files_more : (Reach : ℕ → Type 0) (bytes_of : ℕ → Bor (List ℕ) → Option (List ℕ)) (paths : List (Bor (List ℕ))) (place : ℕ) (path : Bor (List ℕ)) (old new : List S)
      → slice_get paths place ≡ Some path → Follows contents faultless sure Reach (λ n. bytes_of n path) old new → AreOfFiles contents faultless sure Reach bytes_of paths old
      → AreOfFiles contents faultless sure Reach bytes_of paths new
  files_more Reach bytes_of paths place path old new there follows before i source at =
      elim (before_or_last old follows.source source i (subst (λ (xs : List S). slice_get xs i ≡ Some source) follows.is at)) [
        | inl earlier ↦ before i source earlier
        | inr last ↦
            subst (λ (s : S). IsOfFile contents faultless sure Reach bytes_of paths s) last (record { place = place; path = path; there = there; of = follows.of })
      ]

-- what is cut out of a source's bytes is cut out of the file's
pub cut_of : (contents : Option (List ℕ)) (faultless : Type 0) (bytes : Option (List ℕ)) (start len : ℕ) (text : List ℕ) → IfSome bytes (λ s. contents ≡ Some s) → faultless
    → IsCutAt contents faultless start len text → IsCutAt bytes ⊤ start len text
cut_of contents faultless None start len text known sound cut = tt
cut_of contents faultless (Some s) start len text known sound cut = λ few.
    elim ((subst (λ (c : Option (List ℕ)). IsCutAt c faultless start len text) known cut) few) [ inl same ↦ inl same | inr lost ↦ absurd (lost.1 sound) ]

pub part_of : (contents : Option (List ℕ)) (faultless : Type 0) (bytes : Option (List ℕ)) (start len : ℕ) (text : List ℕ) → IfSome bytes (λ s. contents ≡ Some s) → faultless
    → IsPartAt contents faultless start len text → IsPartAt bytes ⊤ start len text
part_of contents faultless None start len text known sound cut = tt
part_of contents faultless (Some s) start len text known sound cut = λ few.
    elim ((subst (λ (c : Option (List ℕ)). IsPartAt c faultless start len text) known cut) few) [ inl same ↦ inl same | inr lost ↦ absurd (lost.1 sound) ]

-- a piece of the sources is one of the files
pub from_paths : {S : Type 0} (form : Form) (contents : S → Option (List ℕ)) (faultless : S → Type 0) (sure : Type 0) (Reach : ℕ → Type 0)
    (bytes_of : ℕ → Bor (List ℕ) → Option (List ℕ)) (paths : List (Bor (List ℕ))) (sources : List S) → sure → AreOfFiles contents faultless sure Reach bytes_of paths sources
    → (piece : Piece) → IsFromSource form contents faultless sources piece → (n : ℕ) × Reach n × IsFromSource form (bytes_of n) never_fails paths piece
from_paths Slices contents faultless sure Reach bytes_of paths sources surely are piece from =
    let file = are from.place from.holder from.there in
    let n : ℕ = file.of.reach in (
      n,
      file.of.reached surely,
      record {
        place = file.place;
        holder = file.path;
        there = file.there;
        given = cut_of (contents from.holder) (faultless from.holder) (bytes_of n file.path) piece.start piece.len piece.text (file.of.known surely) (file.of.sound surely) from.given;
      },
    )
from_paths (Bare outline) contents faultless sure Reach bytes_of paths sources surely are piece from =
    let file = are from.place from.holder from.there in
    let n : ℕ = file.of.reach in (
      n,
      file.of.reached surely,
      record {
        place = file.place;
        holder = file.path;
        there = file.there;
        given = record {
          bytes = from.given.bytes;
          given = part_of (contents from.holder) (faultless from.holder) (bytes_of n file.path) _ _ from.given.bytes (file.of.known surely) (file.of.sound surely) from.given.given;
          is = from.given.is;
        };
      },
    )

-- the capacity has no part in what a blob is, or a collision
pub blob_as : (root : Hash) (mode : Mode) (m n : ℕ) (blob : List ℕ) → IsBlob (fixed_as root mode m) blob → IsBlob (fixed_as root mode n) blob
blob_as root mode m n blob is = record { bytes = is.bytes; root = is.root }

pub pair_as : (handed : Piece → Type 0) (root : Hash) (mode : Mode) (m n : ℕ) (blob : List ℕ) → HasCollision handed (fixed_as root mode m) blob
    → HasCollision handed (fixed_as root mode n) blob
pair_as handed root mode m n blob has = record {
  piece = has.piece;
  from = has.from;
  accepted = record { bytes = has.accepted.bytes; accepted = has.accepted.accepted; base = has.accepted.base };
  pair = has.pair;
}

-- one fault for another that is the same
pub same_err : {T E : Type 0} (r : Result T E) (e f : E) → r ≡ Err e → e ≡ f → r ≡ Err f
same_err {T = T} {E = E} r e f is same = subst (λ (x : E). r ≡ Err x) same is

pub own_length : (form : Form) (root : Hash) (mode : Mode) (m : ℕ) (blob : List ℕ) → IsOwn form (fixed_as root mode m) blob → IsLengthOf form (length blob)
own_length Slices root mode m blob own = absurd own
own_length (Bare outline) root mode m blob own = own.of.claims

-- a text that makes a true file of a blob is its combined encoding, or the blob beside its own outboard encoding
pub by_text : (X : Type 0) (form : Form) (fixed : Fixed) (blob text : List ℕ) → IsTextOf form fixed blob text → (AreSlices form → text ≡ combined_text fixed.mode blob → X)
    → (IsOwn form fixed blob → text ≡ blob → X) → X
by_text X Slices fixed blob text is slices copies = slices tt is
by_text X (Bare outline) fixed blob text is slices copies = copies is.0 is.1

-- a try that made a draft made one with the blob's text, or a collision is exhibited
pub drafted_of : {T : Type 0} (contents : T → Option (List ℕ)) (how : Gathering) (mode : Mode) (blob : List ℕ) (P Q : Type 0) (result : Result (Option (ℕ × T)) GatheredFault)
    (found : Option (ℕ × T)) (made : ℕ × T) → IsTried contents how mode blob result ⊎ Q → (Q → P) → result ≡ Ok found → found ≡ Some made → IsDrafted contents how mode blob (Ok made) ⊎ P
drafted_of {T = T} contents how mode blob P Q result found made (inl tried) wide is there =
    inl (subst (λ (f : Option (ℕ × T)). IsTried contents how mode blob (Ok f)) there (subst (λ (r : Result (Option (ℕ × T)) GatheredFault). IsTried contents how mode blob r) is tried))
drafted_of contents how mode blob P Q result found made (inr pair) wide is there = inr (wide pair)

-- a try that ended in a fault ended in one that isn't of the files
pub fault_of : {T : Type 0} (contents : T → Option (List ℕ)) (how : Gathering) (mode : Mode) (blob : List ℕ) (P Q : Type 0) (result : Result (Option (ℕ × T)) GatheredFault)
    (fault : GatheredFault) → IsTried contents how mode blob result ⊎ Q → (Q → P) → result ≡ Err fault → IsExcusedGathering fault ⊎ P
fault_of {T = T} contents how mode blob P Q result fault (inl tried) wide is =
    inl (subst (λ (r : Result (Option (ℕ × T)) GatheredFault). IsTried contents how mode blob r) is tried)
fault_of contents how mode blob P Q result fault (inr pair) wide is = inr (wide pair)

-- At the end there was no memory, or a collision is exhibited: a file was left out for want of it, or it is what each of two tries met.
pub excused_end : (A A' H H' M M' E P : Type 0) → A ⊎ H → (H → M ⊎ P) → (A → A') → (H → H') → (H' → M → M' ⊎ P) → (A' ⊎ M' → E) → E ⊎ P
excused_end A A' H H' M M' E P (inl a) first hungry kept second excused = inl (excused (inl (hungry a)))
excused_end A A' H H' M M' E P (inr h) first hungry kept second excused = elim (first h) [
  | inl m ↦ elim (second (kept h) m) [ inl n ↦ inl (excused (inr n)) | inr p ↦ inr p ]
  | inr p ↦ inr p
]

-- one answer for another that is the same
pub same_ok : {T E : Type 0} (r : Result T E) (x y : T) → r ≡ Ok x → x ≡ y → r ≡ Ok y
same_ok {T = T} {E = E} r x y is same = subst (λ (z : T). r ≡ Ok z) same is

-- no sources are of any files
pub no_sources : {S : Type 0} (contents : S → Option (List ℕ)) (faultless : S → Type 0) (sure : Type 0) (Reach : ℕ → Type 0) (bytes_of : ℕ → Bor (List ℕ) → Option (List ℕ))
    (paths : List (Bor (List ℕ))) (sources : List S) → sources ≡ [] → AreOfFiles contents faultless sure Reach bytes_of paths sources
no_sources {S = S} contents faultless sure Reach bytes_of paths sources none i source there =
    absurd (none-some source (subst (λ (xs : List S). slice_get xs i ≡ Some source) none there))

-- a collision from a piece of the sources is one from a piece of the files
pub pair_of_files : {S : Type 0} (form : Form) (contents : S → Option (List ℕ)) (faultless : S → Type 0) (sure : Type 0) (limits : Fixed) (long : Bool) (at : List ℕ → FileState)
    (paths : List (Bor (List ℕ))) (sources : List S) → sure
    → AreOfFiles contents faultless sure (IsReachIn (wanted_as form limits) long limits.capacity at paths) (λ n. file_bytes (most_bytes form n) at) paths sources
    → (fixed : Fixed) (blob : List ℕ) → HasCollision (IsFromSource form contents faultless sources) fixed blob → HasCollision (IsFromFile form limits long at paths) fixed blob
pair_of_files form contents faultless sure limits long at paths sources surely are fixed blob pair =
    pair_wider (IsFromSource form contents faultless sources) (IsFromFile form limits long at paths)
    (from_paths form contents faultless sure (IsReachIn (wanted_as form limits) long limits.capacity at paths) (λ n. file_bytes (most_bytes form n) at) paths sources surely are) fixed blob pair

-- what is met by two tries in turn, or a collision is exhibited
pub met_or_pair : (M P Q : Type 0) → M ⊎ Q → (Q → P) → M ⊎ P
met_or_pair M P Q (inl m) wide = inl m
met_or_pair M P Q (inr pair) wide = inr (wide pair)

-- a try that made a draft is right of the blob
pub right_draft : {T : Type 0} (contents : T → Option (List ℕ)) (how : Gathering) (mode : Mode) (blob : List ℕ) (P : Type 0) (result : Result (ℕ × T) GatheredFault)
    → IsDrafted contents how mode blob result ⊎ P → IsRightDraft contents how mode blob result ⊎ P
right_draft contents how mode blob P result (inr pair) = inr pair
right_draft contents how mode blob P (Ok made) (inl done) = inl done
right_draft contents how mode blob P (Err fault) (inl excused) = inl (λ is. subst IsExcusedGathering is excused)

-- 902 isn't what is left to help with
pub not_other_root : (result : GatheredFault) (met : Option GatherFault) → ((fault : GatherFault) → result ≡ Gather fault → (met ≡ Some fault) ⊎ (fault ≡ Unfinished))
    → IfSome met (λ fault. is_open fault ≡ true) → result ≢ Gather NotTheRoot
not_other_root result met cause helps is = elim (cause NotTheRoot is) [
  | inl same ↦ (let no : false ≡ true = subst (λ (m : Option GatherFault). IfSome m (λ fault. is_open fault ≡ true)) same helps in cc)
  | inr other ↦ (let no : NotTheRoot ≡ Unfinished = other in cc)
]

-- files that were tried before aren't tried again: no draft is made, and a fault is the want of memory
pub untried_draft : {T : Type 0} (X : Type 0) (result : Result (Option T) GatheredFault) (found : Option T) (made : T)
    → MatchResult result (λ f. f ≡ None) (λ fault. fault ≡ File file.Memory) → result ≡ Ok found → found ≡ Some made → X
untried_draft {T = T} X result found made untried is there =
    let none : found ≡ None = subst (λ (r : Result (Option T) GatheredFault). MatchResult r (λ f. f ≡ None) (λ fault. fault ≡ File file.Memory)) is untried in
    absurd (none-some made (sym none ∙ there))

pub first_unread : {T : Type 0} (files : List (Bor (List ℕ))) (result : Result (Option T) GatheredFault) (fault : GatheredFault)
    → MatchResult result (λ f. f ≡ None) (λ fault. fault ≡ File file.Memory) → result ≡ Err fault → IsFirstUnread files fault
first_unread {T = T} files result fault untried is =
    inl (subst (λ (r : Result (Option T) GatheredFault). MatchResult r (λ f. f ≡ None) (λ fault. fault ≡ File file.Memory)) is untried)

-- a fault of a file that is there isn't one of writing
pub not_of_reading : (fault : GatheredFault) (path : Bor (List ℕ)) → IsOfWriting fault → fault ≡ File (file.Read path) → ⊥
not_of_reading fault path writing is = subst IsOfWriting is writing

-- all of the sources were tried, and no fault was met: there are none
pub none_untried : {S : Type 0} (contents : S → Option (List ℕ)) (faultless : S → Type 0) (sources : List S) (count : ℕ) (met : Option GatherFault) (bytes : List ℕ) → length sources ≡ count
    → (count ≡ 0) ⊎ IsSome met → met ≡ None → HasSound contents faultless sources bytes → ⊥
none_untried contents faultless sources count met bytes all (inl none) is has =
    let within : has.place < length sources = slice_get_within sources has.place has.source has.there in
    absurd (omega (arith, all, none, within))
none_untried contents faultless sources count met bytes all (inr some) is has = let no : false ≡ true = subst IsSome is some in cc

-- nor is what another file may help with what ended the work at once
pub not_open : (fault : GatheredFault) (cause : GatherFault) → open_fault (Err fault) ≡ None → is_open cause ≡ true → fault ≡ Gather cause → ⊥
not_open fault cause closed helps is =
    let no : (if is_open cause then Some cause else None) ≡ None = subst (λ (f : GatheredFault). open_fault (Err f) ≡ None) is closed in
    none-some cause (sym (subst (λ (b : Bool). (if b then Some cause else None) ≡ None) helps no))

-- 805 is what one of two tries met
pub one_large : (result : GatheredFault) (met met' : Option GatherFault) (P : Type 0) → ((fault : GatherFault) → result ≡ Gather fault → (met' ≡ Some fault) ⊎ (fault ≡ Unfinished))
    → (met ≡ Some TooLarge → P) → (met' ≡ Some TooLarge → (met ≡ Some TooLarge) ⊎ P) → result ≡ Gather TooLarge → P
one_large result met met' P cause first second is = elim (cause TooLarge is) [
  | inl same ↦ elim (second same) [ inl before ↦ first before | inr p ↦ p ]
  | inr other ↦ (let no : TooLarge ≡ Unfinished = other in cc)
]

-- what pieces of the sources certify pieces of the files do
pub long_wider : (handed wider : Piece → Type 0) (fixed : Fixed) (capacity : ℕ) → ((blob : List ℕ) → HasCollision handed fixed blob → HasCollision wider fixed blob)
    → AreTooLong handed fixed capacity → AreTooLong wider fixed capacity
long_wider handed wider fixed capacity wide long blob is = elim (long blob is) [ inl above ↦ inl above | inr pair ↦ inr (wide blob pair) ]

-- a draft that wasn't put at its path for want of memory, or since writing failed
pub put_failed : (old new : List ℕ → FileState) (path : List ℕ) (how : Gathering) (mode : Mode) (blob : List ℕ) (at : Bor (List ℕ)) (result : Result ℕ GatheredFault) (fault : GatheredFault)
    (cause : FileFault) → result ≡ Err fault → fault ≡ File cause → (cause ≡ file.Memory) ⊎ (cause ≡ file.Write at) → IsPutAt old new path how mode blob result
put_failed old new path how mode blob at result fault cause is same which =
    let excused : IsExcusedFile cause = elim which [ inl memory ↦ subst IsExcusedFile (sym memory) tt | inr written ↦ subst IsExcusedFile (sym written) tt ] in
    subst (λ (r : Result ℕ GatheredFault). IsPutAt old new path how mode blob r) (sym is) (subst IsExcusedGathering (sym same) excused)

-- what may still be helped with, where what was gathered from is enough, is want of memory for it, or a collision is exhibited
pub open_starved : (handed : Piece → Type 0) (fixed : Fixed) (encode : Bool) (blob : List ℕ) (old new : Option (List ℕ)) (result : Result ℕ GatheredFault)
    → IsWrittenOut handed fixed encode blob old new result → is_some (open_fault result) ≡ true → (open_fault result ≡ Some Starved) ⊎ HasCollision handed fixed blob
open_starved handed fixed encode blob old new result (inr pair) helps = inr pair
open_starved handed fixed encode blob old new (Ok n) (inl out) helps = let no : false ≡ true = helps in cc
open_starved handed fixed encode blob old new (Err (File fault)) (inl out) helps = let no : false ≡ true = helps in cc
open_starved handed fixed encode blob old new (Err (Outboard fault)) (inl out) helps = absurd out
open_starved handed fixed encode blob old new (Err (Gather gather.TooLarge)) (inl out) helps = absurd out
open_starved handed fixed encode blob old new (Err (Gather gather.Unfinished)) (inl out) helps = absurd out
open_starved handed fixed encode blob old new (Err (Gather gather.NotTheRoot)) (inl out) helps = let no : false ≡ true = helps in cc
open_starved handed fixed encode blob old new (Err (Gather gather.Memory)) (inl out) helps = let no : false ≡ true = helps in cc
open_starved handed fixed encode blob old new (Err (Gather gather.Starved)) (inl out) helps = inl refl
