-- What comes of a blob that is gathered window by window.
use Rattle.std.specs.Borrow.{Bor}
use Rattle.std.proofs.Common.{◌≡◌, ◌⊎◌, ℕ, ◌^◌, ◌<◌, ◌≤◌, false, List, length, Option, Some, slice_get, Result, Ok, Err, IfOk, IsErrOf, ◌∙◌, refl, sym, ap, subst, arith, inl, inr}
use Rattle.std.specs.Io.KnownBytes.{Appends}
use Rattle.b3tree.specs.declared.mode.Mode.{Mode}
use Rattle.std.specs.Bool.{⊤}
use Rattle.bao_files.specs.declared.fault.FileFault.TheVariants.{Write}
use Rattle.bao_windows.specs.declared.fault.GatherFault.{GatherFault}
use Rattle.bao_windows.specs.declared.fault.GatherFault.TheVariants.{NotTheRoot, TooLarge}
use Rattle.bao_text.proofs.Laws.{length-combined_text}
use Rattle.bao_text.specs.Choice.{chunk_count}
use Rattle.bao_text.specs.Texts.{combined_text}
use Rattle.holders.specs.declared.form.Form.{Form}
use Rattle.holders.specs.declared.form.Form.TheVariants.{Slices, Bare}
use Rattle.holders.specs.Forms.{AreSlices}
use Rattle.holders.specs.Blobs.{HasCollision, IsOfNone, fixed_as}
use Rattle.holders.specs.Available.{HaveSlices}
use Rattle.holders.specs.Lists.{IsFromSource, source_gives}
use Rattle.holders.specs.Parts.{IsOwn}
use Rattle.holders.specs.declared.piece.Piece.{Piece}
use Rattle.holders.specs.Blobs.{IsBlob}
use Rattle.bao_windows.specs.declared.fault.WindowsFault.{WindowsFault}
use Rattle.bao_windows.specs.declared.fault.WindowsFault.TheVariants as windows
use Rattle.bao_windows.specs.declared.wanted.Wanted.{Wanted}
use Rattle.bao_windows.specs.Copies.{HaveCopies, IsOwn as IsOwnWindows}
use Rattle.bao_windows.specs.Windows.{IsFrom, fixed_for}
use Rattle.bao_windows.specs.Written.{AreTooLong, IsWrittenOut as IsWrittenWindows, WroteBlob}
use Rattle.bao_tasks.specs.declared.gathered_fault.GatheredFault.{GatheredFault}
use Rattle.bao_tasks.specs.declared.gathered_fault.GatheredFault.TheVariants.{File, Gather}
use Rattle.bao_tasks.specs.declared.gathering.Gathering.{Gathering}
use Rattle.bao_tasks.specs.FromFiles.{AreEnough, HasRoom, fixed_of}
use Rattle.bao_tasks.specs.TakenFiles.{HasSound, IsGathered, IsRightOf}
use Rattle.bao_tasks.specs.Gathered.{Fits, HasRootAndFits, IsWrittenOut}
use Rattle.bao_tasks.proofs.FromFiles.{blob_as, by_text, pair_as, same_err}
use Rattle.bao_tasks.proofs.Together.{by_parts, copies_of, slices_of}

-- what windows answered, as gathering answers it
abbrev pub in_gathered : Bor (List ℕ) → Result ℕ WindowsFault → Result ℕ GatheredFault
in_gathered path (Ok count) = Ok count
in_gathered path (Err (windows.Gather fault)) = Err (Gather fault)
in_gathered path (Err windows.Write) = Err (File (Write path))

module _ (handed : Piece → Type 0) (how : Gathering) (path : Bor (List ℕ)) (old new : Option (List ℕ)) (blob : List ℕ) where
  pub right_windows : (most : ℕ) (result : Result ℕ WindowsFault) → IfOk result (λ count. WroteBlob handed how.wanted most old new count)
      → (IsErrOf result (windows.Gather NotTheRoot) → IsOfNone handed (fixed_as how.wanted.root how.wanted.mode 0)) → IsBlob (fixed_of how) blob
      → IsRightOf handed (fixed_of how) false blob old new (in_gathered path result)
  right_windows most (Ok count) wrote none is =
      elim (wrote.4 blob (blob_as how.wanted.root how.wanted.mode how.capacity 0 blob is)) [
        | inl same ↦ inl (wrote.3 ∙ ap length same, subst (λ (bytes : List ℕ). Appends old new bytes) same wrote.5)
        | inr pair ↦ inr (pair_as handed how.wanted.root how.wanted.mode 0 how.capacity blob pair)
      ]
  right_windows most (Err (windows.Gather fault)) wrote none is = λ same.
      let is_none : fault ≡ NotTheRoot = cc in
      let result : Result ℕ WindowsFault = Err (windows.Gather fault) in
      pair_as handed how.wanted.root how.wanted.mode 0 how.capacity blob
      (none (same_err result (windows.Gather fault) (windows.Gather NotTheRoot) refl (ap (λ (f : GatherFault). windows.Gather f) is_none)) blob
      (blob_as how.wanted.root how.wanted.mode how.capacity 0 blob is))
  right_windows most (Err windows.Write) wrote none is = λ same. let no : File (Write path) ≡ Gather NotTheRoot = same in cc

  pub out_of_windows : (result : Result ℕ WindowsFault) → IsWrittenWindows blob old new result ⊎ HasCollision handed (fixed_as how.wanted.root how.wanted.mode 0) blob
      → IsWrittenOut handed (fixed_of how) false blob old new (in_gathered path result)
  out_of_windows result (inr pair) = inr (pair_as handed how.wanted.root how.wanted.mode 0 how.capacity blob pair)
  out_of_windows (Ok count) (inl out) = inl out
  out_of_windows (Err (windows.Gather fault)) (inl out) = inl out
  out_of_windows (Err windows.Write) (inl out) = inl tt

-- an outline that is a blob's own for its store is so for windows
own_windows : (wanted : Wanted) (form : Form) (m : ℕ) (blob : List ℕ) → IsOwn form (fixed_as wanted.root wanted.mode m) blob → IsOwnWindows wanted form blob
own_windows wanted Slices m blob own = absurd own
own_windows wanted (Bare outline) m blob own = record { of_root = (own.of.mode_is, own.of.root_is); text_is = own.text_is }

-- a blob's bytes are fewer than those of its encoding
few_bytes : (mode : Mode) (blob text : List ℕ) → text ≡ combined_text mode blob → length text < 2 ^ 64 → length blob < 2 ^ 64
few_bytes mode blob text is few = omega (arith, few, ap length is, length-combined_text mode blob)

-- What windows answer, where the blob's form, root and mode and the sources are these.
module _ {S : Type 0} (contents : S → Option (List ℕ)) (faultless : S → Type 0) (sources givens : List S) (how : Gathering) (path : Bor (List ℕ)) (most : ℕ)
    (old new : Option (List ℕ)) (result answer : Result ℕ WindowsFault) (same_sources : sources ≡ givens) (same_result : result ≡ answer) where
  -- it comes where the sources suffice: one is true, or they have it together
  abbrev Comes : List ℕ → Type 0
  Comes blob = IsWrittenWindows blob old new result ⊎ HasCollision (IsFrom how.wanted contents faultless sources) (fixed_for how.wanted) blob

  abbrev ComesWhereEnough : Type 0
  ComesWhereEnough =
      (AreSlices how.wanted.form → (blob : List ℕ) (i : ℕ) (source : S) → IsBlob (fixed_for how.wanted) blob → length (combined_text how.wanted.mode blob) < 2 ^ 64 → chunk_count (length blob) ≤ most → slice_get sources i ≡ Some source → contents source ≡ Some (combined_text how.wanted.mode blob) → faultless source → Comes blob)
      × ((blob : List ℕ) (i : ℕ) (source : S) → IsOwnWindows how.wanted how.wanted.form blob → IsBlob (fixed_for how.wanted) blob → length blob < 2 ^ 64 → chunk_count (length blob) ≤ most → slice_get sources i ≡ Some source → contents source ≡ Some blob → faultless source → Comes blob)
      × (AreSlices how.wanted.form → (blob : List ℕ) → IsBlob (fixed_for how.wanted) blob → length blob < 2 ^ 64 → chunk_count (length blob) ≤ most → HaveSlices how.wanted.grain (source_gives contents faultless) how.wanted.mode blob sources → Comes blob)
      × ((blob : List ℕ) → IsOwnWindows how.wanted how.wanted.form blob → IsBlob (fixed_for how.wanted) blob → length blob < 2 ^ 64 → chunk_count (length blob) ≤ most → HaveCopies how.wanted.grain contents faultless blob sources → Comes blob)

  pub right_of_windows : IfOk result (λ count. WroteBlob (IsFrom how.wanted contents faultless sources) how.wanted most old new count)
      → (IsErrOf result (windows.Gather NotTheRoot) → IsOfNone (IsFrom how.wanted contents faultless sources) (fixed_for how.wanted)) → (blob : List ℕ)
      → IsBlob (fixed_of how) blob
      → IsRightOf (IsFromSource how.wanted.form contents faultless givens) (fixed_of how) false blob old new (in_gathered path answer)
  right_of_windows wrote none blob is =
      subst (λ (r : Result ℕ WindowsFault). IsRightOf (IsFromSource how.wanted.form contents faultless givens) (fixed_of how) false blob old new (in_gathered path r))
      same_result
      (subst (λ (s : List S). IsRightOf (IsFromSource how.wanted.form contents faultless s) (fixed_of how) false blob old new (in_gathered path result)) same_sources
      (right_windows (IsFrom how.wanted contents faultless sources) how path old new blob most result wrote none is))

  pub large_windows : how.capacity ≤ most → (IsErrOf result (windows.Gather TooLarge) → AreTooLong (IsFrom how.wanted contents faultless sources) (fixed_for how.wanted) most)
      → IsErrOf answer (windows.Gather TooLarge) → AreTooLong (IsFromSource how.wanted.form contents faultless givens) (fixed_of how) how.capacity
  large_windows more large is =
      let handed : Piece → Type 0 = IsFrom how.wanted contents faultless sources in
      let all : AreTooLong handed (fixed_for how.wanted) most = large (same_result ∙ is) in
      let long : AreTooLong handed (fixed_of how) how.capacity = λ blob root_is.
      elim (all blob (blob_as how.wanted.root how.wanted.mode how.capacity 0 blob root_is)) [
        | inl above ↦ inl (omega (arith, above, more))
        | inr pair ↦ inr (pair_as handed how.wanted.root how.wanted.mode 0 how.capacity blob pair)
      ] in
      subst (λ (s : List S). AreTooLong (IsFromSource how.wanted.form contents faultless s) (fixed_of how) how.capacity) same_sources long

  pub enough_windows : ((n : ℕ) → n < 2 ^ 64 → HasRoom how n → chunk_count n ≤ most)
      → ComesWhereEnough
      → (blob : List ℕ) → AreEnough how.wanted.form (fixed_of how) how blob (HasSound contents faultless givens)
      → IsWrittenOut (IsFromSource how.wanted.form contents faultless givens) (fixed_of how) false blob old new (in_gathered path answer)
  enough_windows room comes blob enough =
      let Has : List ℕ → Type 0 = HasSound contents faultless sources in
      let is : AreEnough how.wanted.form (fixed_of how) how blob Has =
      subst (λ (s : List S). AreEnough how.wanted.form (fixed_of how) how blob (HasSound contents faultless s)) (sym same_sources) enough in
      let handed : Piece → Type 0 = IsFrom how.wanted contents faultless sources in
      let root_is : IsBlob (fixed_for how.wanted) blob = blob_as how.wanted.root how.wanted.mode how.capacity 0 blob is.root in
      let X : Type 0 = IsWrittenOut handed (fixed_of how) false blob old new (in_gathered path result) in
      let out : X = elim is.some [
        | inl whole ↦
            let there : HasSound contents faultless sources whole.text = whole.has in
            by_text X how.wanted.form (fixed_of how) blob whole.text whole.text_is
            (λ slices same.
            out_of_windows handed how path old new blob result
            (comes.0 slices blob there.place there.source root_is (subst (λ (t : List ℕ). length t < 2 ^ 64) same whole.few)
            (room (length blob) (few_bytes how.wanted.mode blob whole.text same whole.few) is.room) there.there (there.known ∙ ap (λ (t : List ℕ). Some t) same) there.sound))
            (λ own same.
            let few : length blob < 2 ^ 64 = subst (λ (t : List ℕ). length t < 2 ^ 64) same whole.few in
            out_of_windows handed how path old new blob result
            (comes.1 blob there.place there.source (own_windows how.wanted how.wanted.form how.capacity blob own) root_is few (room (length blob) few is.room) there.there
            (there.known ∙ ap (λ (t : List ℕ). Some t) same) there.sound))
        | inr parts ↦
            by_parts X how.wanted.form (fixed_of how) how.wanted.grain blob Has parts
            (λ slices have.
            out_of_windows handed how path old new blob result
            (comes.2 slices blob root_is have.few (room (length blob) have.few is.room) (slices_of contents faultless sources how.wanted.grain how.wanted.mode blob have)))
            (λ own have.
            out_of_windows handed how path old new blob result
            (comes.3 blob (own_windows how.wanted how.wanted.form how.capacity blob own) root_is have.few (room (length blob) have.few is.room)
            (copies_of contents faultless sources how.wanted.grain blob have)))
      ] in
      subst (λ (r : Result ℕ WindowsFault). IsWrittenOut (IsFromSource how.wanted.form contents faultless givens) (fixed_of how) false blob old new (in_gathered path r))
      same_result
      (subst (λ (s : List S). IsWrittenOut (IsFromSource how.wanted.form contents faultless s) (fixed_of how) false blob old new (in_gathered path result)) same_sources
      out)

  abbrev GatheredFrom : ℕ → Type 0
  GatheredFrom count = (blob : List ℕ) × HasRootAndFits how how.wanted.mode how.wanted.root.0 blob × (count ≡ length blob) × (⊤ → Appends old new blob)

  found_by_windows : ((n : ℕ) → chunk_count n ≤ most → Fits how.long how.capacity n) → (r : Result ℕ WindowsFault)
      → IfOk r (λ count. WroteBlob (IsFrom how.wanted contents faultless sources) how.wanted most old new count) → IfOk (in_gathered path r) GatheredFrom
  found_by_windows fits (Ok count) wrote =
      (wrote.0, (wrote.1, fits (length wrote.0) wrote.2, wrote.6), wrote.3, λ _. wrote.5)
  found_by_windows fits (Err (windows.Gather fault)) wrote = tt
  found_by_windows fits (Err windows.Write) wrote = tt

  large_by_windows : (r : Result ℕ WindowsFault) → IsErrOf (in_gathered path r) (Gather TooLarge) → IsErrOf r (windows.Gather TooLarge)
  large_by_windows (Ok count) is = cc
  large_by_windows (Err (windows.Gather fault)) is =
      let same : fault ≡ TooLarge = cc in
      same_err {T = ℕ} {E = WindowsFault} (Err (windows.Gather fault)) (windows.Gather fault) (windows.Gather TooLarge) refl (ap (λ (f : GatherFault). windows.Gather f) same)
  large_by_windows (Err windows.Write) is = cc

  pub gathered_by_windows : ((n : ℕ) → chunk_count n ≤ most → Fits how.long how.capacity n) → how.capacity ≤ most → ((n : ℕ) → n < 2 ^ 64 → HasRoom how n → chunk_count n ≤ most)
      → IfOk result (λ count. WroteBlob (IsFrom how.wanted contents faultless sources) how.wanted most old new count)
      → (IsErrOf result (windows.Gather NotTheRoot) → IsOfNone (IsFrom how.wanted contents faultless sources) (fixed_for how.wanted))
      → (IsErrOf result (windows.Gather TooLarge) → AreTooLong (IsFrom how.wanted contents faultless sources) (fixed_for how.wanted) most)
      → ComesWhereEnough
      → IsGathered contents faultless givens how ⊤ false old new (in_gathered path answer)
  gathered_by_windows fits more room wrote none large comes = record {
    ok = subst (λ (r : Result ℕ WindowsFault). IfOk (in_gathered path r) GatheredFrom) same_result (found_by_windows fits result wrote);
    right = λ sure. right_of_windows wrote none;
    too_large = λ slices is. large_windows more large (large_by_windows answer is);
    available = λ sure. enough_windows room comes;
  }
