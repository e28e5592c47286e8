-- Slices that are cut out of known files.
use Rattle.std.proofs.Common.{◌≡◌, ◌^◌, ◌<◌, ℕ, List, length, Some, Result, Ok, Err, IfErr, IfOk, OnOk, inl, inr, ap, subst, ◌∙◌}
use Rattle.std.specs.Borrow.{Bor}
use Rattle.b3tree.specs.declared.mode.Mode.{Mode}
use Rattle.bao_decode.specs.Ranges.{IsPartText, written_count}
use Rattle.bao_decode.specs.Weaving.{CutBesideStops, cut_beside}
use Rattle.bao_decode.specs.declared.decode_fault.DecodeFault.{DecodeFault}
use Rattle.bao_decode.specs.declared.decode_fault.DecodeFault.TheVariants.{File}
use Rattle.bao_files.specs.Disks.{FileState, Puts}
use Rattle.bao_files.specs.declared.fault.FileFault.TheVariants as file
use Rattle.bao_text.specs.declared.kinds.Part.{Part}
use Rattle.bao_text.specs.declared.kinds.Part.TheVariants.{Slice}
use Rattle.determined_program.proofs.OnDisks.{puts_same}
use Rattle.determined_texts.specs.Agreeing.{AgreeUnless}
use Rattle.determined_program.specs.Files.{SameWhereKnown}
use Rattle.determined_program.specs.Copies.{MayComeBeside, MayComeOfCopy}
use Rattle.determined_program.proofs.Decoded.{decodes_agree}

-- an accepted slice, and how many bytes it has, of the text that was cut out
pub part_is : (mode : Mode) (root : List ℕ) (part : Part) (xs cut : List ℕ) (m : ℕ) → xs ≡ cut → IsPartText mode root part xs → m ≡ written_count part xs
    → IsPartText mode root part cut × (m ≡ written_count part cut)
part_is mode root part xs cut m same accepted count = (subst (IsPartText mode root part) same accepted, count ∙ ap (written_count part) same)

-- where both put the slice, what is known of each path is the same
pub both_cut : {X Y E F : Type 0} (a b one other : List ℕ → FileState) → ((at : List ℕ) → a at ≡ b at) → (path cut : List ℕ) (r : Result X E) (s : Result Y F)
    → IfOk r (λ _. (text : List ℕ) × (text ≡ cut) × Puts a one path (Some text)) → IfOk s (λ _. (text : List ℕ) × (text ≡ cut) × Puts b other path (Some text))
    → OnOk r (OnOk s (SameWhereKnown a one other))
both_cut a b one other same path cut (Ok x) (Ok y) p q =
    puts_same a b one other same path cut (subst (λ (t : List ℕ). Puts a one path (Some t)) p.1 p.2) (subst (λ (t : List ℕ). Puts b other path (Some t)) q.1 q.2)
both_cut a b one other same path cut (Ok x) (Err f) p q = tt
both_cut a b one other same path cut (Err e) s p q = tt

module _ (mode : Mode) (root : List ℕ) (start len : ℕ) (outline bytes : List ℕ) (short : length (cut_beside outline bytes start len) < 2 ^ 63) (outboard copy path : Bor (List ℕ)) where
  abbrev woven : List ℕ
  woven = cut_beside outline bytes start len

  abbrev Good : Type 0
  Good = IsPartText mode root (Slice start len) woven

  abbrev IsDone : ℕ → Type 0
  IsDone m = Good × (m ≡ written_count (Slice start len) woven)

  abbrev Stops : Type 0 → DecodeFault → Type 0
  Stops faultless fault = CutBesideStops mode root start len faultless outline bytes outboard copy path fault

  -- a fault of the slice may come of the copy, and of the outboard encoding beside it
  copy_may : (faultless : Type 0) (f : DecodeFault) → MayComeOfCopy Good faultless copy path f → MayComeBeside Good faultless outboard copy path f
  copy_may faultless f (inl memory) = inl memory
  copy_may faultless f (inr (inl write)) = inr (inl write)
  copy_may faultless f (inr (inr read)) = inr (inr (inr read))

  wider : (faultless also_faultless : Type 0) (r s : Result ℕ DecodeFault)
      → AgreeUnless (λ m n. m ≡ n) (MayComeOfCopy Good faultless copy path) (MayComeOfCopy Good also_faultless copy path) r s
      → AgreeUnless (λ m n. m ≡ n) (MayComeBeside Good faultless outboard copy path) (MayComeBeside Good also_faultless outboard copy path) r s
  wider faultless also_faultless (Ok m) (Ok n) h = h
  wider faultless also_faultless (Ok m) (Err f) h = copy_may also_faultless f h
  wider faultless also_faultless (Err e) (Ok n) h = copy_may faultless e h
  wider faultless also_faultless (Err e) (Err f) (inl same) = inl same
  wider faultless also_faultless (Err e) (Err f) (inr (inl may)) = inr (inl (copy_may faultless e may))
  wider faultless also_faultless (Err e) (Err f) (inr (inr may)) = inr (inr (copy_may also_faultless f may))

  -- the fault of a read of the outboard encoding's length, or one of the slice
  ours_first : (faultless also_faultless : Type 0) (e : DecodeFault) (s : Result ℕ DecodeFault) → (e ≡ File (file.Read outboard)) × ¬ faultless
      → AgreeUnless (λ m n. m ≡ n) (MayComeBeside Good faultless outboard copy path) (MayComeBeside Good also_faultless outboard copy path) (Err e) s
  ours_first faultless also_faultless e (Ok n) read = inr (inr (inl read))
  ours_first faultless also_faultless e (Err f) read = inr (inl (inr (inr (inl read))))

  theirs_first : (faultless also_faultless : Type 0) (r : Result ℕ DecodeFault) (f : DecodeFault) → (f ≡ File (file.Read outboard)) × ¬ also_faultless
      → AgreeUnless (λ m n. m ≡ n) (MayComeBeside Good faultless outboard copy path) (MayComeBeside Good also_faultless outboard copy path) r (Err f)
  theirs_first faultless also_faultless (Ok m) f read = inr (inr (inl read))
  theirs_first faultless also_faultless (Err e) f read = inr (inr (inr (inr (inl read))))

  pub slices_beside_agree : (faultless also_faultless : Type 0) (r s : Result ℕ DecodeFault) → IfOk r IsDone → IfErr r (Stops faultless) → IfOk s IsDone → IfErr s (Stops also_faultless)
      → AgreeUnless (λ m n. m ≡ n) (MayComeBeside Good faultless outboard copy path) (MayComeBeside Good also_faultless outboard copy path) r s
  slices_beside_agree faultless also_faultless (Err e) s p (inl read) q q' = ours_first faultless also_faultless e s read
  slices_beside_agree faultless also_faultless (Ok m) (Err f) p p' q (inl read) = theirs_first faultless also_faultless (Ok m) f read
  slices_beside_agree faultless also_faultless (Err e) (Err f) p (inr h) q (inl read) = theirs_first faultless also_faultless (Err e) f read
  slices_beside_agree faultless also_faultless (Ok m) (Ok n) p p' q q' =
      wider faultless also_faultless (Ok m) (Ok n) (decodes_agree mode root (Slice start len) woven short faultless also_faultless copy path (Ok m) (Ok n) p tt q tt)
  slices_beside_agree faultless also_faultless (Ok m) (Err f) p p' q (inr k) =
      wider faultless also_faultless (Ok m) (Err f) (decodes_agree mode root (Slice start len) woven short faultless also_faultless copy path (Ok m) (Err f) p tt tt k)
  slices_beside_agree faultless also_faultless (Err e) (Ok n) p (inr h) q q' =
      wider faultless also_faultless (Err e) (Ok n) (decodes_agree mode root (Slice start len) woven short faultless also_faultless copy path (Err e) (Ok n) tt h q tt)
  slices_beside_agree faultless also_faultless (Err e) (Err f) p (inr h) q (inr k) =
      wider faultless also_faultless (Err e) (Err f) (decodes_agree mode root (Slice start len) woven short faultless also_faultless copy path (Err e) (Err f) tt h tt k)
