-- The lines of the first items, and those of one more.
use Rattle.std.proofs.Common.{◌≡◌, ℕ, ◌+◌, ◌<◌, ◌&&◌, Bool, true, false, refl, List, [], ◌∷◌, ◌++◌, length, take, Option, Ok, Err, slice_index_or, ◌⊎◌, inl, inr, ap, sym, ◌∙◌, subst, arith}
use Rattle.std.proofs.KnownBytes.{Appends-kept, Appends-trans}
use Rattle.std.proofs.Math.Seq.{take-append-add}
use Rattle.std.proofs.lemmas.List.{append-nil, append_assoc, take_all, take_more}
use Rattle.std.proofs.lemmas.List.Folds.{list_all-append}
use Rattle.std.specs.List.{AllZip, list_all}
use Rattle.std.specs.Io.KnownBytes.{Appends, Keeps}
use Rattle.bao_files.specs.Printed.{AppendsBeginning, Prints}
use Rattle.bao_files.specs.declared.fault.FileFault.{FileFault}
use Rattle.bao_files.specs.declared.fault.FileFault.TheVariants.{Read, Write, Output, Encoding, Memory}
use Rattle.bao_sums.specs.Each.{LeavesFirst, LeavesParts, PrintsBeginning, PrintsEach, lines_of}
use Rattle.bao_sums.specs.Steps.{LeavesOne, LeavesPart, PrintsOne}

module _ {X Y : Type 0} (Is : X → Y → Type 0) (line : X → Y → List ℕ) where
  zip_push : (xs : List X) (ys : List Y) (x : X) (y : Y) → AllZip Is xs ys → Is x y → AllZip Is (xs ++ x ∷ []) (ys ++ y ∷ [])
  zip_push [] [] x y all is = (is, tt)
  zip_push [] (b ∷ ys) x y all is = absurd all
  zip_push (a ∷ xs) [] x y all is = absurd all
  zip_push (a ∷ xs) (b ∷ ys) x y all is = (all.0, zip_push xs ys x y all.1 is)

  lines_push : (xs : List X) (ys : List Y) (x : X) (y : Y) → AllZip Is xs ys → lines_of line (xs ++ x ∷ []) (ys ++ y ∷ []) ≡ lines_of line xs ys ++ line x y
  lines_push [] [] x y all = append-nil (line x y)
  lines_push [] (b ∷ ys) x y all = absurd all
  lines_push (a ∷ xs) [] x y all = absurd all
  lines_push (a ∷ xs) (b ∷ ys) x y all =
      ap (λ (t : List ℕ). line a b ++ t) (lines_push xs ys x y all.1) ∙ sym (append_assoc (line a b) (lines_of line xs ys) (line x y))

  -- the line of the item after the first ones
  pub one_more : (items : List X) (i : ℕ) (item : X) (old mid new : Option (List ℕ)) (such : List Y → Type 0) (of : Y → Type 0) (more : List Y → Type 0)
      → i < length items → slice_index_or items i item ≡ item → ((ys : List Y) (y : Y) → such ys → of y → more (ys ++ y ∷ []))
      → PrintsEach Is line (take i items) old mid such → PrintsOne Is line item mid new of → PrintsEach Is line (take (i + 1) items) old new more
  one_more items i item old mid new such of more within there follows each one =
      let taken : take (i + 1) items ≡ take i items ++ item ∷ [] = take_more items i item within ∙ ap (λ (x : X). take i items ++ x ∷ []) there in (
        each.0 ++ one.0 ∷ [],
        subst (λ (xs : List X). AllZip Is xs (each.0 ++ one.0 ∷ [])) (sym taken) (zip_push (take i items) each.0 item one.0 each.1 one.1),
        follows each.0 one.0 each.2 one.2,
        subst (λ (xs : List X). Appends old new (lines_of line xs (each.0 ++ one.0 ∷ []))) (sym taken)
            (subst (Appends old new) (sym (lines_push (take i items) each.0 item one.0 each.1)) (Appends-trans old mid new _ _ each.3 one.3)),
      )

  -- what a fault at that item leaves
  pub fault_after : (items : List X) (i : ℕ) (item : X) (old mid new : Option (List ℕ)) (such : List Y → Type 0) (fault : FileFault)
      → i < length items → slice_index_or items i item ≡ item
      → PrintsEach Is line (take i items) old mid such → LeavesOne Is line item mid new fault → LeavesFirst Is line items old new fault
  fault_after items i item old mid new such (Read path) within there each one = one
  fault_after items i item old mid new such (Write path) within there each one = one
  fault_after items i item old mid new such Output within there each one =
      let taken : take (i + 1) items ≡ take i items ++ item ∷ [] = take_more items i item within ∙ ap (λ (x : X). take i items ++ x ∷ []) there in
      let before : List ℕ = lines_of line (take i items) each.0 in
      let count : ℕ = one.2.0 in (
        i + 1,
        each.0 ++ one.0 ∷ [],
        omega (arith, within),
        subst (λ (xs : List X). AllZip Is xs (each.0 ++ one.0 ∷ [])) (sym taken) (zip_push (take i items) each.0 item one.0 each.1 one.1),
        (
          length before + count,
          subst (λ (xs : List X). Appends old new (take (length before + count) (lines_of line xs (each.0 ++ one.0 ∷ [])))) (sym taken)
              (subst (λ (t : List ℕ). Appends old new (take (length before + count) t)) (sym (lines_push (take i items) each.0 item one.0 each.1))
              (subst (Appends old new) (sym (take-append-add before (line item one.0) count)) (Appends-trans old mid new _ _ each.3 one.2.1))),
        ),
      )
  fault_after items i item old mid new such Encoding within there each one = one
  fault_after items i item old mid new such Memory within there each one =
      (i, each.0, omega (arith, within), each.1, Appends-kept old mid new _ each.3 one)

-- the same of a line that is printed piece by piece
module _ {X Y : Type 0} (Is Part : X → Y → Type 0) (follows : (x : X) (y : Y) → Is x y → Part x y) (line : X → Y → List ℕ) where
  zip_part : (xs : List X) (ys : List Y) → AllZip Is xs ys → AllZip Part xs ys
  zip_part [] [] all = tt
  zip_part [] (b ∷ ys) all = absurd all
  zip_part (a ∷ xs) [] all = absurd all
  zip_part (a ∷ xs) (b ∷ ys) all = (follows a b all.0, zip_part xs ys all.1)

  part_after : (items : List X) (i : ℕ) (item : X) (old mid new : Option (List ℕ)) (such : List Y → Type 0) → i < length items → slice_index_or items i item ≡ item
      → PrintsEach Is line (take i items) old mid such → Keeps mid new ⊎ ((outcome : Y) × Part item outcome × AppendsBeginning mid new (line item outcome))
      → PrintsBeginning Part line items old new
  part_after items i item old mid new such within there each (inl kept) =
      let first = fault_after Part line items i item old mid new such Memory within there (each.0, zip_part (take i items) each.0 each.1, each.2, each.3) kept in
      let lines : List ℕ = lines_of line (take first.0 items) first.1 in
      (first.0, first.1, first.2, first.3, (length lines, subst (Appends old new) (sym (take_all (length lines) lines (omega arith))) first.4))
  part_after items i item old mid new such within there each (inr part) =
      fault_after Part line items i item old mid new such Output within there (each.0, zip_part (take i items) each.0 each.1, each.2, each.3) part

  pub parts_after : (items : List X) (i : ℕ) (item : X) (old mid new : Option (List ℕ)) (such : List Y → Type 0) (fault : FileFault) → i < length items → slice_index_or items i item ≡ item
      → PrintsEach Is line (take i items) old mid such → LeavesPart Part line item mid new fault → LeavesParts Part line items old new fault
  parts_after items i item old mid new such (Read path) within there each part = part
  parts_after items i item old mid new such (Write path) within there each part = part
  parts_after items i item old mid new such Output within there each part = part_after items i item old mid new such within there each part
  parts_after items i item old mid new such Encoding within there each part = part
  parts_after items i item old mid new such Memory within there each part = part_after items i item old mid new such within there each part

-- a line that was printed, or wasn't
pub printed_one : {X Y : Type 0} (Is : X → Y → Type 0) (line : X → Y → List ℕ) (item : X) (outcome : Y) (text : List ℕ) (old new : Option (List ℕ)) (such : Y → Type 0)
    → Is item outcome → such outcome → text ≡ line item outcome → Prints text old new (Ok tt) → PrintsOne Is line item old new such
printed_one Is line item outcome text old new such is has same printed = (outcome, is, has, subst (Appends old new) same printed)

pub left_one : {X Y : Type 0} (Is : X → Y → Type 0) (line : X → Y → List ℕ) (item : X) (outcome : Y) (text : List ℕ) (old new : Option (List ℕ)) (fault : FileFault)
    → Is item outcome → text ≡ line item outcome → (fault ≡ Memory) ⊎ (fault ≡ Output) → Prints text old new (Err fault) → LeavesOne Is line item old new fault
left_one Is line item outcome text old new (Read path) is same of printed = elim of [ inl memory ↦ cc memory | inr output ↦ cc output ]
left_one Is line item outcome text old new (Write path) is same of printed = elim of [ inl memory ↦ cc memory | inr output ↦ cc output ]
left_one Is line item outcome text old new Output is same of printed = (outcome, is, subst (AppendsBeginning old new) same printed)
left_one Is line item outcome text old new Encoding is same of printed = elim of [ inl memory ↦ cc memory | inr output ↦ cc output ]
left_one Is line item outcome text old new Memory is same of printed = printed

one_passes : (b : Bool) → (b && true) ≡ b
one_passes true = refl
one_passes false = refl

pub all_more : {Y : Type 0} (p : Y → Bool) (ys : List Y) (y : Y) (whole one both : Bool) → both ≡ (whole && one) → whole ≡ list_all p ys → one ≡ p y → both ≡ list_all p (ys ++ y ∷ [])
all_more p ys y whole one both is before last =
    is ∙ ap (λ (b : Bool). b && one) before ∙ ap (λ (b : Bool). list_all p ys && b) (last ∙ sym (one_passes (p y))) ∙ sym (list_all-append p ys (y ∷ []))
