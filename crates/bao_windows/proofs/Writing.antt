-- Parts of a blob that are written one after another.
use Rattle.std.proofs.Common.{◌≡◌, ℕ, ◌+◌, ◌≤◌, List, [], ◌++◌, length, take, take_at, Option, ◌∙◌, sym, ap, subst, arith, refl, append_assoc, append-nil, length-append}
use Rattle.std.proofs.KnownBytes.{Appends-kept, Appends-nil, Appends-trans}
use Rattle.std.specs.Io.KnownBytes.{Appends}
use Rattle.std.proofs.Math.Seq.{take-append-add}
use Rattle.std.proofs.lemmas.List.{take-append-le}
use Rattle.b3tree.specs.declared.hasher.Hasher.{Hasher}
use Rattle.bao_text.specs.declared.fault.WriteFault.{WriteFault}
use Rattle.bao_text.specs.declared.fault.WriteFault.TheVariants.{Memory, Writer}
use Rattle.bao_text.specs.Faults.{WroteOnly}
use Rattle.b3tree.proofs.BlockWords.{AreBytes-append, AreBytes-nil}
use Rattle.holders.specs.declared.fixed.Fixed.{Fixed}
use Rattle.holders.specs.declared.piece.Piece.{Piece}
use Rattle.bao_windows.proofs.Bytes.{both_at, first_at, none_at}
use Rattle.bao_windows.specs.declared.window.Slot.{Slot}
use Rattle.bao_windows.specs.Windows.{AreBytesAt, AreOfWindow, window_bytes}
use Rattle.bao_windows.specs.Written.{HasTaken, HasTakenTo, IsBegun, WroteBeginning, WroteOf}

pub nothing : (handed : Piece → Type 0) (fixed : Fixed) (total at : ℕ) (out : Option (List ℕ)) (hasher : Hasher) → WroteOf handed fixed total at 0 out out hasher hasher
nothing handed fixed total at out hasher = (
  [],
  refl,
  record {
    are = AreBytes-nil;
    each = none_at handed fixed at [] refl;
    wrote = Appends-nil out;
    took = λ s size taken. subst (λ (t : List ℕ). HasTaken fixed.mode total hasher t) (sym (append-nil s)) taken;
  },
)

-- and more was written
pub more : (handed : Piece → Type 0) (fixed : Fixed) (total at m n : ℕ) (a b c : Option (List ℕ)) (h i j : Hasher) → at + m ≤ total → WroteOf handed fixed total at m a b h i
    → WroteOf handed fixed total (at + m) n b c i j → WroteOf handed fixed total at (m + n) a c h j
more handed fixed total at m n a b c h i j within first second =
    let xs : List ℕ = first.0 in
    let ys : List ℕ = second.0 in
    let next : AreBytesAt handed fixed (at + length xs) ys = subst (λ (k : ℕ). AreBytesAt handed fixed (at + k) ys) (sym first.1) second.2.each in (
      xs ++ ys,
      omega (arith, length-append xs ys, first.1, second.1),
      record {
        are = AreBytes-append xs ys first.2.are second.2.are;
        each = both_at handed fixed at xs ys first.2.each next;
        wrote = Appends-trans a b c xs ys first.2.wrote second.2.wrote;
        took = λ s size taken. subst (λ (t : List ℕ). HasTaken fixed.mode total j t) (append_assoc s xs ys)
            (second.2.took (s ++ xs) (omega (arith, length-append s xs, size, first.1, within)) (first.2.took s size taken));
      },
    )

pub begun_so : (handed : Piece → Type 0) (fixed : Fixed) (total at len : ℕ) (a b : Option (List ℕ)) (h i : Hasher) → WroteOf handed fixed total at len a b h i → IsBegun handed fixed at a b
begun_so handed fixed total at len a b h i wrote = (wrote.0, wrote.2.each, wrote.2.wrote)

pub begun_none : (handed : Piece → Type 0) (fixed : Fixed) (at : ℕ) (a : Option (List ℕ)) → IsBegun handed fixed at a a
begun_none handed fixed at a = ([], none_at handed fixed at [] refl, Appends-nil a)

-- a beginning of a window's bytes was
pub begun_put : (handed : Piece → Type 0) (fixed : Fixed) (at total : ℕ) (window : List Slot) (a b : Option (List ℕ)) → AreOfWindow handed fixed at total window
    → WroteBeginning a b (window_bytes window) → IsBegun handed fixed at a b
begun_put handed fixed at total window a b whole wrote =
    (take wrote.0 (window_bytes window), first_at handed fixed at wrote.0 (window_bytes window) wrote.1 whole.each, wrote.2)

-- after so many bytes a beginning of more
pub begun_more : (handed : Piece → Type 0) (fixed : Fixed) (total at m : ℕ) (a b c : Option (List ℕ)) (h i : Hasher) → WroteOf handed fixed total at m a b h i
    → IsBegun handed fixed (at + m) b c → IsBegun handed fixed at a c
begun_more handed fixed total at m a b c h i first second =
    let xs : List ℕ = first.0 in
    let next : AreBytesAt handed fixed (at + length xs) second.0 = subst (λ (k : ℕ). AreBytesAt handed fixed (at + k) second.0) (sym first.1) second.1 in
    (xs ++ second.0, both_at handed fixed at xs second.0 first.2.each next, Appends-trans a b c xs second.0 first.2.wrote second.2)

-- the hasher has taken in what was written
pub taken_to : (handed : Piece → Type 0) (fixed : Fixed) (total at : ℕ) (a b : Option (List ℕ)) (h i : Hasher) → HasTaken fixed.mode total h [] → WroteOf handed fixed total 0 at a b h i → at ≤ total
    → HasTakenTo fixed.mode total at i
taken_to handed fixed total at a b h i taken wrote within = (wrote.0, omega (arith, wrote.1, within), wrote.2.took [] (omega arith) taken)

-- of a part of them a writer took a beginning
pub part_written : (old mid new : Option (List ℕ)) (done bytes rest all : List ℕ) (fault : WriteFault) → all ≡ done ++ (bytes ++ rest) → Appends old mid done → WroteOnly mid new bytes fault
    → WroteBeginning old new all
part_written old mid new done bytes rest all Memory is before kept = (
  length done,
  omega (arith, ap (λ (xs : List ℕ). length xs) is, length-append done (bytes ++ rest)),
  subst (λ (xs : List ℕ). Appends old new xs) (sym (ap (λ (xs : List ℕ). take (length done) xs) is ∙ take_at done (bytes ++ rest) (length done) refl)) (Appends-kept old mid new done before kept),
)
part_written old mid new done bytes rest all (Writer w) is before wrote = (
  length done + w,
  omega (arith, ap (λ (xs : List ℕ). length xs) is, length-append done (bytes ++ rest), length-append bytes rest, wrote.0),
  subst (λ (xs : List ℕ). Appends old new xs)
      (sym (ap (λ (xs : List ℕ). take (length done + w) xs) is
      ∙ (take-append-add done (bytes ++ rest) w ∙ ap (λ (xs : List ℕ). done ++ xs) (take-append-le w bytes rest (omega (arith, wrote.0))))))
      (Appends-trans old mid new done (take w bytes) before wrote.1),
)
