-- An outboard encoding that was read as far as it matters, and is a blob's own.
use Rattle.std.specs.Borrow.{Bor}
use Rattle.std.proofs.Common.{◌≡◌, ◌⊎◌, ℕ, ◌^◌, ◌<◌, List, length, Result, Ok, Err, OnOk, ap, subst, ◌∙◌, inl, inr, Bool}
use Rattle.b3tree.specs.declared.mode.Mode.{Mode}
use Rattle.b3tree.specs.declared.values.Hash.{Hash}
use Rattle.b3tree.specs.Valid.{AreBytes, IsKeyed}
use Rattle.bao_check.proofs.Laws.{first_fault-not_accepted}
use Rattle.bao_check.proofs.Written.{claimed-chosen_text, outboard_accepted}
use Rattle.bao_check.specs.Accepted.{IsAccepted, outboard_nodes}
use Rattle.bao_check.specs.declared.fault.CheckFault.{CheckFault}
use Rattle.bao_check.specs.declared.outline.Outline.{Outline}
use Rattle.bao_check.specs.Faults.{IsFirstFault}
use Rattle.bao_check.specs.Outline.{IsOutline}
use Rattle.bao_decode.specs.Copies.{IsEnoughOf}
use Rattle.bao_files.specs.Disks.{AreOf, FileState, Unknown, Absent, Stored}
use Rattle.bao_text.specs.Choice.{of_outboard}
use Rattle.bao_text.specs.Cut.{claimed}
use Rattle.bao_text.specs.Texts.{outboard_text}
use Rattle.holders.specs.declared.form.Form.{Form}
use Rattle.holders.specs.declared.form.Form.TheVariants.{Bare}
use Rattle.holders.specs.Blobs.{HasCollision, fixed_as}
use Rattle.holders.specs.Parts.{IsOwn, IsOwnOutline}
use Rattle.holders.specs.declared.fixed.Fixed.{Fixed}
use Rattle.holders.specs.Blobs.{IsBlob}
use Rattle.bao_tasks.specs.FromFiles.{CollidesBeside, CollidesBesideOutline, IsFromFile}
use Rattle.bao_tasks.specs.Gathered.{HasOutlineIn}

-- what was accepted is what the file has, as far as that is known
pub are_of : (state : FileState) (mode : Mode) (root text : List ℕ) → IsEnoughOf mode root state text → IsAccepted mode root text (outboard_nodes text) → AreBytes text → AreOf state text
are_of Unknown mode root text enough accepted bytes = bytes
are_of Absent mode root text enough accepted bytes = enough
are_of (Stored all) mode root text enough accepted bytes = enough.whole accepted

pub outline_in : (state : FileState) (mode : Mode) (root text : List ℕ) → IsEnoughOf mode root state text → IsAccepted mode root text (outboard_nodes text) → AreBytes text
    → HasOutlineIn state mode root
outline_in state mode root text enough accepted bytes = (text, are_of state mode root text enough accepted bytes, accepted)

pub where_ok : {T E : Type 0} (r : Result T E) (P : Type 0) → P → OnOk r P
where_ok (Ok x) P p = p
where_ok (Err e) P p = tt

module _ (root : Hash) (mode : Mode) (capacity : ℕ) (blob text : List ℕ) (state : FileState) (keyed : IsKeyed mode) (is : IsBlob (fixed_as root mode capacity) blob) (few : length blob < 2 ^ 64)
    (enough : IsEnoughOf mode root.0 state text) (stored : state ≡ Stored (outboard_text mode blob)) where
  -- the blob's own has no fault
  pub own_faultless : (fault : CheckFault) → IsFirstFault mode root.0 text (outboard_nodes text) fault → ⊥
  own_faultless fault first =
      let all : List ℕ = outboard_text mode blob in
      let read = subst (λ (s : FileState). IsEnoughOf mode root.0 s text) stored enough in
      let accepted : IsAccepted mode root.0 all (outboard_nodes all) = subst (λ (r : List ℕ). IsAccepted mode r all (outboard_nodes all)) is.root (outboard_accepted mode blob keyed few) in
      first_fault-not_accepted mode root.0 all (outboard_nodes all) fault (read.fault fault first) accepted

  -- what was accepted is its own
  pub own_outline : (outline : Outline) → IsOutline outline mode root.0 text → IsAccepted mode root.0 text (outboard_nodes text) → 0 < length blob
      → IsOwnOutline (fixed_as root mode capacity) outline blob
  own_outline outline checked accepted some =
      let read = subst (λ (s : FileState). IsEnoughOf mode root.0 s text) stored enough in
      let all : outline.text.now ≡ outboard_text mode blob = checked.text_is ∙ read.whole accepted in
      record {
        of = record {
          mode_is = checked.mode_is;
          root_is = checked.root_is;
          claims = ap (λ (t : List ℕ). claimed t) all ∙ claimed-chosen_text (of_outboard (length blob)) mode blob few;
          some = some;
        };
        text_is = all;
      }

-- a collision that is exhibited beside it
pub beside_of : (X : Type 0) (form : Form) (fixed : Fixed) (long : Bool) (at : List ℕ → FileState) (paths : List (Bor (List ℕ))) (blob : List ℕ) → IsOwn form fixed blob
    → X ⊎ HasCollision (IsFromFile form fixed long at paths) fixed blob → X ⊎ CollidesBeside fixed long at paths blob
beside_of X form fixed long at paths blob own (inl x) = inl x
beside_of X form fixed long at paths blob own (inr pair) = inr (record { form = form; own = own; pair = pair })

-- or beside any that was accepted
pub outlined_of : (X : Type 0) (outline : Outline) (root : Hash) (mode : Mode) (capacity : ℕ) (long : Bool) (at : List ℕ → FileState) (outboard : List ℕ) (paths : List (Bor (List ℕ))) (blob text : List ℕ)
    → AreOf (at outboard) text → IsOutline outline mode root.0 text
    → X ⊎ HasCollision (IsFromFile (Bare (record { ref_ptr = (0, 0); now = outline })) (fixed_as root mode capacity) long at paths) (fixed_as root mode capacity) blob
    → X ⊎ CollidesBesideOutline (fixed_as root mode capacity) long at outboard paths blob
outlined_of X outline root mode capacity long at outboard paths blob text of is (inl x) = inl x
outlined_of X outline root mode capacity long at outboard paths blob text of is (inr pair) =
    inr (record { text = text; of = of; form = Bare (record { ref_ptr = (0, 0); now = outline }); outline = is; pair = pair })
