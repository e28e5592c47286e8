-- What comes of a blob that is gathered in a draft of its own, or in memory, and then written.
use Rattle.std.specs.Borrow.{Bor}
use Rattle.std.proofs.Common.{◌≡◌, ℕ, Bool, false, List, [], Option, Some, IfSome, Result, Ok, Err, subst, sym, inl, inr}
use Rattle.std.specs.Bool.{⊤}
use Rattle.std.specs.Io.KnownBytes.{Appends}
use Rattle.b3tree.specs.declared.mode.Mode.{Mode}
use Rattle.b3tree.specs.declared.values.Hash.{Hash}
use Rattle.bao_files.specs.Encoded.{Encodes}
use Rattle.bao_text.specs.declared.kinds.Encoding.TheVariants.{Combined}
use Rattle.bao_text.specs.Texts.{combined_text}
use Rattle.bao_windows.specs.declared.fault.GatherFault.TheVariants.{TooLarge}
use Rattle.holders.specs.declared.form.Form.{Form}
use Rattle.holders.specs.declared.fixed.Fixed.{Fixed}
use Rattle.holders.specs.declared.piece.Piece.{Piece}
use Rattle.bao_tasks.specs.declared.gathered_fault.GatheredFault.{GatheredFault}
use Rattle.bao_tasks.specs.declared.gathered_fault.GatheredFault.TheVariants.{Gather}
use Rattle.bao_tasks.specs.declared.gathering.Gathering.{Gathering}
use Rattle.bao_tasks.specs.Gathered.{IsExcusedWrite, gathered_text}
use Rattle.bao_tasks.specs.TakenFiles.{IsGatheredFrom}
use Rattle.bao_tasks.proofs.Lists.{all_of_draft}

module _ (handed : Piece → Type 0) (form : Form) (fixed : Fixed) (how : Gathering) (Has : List ℕ → Type 0) where
  -- what is sure is so if something else is
  pub if_sure : (sure : Type 0) (encode : Bool) (old new : Option (List ℕ)) (result : Result ℕ GatheredFault)
      → IsGatheredFrom handed form fixed how Has ⊤ encode old new result → IsGatheredFrom handed form fixed how Has sure encode old new result
  if_sure sure encode old new (Ok count) is = record {
    ok = (is.ok.0, is.ok.1, is.ok.2, λ _. is.ok.3 tt);
    right = λ _. is.right tt;
    too_large = is.too_large;
    available = λ _. is.available tt;
  }
  if_sure sure encode old new (Err fault) is = record { ok = tt; right = λ _. is.right tt; too_large = is.too_large; available = λ _. is.available tt }

  -- the blob itself was to be written
  pub as_it_is : (sure : Type 0) (encode : Bool) (old new : Option (List ℕ)) (result : Result ℕ GatheredFault) → encode ≡ false
      → IsGatheredFrom handed form fixed how Has ⊤ false old new result → IsGatheredFrom handed form fixed how Has sure encode old new result
  as_it_is sure encode old new result plain is =
      subst (λ (e : Bool). IsGatheredFrom handed form fixed how Has sure e old new result) (sym plain) (if_sure sure false old new result is)

  -- no blob was gathered, so nothing was written
  pub not_written : (sure also : Type 0) (encode : Bool) (before after old new : Option (List ℕ)) (fault : GatheredFault) → (sure → also)
      → IsGatheredFrom handed form fixed how Has also false before after (Err fault) → IsGatheredFrom handed form fixed how Has sure encode old new (Err fault)
  not_written sure also encode before after old new fault so is = record {
    ok = tt;
    right = λ surely. is.right (so surely);
    too_large = is.too_large;
    available = λ surely. is.available (so surely);
  }

  -- what was refused isn't the files'
  pub excused : (sure : Type 0) (encode : Bool) (old new : Option (List ℕ)) (fault : GatheredFault) → IsExcusedWrite fault
      → IsGatheredFrom handed form fixed how Has sure encode old new (Err fault)
  excused sure encode old new fault is = record {
    ok = tt;
    right = λ _ blob root same. absurd (subst IsExcusedWrite same is);
    too_large = λ slices same. (let large : fault ≡ Gather TooLarge = cc in absurd (subst IsExcusedWrite large is));
    available = λ _ blob enough. inl is;
  }

  -- the blob is in the draft, and was written, or its encoding
  pub rewritten : (sure also : Type 0) (encode : Bool) (before after old new : Option (List ℕ)) (count : ℕ) → (sure → also) → (sure → before ≡ Some [])
      → IsGatheredFrom handed form fixed how Has also false before after (Ok count)
      → (sure → (blob : List ℕ) → after ≡ Some blob → Appends old new (gathered_text encode fixed.mode blob))
      → IsGatheredFrom handed form fixed how Has sure encode old new (Ok count)
  rewritten sure also encode before after old new count so fresh is wrote =
      let all : sure → (blob : List ℕ) → Appends before after blob → Appends old new (gathered_text encode fixed.mode blob) = λ surely blob appends.
      wrote surely blob (all_of_draft after blob (subst (λ (t : Option (List ℕ)). Appends t after blob) (fresh surely) appends)) in
      record {
        ok = (is.ok.0, is.ok.1, is.ok.2, λ surely. all surely is.ok.0 (is.ok.3 (so surely)));
        right = λ surely blob root. elim (is.right (so surely) blob root) [ inl done ↦ inl (done.0, all surely blob done.1) | inr pair ↦ inr pair ];
        too_large = λ slices same. cc;
        available = λ surely blob enough. elim (is.available (so surely) blob enough) [ inl done ↦ inl (done.0, all surely blob done.1) | inr pair ↦ inr pair ];
      }

-- what a draft was read back as, its encoding was made of
pub encoded_of : (after contents remaining : Option (List ℕ)) (mode : Mode) (file path : Bor (List ℕ)) (old new : Option (List ℕ)) (answer : Hash)
    → IfSome after (λ s. (contents ≡ Some s) × (remaining ≡ Some s)) → IfSome contents (λ s. remaining ≡ Some s → Encodes mode Combined s file path old new (Ok answer))
    → (blob : List ℕ) → after ≡ Some blob → Appends old new (combined_text mode blob)
encoded_of after contents remaining mode file path old new answer opened all blob is =
    let there = subst (λ (o : Option (List ℕ)). IfSome o (λ s. (contents ≡ Some s) × (remaining ≡ Some s))) is opened in
    let encodes = subst (λ (o : Option (List ℕ)). IfSome o (λ s. remaining ≡ Some s → Encodes mode Combined s file path old new (Ok answer))) there.0 all in
    (encodes there.1).1
