-- Blobs that two runs put at a path, out of the same known files.
use Rattle.std.proofs.Common.{◌≡◌, ◌⊎◌, ◌≤◌, inl, inr, ℕ, Bool, List, length, Some, Result, Ok, Err, IfOk, IfErr, OnErr, refl, sym, ap, subst, ◌∙◌}
use Rattle.b3tree.specs.declared.mode.Mode.{Mode}
use Rattle.bao_check.specs.Accepted.{IsAccepted, outboard_nodes}
use Rattle.holders.specs.Blobs.{fixed_as}
use Rattle.bao_check.proofs.Laws.{first_fault-not_accepted}
use Rattle.bao_decode.proofs.Openings.{stored_is}
use Rattle.bao_files.specs.Disks.{FileState, KeepsFiles, Puts, Stored}
use Rattle.bao_text.specs.Choice.{chunk_count}
use Rattle.bao_tasks.specs.FromFiles.{HasRoom, IsExcusedGathering, IsPutAt, IsRightAt, fixed_of}
use Rattle.bao_tasks.specs.Gathered.{HasOutlineIn, HasRootAndFits, IsFaultOfOutline, gathered_text}
use Rattle.bao_tasks.specs.declared.gathered_fault.GatheredFault.{GatheredFault}
use Rattle.bao_tasks.specs.declared.gathered_fault.GatheredFault.TheVariants.{File, Outboard, Gather}
use Rattle.bao_tasks.specs.declared.gathering.Gathering.{Gathering}
use Rattle.determined_texts.proofs.OneFault.{one_fault}
use Rattle.determined_program.proofs.OnDisks.{keeps_same, puts_same}
use Rattle.determined_texts.specs.Agreeing.{AgreeUnless}
use Rattle.determined_program.specs.Files.{SameWhereKnown}
use Rattle.determined_program.specs.Blobs.{AreAlike, PutCollision, SameOutboard, SamePut, SameRight}
use Rattle.determined_program.proofs.Blobs.{same_or_apart}

-- what is at OUT where a blob was put
abbrev pub HasPut : Mode → List ℕ → List ℕ → Gathering → (List ℕ → FileState) → (List ℕ → FileState) → ℕ → Type 0
HasPut mode root path how before after count =
    (blob : List ℕ) × HasRootAndFits how mode root blob × (count ≡ length blob) × Puts before after path (Some (gathered_text how.encode mode blob))

module _ (mode : Mode) (root : List ℕ) (before one other : List ℕ → FileState) (path : List ℕ) where
  one_put : (how also : Gathering) (m n : ℕ) → how.encode ≡ also.encode → HasPut mode root path how before one m → HasPut mode root path also before other n
      → ((m ≡ n) × SameWhereKnown before one other) ⊎ PutCollision mode root how.encode before one other path m n
  one_put how also m n encode p q =
      let theirs : Puts before other path (Some (gathered_text how.encode mode q.0)) =
      subst (λ (k : Bool). Puts before other path (Some (gathered_text k mode q.0))) (sym encode) q.3 in
      elim (same_or_apart p.0 q.0) [
        | inl same ↦ inl (
          p.2 ∙ ap (λ (s : List ℕ). length s) same ∙ sym q.2,
          puts_same before before one other (λ _. refl) path (gathered_text how.encode mode p.0) p.3
              (subst (λ (s : List ℕ). Puts before other path (Some (gathered_text how.encode mode s))) (sym same) theirs),
        )
        | inr apart ↦ inr (record {
          ours = p.0;
          theirs = q.0;
          apart = apart;
          our_bytes = p.1.2;
          their_bytes = q.1.2;
          our_hash = p.1.0;
          their_hash = q.1.0;
          our_count = p.2;
          their_count = q.2;
          our_text = p.3;
          their_text = theirs;
        })
      ]

  pub puts_agree : (how also : Gathering) (r s : Result ℕ GatheredFault) → how.encode ≡ also.encode → IfOk r (HasPut mode root path how before one) → IfOk s (HasPut mode root path also before other)
      → OnErr r (KeepsFiles before one) → OnErr s (KeepsFiles before other) → SamePut mode root how.encode before one other path r s
  puts_agree how also (Ok m) (Ok n) encode p q k l = one_put how also m n encode p q
  puts_agree how also (Ok m) (Err f) encode p q k l = tt
  puts_agree how also (Err e) (Ok n) encode p q k l = tt
  puts_agree how also (Err e) (Err f) encode p q k l = keeps_same before before one other (λ _. refl) k l

  -- what both answer is right of one blob
  same_text : (how also : Gathering) (blob : List ℕ) → how.encode ≡ also.encode → Puts before one path (Some (gathered_text how.encode mode blob))
      → Puts before other path (Some (gathered_text also.encode mode blob)) → SameWhereKnown before one other
  same_text how also blob encode ours theirs =
      puts_same before before one other (λ _. refl) path (gathered_text how.encode mode blob) ours
      (subst (λ (k : Bool). Puts before other path (Some (gathered_text k mode blob))) (sym encode) theirs)

  pub rights_agree : (how also : Gathering) (blob : List ℕ) (P : Type 0) (r s : Result ℕ GatheredFault) → how.encode ≡ also.encode → IsRightAt before one path how mode blob r ⊎ P
      → IsRightAt before other path also mode blob s ⊎ P → SameRight before one other r s ⊎ P
  rights_agree how also blob P r s encode (inr pair) q = inr pair
  rights_agree how also blob P r s encode (inl p) (inr pair) = inr pair
  rights_agree how also blob P (Ok m) (Ok n) encode (inl p) (inl q) = inl (p.0 ∙ sym q.0, same_text how also blob encode p.1 q.1)
  rights_agree how also blob P (Ok m) (Err f) encode (inl p) (inl q) = inl q
  rights_agree how also blob P (Err e) (Ok n) encode (inl p) (inl q) = inl p
  rights_agree how also blob P (Err e) (Err f) encode (inl p) (inl q) = inl (p, q)

  -- or of a blob of which there is a true file
  pub enough_agree : (how also : Gathering) (blob : List ℕ) (P : Type 0) (r s : Result ℕ GatheredFault) → how.encode ≡ also.encode → IsPutAt before one path how mode blob r ⊎ P
      → IsPutAt before other path also mode blob s ⊎ P
      → AgreeUnless (λ m n. (m ≡ n) × SameWhereKnown before one other) IsExcusedGathering IsExcusedGathering r s ⊎ P
  enough_agree how also blob P r s encode (inr pair) q = inr pair
  enough_agree how also blob P r s encode (inl p) (inr pair) = inr pair
  enough_agree how also blob P (Ok m) (Ok n) encode (inl p) (inl q) = inl (p.0 ∙ sym q.0, same_text how also blob encode p.1 q.1)
  enough_agree how also blob P (Ok m) (Err f) encode (inl p) (inl q) = inl q
  enough_agree how also blob P (Err e) (Ok n) encode (inl p) (inl q) = inl p
  enough_agree how also blob P (Err e) (Err f) encode (inl p) (inl q) = inl (inr (inl p))

-- how many workers there are, and the grain, have no part in which file is enough
pub room_as : (how also : Gathering) (n : ℕ) → AreAlike how also → HasRoom how n → HasRoom also n
room_as how also n alike (inl any) = inl (sym alike.long ∙ any)
room_as how also n alike (inr fits) = inr (subst (λ (k : ℕ). chunk_count n ≤ k) alike.capacity fits)

pub fixed_as_also : (how also : Gathering) → AreAlike how also → fixed_of how ≡ fixed_of also
fixed_as_also how also alike = λ i. fixed_as (alike.root i) (alike.mode i) (alike.capacity i)

-- an outboard encoding is accepted, or has one first fault
module _ (state : FileState) (mode : Mode) (root text : List ℕ) (there : state ≡ Stored text) where
  accepted : HasOutlineIn state mode root → IsAccepted mode root text (outboard_nodes text)
  accepted has = subst (λ (t : List ℕ). IsAccepted mode root t (outboard_nodes t)) (stored_is state has.0 text there has.1) has.2

  pub outboards_agree : (r s : Result ℕ GatheredFault) → IfOk r (λ _. HasOutlineIn state mode root) → IfOk s (λ _. HasOutlineIn state mode root)
      → IfErr r (IsFaultOfOutline state mode root) → IfErr s (IsFaultOfOutline state mode root) → SameOutboard r s
  outboards_agree (Ok m) (Ok n) p q k l = tt
  outboards_agree (Ok m) (Err (File f)) p q k l = tt
  outboards_agree (Ok m) (Err (Outboard f)) p q k l = first_fault-not_accepted mode root text (outboard_nodes text) f (l text there) (accepted p)
  outboards_agree (Ok m) (Err (Gather f)) p q k l = tt
  outboards_agree (Err (File e)) s p q k l = tt
  outboards_agree (Err (Gather e)) s p q k l = tt
  outboards_agree (Err (Outboard e)) (Ok n) p q k l = first_fault-not_accepted mode root text (outboard_nodes text) e (k text there) (accepted q)
  outboards_agree (Err (Outboard e)) (Err (File f)) p q k l = tt
  outboards_agree (Err (Outboard e)) (Err (Outboard f)) p q k l = one_fault mode root text (outboard_nodes text) e f (k text there) (l text there)
  outboards_agree (Err (Outboard e)) (Err (Gather f)) p q k l = tt
