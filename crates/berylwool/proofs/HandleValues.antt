-- The machine values of a handle, and a handle taken apart and put together. Assumes `Logic`.
use Rattle.std.proofs.Common.{◌≡◌, ℕ, List, [], ◌∷◌, ◌++◌, refl, subst, lit<}
use seplogic.Ra.Ura.{Ura}
use mir.Syntax.{impl, tnil, dnil}
use mir.Val.{Val, vstruct, of_list, has_ty}
use types.Logic.{Logic, sem}
use base.Logic.{SProp, ent, guard, guard_i, snd∗, via}
use base.Fml.{Fml}
use base.Fraction.{full_share}
use mir.Raw.{raw as bare}
use contract.Monad.{fact_use}
use denote.Memory.{lone, part_at}
use Rattle.core.specs.Ptr.{if_non_null, points_to}
use Rattle.std.specs.declared.alloc.Global.{Global}
use Rattle.std.proofs.GlobalToken.{dealloc_token-Testable}
use Rattle.std_alloc.specs.Box.Ownership.{box_owns}
use Rattle.std.specs.declared.option.Option.{Option}
use Rattle.std.specs.declared.option.Option.TheVariants.{None, Some}
use Rattle.berylwool.specs.declared.owned.Held.{Held}
use Rattle.berylwool.specs.contracts.owned.Held as held
use types.Kit.{Item, Goal, Seq, Step, step, ‵, ◌$◌, move, drop, fsplit, fjoin, fpick, fpack, feq_i, feq_l, use1, given, learn}
use denote.RattleType.{RattleType, Valss}
use denote.Builtin.{RawPtr}
use denote.RawPtr.{Ptr, block_ptr, null_ptr, ptr_val, lies_at, Testable}
use denote.Steps.{nothing}
use denote.Param.{layout}
use denote.Struct.Struct.{within}
use denote.Struct.Owning.{shape}
use Rattle.core.proofs.alloc.Calls.{Al, handle_tells}
use Rattle.core.proofs.cell.Inside.{Good}
use Rattle.std.specs.contracts.alloc.Global as heap
use Rattle.std.proofs.alloc.Global.TheLaws as heap_laws
use Rattle.std.specs.contracts.impls.GlobalAllocator.TheImpl.{ghosts}
use Rattle.std_alloc.proofs.ResultValues.{and_tt}
use Rattle.berylwool.specs.contracts.handle.BwHandle as handle
use Rattle.berylwool.specs.Handles.{IsGood, handle_owns}
use Rattle.berylwool.proofs.Values.{both}

abbrev pub Z : RattleType
Z = heap.the_row

abbrev pub H' : RattleType
H' = handle.the_row

abbrev al : Al
al = record { row = Z; laws = heap_laws.the_row_laws; g = ghosts; d = impl [] tnil dnil; drops = impl [] tnil dnil }

pub handle_good : (p : Ptr) (h : Val) → Good (layout Z) h → Good (layout H') (both (ptr_val p) h)
handle_good (block_ptr b o) h fits = (and_tt (has_ty (layout Z) h) fits.0, (tt, (fits.1, tt)))
handle_good null_ptr h fits = (and_tt (has_ty (layout Z) h) fits.0, (record { fits = lit< tt }, (fits.1, tt)))

module _ {M : Type 1} {𝓤 : Ura M} {𝓛 : Logic 𝓤} {K : Type 0} {Γ : List (Item 𝓤)} {G : Goal 𝓤 𝓛.H} where
  pub handle_out : K → (d : H'.Denot) (vs : List Val)
      → ((h : Val) → vs ≡ both (ptr_val d.at) h ∷ [] → Good (layout Z) h → Seq K 𝓛 (‵ (handle_owns d.at d.alloc d.held) ∷ ‵ (Z.own_val d.alloc (h ∷ [])) ∷ Γ) G)
      → Seq K 𝓛 (‵ (H'.own_val d vs) ∷ Γ) G
  handle_out t d vs k =
      fsplit t $ fpick t (λ vss. fsplit t $ feq_l t (λ ev. fsplit t $ feq_l t (λ ep. fsplit t $ handle_tells al t d.alloc vss.1.0 (λ h ea fits. move t (1 ∷ []) $ drop t $ move t (1 ∷ []) $ k h
      (subst (λ (ws : List Val). vs ≡ vstruct (of_list (ptr_val d.at ∷ (ws ++ []))) ∷ []) ea (subst (λ (ps : List Val). vs ≡ vstruct (of_list (ps ++ (vss.1.0 ++ []))) ∷ []) ep ev)) fits))))

  pub handle_in : K → (p : Ptr) (h : Val) (a : Z.Denot) (x : Option Held)
      → Step K 𝓛 (‵ (H'.own_val (record { at = p; alloc = a; held = x }) (both (ptr_val p) h ∷ [])) ∷ Γ) G (‵ (handle_owns p a x) ∷ ‵ (Z.own_val a (h ∷ [])) ∷ Γ) G
  handle_in t p h a x = step (λ s. let v : Val = both (ptr_val p) h in
      nothing t $ move t (2 ∷ 0 ∷ []) $ fjoin t $ feq_i t (List Val) (ptr_val p ∷ []) (ptr_val p ∷ []) refl $ fjoin t $ feq_i t (List Val) (v ∷ []) (v ∷ []) refl $ fjoin t $
      fpack t (Valss (RawPtr ∷ Z ∷ [])) (within (shape handle.the_type) (p, (((a.memory.seal, tt), tt), tt)) (v ∷ [])) (ptr_val p ∷ [], (h ∷ [], tt)) $ fjoin t $ s)

module _ {M : Type 1} {𝓤 : Ura M} (𝓛 : Logic 𝓤) (a : Global) where
  abbrev box : Ptr → Held → Fml
  box = box_owns (ghosts.dealloc_token a) held.the_row

  -- what `Global` may free may be compared with null
  tested : (p : Ptr) (x : Held) → ent 𝓤 (sem 𝓛 (box p x)) (guard 𝓤 (Testable p) (sem 𝓛 (box p x)))
  tested p x = let B : SProp 𝓤 = sem 𝓛 (box p x) in fact_use 𝓤 (Testable p)
      (via 𝓤 _ (snd∗ 𝓤 (sem 𝓛 (lies_at held.the_row full_share p x)) (sem 𝓛 (ghosts.dealloc_token a (bare (lone (held.the_row).mir)) p))) (dealloc_token-Testable 𝓛 a (bare (lone (held.the_row).mir)) p)) (guard_i 𝓤 (Testable p) B)

module _ {M : Type 1} {𝓤 : Ura M} {𝓛 : Logic 𝓤} {K : Type 0} {Γ : List (Item 𝓤)} {G : Goal 𝓤 𝓛.H} (a : Global) where
  -- by the pointer's form
  pub either : K → (p : Ptr) (was : Option Held) → (p ≡ null_ptr → was ≡ None → Seq K 𝓛 Γ G)
      → ((b o : ℕ) (x : Held) → IsGood x → p ≡ block_ptr b o → was ≡ Some x → Testable (block_ptr b o) → Seq K 𝓛 (‵ (box_owns (ghosts.dealloc_token a) held.the_row (block_ptr b o) x) ∷ Γ) G)
      → Seq K 𝓛 (‵ (handle_owns p a was) ∷ Γ) G
  either t null_ptr None none one = drop t $ none refl refl
  either t null_ptr (Some x) none one = fpick t (λ wrong. absurd wrong)
  either t (block_ptr b o) None none one = fpick t (λ wrong. absurd wrong)
  either t (block_ptr b o) (Some x) none one = fpick t (λ good. use1 𝓛 (given (Testable (block_ptr b o)) (‵ (box_owns (ghosts.dealloc_token a) held.the_row (block_ptr b o) x))) (tested 𝓛 a (block_ptr b o) x) $
      learn t (λ ok. one b o x good refl refl ok))

module _ {M : Type 1} {𝓤 : Ura M} {𝓛 : Logic 𝓤} {K : Type 0} {Γ : List (Item 𝓤)} {G : Goal 𝓤 𝓛.H} where
  -- where a handle lies, or nothing
  pub by_form : K → (p : Ptr) (x : H'.Denot) → (p ≡ null_ptr → Seq K 𝓛 Γ G) → ((b o : ℕ) → p ≡ block_ptr b o → Seq K 𝓛 (‵ (part_at H' full_share x b o) ∷ Γ) G)
      → Seq K 𝓛 (‵ (if_non_null p (points_to H' p x)) ∷ Γ) G
  by_form t null_ptr x none one = drop t $ none refl
  by_form t (block_ptr b o) x none one = one b o refl
