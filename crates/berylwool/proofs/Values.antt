-- The machine values of a box taken apart: a pointer, and the bits of its allocator. Assumes `Logic`.
use Rattle.std.proofs.Common.{◌≡◌, ℕ, List, [], ◌∷◌, ◌++◌, refl, subst}
use mathlib.Core.Bool.{true, ◌&&◌}
use lib.Dec.{T}
use seplogic.Ra.Ura.{Ura}
use mir.Syntax.{impl, tnil, dnil}
use mir.Raw.{raw as bare}
use mir.Val.{Val, vptr, vstruct, vcons, vnil, of_list, has_ty, WT}
use base.Logic.{never, fst∗}
use base.Fml.{Fml}
use types.Logic.{Logic, sem}
use types.Kit.{Item, Goal, Seq, Step, step, ‵, ◌$◌, move, drop, fsplit, fjoin, fpick, fpack, feq_i, feq_l}
use denote.RattleType.{RattleType, Valss}
use denote.Builtin.{RawPtr}
use denote.Memory.{lone}
use denote.RawPtr.{Ptr, block_ptr, null_ptr, ptr_val, in_a_block}
use denote.Steps.{nothing}
use denote.Param.{layout}
use denote.Param.Laws.{Laws}
use denote.Struct.Struct.{within}
use denote.Struct.Owning.{shape}
use Rattle.core.specs.declared.alloc.Allocator.{Ghosts}
use Rattle.core.proofs.alloc.Calls.{Al, handle_tells}
use Rattle.core.proofs.cell.Inside.{Good}
use Rattle.std_alloc.specs.Box.Ownership.{box_owns}
use Rattle.std_alloc.proofs.ResultValues.{and_tt}
use Rattle.berylwool.specs.contracts.loose.Loose as loose

-- a struct of two fields
abbrev pub both : Val → Val → Val
both v w = vstruct (vcons v (vcons w vnil))

module _ (R Z : RattleType) (L : Laws Z) (g : Ghosts Z.Denot) where
  abbrev pub Loose : RattleType
  Loose = loose.the_row R Z g

  abbrev frees : Al
  frees = record { row = Z; laws = L; g = g; d = impl [] tnil dnil; drops = impl [] tnil dnil }

  -- the block and the right to free it
  abbrev block : Z.Denot → R.Denot → Ptr → Fml
  block a x p = box_owns (g.dealloc_token a) R p x

  pub loose_good : (b o : ℕ) (h : Val) → Good (layout Z) h → T (has_ty (layout Z) h && true) × WT (both (vptr b o) h)
  loose_good b o h fits = (and_tt (has_ty (layout Z) h) fits.0, (tt, (fits.1, tt)))

  module _ {M : Type 1} {𝓤 : Ura M} {𝓛 : Logic 𝓤} {K : Type 0} {Γ : List (Item 𝓤)} {G : Goal 𝓤 𝓛.H} where
    -- taken apart: the pointer leads into a block
    pub loose_out : K → (it : Loose.Denot) (vs : List Val)
        → ((b o : ℕ) (h : Val) → it.at ≡ block_ptr b o → vs ≡ both (vptr b o) h ∷ [] → Good (layout Z) h
        → Seq K 𝓛 (‵ (block it.alloc it.value (block_ptr b o)) ∷ ‵ (Z.own_val it.alloc (h ∷ [])) ∷ Γ) G)
        → Seq K 𝓛 (‵ (Loose.own_val it vs) ∷ Γ) G
    loose_out t it vs go =
        fsplit t $ fpick t (λ parts. fsplit t $ feq_l t (λ whole. fsplit t $ feq_l t (λ first. fsplit t $
        handle_tells frees t it.alloc parts.1.0 (λ h second fits. move t (1 ∷ []) $ drop t $ move t (1 ∷ []) $
        in_a_block t it.at (block it.alloc it.value) (fst∗ 𝓤 (never 𝓤) (sem 𝓛 (g.dealloc_token it.alloc (bare (lone R.mir)) null_ptr))) (λ b o at.
        let by_first = subst (λ (ps : List Val). vs ≡ vstruct (of_list (ps ++ (parts.1.0 ++ []))) ∷ []) first whole in
        let by_second = subst (λ (ws : List Val). vs ≡ vstruct (of_list (ptr_val it.at ∷ (ws ++ []))) ∷ []) second by_first in
        go b o h at (subst (λ (p : Ptr). vs ≡ vstruct (of_list (ptr_val p ∷ h ∷ [])) ∷ []) at by_second) fits)))))

    -- put together
    pub loose_in : K → (b o : ℕ) (h : Val) (a : Z.Denot) (x : R.Denot)
        → Step K 𝓛 (‵ (Loose.own_val (record { at = block_ptr b o; alloc = a; value = x }) (both (vptr b o) h ∷ [])) ∷ Γ) G
        (‵ (block a x (block_ptr b o)) ∷ ‵ (Z.own_val a (h ∷ [])) ∷ Γ) G
    loose_in t b o h a x = step (λ rest. let v : Val = both (vptr b o) h in
        nothing t $ move t (2 ∷ 0 ∷ []) $ fjoin t $ feq_i t (List Val) (vptr b o ∷ []) (vptr b o ∷ []) refl $ fjoin t $
        feq_i t (List Val) (v ∷ []) (v ∷ []) refl $ fjoin t $
        fpack t (Valss (RawPtr ∷ Z ∷ [])) (within (shape (loose.the_type R Z g)) (block_ptr b o, (a, tt)) (v ∷ [])) (vptr b o ∷ [], (h ∷ [], tt)) $ fjoin t $ rest)
