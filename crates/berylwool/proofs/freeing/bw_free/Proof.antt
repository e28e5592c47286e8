-- `bw_free` takes a handle out of its place, has what it owns freed, and puts an empty one there.
use lib.Dec.{lit<}
use Rattle.std.proofs.Common.{◌≡◌, List, [], ◌∷◌, ◌++◌, refl, sym, ap, ◌∙◌, subst}
use mir.Val.{Val, vptr, vunit}
use base.Logic.{SProp, ent, id⊢}
use base.Fml.{ftrue, fsep, fat, fex}
use base.Fraction.{full_share}
use prog.Wp.{WpFn}
use types.Kit.{‵, raw, ◌⊛◌, some, later, at_ret, ◌$◌, ◌∵◌, !, qed, by, move, keep, drop, split, join, fsplit, fjoin, fpack, feq_i, pick, suffices, use1, use2, await, rewrite}
use types.Run.{stop, lit, unit_lit, of_opd, bin, no_more, and_then, first, branches, blocks, skips, exec, returns, returns_within, enter, load, look, store, assigns_last}
use types.ByLocal.{alloc_all, pass_all, free_all, look_at, get, sets, lands_as, through, env}
use contract.Monad.{fact}
use contract.Running.{tables}
use denote.Exit.{yes}
use denote.Memory.{part_at}
use denote.Signature.{plain}
use denote.RawPtr.{Ptr, RawPtr, block_ptr, null_ptr, ptr_val, Testable, tests_null}
use denote.Steps.{nothing, heard, peeks}
use denote.Param.{layout}
use denote.Laws.{shows}
use denote.Triple.Call.{calls_at}
use denote.Triple.Spec.{triple_of}
use denote.Triple.Walked.{Stays, stay_dropped, walk_of, Goes-dropped}
use borrow.Table.OneValue.{part_out, part_in}
use Rattle.core.specs.Ptr.{if_non_null, points_to}
use Rattle.core.proofs.alloc.Shapes.{after}
use Rattle.core.proofs.atomic.Steps.{fm}
use Rattle.core.proofs.cell.Inside.{one}
use Rattle.std.specs.declared.option.Option.TheVariants.{None}
use Rattle.std.proofs.alloc.Global.TheLaws as heap_laws
use Rattle.std.proofs.raw_atomic.Walks.{proved_at, leaves}
use Rattle.berylwool.specs.Freed.{empty_at}
use Rattle.berylwool.proofs.HandleValues.{Z, H', by_form}
use Rattle.berylwool.proofs.handle.BwHandle.TheLaws as handle_laws
use Rattle.berylwool.specs.contracts.handle.freed as callee
use Rattle.berylwool.proofs.handle.freed.Met.{met}
use Rattle.berylwool.specs.contracts.freeing.bw_free.{ended, clauses}
use Rattle.berylwool.specs.contracts.freeing.bw_free.Key.{name as #self}
use Rattle.berylwool.proofs.freeing.bw_free.Statement.{statement}
use Rattle.berylwool.proofs.freeing.bw_free.Code as code

pub bw_free_spec : {M : Type 1} → statement M
bw_free_spec 𝓤 𝓛 𝓜 𝓡 wired =
    let H = 𝓛.H in let 𝓣 = tables 𝓤 H 𝓜 𝓡 𝓡.env in let En = ended in let c = clauses 𝓛 𝓜.mem 𝓡.returns in let fn = code.function in
    let LZ = heap_laws.the_row_laws in let LH = handle_laws.the_row_laws in let k = triple_of 𝓛 callee.signature (callee.spec 𝓛 𝓜.mem 𝓡.returns) in
    let hs : Stays En.signature.params En.kept = (stay_dropped (plain (λ _. Z)) yes, (stay_dropped (plain (λ _. RawPtr)) yes, tt)) in
    proved_at 𝓛 En hs c 𝓜 𝓡 (Goes-dropped 𝓛 0 (plain (λ _. Z)) yes (λ κs x f. refl), (Goes-dropped 𝓛 0 (plain (λ _. RawPtr)) yes (λ κs x f. refl), tt)) #self fn (code.unfolded 𝓤 H 𝓜 𝓡 wired) (λ z are.
    let a = z.0.3.0 in let p : Ptr = z.0.3.1.0 in let x : H'.Denot = z.1 in let h = one (layout Z) z.0.4.0 ((LZ.lawful 𝓛).typed a z.0.4.0 are.0) in
    let Post : Val → SProp 𝓤 = (walk_of 𝓛 En hs c).post z in let Run : List Val → SProp 𝓤 = λ ws. WpFn 𝓤 H 𝓣.C 𝓣.Λ fn ws Post in
    let passed : (s : Ptr) → p ≡ s → z.0.4.0 ++ (z.0.4.1.0 ++ []) ≡ h.0 ∷ ptr_val s ∷ [] = λ s is i. h.1 i ++ ((are.1.0 ∙ ap (λ (t : Ptr). ptr_val t ∷ []) is) i ++ []) in
    let starts : (s : Ptr) → p ≡ s → ent 𝓤 (Run (h.0 ∷ ptr_val s ∷ [])) (Run (z.0.4.0 ++ (z.0.4.1.0 ++ []))) = λ s is.
    subst (λ (us : List Val). ent 𝓤 (Run (h.0 ∷ ptr_val s ∷ [])) (Run us)) (sym (passed s is)) (id⊢ 𝓤 (Run (h.0 ∷ ptr_val s ∷ []))) in
    qed 𝓛 ((‵ ftrue ⊛ ‵ (fsep (Z.own_val a z.0.4.0) (fsep (RawPtr.own_val p z.0.4.1.0) ftrue))) ∷ raw (fact 𝓤 (Testable p)) ∷ ‵ (if_non_null p (points_to H' p x)) ∷ []) ∵
    move ! (1 ∷ []) $ heard ! (Testable p) (λ may. split ! $ drop ! $ fsplit ! $ move ! (2 ∷ 0 ∷ []) $ rewrite ! 1 (λ (us : List Val). ‵ (Z.own_val a us)) h.1 refl $ by_form ! p x
    (λ is. suffices ! (Run (h.0 ∷ ptr_val null_ptr ∷ [])) (starts null_ptr is) $
    enter ! 𝓣.C 𝓣.Λ fn (h.0 ∷ ptr_val null_ptr ∷ []) Post $ alloc_all ! (λ l. pass_all ! refl (h.2, ((tt, record { fits = lit< tt }), tt)) $
    sets ! (bin ! (get ! refl) (lit ! tt) tt) refl (tt, tt) $ first ! $ branches ! (get ! refl)
    (λ _. sets ! (of_opd ! (unit_lit !)) refl (tt, tt) $ returns_within ! Post refl (look_at ! 0 refl) $ free_all ! refl $
    nothing ! $ rewrite ! 0 (λ (s : Ptr). ‵ (empty_at s)) (sym is) refl $ feq_i ! (List Val) (vunit ∷ []) (vunit ∷ []) refl $ nothing ! $ nothing ! $ fjoin ! $ nothing ! $ fjoin ! $ nothing ! $
    keep ! (0 ∷ 1 ∷ 2 ∷ 3 ∷ []) $ by ! (leaves 𝓛 En hs c z vunit tt (tt, (tt, tt)) (tt, (tt, tt))))
    (λ wrong. absurd wrong)))
    (λ b o is. use1 𝓛 (some (λ (v : Val). ‵ (fat full_share (layout H') b o v) ⊛ ‵ (H'.own_val x (v ∷ [])))) (part_out 𝓛 H' refl full_share x b o) $ pick ! (λ v. split ! $ move ! (1 ∷ []) $
    peeks ! H' _ (shows 𝓛 H') x (v ∷ []) (λ held. let good = ((LH.lawful 𝓛).typed x (v ∷ []) held).0 in let y : k.Ghost = ((tt, tt, tt, (a, (x, tt)), (h.0 ∷ [], (v ∷ [], tt))), tt) in
    suffices ! (Run (h.0 ∷ vptr b o ∷ [])) (starts (block_ptr b o) is) $
    enter ! 𝓣.C 𝓣.Λ fn (h.0 ∷ vptr b o ∷ []) Post $ alloc_all ! (λ l. pass_all ! refl (h.2, ((tt, tt), tt)) $ let Ev = env fn.locals l in
    sets ! (bin ! (get ! refl) (lit ! tt) (tests_null (block_ptr b o) (subst Testable is may))) refl (tt, tt) $ first ! $ branches ! (get ! refl) (λ wrong. absurd wrong)
    (λ _. skips ! $ exec ! 𝓣.C 𝓣.Λ Ev (after 2 fn.body) (at_ret Ev Post) $ first ! $ blocks ! $
    sets ! (of_opd ! (load ! (through ! refl (stop !)) (look ! 1 refl))) refl good $
    nothing ! $ move ! (1 ∷ 0 ∷ []) $ fjoin ! $ move ! (2 ∷ 0 ∷ []) $ fjoin ! $ nothing ! $ join ! $ nothing ! $ move ! (1 ∷ 0 ∷ []) $ join ! $ use1 𝓛 (raw (k.pre y)) (id⊢ 𝓤 (k.pre y)) $
    calls_at ! (fm 𝓛 𝓜 𝓡) k (met 𝓤 𝓛 𝓜 𝓡 (code.calls-berylwool::handle::freed 𝓡.env wired)) y (and_then ! (get ! refl) (and_then ! (get ! refl) (no_more !))) (λ u.
    use1 𝓛 (later (some (λ (r : H'.Denot). (‵ ftrue ⊛ ‵ (H'.own_val r (u ∷ []))) ⊛ some (λ (_ : Unit {0} × (Unit {0} × Unit {0})). ‵ (fsep ftrue (fsep ftrue ftrue)) ⊛ raw (fact 𝓤 (r.held ≡ None)))))) (id⊢ 𝓤 (k.post y u)) $
    await ! tt $ pick ! (λ r. split ! $ split ! $ drop ! $ move ! (1 ∷ []) $ pick ! (λ _. split ! $ drop ! $ heard ! (r.held ≡ None) (λ none.
    peeks ! H' _ (shows 𝓛 H') r (u ∷ []) (λ left. let kept = ((LH.lawful 𝓛).typed r (u ∷ []) left).0 in
    lands_as ! refl refl kept $ assigns_last ! (of_opd ! (get ! refl)) (through ! refl (stop !)) (store ! 1 refl kept) $
    exec ! 𝓣.C 𝓣.Λ Ev (after 3 fn.body) (at_ret Ev Post) $ sets ! (of_opd ! (unit_lit !)) refl (tt, tt) $
    move ! (1 ∷ 0 ∷ []) $ use2 𝓛 (‵ (part_at H' full_share r b o)) (part_in 𝓛 H' refl full_share r b o u) $
    fpack ! (r.held ≡ None) (λ _. points_to H' (block_ptr b o) r) none $ fpack ! H'.Denot (λ it. fex (it.held ≡ None) (λ _. points_to H' (block_ptr b o) it)) r $
    rewrite ! 0 (λ (s : Ptr). ‵ (empty_at s)) (sym is) refl $ returns ! (look_at ! 0 refl) $ free_all ! refl $
    feq_i ! (List Val) (vunit ∷ []) (vunit ∷ []) refl $ nothing ! $ nothing ! $ fjoin ! $ nothing ! $ fjoin ! $ nothing ! $
    keep ! (0 ∷ 1 ∷ 2 ∷ 3 ∷ []) $ by ! (leaves 𝓛 En hs c z vunit tt (tt, (tt, tt)) (tt, (tt, tt)))))))))))))))
