-- `check_stream` hands its arguments on to `read_piece`, and what that has of them at the return is its own. Rattle proves a clause about a vector that is lent on by itself
-- only for a function's first parameter.
use Rattle.std.proofs.Common.{[], ◌∷◌, refl, w64}
use Rattle.std.proofs.raw_atomic.Walks.{proved}
use Rattle.std.proofs.alloc.Global.TheLaws as heap_laws
use Rattle.std.specs.contracts.alloc.Global as global
use Rattle.std.specs.declared.io.traits.Read.{Ghosts}
use Rattle.b3tree.specs.contracts.mode.Mode as mode_type
use Rattle.b3tree.specs.contracts.values.Hash as hash_type
use Rattle.bao_check.specs.Streams.{bytes_row}
use Rattle.bao_check.specs.contracts.read.check_stream as own
use Rattle.bao_check.specs.contracts.read.read_piece as callee
use Rattle.bao_check.proofs.read.check_stream.Statement.{statement}
use Rattle.bao_check.proofs.read.check_stream.Code as code
use Rattle.bao_check.proofs.read.read_piece.Kinds as kinds
use Rattle.bao_check.proofs.read.read_piece.Met.{met}
use base.Fml.{flft, ftrue}
use base.Logic.{id⊢}
use contract.Running.{tables}
use denote.Builtin.{RefOf, u64}
use denote.Exit.{no, yes}
use denote.Param.{bounded}
use denote.Plain.{uint_Tells, uint_vals}
use denote.RattleType.{RattleType}
use denote.Ref.{MutRef, ShrRef, mut_Tells, mut_vals, shr_Tells, shr_vals}
use denote.Signature.{plain, type_at}
use denote.Steps.{nothing, peeks}
use denote.Struct.Laws as struct
use denote.Struct.Loose.{loose_lawful}
use denote.Triple.Call.{calls_at}
use denote.Triple.Clauses.{at_exit, lasts}
use denote.Triple.Spec.{triple_of}
use denote.Triple.Table.{framed}
use denote.Triple.Walked.{Goes-dropped, Goes-gave_ref, Goes-spent_ref, Stays, ends_at, gave_ref, stay_dropped, walk_of}
use mir.MapTy.{inst_fn}
use mir.Syntax.{Dict, a_type, dcons, dnil, named}
use types.ByLocal.{alloc_all, free_all, get, lands_as, look_at, pass_all, sets, through}
use types.Kit.{ !, done, drop, fsplit, group, join, later, move, pick, qed, raw, some, split, suffices, use1, use2, await, ‵, ◌$◌, ◌∵◌, ◌⊛◌}
use types.Run.{addr, and_then, enter, no_more, returns, stop}

module _ (R : RattleType) (G : Ghosts R.Denot) (d : Dict) where
  abbrev stayed : Stays (own.ended R G d).signature.params (own.ended R G d).kept
  stayed = (
    stay_dropped _ yes,
    (stay_dropped _ yes, (stay_dropped _ yes, (stay_dropped _ yes, (stay_dropped _ yes, (gave_ref (2 ∷ []) tt (plain (λ _. own.R-row R)), (stay_dropped _ no, tt)))))),
  )

pub check_stream_spec : {M : Type 1} → statement M
check_stream_spec {M} 𝓤 𝓛 𝓜 𝓡 wired R laws G d meets =
    let T = own.ended R G d in let hs = stayed R G d in let U = callee.ended R G d in
    let c = own.clauses R G d 𝓛 𝓜.mem 𝓡.returns in let W = walk_of 𝓛 T hs c in
    let goes_u64 = Goes-dropped 𝓛 5 (plain (λ _. u64)) yes (λ κs x w. refl) in
    proved 𝓛 T hs c 𝓜 𝓡 (
      Goes-dropped 𝓛 5 (plain (λ _. global.the_row)) yes (λ κs x w. refl),
      (
        Goes-dropped 𝓛 5 (RefOf (0 ∷ []) tt (plain (λ _. mode_type.the_row)) (λ _. tt)) yes (λ κs x w. refl),
        (
          Goes-dropped 𝓛 5 (RefOf (1 ∷ []) tt (plain (λ _. hash_type.the_row)) (λ _. tt)) yes (λ κs x w. refl),
          (
            goes_u64,
            (
              goes_u64,
              (Goes-gave_ref 𝓛 5 2 tt (plain (λ _. own.R-row R)), (Goes-spent_ref 𝓛 5 (3 ∷ []) tt (plain (λ _. bytes_row)), tt)),
            ),
          ),
        ),
      ),
    )
    (own.Key.name (bounded (a_type ∷ []) (R, tt) (dcons d dnil))) (inst_fn (bounded (a_type ∷ []) (R, tt) (dcons d dnil)) code.function) (code.unfolded 𝓤 𝓛.H 𝓜 𝓡 wired (R, tt) d)
    (λ κs. ((λ x. struct.val global.the_type heap_laws.the_laws x ∷ []), (shr_vals, (shr_vals, (uint_vals w64, (uint_vals w64, (mut_vals, (mut_vals, tt))))))))
    (λ κs. (
      struct.tells global.the_type heap_laws.the_laws,
      (
        shr_Tells (named 0) κs.0 mode_type.the_row,
        (
          shr_Tells (named 1) κs.1.0 hash_type.the_row,
          (
            uint_Tells w64,
            (
              uint_Tells w64,
              (mut_Tells (named 2) κs.1.1.0 (own.R-row R), (mut_Tells (named 3) κs.1.1.1.0 bytes_row, tt)),
            ),
          ),
        ),
      ),
    ))
    (λ κs qs bounds a _ are.
    let κm = κs.0 in let κh = κs.1.0 in let κr = κs.1.1.0 in let κv = κs.1.1.1.0 in let κR = κs.1.1.1.1.0 in
    let qm = qs.0 in let qh = qs.1.0 in let qr = qs.1.1.0 in let qv = qs.1.1.1.0 in let qR = qs.1.1.1.1.0 in
    let x = a.0 in let m = a.1.0 in let h = a.1.1.0 in let s = a.1.1.1.0 in let n = a.1.1.1.1.0 in let rd = a.1.1.1.1.1.0 in let v = a.1.1.1.1.1.1.0 in
    let vx = struct.val global.the_type heap_laws.the_laws x ∷ [] in
    let y : W.Ghost = ((κs, qs, bounds, a, (vx, (shr_vals m, (shr_vals h, (uint_vals w64 s, (uint_vals w64 n, (mut_vals rd, (mut_vals v, tt)))))))), tt) in
    let C = triple_of 𝓛 (callee.signature R) (callee.spec R G d 𝓛 𝓜.mem 𝓡.returns) in
    let z : C.Ghost = (
      (
        (κv, (κm, (κh, (κr, (κR, tt))))),
        (qv, (qm, (qh, (qr, (qR, tt))))),
        bounds,
        (v, (m, (h, (s, (n, (rd, tt)))))),
        (mut_vals v, (shr_vals m, (shr_vals h, (uint_vals w64 s, (uint_vals w64 n, (mut_vals rd, tt)))))),
      ),
      tt,
    ) in
    let Out = type_at (callee.signature R).result z.0.0 in let K = (kinds.r R laws).laws M 𝓤 𝓛 in
    qed 𝓛 (((‵ (flft κm qm) ⊛ ‵ (flft κh qh) ⊛ ‵ (flft κr qr) ⊛ ‵ (flft κv qv) ⊛ ‵ (flft κR qR) ⊛ ‵ ftrue)
    ⊛ ‵ (global.the_row.own_val x vx) ⊛ ‵ ((ShrRef (named 0) κm mode_type.the_row).own_val m (shr_vals m)) ⊛ ‵ ((ShrRef (named 1) κh hash_type.the_row).own_val h (shr_vals h))
    ⊛ ‵ (u64.own_val s (uint_vals w64 s)) ⊛ ‵ (u64.own_val n (uint_vals w64 n)) ⊛ ‵ ((MutRef (named 2) κr (own.R-row R)).own_val rd (mut_vals rd))
    ⊛ ‵ ((MutRef (named 3) κv bytes_row).own_val v (mut_vals v)) ⊛ ‵ ftrue) ∷ raw ((c κs a).requires tt) ∷ []) ∵
    split ! $ split ! $ move ! (1 ∷ []) $ split ! $ move ! (1 ∷ []) $ split ! $ move ! (1 ∷ []) $ split ! $ move ! (1 ∷ []) $ split ! $
    -- [R's token; nothing; the other tokens, from the last on; the parameters; the `requires`]
    move ! (6 ∷ []) $ split ! $ drop ! $ split ! $ move ! (1 ∷ []) $ split ! $ move ! (1 ∷ []) $ split ! $ move ! (1 ∷ []) $ split ! $ move ! (1 ∷ []) $ split ! $ move ! (1 ∷ []) $ split ! $
    -- [the vector; nothing; the other parameters, from the reader on; R's token; nothing; the other tokens, from the last on; the `requires`]
    move ! (2 ∷ 1 ∷ []) $ join ! $ move ! (2 ∷ 0 ∷ []) $ join ! $ move ! (2 ∷ 0 ∷ []) $ join ! $ move ! (2 ∷ 0 ∷ []) $ join ! $ move ! (2 ∷ 0 ∷ []) $ join ! $ move ! (1 ∷ 0 ∷ []) $ join ! $
    move ! (1 ∷ 2 ∷ []) $ join ! $ move ! (3 ∷ 0 ∷ []) $ join ! $ move ! (3 ∷ 0 ∷ []) $ join ! $ move ! (3 ∷ 0 ∷ []) $ join ! $ move ! (2 ∷ 0 ∷ []) $ join ! $
    join ! $ use2 𝓛 (raw (C.pre z)) (id⊢ 𝓤 _) $
    enter ! _ _ _ _ _ $ alloc_all ! (λ l. pass_all ! refl
    (((loose_lawful global.the_type heap_laws.the_loose 𝓛).typed x _ are.0).0, ((tt, tt), ((tt, tt), ((tt, record { fits = are.1.1.1.0.1 }), ((tt, record { fits = are.1.1.1.1.0.1 }), ((tt, tt), ((tt, tt), tt))))))) $
    sets ! (addr ! (through ! refl (stop !))) refl (tt, tt) $ sets ! (addr ! (through ! refl (stop !))) refl (tt, tt) $
    calls_at ! (framed 𝓤 𝓛.H 𝓜 (tables 𝓤 𝓛.H 𝓜 𝓡 𝓡.env)) C (met 𝓤 𝓛 𝓜 𝓡 (code.calls-bao_check::read::read_piece 𝓡.env wired) R laws G d meets) z
    (and_then ! (get ! refl) (and_then ! (get ! refl) (and_then ! (get ! refl) (and_then ! (get ! refl) (and_then ! (get ! refl) (and_then ! (get ! refl) (no_more !))))))) (λ u.
    use1 𝓛 (later (some (λ (r : Out.Denot). ((‵ (flft κv qv) ⊛ ‵ (flft κm qm) ⊛ ‵ (flft κh qh) ⊛ ‵ (flft κr qr) ⊛ ‵ (flft κR qR) ⊛ ‵ ftrue) ⊛ ‵ (Out.own_val r (u ∷ []))) ⊛
    some (λ ws. ‵ (lasts U z.0.0 z.0.3 ws) ⊛ raw ((callee.clauses R G d 𝓛 𝓜.mem 𝓡.returns z.0.0 z.0.3).ensures tt r (at_exit U z.0.0 z.0.3 ws)))))) (id⊢ 𝓤 _) $
    await ! tt $ pick ! (λ r. split ! $ split ! $ move ! (1 ∷ []) $ peeks ! Out (λ r us. (kinds.r R laws).is.Is z.0.0 r us) (λ r us. K.seen z.0.0 r us) r (u ∷ []) (λ is.
    move ! (2 ∷ []) $ pick ! (λ ws. split ! $
    -- [the last values; the `ensures`; the result; the tokens]
    lands_as ! refl refl (K.typed z.0.0 r u is [] (kinds.r R laws).is.ty ((refl, tt), λ _. refl)) $ returns ! (look_at ! 0 refl) $ free_all ! refl $
    fsplit ! $ drop ! $ fsplit ! $ drop ! $ fsplit ! $ drop ! $ fsplit ! $ drop ! $ fsplit ! $ drop ! $ fsplit ! $ move ! (1 ∷ []) $ drop ! $
    -- [the reader's last value; the `ensures`; the result; the tokens]
    move ! (3 ∷ []) $ split ! $ move ! (1 ∷ []) $ split ! $ move ! (1 ∷ []) $ split ! $ move ! (1 ∷ []) $ split ! $
    move ! (4 ∷ 1 ∷ []) $ join ! $ move ! (1 ∷ 0 ∷ []) $ join ! $ move ! (1 ∷ 0 ∷ []) $ join ! $ move ! (1 ∷ 0 ∷ []) $ join ! $
    -- [the tokens; the reader's last value; the `ensures`; the result]
    nothing ! $ nothing ! $ join ! $ move ! (2 ∷ 0 ∷ []) $ join ! $ nothing ! $ join ! $ nothing ! $ join ! $ nothing ! $ join ! $ nothing ! $ join ! $ nothing ! $ join ! $ move ! (1 ∷ 0 ∷ 3 ∷ 2 ∷ []) $
    suffices ! _ (ends_at 𝓛 T hs c y u r (tt, (tt, (tt, (tt, (tt, (ws.1.1.1.1.1.0, (tt, tt))))))) (tt, (tt, (tt, (tt, (tt, (tt, (tt, tt)))))))) $ group ! 3 $ done !))))))
