use Rattle.std.proofs.Common.{[], ◌≡◌, ◌∙◌, ◌==◌, ℕ, true, length, Some, is_some, inl, inr, sym, subst, eqb-true, eq-eqb}
use Rattle.std.proofs.lemmas.Bool.{both_ways, cases_Bool}
use Rattle.bao_text.specs.declared.walk.Node.{Node}
use Rattle.holders.specs.declared.fixed.Fixed.{Fixed}
use Rattle.holders.specs.Blobs.{IsBlob}
use Rattle.store_core.specs.Serves.{node_held}
use Rattle.store_core.specs.Stores.{LengthBinds, fixed_of, state_of}
use Rattle.determined_stores.proofs.FullServing.{full_serves, said_of}
use Rattle.determined_stores.proofs.PieceNodes.{each_node}
use Rattle.determined_stores.proofs.filled.filled_is_served.Goals as goal

pub returns : goal.returns
returns g c = λ blob is room have.
    let new = c.run_one-report.new.store in
    let met = c.run_one-report.ensures in
    elim (met.available blob is c.requires.whole room have) [
      | inl failed ↦ inl failed
      | inr (inl large) ↦ inr (inl large)
      | inr (inr filled) ↦ elim (met.complete blob is c.requires.whole room have) [
        | inl failed ↦ inl failed
        | inr (inl large) ↦ inr (inl large)
        | inr (inr full) ↦ elim (cases_Bool (full.recorded == length blob)) [
          | inr other ↦ inr (inr (inr (λ by. (
            full.recorded,
            (let of : IsBlob (fixed_of new) blob = subst (λ (f : Fixed). IsBlob f blob) (sym met.worked.worked.fixed) is in
                let told = (c.length-length.ensures.event []).right ∙ full.is in
                elim (said_of c.length-length.result full.recorded (λ l. LengthBinds new l) told c.length-length.ensures.binds blob of by) [
                  | inl same ↦ absurd (both_ways _ other (eq-eqb full.recorded (length blob) same))
                  | inr pair ↦ pair
                ]),
          ))))
          | inl same ↦
              let long : full.recorded ≡ length blob = eqb-true full.recorded (length blob) same in
              let one : Some filled.recorded ≡ Some full.recorded = sym filled.is ∙ full.is in
              let both : filled.recorded ≡ full.recorded = cc in
              inr (inr (inl (full_serves new (length blob) c.args.start c.args.len (subst (λ (l : ℕ). (state_of new).recorded ≡ Some l) long full.is)
              (each_node (length blob) c.args.start c.args.len (λ (x : Node). is_some (node_held (state_of new) x) ≡ true)
              (λ k below. elim (filled.chunks (both ∙ long) k below) [ inl held ↦ held | inr busy ↦ absurd (both_ways _ (c.requires.free k) busy) ])
              (full.parents long)) c.serve_slice.result c.serve_slice.ensures.refused)))
        ]
      ]
    ]
