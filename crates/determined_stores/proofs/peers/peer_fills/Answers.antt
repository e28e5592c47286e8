use Rattle.std.proofs.Common.{◌≡◌, ◌∙◌, ◌⊎◌, ℕ, List, [], ◌∷◌, sym, ap, subst}
use Rattle.b3tree.specs.Valid.{IsKeyed}
use Rattle.b3tree.specs.declared.mode.Mode.{Mode}
use Rattle.gather.specs.Peers.{MayServe, Peered}
use Rattle.gather.specs.Filled.{HasAllParents, IsFilled}
use Rattle.holders.specs.Available.{HaveSlices}
use Rattle.gather.specs.Counts.{HasFailed, IsToldTooLarge}
use Rattle.holders.specs.Holders.{IsGiven, IsHanded}
use Rattle.holders.specs.Blobs.{HasCollision}
use Rattle.gather.specs.Lasting.{HasParent, HoldsChunk, IsBusy, Records}
use Rattle.gather.specs.Worked.{Gains}
use Rattle.holders.specs.declared.grain.Grain.TheVariants.{Group as ByGroup}
use Rattle.gather.specs.declared.report.Report.{Report}
use Rattle.bao_text.specs.Choice.{chunk_count}
use Rattle.std.specs.Prelude.{◌≤◌, length}
use Rattle.store_core.specs.Laws.{CollisionOf}
use Rattle.holders.specs.Blobs.{IsBlob}
use Rattle.store_core.specs.Stores.{fixed_of, state_of}
use Rattle.holders.specs.declared.fixed.Fixed.{Fixed}
use Rattle.store_core.specs.declared.store.Store.{Store}
use Rattle.determined_stores.proofs.Composing.{peer_filled}
use Rattle.determined_stores.proofs.peers.peer_fills.Goals as goal
use Rattle.determined_stores.specs.Serves.{HasEveryNode, IsAnyNode}

pub returns : goal.returns
returns c = λ blob is room has.
    let given : Peered = record { assembly = c.args.full.now; seat = c.args.seat } in
    let store : Store = c.in_ok-store.store in
    let new : Store = c.run_one-report.new.store in
    let report : Report = c.run_one-report.result in
    let met = c.run_one-report.ensures in
    let e = c.requires.of.knows.fixed_is in
    let mode_is = c.mode-mode.ensures ∙ ap (λ (f : Fixed). f.mode) (sym e) in
    let root_is = c.root.ensures ∙ ap (λ (f : Fixed). f.root) (sym e) in
    let made = c.in_ok-store.ensures.made in
    let one : c.from_mut.result.now ≡ given ∷ [] =
    c.from_mut.ensures.value ∙ ap (λ (p : Peered). p ∷ []) (λ i. record { assembly = c.new-peer.ensures.assembly i; seat = c.new-peer.ensures.seat i }) in
    subst (λ (f : Fixed). HasFailed report ⊎ HasEveryNode (state_of new) blob ⊎ HasCollision (IsGiven MayServe given) (fixed_of new) blob ⊎ CollisionOf f c.args.seat.view.seen blob IsAnyNode) e
    (peer_filled given blob (subst (λ (mode : Mode). IsKeyed mode) mode_is c.is_keyed.ensures) (subst (λ (f : Fixed). IsBlob f blob) (sym e) is) c.requires.of.knows.legal has c.args.capacity store new report
    (subst (λ (holders : List Peered). Gains (IsHanded MayServe holders) store new report) one met.worked)
    (made.fixed_is ∙ (λ i. record { root = root_is i; mode = mode_is i; capacity = c.args.capacity; base = 0 })) made.state room
    (subst (λ (holders : List Peered). (b : List ℕ) → IsBlob (fixed_of store) b → (fixed_of store).base ≡ 0 → chunk_count (length b) ≤ (fixed_of store).capacity
    → HaveSlices ByGroup MayServe (fixed_of store).mode b holders
    → HasFailed report ⊎ IsToldTooLarge report (IsHanded MayServe holders) (fixed_of store) ⊎ IsFilled Records HoldsChunk IsBusy store new b) one met.available)
    (subst (λ (holders : List Peered). (b : List ℕ) → IsBlob (fixed_of store) b → (fixed_of store).base ≡ 0 → chunk_count (length b) ≤ (fixed_of store).capacity
    → HaveSlices ByGroup MayServe (fixed_of store).mode b holders
    → HasFailed report ⊎ IsToldTooLarge report (IsHanded MayServe holders) (fixed_of store) ⊎ HasAllParents Records HasParent new b) one met.complete))
