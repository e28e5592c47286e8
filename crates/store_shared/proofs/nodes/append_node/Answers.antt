use Rattle.std.proofs.Common.{◌≡◌, ◌+◌, ◌-◌, ◌≤◌, ℕ, List, ◌++◌, length, take, replicate, true, Option, Some, refl, length-drop, sym, ap, subst, ◌∙◌, arith}
use Rattle.std.proofs.lemmas.List.{take_all, take_at}
use Rattle.store_core.specs.Histories.{state_after}
use Rattle.store_core.specs.Serves.{node_held}
use Rattle.store_core.specs.Stores.{GainsNode}
use Rattle.store_steps.specs.Grips.{Gripped}
use Rattle.store_shared.proofs.Filling.{gained}
use Rattle.store_shared.proofs.nodes.append_node.Goals as goal

pub returns-clause-appended : goal.returns-clause-appended
returns-clause-appended c =
    let old : List ℕ = c.args.out.now.items in
    let before : List ℕ = c.deref_mut.result.now in
    let part : List ℕ = c.copy_node-count.new.out in
    let from : ℕ = c.len-from.result in
    let count : ℕ = c.copy_node-count.result in
    let new : List ℕ = c.truncate.new.self.items in
    let zeros : List ℕ = replicate (from + c.room_of.result - c.args.out.now.len) 0 in
    let from_is : from ≡ length old = omega (arith, c.len-from.ensures, c.args.out.now.ok.0) in
    let begins : take from before ≡ old =
    ap (λ (xs : List ℕ). take from xs)
    (c.deref_mut.ensures.value ∙ c.in_ok-resize.ensures.items ∙ ap (λ (xs : List ℕ). xs ++ zeros) (take_all (from + c.room_of.result) old (omega (arith, from_is))))
    ∙ take_at old zeros from (sym from_is) in
    let room : from + count ≤ c.resize.new.self.len =
    omega (arith, c.copy_node-count.ensures.room.0, c.copy_node-count.ensures.room.1, c.in_ok-resize.ensures.len, c.deref_mut.ensures.len, length-drop from before) in
    let more : new ≡ old ++ take count part = gained old before part _ _ new from count _ from_is begins c.copy_node-count.ensures.room.0 room c.truncate.ensures.items in
    let held : node_held (state_after c.copy_node-count.new.grip.view.seen) c.args.node.now ≡ Some (take count part) =
    subst (λ (g : Gripped). node_held (state_after g.view.seen) c.args.node.now ≡ Some (take count part)) (sym c.copy_node-count.ensures.same) c.copy_node-count.ensures.copied in
    subst (λ (o : Option (List ℕ)). GainsNode o old new true) (sym held) (refl, more)
