use Rattle.std.proofs.Common.{◌≡◌, ◌∙◌, ℕ, ◌+◌, ◌-◌, ◌*◌, ◌^◌, ◌<◌, ◌≤◌, List, [], ◌++◌, length, take, ap, arith, subst, sym}
use Rattle.std.specs.List.{flat_map}
use Rattle.bao_check.specs.Bare.{bare_part}
use Rattle.bao_check.specs.Beside.{node_beside}
use Rattle.bao_check.proofs.Outlines.{outboard-fits}
use Rattle.bao_text.specs.declared.choice.Choice.{Choice}
use Rattle.bao_text.specs.Choice.{chunk_count, of_outboard, of_slice}
use Rattle.bao_text.specs.Cut.{claimed}
use Rattle.bao_text.specs.Nodes.{subtree_nodes}
use Rattle.berylwool.specs.Outlines.{HasParentsAt, outlined_mode, outlined_root, outlined_text}
use Rattle.berylwool.proofs.Beside.{all_at, slice_is}
use Rattle.berylwool.proofs.slicing.slice_beside.Goals as goal

pub append_nodes-requires-clause-fits : goal.append_nodes-requires-clause-fits
append_nodes-requires-clause-fits c =
    let text : List ℕ = outlined_text c.args.it.now in
    let fits = outboard-fits (outlined_mode c.args.it.now) (outlined_root c.args.it.now) text c.args.it.now.accepted in
    subst (λ (xs : List ℕ). 8 + 64 * (chunk_count c.claimed-total.result - 1) ≤ length xs) (sym c.as_slice-outline.ensures.value)
    (subst (λ (n : ℕ). 8 + 64 * (chunk_count n - 1) ≤ length text) (sym c.claimed-total.ensures) fits)

pub returns : goal.returns
returns c =
    let text : List ℕ = outlined_text c.args.it.now in
    let chunks : List ℕ = c.args.chunks.now in
    let first : ℕ = c.args.first in
    let outline : List ℕ = c.as_slice-outline.result.now in
    let total : ℕ = c.claimed-total.result in
    let len : ℕ = c.saturating_mul.result in
    let head : List ℕ = c.extend_from_slice.new.self.items in
    let new : List ℕ = c.append_nodes.new.into.items in
    let has_at : HasParentsAt outline (of_outboard (claimed text)) 0 total [] 8 8 =
    subst (λ (xs : List ℕ). HasParentsAt xs (of_outboard (claimed text)) 0 total [] 8 8) (sym c.as_slice-outline.ensures.value)
    (subst (λ (n : ℕ). HasParentsAt text (of_outboard (claimed text)) 0 n [] 8 8) (sym c.claimed-total.ensures) (all_at text)) in
    let one : new ≡ head ++ flat_map (node_beside outline first chunks) (subtree_nodes c.of_slice-choice.result 0 total [] 8) =
    c.in_ok-append_nodes.ensures (of_outboard (claimed text)) [] 8 has_at in
    let two : new ≡ head ++ flat_map (node_beside outline first chunks) (subtree_nodes (of_slice total (1024 * first) len) 0 total [] 8) =
    subst (λ (o : Choice). new ≡ head ++ flat_map (node_beside outline first chunks) (subtree_nodes o 0 total [] 8)) c.of_slice-choice.ensures one in
    let part : len ≡ bare_part c.args.count = omega (arith, c.saturating_mul.ensures) in
    let three : new ≡ head ++ flat_map (node_beside outline first chunks) (subtree_nodes (of_slice total (1024 * first) (bare_part c.args.count)) 0 total [] 8) =
    subst (λ (l : ℕ). new ≡ head ++ flat_map (node_beside outline first chunks) (subtree_nodes (of_slice total (1024 * first) l) 0 total [] 8)) part two in
    let four : new ≡ head ++ flat_map (node_beside outline first chunks) (subtree_nodes (of_slice (claimed text) (1024 * first) (bare_part c.args.count)) 0 (claimed text) [] 8) =
    subst (λ (n : ℕ). new ≡ head ++ flat_map (node_beside outline first chunks) (subtree_nodes (of_slice n (1024 * first) (bare_part c.args.count)) 0 n [] 8)) c.claimed-total.ensures three in
    let five : new ≡ head ++ flat_map (node_beside text first chunks) (subtree_nodes (of_slice (claimed text) (1024 * first) (bare_part c.args.count)) 0 (claimed text) [] 8) =
    subst (λ (xs : List ℕ). new ≡ head ++ flat_map (node_beside xs first chunks) (subtree_nodes (of_slice (claimed text) (1024 * first) (bare_part c.args.count)) 0 (claimed text) [] 8))
    c.as_slice-outline.ensures.value four in
    let small : claimed text < 2 ^ 64 = omega (arith, c.claimed-total.type_inv, c.claimed-total.ensures) in
    let is_head : head ≡ take 8 text =
    c.in_ok-extend_from_slice.ensures.items ∙ ap (λ (xs : List ℕ). xs ++ take 8 outline) c.in_ok-text.ensures.items ∙ ap (λ (xs : List ℕ). take 8 xs) c.as_slice-outline.ensures.value in
    slice_is (outlined_mode c.args.it.now) (outlined_root c.args.it.now) text chunks first c.args.count head new small c.requires.0 c.requires.1 is_head five
