-- Beside a blob's own outboard encoding the blob's bytes make its slices.
use Rattle.std.proofs.Common.{◌≡◌, ◌∙◌, ℕ, ◌^◌, ◌<◌, List, length, sym, ap}
use Rattle.b3tree.specs.Pieces.{piece}
use Rattle.b3tree.specs.Valid.{IsKeyed}
use Rattle.b3tree.specs.declared.mode.Mode.{Mode}
use Rattle.bao_check.proofs.Written.{claimed-chosen_text, written_accepted}
use Rattle.bao_check.specs.Accepted.{outboard_nodes, text_end}
use Rattle.bao_check.specs.Beside.{IsOfChunks, bare_len, beside_text}
use Rattle.bao_text.specs.Choice.{of_outboard}
use Rattle.bao_text.specs.Cut.{claimed}
use Rattle.bao_text.specs.Nodes.{chosen_nodes}
use Rattle.bao_text.specs.Texts.{outboard_text, slice_text}
use Rattle.bao_text.specs.declared.choice.Choice.{Choice}
use Rattle.holders.proofs.Owning.{own_makes as made_of_own}

pub own_makes : (mode : Mode) (blob : List ℕ) (start len : ℕ) → IsKeyed mode → length blob < 2 ^ 64 → IsOfChunks (length blob) start len
    → beside_text (outboard_text mode blob) start len (piece blob start (bare_len (length blob) start len)) ≡ slice_text mode blob start len
own_makes mode blob start len keyed short of_chunks =
    let choice : Choice = of_outboard (length blob) in
    let claims : claimed (outboard_text mode blob) ≡ length blob = claimed-chosen_text choice mode blob short in
    let ends : length (outboard_text mode blob) ≡ text_end (outboard_nodes (outboard_text mode blob)) =
    (written_accepted choice mode blob keyed short).ends ∙ ap (λ (total : ℕ). text_end (chosen_nodes (of_outboard total) total)) (sym claims) in
    made_of_own mode blob start len claims ends of_chunks
