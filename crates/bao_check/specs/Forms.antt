-- The formats of encodings.
use Rattle.std.specs.Prelude.{ℕ, List}
use Rattle.bao_text.specs.declared.choice.Choice.{Choice}
use Rattle.bao_text.specs.Choice.{of_outboard, of_slice}
use Rattle.bao_text.specs.Cut.{claimed}
use Rattle.bao_text.specs.Nodes.{TreeNode, chosen_nodes}
use Rattle.bao_check.specs.declared.form.EncodingForm.{EncodingForm}
use Rattle.bao_check.specs.declared.form.EncodingForm.TheVariants.{Slice, Outboard}

-- what an encoding of a format covers of a blob of `total` bytes
abbrev pub choice_of : EncodingForm → ℕ → Choice
choice_of (Slice start len) total = of_slice total start len
choice_of Outboard total = of_outboard total

-- the nodes of an encoding of a format, by the length that it claims
abbrev pub form_nodes : EncodingForm → List ℕ → List TreeNode
form_nodes form text = chosen_nodes (choice_of form (claimed text)) (claimed text)
