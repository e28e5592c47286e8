use Rattle.std.proofs.Common.{◌-◌, ◌^◌, List, ℕ, ◌++◌, length}
use Rattle.bao_check.specs.Streams.{Reads}
use Rattle.bao_check.specs.Waiting.{AreParts, WaitsIn}
use Rattle.bao_check.proofs.read.read_nodes.Given as goal

abbrev pub invariant-nodes : goal.invariant-nodes
invariant-nodes g l = record {
  reads : Reads l.initial.text.items l.text.items (g.R.Read.remaining l.initial.reader) (g.R.Read.remaining l.reader);
  parts : AreParts l.choice l.waiting.items;
  waits : (more : List ℕ) → WaitsIn (record { mode = l.mode; root = l.root.0; start = l.start; len = l.len }) l.choice l.waiting.items (l.text.items ++ more) (length l.text.items);
}

abbrev pub decreases-nodes : goal.decreases-nodes
decreases-nodes g l = 2 ^ 64 - length l.text.items
