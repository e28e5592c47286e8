use Rattle.std.proofs.Common.{rules, ◌≤◌, ℕ, List, Some, [], length, arith}
use Rattle.bao_text.specs.Choice.{of_nothing}
use Rattle.bao_text.specs.Texts.{joined}
use Rattle.b3par.specs.Encodings.{GainsText}
use Rattle.b3par.proofs.Parts.{IsHashOf-all}
use Rattle.b3par.proofs.hashes.hash_pooled.Goals as goal

pub returns-in-Ok-clause-hash : goal.returns-in-Ok-clause-hash
returns-in-Ok-clause-hash g c =
    let bytes : List ℕ = c.args.bytes.now in
    let tree = c.in-Ok.done.tree in
    let made : GainsText (Some bytes) of_nothing c.args.mode.now 0 (length bytes) [] (joined tree.texts.items) tree.top = search rules in
    let ends : length bytes ≤ length bytes = omega arith in
    rw (c.root_hash.ensures, c.rooted.ensures) ((IsHashOf-all (Some bytes) c.args.mode.now (length bytes) tree.top made.top ends).hash_is)
