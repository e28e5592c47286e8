use Rattle.std.proofs.Common.{rules, ◌≤◌, [], length, IfSome}
use Rattle.bao_text.specs.Choice.{of_nothing}
use Rattle.bao_text.specs.Texts.{joined}
use Rattle.b3par.specs.Encodings.{GainsText}
use Rattle.b3par.proofs.Parts.{IsHashOf-all, IsHashOf-top}
use Rattle.b3par.proofs.hashes.hash_source.Goals as goal

pub returns-clause-all : goal.returns-clause-all
returns-clause-all g c =
    let contents = g.S.Source.contents c.args.source.now in
    let tree = c.in_ok-done.done.tree in
    let made : GainsText contents of_nothing c.args.mode.now 0 c.args.len [] (joined tree.texts.items) tree.top = search rules in
    let ends : IfSome contents (λ s. length s ≤ c.args.len) = search rules in
    rw (c.root_hash.ensures, c.rooted.ensures) (IsHashOf-all contents c.args.mode.now c.args.len tree.top made.top ends)

pub returns-clause-some : goal.returns-clause-some
returns-clause-some g c =
    let contents = g.S.Source.contents c.args.source.now in
    let tree = c.in_ok-done.done.tree in
    let made : GainsText contents of_nothing c.args.mode.now 0 c.args.len [] (joined tree.texts.items) tree.top = search rules in
    (made.top.bytes, rw (c.root_hash.ensures, c.rooted.ensures) (IsHashOf-top contents c.args.mode.now c.args.len tree.top made.top))
