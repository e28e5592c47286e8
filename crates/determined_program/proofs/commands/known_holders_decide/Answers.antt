use Rattle.std.proofs.Common.{◌⊎◌, map, string_bytes, subst, sym}
use Rattle.bao_request.specs.CommandLine.{AsksFor, AsksForHelp}
use Rattle.bao_request.specs.declared.tasks.Request.{Request}
use Rattle.bao_command.specs.Outcome.{Done}
use Rattle.bao_command.specs.Refused.{IsBlobFor}
use Rattle.determined_program.proofs.Holders.{done_agree, each_agree}
use Rattle.determined_program.proofs.commands.known_holders_decide.Goals as goal

pub returns-clause-put : goal.returns-clause-put
returns-clause-put g c = λ first second.
    let words = map string_bytes c.args.words.now in
    let at = g.D.Disk.at c.args.our_disk.now in
    let a = g.D.Disk.at c.command.new.disk in
    let b = g.D.Disk.at c.command-2.new.disk in
    let old = g.O.Write.contents c.args.ours.now in
    let one = g.O.Write.contents c.command.new.out in
    let other = g.O.Write.contents c.command-2.new.out in
    let theirs : Done words at b old other =
    subst (λ (T : Type 0). T) (λ i. Done words (sym c.requires.files i) b (sym c.requires.streams i) other) (c.command-2.ensures.done c.requires.one second) in
    done_agree at a b old one other words c.requires.asked c.requires.work (c.command.ensures.done c.requires.one first) theirs

pub returns-clause-right : goal.returns-clause-right
returns-clause-right g c = λ first second surely also_surely r m blob asks has is.
    let words = map string_bytes c.args.words.now in
    let at = g.D.Disk.at c.args.our_disk.now in
    let a = g.D.Disk.at c.command.new.disk in
    let b = g.D.Disk.at c.command-2.new.disk in
    let old = g.O.Write.contents c.args.ours.now in
    let one = g.O.Write.contents c.command.new.out in
    let other = g.O.Write.contents c.command-2.new.out in
    let sure : Type 0 = g.D.Disk.faultless c.args.our_disk.now in
    let also_sure : Type 0 = g.D.Disk.faultless c.args.their_disk.now in
    let theirs : AsksForHelp words ⊎ ((s : Request) × AsksFor words s × IsBlobFor also_sure at b s old other) =
    subst (λ (T : Type 0). T) (λ i. AsksForHelp words ⊎ ((s : Request) × AsksFor words s × IsBlobFor also_sure (sym c.requires.files i) b s (sym c.requires.streams i) other)) (c.command-2.ensures.blob c.requires.one second) in
    each_agree words at a b old one other sure also_sure c.requires.asked c.requires.work surely also_surely r m blob asks has is (c.command.ensures.blob c.requires.one first) theirs
