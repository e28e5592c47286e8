use Rattle.std.proofs.Common.{◌≡◌, ◌⊎◌, ℕ, List, inl, inr, map, string_bytes, subst, sym}
use Rattle.bao_files.specs.Disks.{FileState}
use Rattle.bao_request.specs.CommandLine.{AsksFor}
use Rattle.bao_request.specs.declared.tasks.Request.{Request}
use Rattle.bao_command.specs.Outcome.{ArePassed, Done, IsRefusable, IsUsage}
use Rattle.determined_program.specs.Commands.{IsOfKnown}
use Rattle.determined_program.proofs.CommandVerdicts.{never_both, one_verdict}
use Rattle.determined_program.proofs.Judged.{done_unrefused}
use Rattle.determined_program.proofs.Known.{done_same}
use Rattle.determined_program.proofs.commands.known_files_decide.Goals as goal

pub returns-clause-done : goal.returns-clause-done
returns-clause-done g c = λ first second.
    let words = map string_bytes c.args.words.now in
    let at = g.D.Disk.at c.args.our_disk.now in
    let a = g.D.Disk.at c.command.new.disk in
    let b = g.D.Disk.at c.command-2.new.disk in
    let old = g.O.Write.contents c.args.ours.now in
    let one = g.O.Write.contents c.command.new.out in
    let other = g.O.Write.contents c.command-2.new.out in
    let theirs : Done words at b old other =
    subst (λ (T : Type 0). T) (λ i. Done words (sym c.requires.files i) b (sym c.requires.streams i) other) (c.command-2.ensures.done c.requires.one second) in
    done_same words at a b old one other c.requires.known c.requires.work (c.command.ensures.done c.requires.one first) theirs

pub returns-clause-refusal : goal.returns-clause-refusal
returns-clause-refusal g c = λ judge.
    let words = map string_bytes c.args.words.now in
    let at = g.D.Disk.at c.args.our_disk.now in
    let a = g.D.Disk.at c.command.new.disk in
    let b = g.D.Disk.at c.command-2.new.disk in
    let old = g.O.Write.contents c.args.ours.now in
    let one = g.O.Write.contents c.command.new.out in
    let other = g.O.Write.contents c.command-2.new.out in
    let sure : Type 0 = g.D.Disk.faultless c.args.our_disk.now in
    let also_sure : Type 0 = g.D.Disk.faultless c.args.their_disk.now in (
      λ first second.
          done_unrefused words at a old one also_sure c.requires.known judge c.requires.work (c.command.ensures.done c.requires.one first)
          (subst (λ (before : List ℕ → FileState). IsRefusable words also_sure before) (sym c.requires.files) (c.command-2.ensures.refusal c.requires.one second)),
      λ first second.
          done_unrefused words at b old other sure c.requires.known judge c.requires.work
          (subst (λ (T : Type 0). T) (λ i. Done words (sym c.requires.files i) b (sym c.requires.streams i) other) (c.command-2.ensures.done c.requires.one second)) (c.command.ensures.refusal c.requires.one first),
    )

pub returns-clause-status : goal.returns-clause-status
returns-clause-status g c = λ fair known.
    let words = map string_bytes c.args.words.now in
    let at = g.D.Disk.at c.args.our_disk.now in
    let refusal = returns-clause-refusal g c (λ request asks. (fair request asks).0) in
    let of : (request : Request) → AsksFor words request → IsOfKnown at request.task = λ request asks. (c.requires.known request asks).0 in
    let ours : ℕ = c.command.result in
    let theirs : ℕ = c.command-2.result in
    let passed : (ours ≡ 0) ⊎ (ours ≡ 1) → ArePassed words at = λ is. elim is [ inl zero ↦ c.command.ensures.passed c.requires.one zero | inr one ↦ c.command.ensures.judged c.requires.one one ] in
    let also : (theirs ≡ 0) ⊎ (theirs ≡ 1) → ArePassed words (g.D.Disk.at c.args.their_disk.now) = λ is. elim is [ inl zero ↦ c.command-2.ensures.passed c.requires.one zero | inr one ↦ c.command-2.ensures.judged c.requires.one one ] in
    let their_passed : (theirs ≡ 0) ⊎ (theirs ≡ 1) → ArePassed words at = λ is. subst (λ (before : List ℕ → FileState). ArePassed words before) (sym c.requires.files) (also is) in
    one_verdict ours theirs c.command.ensures.status c.command-2.ensures.status refusal.0 refusal.1
    (λ two is. never_both at known words of (λ request asks. (fair request asks).1) c.requires.work theirs c.command-2.ensures.refused their_passed (c.command.ensures.usage c.requires.one two) is)
    (λ two is. never_both at known words of (λ request asks. (fair request asks).1) c.requires.work ours c.command.ensures.refused passed
    (subst (λ (before : List ℕ → FileState). IsUsage words before) (sym c.requires.files) (c.command-2.ensures.usage c.requires.one two)) is)
