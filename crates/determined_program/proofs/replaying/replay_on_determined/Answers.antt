use Rattle.std.proofs.Common.{◌≡◌, ℕ, List, length, sym, subst, ◌∙◌}
use Rattle.bao_files.specs.Disks.{FileState, Stored}
use Rattle.bao_files.proofs.Results.{with_right}
use Rattle.bao_script.specs.Scripts.{IsFirstRefused}
use Rattle.bao_tasks.specs.Replayed.{IsAcceptedRun, IsRefusedRun, IsRun, IsStoppedRun}
use Rattle.determined_program.specs.Replays.{AreStored}
use Rattle.determined_program.proofs.Reruns.{of_known, reruns_agree, says_but}
use Rattle.determined_program.proofs.replaying.replay_on_determined.Goals as goal

pub returns : goal.returns
returns g c = λ lines pieces there stored.
    let mode = c.args.mode.now in
    let root = c.args.root.now in
    let capacity = c.args.capacity in
    let script = c.args.script.now in
    let files = c.args.files.now in
    let ours : List ℕ → FileState = g.D.Disk.at c.args.ours.now in
    let theirs : List ℕ → FileState = g.E.Disk.at c.args.theirs.now in
    let same : ours ≡ theirs = λ i at. c.requires at i in
    let also : theirs script ≡ Stored lines = sym (c.requires script) ∙ there in
    let also_stored : AreStored theirs files pieces = subst (λ (at : List ℕ → FileState). AreStored at files pieces) same stored in
    let one = c.replay_on-one.ensures in
    let other = c.replay_on-other.ensures in
    let r = c.replay_on-one.result in
    let s = c.replay_on-other.result in
    reruns_agree mode root capacity lines pieces (λ text. text.items) r s
    (says_but mode root capacity lines pieces (λ text. text.items) r
    (with_right r _ (λ text run. of_known ours script files lines pieces there stored (λ l f. IsRun mode root capacity l f text.items) run) one.answer)
    (λ n is. of_known ours script files lines pieces there stored (λ l f. IsFirstRefused (length f) l n) (one.script n is))
    (λ n is. of_known ours script files lines pieces there stored (λ l f. IsStoppedRun mode root capacity l f n) (one.illegal n is))
    (λ n fault is. of_known ours script files lines pieces there stored (λ l f. IsRefusedRun mode root l f n fault) (one.refused n fault is))
    (λ is. ((one.capacity is).0, of_known ours script files lines pieces there stored (λ l f. IsAcceptedRun mode root l f) (one.capacity is).1)) one.within one.illegal_within)
    (says_but mode root capacity lines pieces (λ text. text.items) s
    (with_right s _ (λ text run. of_known theirs script files lines pieces also also_stored (λ l f. IsRun mode root capacity l f text.items) run) other.answer)
    (λ n is. of_known theirs script files lines pieces also also_stored (λ l f. IsFirstRefused (length f) l n) (other.script n is))
    (λ n is. of_known theirs script files lines pieces also also_stored (λ l f. IsStoppedRun mode root capacity l f n) (other.illegal n is))
    (λ n fault is. of_known theirs script files lines pieces also also_stored (λ l f. IsRefusedRun mode root l f n fault) (other.refused n fault is))
    (λ is. ((other.capacity is).0, of_known theirs script files lines pieces also also_stored (λ l f. IsAcceptedRun mode root l f) (other.capacity is).1)) other.within other.illegal_within)
