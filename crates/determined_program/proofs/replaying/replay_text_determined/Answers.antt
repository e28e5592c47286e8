use Rattle.std.proofs.Common.{List, ℕ, length, map, sym}
use Rattle.std.proofs.lemmas.List.{length-map}
use Rattle.determined_program.proofs.Replays.{answers_agree, says}
use Rattle.determined_program.proofs.replaying.replay_text_determined.Goals as goal

pub returns : goal.returns
returns c =
    let files : List (List ℕ) = map (λ file. file.items) c.args.files.now in
    let one = c.replay_text-one.ensures in
    let other = c.replay_text-other.ensures in
    answers_agree c.args.mode.now c.args.root.now c.args.capacity c.args.script.now files (λ text. text.items) c.replay_text-one.result c.replay_text-other.result
    (says c.args.mode.now c.args.root.now c.args.capacity c.args.script.now files (λ text. text.items) c.replay_text-one.result
    (length c.args.files.now) (sym (length-map c.args.files.now (λ file. file.items))) one.answer one.script one.illegal one.refused one.capacity one.within one.illegal_within one.file)
    (says c.args.mode.now c.args.root.now c.args.capacity c.args.script.now files (λ text. text.items) c.replay_text-other.result
    (length c.args.files.now) (sym (length-map c.args.files.now (λ file. file.items))) other.answer other.script other.illegal other.refused other.capacity other.within other.illegal_within other.file)
