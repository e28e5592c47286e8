use Rattle.std.proofs.Common.{refl, ◌∙◌, ap, ℕ, ◌==◌, ◌/◌, ◌*◌, ◌||◌, nat_le}
use Rattle.store_core.specs.Machine.{is_whole, position}
use Rattle.store_core.specs.ScheduleRuns.{reading_of}
use Rattle.store_core.proofs.RunSteps.{put_back, stepped}
use Rattle.store_core.proofs.Wordless.{load_next}
use Rattle.store_core.proofs.schedule.ScheduleRun.load.Goals as goal

pub returns-clause-ok : goal.returns-clause-ok
returns-clause-ok c = λ pieces fixed steps replies history m has.
    let after = reading_of c.in_ok-after.after in
    let same = c.is_of.ensures.0 c.if-not-is_of.false in
    let took = c.take_player-number.ensures in
    stepped has refl tt (load_next pieces c.take_player-number.result _ (reading_of c.begun-before.result) after has.served has.stands took.is
    (put_back _ c.take_player-number.new.players.items _ c.args.seat _ took.number took.others c.in_ok-put_player.ensures)
    c.if-len-gt-MAX_READ.false c.begun-before.ensures same.0 same.1 c.in_ok-after.ensures
    (c.is_over-is_last.ensures
    ∙ ap (λ (p : ℕ). is_whole after || ((position after / 65536 == p / 65536) || nat_le (1024 * c.args.self.now.store.fixed.capacity) (position after))) c.position-from.ensures)
    refl c.outcome-reply.ensures.reading c.outcome-reply.ensures.reply)
