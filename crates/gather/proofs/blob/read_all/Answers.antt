use Rattle.gather.proofs.SeatCommon.{no_none, ◌≡◌, ◌*◌, ◌≤◌, ℕ, List, length, ap, arith, inr, subst, sym, with_items_is, recorded_fits, IsWhole, Fixed, IsLegal, state_after, fixed_of}
use Rattle.gather.proofs.SeatFinishing.{asks_both, read_lacks, read_whole, recorded_then}
use Rattle.gather.proofs.blob.read_all.Goals as goal

pub returns-in_err-read-clause-unfinished : goal.returns-in_err-read-clause-unfinished
returns-in_err-read-clause-unfinished c = λ _.
    let long : length c.as_mut_slice.result.now ≡ c.in-Some.length = omega (arith, ap length c.as_mut_slice.ensures.value, c.in_ok-blob.ensures.len, c.in_ok-blob.blob.ok.0) in
    inr (read_lacks _ _ _ c.as_mut_slice.result.now c.read.new.out _ c.in-Some.length long c.in-Some.ensures.called c.in_err-read.ensures.event)

pub returns-clause-asks : goal.returns-clause-asks
returns-clause-asks c =
    let long : length c.as_mut_slice.result.now ≡ c.in-Some.length = omega (arith, ap length c.as_mut_slice.ensures.value, c.in_ok-blob.ensures.len, c.in_ok-blob.blob.ok.0) in
    asks_both _ _ _ c.as_mut_slice.result.now c.read.new.out c.in-Some.length _ long c.in-Some.ensures.called c.in_ok-read.ensures.event

pub returns-clause-whole : goal.returns-clause-whole
returns-clause-whole c =
    let long : length c.as_mut_slice.result.now ≡ c.in-Some.length = omega (arith, ap length c.as_mut_slice.ensures.value, c.in_ok-blob.ensures.len, c.in_ok-blob.blob.ok.0) in
    let whole : IsWhole (state_after c.read.new.seat.view.seen) c.read.new.out =
    read_whole _ _ _ c.as_mut_slice.result.now c.read.new.out c.in-Some.length long c.in-Some.ensures.called c.in_ok-read.ensures.event in
    let put = with_items_is c.in_ok-blob.blob c.read.new.out (omega (arith, c.read.auto.out, ap length c.as_mut_slice.ensures.value)) in
    subst (λ (xs : List ℕ). IsWhole (state_after c.read.new.seat.view.seen) xs) (sym put) whole

pub returns-clause-fits : goal.returns-clause-fits
returns-clause-fits c =
    let long : length c.as_mut_slice.result.now ≡ c.in-Some.length = omega (arith, ap length c.as_mut_slice.ensures.value, c.in_ok-blob.ensures.len, c.in_ok-blob.blob.ok.0) in
    let whole : IsWhole (state_after c.read.new.seat.view.seen) c.read.new.out =
    read_whole _ _ _ c.as_mut_slice.result.now c.read.new.out c.in-Some.length long c.in-Some.ensures.called c.in_ok-read.ensures.event in
    let put = with_items_is c.in_ok-blob.blob c.read.new.out (omega (arith, c.read.auto.out, ap length c.as_mut_slice.ensures.value)) in
    let legal : IsLegal (fixed_of c.args.assembly.now) c.read.new.seat.view.seen =
    subst (λ (fixed : Fixed). IsLegal fixed c.read.new.seat.view.seen) c.in_ok-read.ensures.of.knows.fixed_is c.in_ok-read.ensures.of.knows.legal in
    subst (λ (xs : List ℕ). length xs ≤ 1024 * (fixed_of c.args.assembly.now).capacity) (sym put)
    (recorded_fits (fixed_of c.args.assembly.now) c.read.new.seat.view.seen (length c.read.new.out) legal whole.recorded)

pub returns-clause-no_length : goal.returns-clause-no_length
returns-clause-no_length c = λ none.
    absurd (no_none _ c.in-Some.length (recorded_then _ _ _ c.in-Some.length _ _ _ c.in-Some.ensures.called c.in_ok-read.ensures.event.called) none)
