use Rattle.std.proofs.Common.{◌≡◌, ◌++◌, ℕ, List, drop, inr, length, length-take-le, subst, sym, take}
use Rattle.b3tree.specs.declared.mode.Mode.{Mode}
use Rattle.b3tree.specs.Valid.{IsKeyed}
use Rattle.gather.proofs.SeatFinishing.{asks_both, read_lacks, read_whole}
use Rattle.gather.proofs.Finishing.{binds_none, whole_binds}
use Rattle.holders.proofs.Same.{alike, differs}
use Rattle.gather.specs.Finished.{BindsTo, IsFinished, IsWhole}
use Rattle.store_core.proofs.HasRoom.{recorded_fits}
use Rattle.store_core.specs.Histories.{IsLegal, state_after}
use Rattle.store_shared.specs.Seats.{fixed_of}
use Rattle.berylwool.proofs.Finishing.{found, front_is, legal_there, none_first, none_there, other_found, read_first, told_apart, told_root}
use Rattle.berylwool.proofs.seats.finished.Goals as goal

pub returns-in_default-clause-unfinished : goal.returns-in_default-clause-unfinished
returns-in_default-clause-unfinished c = λ _. none_there c.args.seat.now.view c.length.new.seat.view c.in_default.ensures.called

pub returns-in_default-clause-first : goal.returns-in_default-clause-first
returns-in_default-clause-first c = λ l is above. absurd (none_first c.args.seat.now.view c.length.new.seat.view l c.in_default.ensures.called is)

pub returns-in-Err-clause-asks : goal.returns-in-Err-clause-asks
returns-in-Err-clause-asks c =
    let before : List ℕ = take c.in-Some.length c.args.out.now in
    let long : length before ≡ c.in-Some.length = length-take-le c.in-Some.length c.args.out.now c.if-length-out.false in
    asks_both c.args.seat.now.view c.length.new.seat.view c.read.new.seat.view before c.read.new.out c.in-Some.length _ long c.in-Some.ensures.called c.in-Err.ensures.event

pub returns-in-Err-clause-first : goal.returns-in-Err-clause-first
returns-in-Err-clause-first c = λ k is above.
    absurd (read_first c.args.seat.now.view c.length.new.seat.view c.read.new.seat.view (take c.in-Some.length c.args.out.now) c.read.new.out c.in-Some.length k (length c.args.out.now) _ c.if-length-out.false
    c.in-Some.ensures.called c.in-Err.ensures.event is above)

pub returns-then-ne-clause-asks : goal.returns-then-ne-clause-asks
returns-then-ne-clause-asks c =
    let before : List ℕ = take c.in-Some.length c.args.out.now in
    let long : length before ≡ c.in-Some.length = length-take-le c.in-Some.length c.args.out.now c.if-length-out.false in
    asks_both c.args.seat.now.view c.length.new.seat.view c.read.new.seat.view before c.read.new.out c.in-Some.length _ long c.in-Some.ensures.called c.in_default-read.ensures.event

pub returns-then-ne-clause-first : goal.returns-then-ne-clause-first
returns-then-ne-clause-first c = λ k is above.
    absurd (read_first c.args.seat.now.view c.length.new.seat.view c.read.new.seat.view (take c.in-Some.length c.args.out.now) c.read.new.out c.in-Some.length k (length c.args.out.now) _ c.if-length-out.false
    c.in-Some.ensures.called c.in_default-read.ensures.event is above)

pub returns-clause-asks : goal.returns-clause-asks
returns-clause-asks c =
    let before : List ℕ = take c.in-Some.length c.args.out.now in
    let long : length before ≡ c.in-Some.length = length-take-le c.in-Some.length c.args.out.now c.if-length-out.false in
    asks_both c.args.seat.now.view c.length.new.seat.view c.read.new.seat.view before c.read.new.out c.in-Some.length _ long c.in-Some.ensures.called c.in_default-read.ensures.event

pub returns-clause-first : goal.returns-clause-first
returns-clause-first c = λ k is above.
    absurd (read_first c.args.seat.now.view c.length.new.seat.view c.read.new.seat.view (take c.in-Some.length c.args.out.now) c.read.new.out c.in-Some.length k (length c.args.out.now) _ c.if-length-out.false
    c.in-Some.ensures.called c.in_default-read.ensures.event is above)

pub returns-in-Err-clause-unfinished : goal.returns-in-Err-clause-unfinished
returns-in-Err-clause-unfinished c = λ _.
    let before : List ℕ = take c.in-Some.length c.args.out.now in
    let long : length before ≡ c.in-Some.length = length-take-le c.in-Some.length c.args.out.now c.if-length-out.false in
    inr (read_lacks c.args.seat.now.view c.length.new.seat.view c.read.new.seat.view before c.read.new.out _ c.in-Some.length long c.in-Some.ensures.called c.in-Err.ensures.event)

pub returns-then-ne-clause-other : goal.returns-then-ne-clause-other
returns-then-ne-clause-other c = λ _.
    let before : List ℕ = take c.in-Some.length c.args.out.now in
    let long : length before ≡ c.in-Some.length = length-take-le c.in-Some.length c.args.out.now c.if-length-out.false in
    let whole : IsWhole (state_after c.read.new.seat.view.seen) c.read.new.out =
    read_whole c.args.seat.now.view c.length.new.seat.view c.read.new.seat.view before c.read.new.out c.in-Some.length long c.in-Some.ensures.called c.in_default-read.ensures.event in
    let rest : List ℕ = drop c.in-Some.length c.args.out.now in
    let same : take c.in-Some.length (c.read.new.out ++ rest) ≡ c.read.new.out = front_is c.read.new.out rest before c.in-Some.length c.read.auto.out long in
    other_found (fixed_of c.args.store.now) c.read.new.seat.view.seen c.read.new.out whole
    (told_apart (fixed_of c.args.store.now) c.mode-mode.result c.root.result c.hash.result.0 _ c.read.new.out c.mode-mode.ensures c.root.ensures c.hash.ensures.value same (differs _ _ c.if-ne.ensures))

pub returns-then-ne-clause-none : goal.returns-then-ne-clause-none
returns-then-ne-clause-none c = λ _.
    let before : List ℕ = take c.in-Some.length c.args.out.now in
    let long : length before ≡ c.in-Some.length = length-take-le c.in-Some.length c.args.out.now c.if-length-out.false in
    let whole : IsWhole (state_after c.read.new.seat.view.seen) c.read.new.out =
    read_whole c.args.seat.now.view c.length.new.seat.view c.read.new.seat.view before c.read.new.out c.in-Some.length long c.in-Some.ensures.called c.in_default-read.ensures.event in
    let rest : List ℕ = drop c.in-Some.length c.args.out.now in
    let same : take c.in-Some.length (c.read.new.out ++ rest) ≡ c.read.new.out = front_is c.read.new.out rest before c.in-Some.length c.read.auto.out long in
    let legal : IsLegal (fixed_of c.args.store.now) c.read.new.seat.view.seen =
    legal_there (fixed_of c.args.store.now) c.read.new.seat.view c.in_default-read.ensures.of.knows.fixed_is c.in_default-read.ensures.of.knows.legal in
    let keyed : IsKeyed (fixed_of c.args.store.now).mode = subst (λ (mode : Mode). IsKeyed mode) c.mode-mode.ensures c.is_keyed.ensures in
    binds_none (fixed_of c.args.store.now) c.read.new.seat.view.seen c.read.new.out keyed legal whole
    (told_apart (fixed_of c.args.store.now) c.mode-mode.result c.root.result c.hash.result.0 _ c.read.new.out c.mode-mode.ensures c.root.ensures c.hash.ensures.value same (differs _ _ c.if-ne.ensures))

pub returns-clause-blob : goal.returns-clause-blob
returns-clause-blob c = λ _.
    let before : List ℕ = take c.in-Some.length c.args.out.now in
    let long : length before ≡ c.in-Some.length = length-take-le c.in-Some.length c.args.out.now c.if-length-out.false in
    let whole : IsWhole (state_after c.read.new.seat.view.seen) c.read.new.out =
    read_whole c.args.seat.now.view c.length.new.seat.view c.read.new.seat.view before c.read.new.out c.in-Some.length long c.in-Some.ensures.called c.in_default-read.ensures.event in
    let rest : List ℕ = drop c.in-Some.length c.args.out.now in
    let same : take c.in-Some.length (c.read.new.out ++ rest) ≡ c.read.new.out = front_is c.read.new.out rest before c.in-Some.length c.read.auto.out long in
    let legal : IsLegal (fixed_of c.args.store.now) c.read.new.seat.view.seen =
    legal_there (fixed_of c.args.store.now) c.read.new.seat.view c.in_default-read.ensures.of.knows.fixed_is c.in_default-read.ensures.of.knows.legal in
    subst (λ (xs : List ℕ). IsFinished (fixed_of c.args.store.now) (state_after c.read.new.seat.view.seen) xs) (sym same)
    (found (fixed_of c.args.store.now) c.read.new.seat.view.seen c.read.new.out whole
    (told_root (fixed_of c.args.store.now) c.mode-mode.result c.root.result c.hash.result.0 _ c.read.new.out c.mode-mode.ensures c.root.ensures c.hash.ensures.value same (alike _ _ c.if-ne.ensures))
    (recorded_fits (fixed_of c.args.store.now) c.read.new.seat.view.seen (length c.read.new.out) legal whole.recorded))

pub returns-clause-binds : goal.returns-clause-binds
returns-clause-binds c = λ _.
    let before : List ℕ = take c.in-Some.length c.args.out.now in
    let long : length before ≡ c.in-Some.length = length-take-le c.in-Some.length c.args.out.now c.if-length-out.false in
    let whole : IsWhole (state_after c.read.new.seat.view.seen) c.read.new.out =
    read_whole c.args.seat.now.view c.length.new.seat.view c.read.new.seat.view before c.read.new.out c.in-Some.length long c.in-Some.ensures.called c.in_default-read.ensures.event in
    let rest : List ℕ = drop c.in-Some.length c.args.out.now in
    let same : take c.in-Some.length (c.read.new.out ++ rest) ≡ c.read.new.out = front_is c.read.new.out rest before c.in-Some.length c.read.auto.out long in
    let legal : IsLegal (fixed_of c.args.store.now) c.read.new.seat.view.seen =
    legal_there (fixed_of c.args.store.now) c.read.new.seat.view c.in_default-read.ensures.of.knows.fixed_is c.in_default-read.ensures.of.knows.legal in
    let keyed : IsKeyed (fixed_of c.args.store.now).mode = subst (λ (mode : Mode). IsKeyed mode) c.mode-mode.ensures c.is_keyed.ensures in
    subst (λ (xs : List ℕ). BindsTo (fixed_of c.args.store.now) c.read.new.seat.view.seen xs) (sym same)
    (whole_binds (fixed_of c.args.store.now) c.read.new.seat.view.seen c.read.new.out keyed legal whole)
