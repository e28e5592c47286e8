use Rattle.std.proofs.Common.{◌≡◌, ◌+◌, ◌^◌, ◌<◌, ◌≤◌, ℕ, List, ◌++◌, length, take, IfSome, Some, refl, sym, ap, subst, ◌∙◌, arith, length-append}
use Rattle.std.proofs.lemmas.List.{append-nil, length-take-le, take-take}
use Rattle.bao_check.specs.Checking.{HasDecodedAs, HasTakenAs, wanted}
use Rattle.bao_decode.proofs.Forwards.{reaches_taken}
use Rattle.bao_decode.proofs.TextPasses.{ends_more, given_front, given_more, given_there, node_stops, short_stops, trailing_stops}
use Rattle.bao_decode.proofs.text_pass.next_block.Goals as goal

pub returns-in-Err-clause-fault : goal.returns-in-Err-clause-fault
returns-in-Err-clause-fault g c = λ task taken it at_is before.
    let contents = g.F.Forward.contents c.args.source.now in
    let faultless = g.F.Forward.faultless c.args.source.now in
    let reach = reaches_taken contents (g.F.Forward.anywhere c.args.source.now) taken c.args.at at_is before in
    let count : ℕ = c.in_ok-count.count in
    let read : List ℕ = take count c.fill_most.new.buf in
    let size : length read ≡ count = length-take-le count c.fill_most.new.buf c.in_ok-count.ensures.bound in
    let low : length (taken ++ read) < 2 ^ 64 =
    omega (arith, length-append taken read, at_is, size, c.in_ok-count.ensures.bound, c.fill_most.ensures.size, c.requires.block.1, c.if-at-gt-LAST_PLACE.false) in
    node_stops contents faultless task (taken ++ read) c.in-Err.fault (c.in-Err.ensures.fault task taken it) low
    (given_more contents taken read c.args.at at_is before (c.in_ok-count.ensures.given reach))

pub returns-then-decoded-gt0-clause-step : goal.returns-then-decoded-gt0-clause-step
returns-then-decoded-gt0-clause-step g c = λ task taken blob it at_is before.
    let contents = g.F.Forward.contents c.args.source.now in
    let faultless = g.F.Forward.faultless c.args.source.now in
    let reach = reaches_taken contents (g.F.Forward.anywhere c.args.source.now) taken c.args.at at_is before in
    let count : ℕ = c.in_ok-count.count in
    let read : List ℕ = take count c.fill_most.new.buf in
    let size : length read ≡ count = length-take-le count c.fill_most.new.buf c.in_ok-count.ensures.bound in
    let within : c.in-Ok.decoded.taken ≤ length read = c.in-Ok.ensures.bound.0 in (
      take c.in-Ok.decoded.taken read,
      length-take-le c.in-Ok.decoded.taken read within,
      take-take c.in-Ok.decoded.taken count c.fill_most.new.buf (omega (arith, within, size)),
      given_front contents c.args.at c.in-Ok.decoded.taken read within (c.in_ok-count.ensures.given reach),
      c.in-Ok.ensures.decoded task taken blob it,
    )

pub returns-in-Some-clause-fault : goal.returns-in-Some-clause-fault
returns-in-Some-clause-fault g c = λ task taken it at_is before.
    let contents = g.F.Forward.contents c.args.source.now in
    let faultless = g.F.Forward.faultless c.args.source.now in
    let reach = reaches_taken contents (g.F.Forward.anywhere c.args.source.now) taken c.args.at at_is before in
    let count : ℕ = c.in_ok-count.count in
    let read : List ℕ = take count c.fill_most.new.buf in
    let size : length read ≡ count = length-take-le count c.fill_most.new.buf c.in_ok-count.ensures.bound in
    let zero : c.in-Ok.decoded.taken ≡ 0 = omega (arith, c.if-decoded-gt0.false) in
    let same : taken ++ take c.in-Ok.decoded.taken read ≡ taken = ap (λ (n : ℕ). taken ++ take n read) zero ∙ append-nil taken in
    let now : HasTakenAs c.decode.new.self task taken = subst (HasTakenAs c.decode.new.self task) same (c.in-Ok.ensures.taken task taken it) in
    let wants : wanted c.decode.new.self ≡ Some c.in-Some.field-0 = sym c.wants.ensures.value ∙ c.in-Some.is in
    let most : length read < c.in-Ok.decoded.taken + c.in-Some.field-0 =
    subst (λ o. IfSome o (λ n. length read < c.in-Ok.decoded.taken + n)) wants c.in-Ok.ensures.most in
    let less : length read < c.in-Some.field-0 = omega (arith, most, zero) in
    let last : count < length c.fill_most.new.buf = omega (arith, size, less, c.in-Some.ensures.size.1, c.requires.block.0, c.fill_most.ensures.size) in
    short_stops contents faultless task taken read c.args.at at_is (c.in-Some.ensures.short task taken now read less)
    (given_more contents taken read c.args.at at_is before (c.in_ok-count.ensures.given reach))
    (ends_more contents c.args.at count taken read at_is (sym size) (c.in_ok-count.ensures.end last))

pub returns-in-None-clause-fault : goal.returns-in-None-clause-fault
returns-in-None-clause-fault g c = λ task taken it at_is before.
    let contents = g.F.Forward.contents c.args.source.now in
    let faultless = g.F.Forward.faultless c.args.source.now in
    let reach = reaches_taken contents (g.F.Forward.anywhere c.args.source.now) taken c.args.at at_is before in
    let count : ℕ = c.in_ok-count.count in
    let read : List ℕ = take count c.fill_most.new.buf in
    let size : length read ≡ count = length-take-le count c.fill_most.new.buf c.in_ok-count.ensures.bound in
    let zero : c.in-Ok.decoded.taken ≡ 0 = omega (arith, c.if-decoded-gt0.false) in
    let same : taken ++ take c.in-Ok.decoded.taken read ≡ taken = ap (λ (n : ℕ). taken ++ take n read) zero ∙ append-nil taken in
    let now : HasTakenAs c.decode.new.self task taken = subst (HasTakenAs c.decode.new.self task) same (c.in-Ok.ensures.taken task taken it) in
    let there = given_there contents c.args.at read (omega (arith, size, c.if-count-gt0.true)) (c.in_ok-count.ensures.given reach) in
    trailing_stops contents faultless task taken c.args.at count at_is (omega (arith, c.if-count-gt0.true)) (c.in-None.ensures.trailing task taken now refl) before
    (subst (λ (n : ℕ). IfSome contents (λ s. c.args.at + n ≤ length s)) size there)

pub returns-in-None-2-clause-last : goal.returns-in-None-2-clause-last
returns-in-None-2-clause-last g c = λ task taken blob it at_is done.
    let contents = g.F.Forward.contents c.args.source.now in
    let faultless = g.F.Forward.faultless c.args.source.now in
    let count : ℕ = c.in_ok-count.count in
    let read : List ℕ = take count c.fill_most.new.buf in
    let size : length read ≡ count = length-take-le count c.fill_most.new.buf c.in_ok-count.ensures.bound in
    let zero : c.in-Ok.decoded.taken ≡ 0 = omega (arith, c.if-decoded-gt0.false) in
    let same : taken ++ take c.in-Ok.decoded.taken read ≡ taken = ap (λ (n : ℕ). taken ++ take n read) zero ∙ append-nil taken in
    let part : List ℕ = take c.in-Ok.decoded.filled c.decode.new.room in
    let nothing : c.in-Ok.decoded.filled ≡ 0 = omega (arith, zero, c.in-Ok.ensures.bound.1) in
    let bare : blob ++ part ≡ blob = ap (λ (n : ℕ). blob ++ take n c.decode.new.room) nothing ∙ append-nil blob in
    let now : HasDecodedAs c.decode.new.self task taken blob =
    subst (λ (T : Type 0). T) (λ i. HasDecodedAs c.decode.new.self task (same i) (bare i)) (c.in-Ok.ensures.decoded task taken blob it) in
    let empty : count ≡ 0 = omega (arith, c.if-count-gt0.false) in
    let at : c.args.at + count ≡ c.args.at = omega (arith, empty) in
    let last : count < length c.fill_most.new.buf = omega (arith, empty, c.requires.block.0, c.fill_most.ensures.size) in (
      (c.in-None.ensures.done task taken now.has_taken).0 refl,
      c.in-None.ensures.blob task taken blob now refl,
      subst (λ (n : ℕ). IfSome contents (λ s. length s ≤ n)) at (c.in_ok-count.ensures.end last),
      omega (arith, c.if-at-gt-LAST_PLACE.false),
    )
