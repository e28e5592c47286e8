use Rattle.std.proofs.Common.{◌∙◌, ℕ, ◌≤◌, List, ◌++◌, drop, length, length-append, length-take-le, take, take_at, sym, subst, arith}
use Rattle.std.proofs.lemmas.List.{take-append-le}
use Rattle.bao_check.specs.Checking.{HasDecodedAs}
use Rattle.berylwool.proofs.feeding.taken_many.Goals as goal

pub returns-in-Ok-clause-decoded : goal.returns-in-Ok-clause-decoded
returns-in-Ok-clause-decoded c = λ _ task had blob it.
    let n : ℕ = c.in-Ok.it.filled in
    let room : List ℕ = c.decode.new.room in
    let all : List ℕ = room ++ drop (length c.args.bytes.now) c.args.out.now in
    let small : n ≤ length room = omega (arith, c.in-Ok.ensures.bound.0, c.in-Ok.ensures.bound.1, c.decode.ensures.size, length-take-le (length c.args.bytes.now) c.args.out.now c.requires) in
    let within : n ≤ length all = omega (arith, small, length-append room (drop (length c.args.bytes.now) c.args.out.now)) in
    let starts = take_at (take n all) _ n (length-take-le n all within) ∙ take-append-le n room (drop (length c.args.bytes.now) c.args.out.now) small in
    subst (λ (part : List ℕ). HasDecodedAs c.decode.new.self task (had ++ take c.in-Ok.it.taken c.args.bytes.now) (blob ++ part)) (sym starts) (c.in-Ok.ensures.decoded task had blob it)
