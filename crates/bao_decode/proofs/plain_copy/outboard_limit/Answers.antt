use Rattle.std.proofs.Common.{rules, ◌≡◌, ◌+◌, ◌-◌, ◌*◌, ◌^◌, min, ℕ, List, length, arith, subst}
use Rattle.bao_check.specs.Accepted.{outboard_nodes}
use Rattle.bao_check.specs.Faults.{IsFirstFault}
use Rattle.bao_text.specs.Choice.{chunk_count}
use Rattle.bao_text.specs.Cut.{claimed}
use Rattle.bao_decode.proofs.Fronts.{accepted_len, mismatch-not_short, trailing-not_short}
use Rattle.bao_decode.proofs.plain_copy.outboard_limit.Goals as goal

pub returns-in-Err-Mismatch-clause-refused : goal.returns-in-Err-Mismatch-clause-refused
returns-in-Err-Mismatch-clause-refused c = λ zero long at short.
    mismatch-not_short c.args.mode.now c.args.root.now.0 c.args.text.now (outboard_nodes c.args.text.now) c.in-Err-Mismatch.field-0-0 at
    (subst (IsFirstFault c.args.mode.now c.args.root.now.0 c.args.text.now (outboard_nodes c.args.text.now)) c.in-Err-Mismatch.field-0-is c.in-Err-Mismatch.ensures.fault) short

pub returns-in-Err-Trailing-clause-refused : goal.returns-in-Err-Trailing-clause-refused
returns-in-Err-Trailing-clause-refused c = λ zero long at short.
    trailing-not_short c.args.mode.now c.args.root.now.0 c.args.text.now (outboard_nodes c.args.text.now) c.in-Err-Trailing.field-0-0 at
    (subst (IsFirstFault c.args.mode.now c.args.root.now.0 c.args.text.now (outboard_nodes c.args.text.now)) c.in-Err-Trailing.field-0-is c.in-Err-Trailing.ensures.fault) short

pub returns-clause-claims : goal.returns-clause-claims
returns-clause-claims c = λ some.
    let text : List ℕ = c.args.text.now in
    let limit : c.unwrap_or.result ≡ min (8 + 64 * (chunk_count (claimed text) - 1) + 1) (2 ^ 64 - 1) = search rules in
    (omega (arith, c.if-text-lt-LENGTH_LEN.false), omega (arith, limit, c.claimed.type_inv, c.claimed.ensures))

pub returns-clause-accepted : goal.returns-clause-accepted
returns-clause-accepted c = λ accepted.
    let text : List ℕ = c.args.text.now in
    let len : length text ≡ 8 + 64 * (chunk_count (claimed text) - 1) = accepted_len c.args.mode.now c.args.root.now.0 text accepted in
    let limit : c.unwrap_or.result ≡ min (8 + 64 * (chunk_count (claimed text) - 1) + 1) (2 ^ 64 - 1) = search rules in
    omega (arith, len, limit, c.claimed.type_inv, c.claimed.ensures)
