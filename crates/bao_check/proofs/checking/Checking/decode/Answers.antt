use Rattle.std.proofs.Common.{◌≡◌, ◌+◌, ℕ, List, [], ◌++◌, take, sym, subst, ◌∙◌, arith}
use Rattle.std.proofs.lemmas.Result.{err_from_is_err_and}
use Rattle.bao_check.specs.Checking.{HasDecodedAs, HasTakenAs, IsNodeFault}
use Rattle.bao_check.proofs.ChunkBytes.{after_length, all_after_length, node_fault_on}
use Rattle.bao_check.proofs.Feeding.{nothing}
use Rattle.bao_check.proofs.checking.Checking.decode.Goals as goal

pub returns-in_err-take-clause-fault : goal.returns-in_err-take-clause-fault
returns-in_err-take-clause-fault c = λ task taken it.
    let bytes : List ℕ = c.args.bytes.now in
    let header : List ℕ = c.split_at.result.0.now in
    let nodes : List ℕ = c.split_at.result.1.now in
    let fault = c.in_err-take.field-0.0 in
    let all : (taken ++ header) ++ nodes ≡ taken ++ bytes = all_after_length taken bytes header nodes c.split_at.ensures.front c.split_at.ensures.back in
    let p = err_from_is_err_and c.from_residual.result c.from_residual.ensures.1 in
    rw (p.1, p.2)
    (subst (λ (s : List ℕ). IsNodeFault task s fault) all (node_fault_on task (taken ++ header) nodes fault (c.in_err-take.ensures.fault task taken it)))

pub returns-in_err-decoded-clause-fault : goal.returns-in_err-decoded-clause-fault
returns-in_err-decoded-clause-fault c = λ task taken it.
    let bytes : List ℕ = c.args.bytes.now in
    let header : List ℕ = c.split_at.result.0.now in
    let nodes : List ℕ = c.split_at.result.1.now in
    let fault = c.in_err-decoded.field-0.0 in
    let all : (taken ++ header) ++ nodes ≡ taken ++ bytes = all_after_length taken bytes header nodes c.split_at.ensures.front c.split_at.ensures.back in
    let p = err_from_is_err_and c.from_residual-in_err-decoded.result c.from_residual-in_err-decoded.ensures.1 in
    rw (p.1, p.2)
    (subst (λ (s : List ℕ). IsNodeFault task s fault) all (c.in_err-decoded.ensures.fault task (taken ++ header) (c.in_ok-take.ensures.taken task taken it)))

pub returns-in_err-decoded-clause-before : goal.returns-in_err-decoded-clause-before
returns-in_err-decoded-clause-before c = λ task taken it.
    let bytes : List ℕ = c.args.bytes.now in
    let header : List ℕ = c.split_at.result.0.now in
    let nodes : List ℕ = c.split_at.result.1.now in
    let before = c.in_err-decoded.ensures.before task (taken ++ header) (c.in_ok-take.ensures.taken task taken it) in
    let more : (taken ++ header) ++ take before.0 nodes ≡ taken ++ take (8 + before.0) bytes = after_length taken bytes header nodes before.0 c.split_at.ensures.front c.split_at.ensures.back in
    let p = err_from_is_err_and c.from_residual-in_err-decoded.result c.from_residual-in_err-decoded.ensures.1 in
    rw (p.1) (
      8 + before.0,
      omega (arith, before.1, c.split_at.ensures.back_len, c.if-bytes-lt-LENGTH_LEN.false),
      subst (HasTakenAs c.decode_nodes-2.new.self task) more before.2,
    )

pub returns-clause-taken : goal.returns-clause-taken
returns-clause-taken c = λ task taken it.
    let bytes : List ℕ = c.args.bytes.now in
    let header : List ℕ = c.split_at.result.0.now in
    let nodes : List ℕ = c.split_at.result.1.now in
    let more : (taken ++ header) ++ take c.in_ok-decoded.decoded.taken nodes ≡ taken ++ take (8 + c.in_ok-decoded.decoded.taken) bytes =
    after_length taken bytes header nodes c.in_ok-decoded.decoded.taken c.split_at.ensures.front c.split_at.ensures.back in
    subst (HasTakenAs c.decode_nodes-2.new.self task) more (c.in_ok-decoded.ensures.taken task (taken ++ header) (c.in_ok-take.ensures.taken task taken it))

pub returns-clause-decoded : goal.returns-clause-decoded
returns-clause-decoded c = λ task taken blob it.
    let bytes : List ℕ = c.args.bytes.now in
    let header : List ℕ = c.split_at.result.0.now in
    let nodes : List ℕ = c.split_at.result.1.now in
    let first : c.args.self.now.at ≡ 0 = omega (arith, c.if-self-gt0.false) in
    let none : taken ≡ [] = nothing taken (sym it.has_taken.at_is ∙ first) in
    let bare : HasTakenAs c.args.self.now task [] = subst (HasTakenAs c.args.self.now task) none it.has_taken in
    let begun : HasDecodedAs c.take.new.self task header [] = c.in_ok-take.ensures.begun task bare in
    let part : List ℕ = take c.in_ok-decoded.decoded.filled c.decode_nodes-2.new.room in
    let done : HasDecodedAs c.decode_nodes-2.new.self task (header ++ take c.in_ok-decoded.decoded.taken nodes) part = c.in_ok-decoded.ensures.decoded task header [] begun in
    let more : ([] ++ header) ++ take c.in_ok-decoded.decoded.taken nodes ≡ [] ++ take (8 + c.in_ok-decoded.decoded.taken) bytes =
    after_length [] bytes header nodes c.in_ok-decoded.decoded.taken c.split_at.ensures.front c.split_at.ensures.back in
    subst (λ (T : Type 0). T)
    (λ i. HasDecodedAs c.decode_nodes-2.new.self task (sym none i ++ take (8 + c.in_ok-decoded.decoded.taken) bytes) (sym (it.begins first) i ++ part))
    (subst (λ (s : List ℕ). HasDecodedAs c.decode_nodes-2.new.self task s part) more done)
