use Rattle.std.proofs.Common.{◌≡◌, ◌<◌, ℕ, ◌+◌, ◌-◌, ◌/◌, List, length, take, drop, Err, IfErr, IfOk, MatchResult, Ok, Result, sym, ap, subst, ◌∙◌, arith, length-drop}
use Rattle.std.proofs.lemmas.List.{take-append-drop, take_all}
use Rattle.std.proofs.lemmas.Result.{err_from_is_err_and}
use Rattle.bao_check.specs.declared.asked.Asked.{Asked}
use Rattle.bao_check.specs.Walk.{PassesIn}
use Rattle.bao_check.proofs.Subtrees.{both_pass, far_part_stops, near_part_stops, pass_chunk, pass_unwanted, pass_without, stop_chunk, stop_parent}
use Rattle.bao_check.proofs.walk.+check_subtree.Goals as goal

-- what an answer is, by what it is where it is one and where it is a fault
match_from : {A B : Type 0} (r : Result A B) (P Q : A → Type 0) (F G : B → Type 0) → ((x : A) → P x → Q x) → ((e : B) → F e → G e) → IfOk r P → IfErr r F → MatchResult r Q G
match_from (Ok x) P Q F G ok err h k = ok x h
match_from (Err e) P Q F G ok err h k = err e k

match_both : {A B : Type 0} (r : Result A B) (P Q : A → Type 0) (F G : B → Type 0) → ((x : A) → P x → Q x) → ((e : B) → F e → G e) → MatchResult r P F → MatchResult r Q G
match_both (Ok x) P Q F G ok err h = ok x h
match_both (Err e) P Q F G ok err h = err e h

pub returns-then-not-wants : goal.returns-then-not-wants
returns-then-not-wants t c =
    pass_unwanted c.args.asked.now c.args.mode.now c.args.choice.now c.args.number c.args.n c.args.text.now c.args.at c.requires.at (sym c.wants.ensures ∙ c.if-not-wants.true)

pub returns-then-has_chunks : goal.returns-then-has_chunks
returns-then-has_chunks t c =
    let asked : Asked = c.args.asked.now in
    let mode = c.args.mode.now in
    let choice = c.args.choice.now in
    let text : List ℕ = c.args.text.now in
    let wanted = sym c.wants.ensures ∙ c.if-not-wants.false in
    let kept = sym c.has_chunks.ensures ∙ c.if-has_chunks.true in
    match_from c.check_chunk.result _ (PassesIn asked mode choice c.args.number c.args.n text c.args.at) _ _
    (λ end h. subst (PassesIn asked mode choice c.args.number c.args.n text c.args.at) (sym h.0)
    (pass_chunk asked mode choice c.args.number c.args.n text c.args.at wanted c.if-n.true kept h.1 h.2))
    (λ fault h. (c.args.at + c.args.n, stop_chunk asked mode choice c.args.number c.args.n text c.args.at wanted c.if-n.true kept fault h))
    c.check_chunk.ensures.ok c.check_chunk.ensures.err

pub returns-else-has_chunks : goal.returns-else-has_chunks
returns-else-has_chunks t c =
    pass_without c.args.asked.now c.args.mode.now c.args.choice.now c.args.number c.args.n c.args.text.now c.args.at c.requires.at
    (sym c.wants.ensures ∙ c.if-not-wants.false) c.if-n.true (sym c.has_chunks.ensures ∙ c.if-has_chunks.false)

pub returns-in-Some : goal.returns-in-Some
returns-in-Some t c =
    let text : List ℕ = c.args.text.now in
    let rest : List ℕ = drop c.args.at text in
    let rest_len : length rest ≡ length text - c.args.at = length-drop c.args.at text in
    let ahead : List ℕ = take (length text - c.args.at) rest in
    let all : ahead ≡ rest = take_all (length text - c.args.at) rest (omega (arith, rest_len)) in
    record {
      within = omega (arith, c.in-Some.ensures.there, ap length all, rest_len, c.requires.at);
      passes = c.in-Some.ensures.passes text c.args.at (drop c.in-Some.len ahead, sym all ∙ sym (take-append-drop c.in-Some.len ahead));
    }

pub returns-in_err-left : goal.returns-in_err-left
returns-in_err-left t c =
    let p = err_from_is_err_and c.from_residual.result c.from_residual.ensures.1 in
    rw (p.1, p.2) (
      c.args.at + 64,
      stop_parent c.args.asked.now c.args.mode.now c.args.choice.now c.args.number c.args.n c.args.text.now c.args.at (sym c.wants.ensures ∙ c.if-not-wants.false) (omega arith)
          c.in_err-left.field-0.0 c.in_err-left.ensures.err,
    )

pub returns-in_err-middle : goal.returns-in_err-middle
returns-in_err-middle t c = grind (arith, err_from_is_err_and, near_part_stops)

pub returns : goal.returns
returns t c =
    let asked : Asked = c.args.asked.now in
    let mode = c.args.mode.now in
    let choice = c.args.choice.now in
    let text : List ℕ = c.args.text.now in
    let l : ℕ = c.left_len-left_len.result in
    let near : Asked = c.in_ok-left.left in
    let far : Asked = c.in_ok-left.right in
    let wanted = sym c.wants.ensures ∙ c.if-not-wants.false in
    let more : 1024 < c.args.n = omega arith in
    match_both c.check_subtree-2.result (PassesIn far mode choice (c.args.number + l / 1024) (c.args.n - l) text c.in_ok-middle.middle) (PassesIn asked mode choice c.args.number c.args.n text c.args.at)
    _ _
    (λ end h. both_pass asked mode choice c.args.number c.args.n text c.args.at wanted more near far l c.left_len-left_len.ensures.value c.in_ok-left.ensures.there
    c.in_ok-left.ensures.meets c.in_ok-left.ensures.left c.in_ok-left.ensures.right c.in_ok-middle.middle end c.in_ok-middle.ensures h)
    (λ fault h. (
      h.0,
      far_part_stops asked mode choice c.args.number c.args.n text c.args.at wanted more near far l c.left_len-left_len.ensures.value c.in_ok-left.ensures.there
          c.in_ok-left.ensures.meets c.in_ok-left.ensures.left c.in_ok-left.ensures.right c.in_ok-middle.middle fault h.0 c.in_ok-middle.ensures h.1,
    ))
    c.check_subtree-2.ensures
