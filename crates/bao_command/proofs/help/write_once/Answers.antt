use Rattle.std.proofs.Common.{◌≡◌, ◌+◌, ◌-◌, ◌≤◌, ℕ, List, ◌++◌, length, take, drop, ◌∙◌, sym, subst, arith, length-drop}
use Rattle.std.proofs.KnownBytes.{Appends-trans}
use Rattle.std.proofs.lemmas.List.{drop-take, take-append-drop, take-take, take_rest}
use Rattle.std.specs.Io.KnownBytes.{Appends}
use Rattle.bao_command.proofs.help.write_once.Goals as goal

-- the bytes up to m and n more
take-add : (m n : ℕ) (text : List ℕ) → take m text ++ take n (drop m text) ≡ take (m + n) text
take-add m n text =
    let front : take m (take (m + n) text) ≡ take m text = take-take m (m + n) text (omega arith) in
    let back : drop m (take (m + n) text) ≡ take n (drop m text) = drop-take m n text in
    (λ i. sym front i ++ sym back i) ∙ take-append-drop m (take (m + n) text)

pub writes-preserved : goal.writes-preserved
writes-preserved g c =
    let text : List ℕ = c.args.text.now in
    let at : ℕ = c.writes.written in
    let count : ℕ = c.in-Ok.count in
    let start = g.W.Write.contents c.args.out.now in
    let before = g.W.Write.contents c.writes.out in
    let after = g.W.Write.contents c.write.new.self in
    let rest : take (length text - at) (drop at text) ≡ drop at text = take_rest text at in
    let rest_len : length (drop at text) ≡ length text - at = length-drop at text in
    let bound : count ≤ length (drop at text) = subst (λ (s : List ℕ). count ≤ length s) rest c.in-Ok.ensures.bound in
    let more : Appends before after (take count (drop at text)) = subst (λ (s : List ℕ). Appends before after (take count s)) rest c.in-Ok.ensures.bytes in (
      omega arith,
      subst (Appends start after) (take-add at count text) (Appends-trans start before after (take at text) (take count (drop at text)) c.writes.invariant.1 more),
    )
