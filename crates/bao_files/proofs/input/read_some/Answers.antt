use Rattle.std.proofs.Common.{◌≡◌, ◌+◌, ◌-◌, ◌≤◌, ℕ, List, ◌++◌, length, take, replicate, rules, refl, true, vec_len, if◌then◌else◌, ◌∙◌, sym, ap, arith}
use Rattle.std.proofs.Math.Seq.{take-append-add}
use Rattle.std.proofs.lemmas.List.{append_assoc, take-append-le, take-take, take_all, take_at}
use Rattle.std.specs.Result.{is_ok}
use Rattle.bao_files.proofs.input.read_some.Goals as goal

-- the vector ends with what the read put after its own bytes
kept : (items room read after rest : List ℕ) (start count size : ℕ) → take start room ≡ items → length items ≡ start → count ≤ length read → start + count ≤ size
    → take (start + count) (take size ((take start room ++ (read ++ after)) ++ rest)) ≡ items ++ take count read
kept items room read after rest start count size front len fits within =
    let whole : (take start room ++ (read ++ after)) ++ rest ≡ items ++ (read ++ (after ++ rest)) =
    (λ i. (front i ++ (read ++ after)) ++ rest) ∙ append_assoc items (read ++ after) rest ∙ ap (λ (xs : List ℕ). items ++ xs) (append_assoc read after rest) in
    take-take (start + count) size ((take start room ++ (read ++ after)) ++ rest) within
    ∙ (λ i. take (sym len i + count) (whole i))
    ∙ take-append-add items (read ++ (after ++ rest)) count
    ∙ ap (λ (xs : List ℕ). items ++ xs) (take-append-le count read (after ++ rest) fits)

pub returns-in-Ok-clause-ok : goal.returns-in-Ok-clause-ok
returns-in-Ok-clause-ok g c =
    let items : List ℕ = c.args.bytes.now.items in
    let start : ℕ = c.len-start.result in
    let count : ℕ = c.in-Ok.count in
    let read : List ℕ = c.read.new.buf in
    let len : length items ≡ start = search rules in
    let ok : is_ok c.resize.result ≡ true = search rules in
    let end : start ≤ c.saturating_add.result = search rules in
    let more : List ℕ = replicate (c.saturating_add.result - vec_len c.args.bytes.now) 0 in
    let grown : c.resize.new.self.items ≡ take c.saturating_add.result items ++ more =
    c.resize.ensures.items ∙ (let pick : (if is_ok c.resize.result then take c.saturating_add.result items ++ more else items) ≡ take c.saturating_add.result items ++ more = rw ok refl in pick) in
    let size : vec_len c.resize.new.self ≡ c.saturating_add.result =
    c.resize.ensures.len ∙ (let pick : (if is_ok c.resize.result then c.saturating_add.result else vec_len c.args.bytes.now) ≡ c.saturating_add.result = rw ok refl in pick) in
    let some : count ≤ length read = c.in-Ok.ensures.bound.0 in
    let front : take start c.as_mut_slice.result.now ≡ items =
    (λ i. take start (c.as_mut_slice.ensures.value i)) ∙ ap (take start) grown
    ∙ (λ i. take start (take_all c.saturating_add.result items (omega arith) i ++ more)) ∙ take_at items more start len in (
      take count read,
      sym c.in-Ok.ensures.bound.1,
      record {
        given = c.in-Ok.ensures.bytes.0;
        kept = c.truncate.ensures.items ∙ kept items c.as_mut_slice.result.now read _ _ start count _ front len some (omega (arith, size, c.read.auto.buf, c.as_mut_slice.ensures.len));
      },
    )
