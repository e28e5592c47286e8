use Rattle.holders.proofs.Common.{if◌then◌else◌, ◌≡◌, ◌+◌, ◌-◌, ◌≤◌, ℕ, List, ◌++◌, length, take, drop, Option, None, Some, replicate, rules, refl, true, vec_len, ◌∙◌, sym, ap, arith, take-append-add, append_assoc, length-take-le, take-append-le, take-take, take_all, take_at, is_ok, GivenAt, ReadsAt}
use Rattle.holders.specs.Reads.{ReadFrom}
use Rattle.holders.proofs.Reading.{read_more}
use Rattle.holders.proofs.places.PlacedPlaces.append.Goals as goal

-- what one read gave
given : (contents : Option (List ℕ)) (at count : ℕ) (new : List ℕ) → length (take count new) ≡ count → ReadsAt contents at count new → GivenAt contents at (take count new)
given None at count new size read = tt
given (Some s) at count new size read = read.0 ∙ ap (λ (n : ℕ). take n (drop at s)) (sym size)

-- the vector ends with what the read put after its own bytes
kept : (items room read after rest : List ℕ) (start count size : ℕ) → take start room ≡ items → length items ≡ start → count ≤ length read → start + count ≤ size
    → take (start + count) (take size ((take start room ++ (read ++ after)) ++ rest)) ≡ items ++ take count read
kept items room read after rest start count size front len fits within =
    let whole : (take start room ++ (read ++ after)) ++ rest ≡ items ++ (read ++ (after ++ rest)) =
    (λ i. (front i ++ (read ++ after)) ++ rest) ∙ append_assoc items (read ++ after) rest ∙ ap (λ (xs : List ℕ). items ++ xs) (append_assoc read after rest) in
    take-take (start + count) size ((take start room ++ (read ++ after)) ++ rest) within
    ∙ (λ i. take (sym len i + count) (whole i))
    ∙ take-append-add items (read ++ (after ++ rest)) count
    ∙ ap (λ (xs : List ℕ). items ++ xs) (take-append-le count read (after ++ rest) fits)

pub reads-preserved : goal.reads-preserved
reads-preserved g c =
    let contents = g.S.Source.contents c.args.self.now.source.now in
    let items : List ℕ = c.reads.into.items in
    let start : ℕ = c.len-start.result in
    let count : ℕ = c.in-Ok.count in
    let read : List ℕ = c.read_at.new.buf in
    let len : length items ≡ start = search rules in
    let ok : is_ok c.resize.result ≡ true = search rules in
    let end : start ≤ c.saturating_add.result = search rules in
    let more : List ℕ = replicate (c.saturating_add.result - vec_len c.reads.into) 0 in
    let grown : c.resize.new.self.items ≡ take c.saturating_add.result items ++ more =
    c.resize.ensures.items ∙ (let pick : (if is_ok c.resize.result then take c.saturating_add.result items ++ more else items) ≡ take c.saturating_add.result items ++ more = rw ok refl in pick) in
    let size : vec_len c.resize.new.self ≡ c.saturating_add.result =
    c.resize.ensures.len ∙ (let pick : (if is_ok c.resize.result then c.saturating_add.result else vec_len c.reads.into) ≡ c.saturating_add.result = rw ok refl in pick) in
    let some : count ≤ length read = c.in-Ok.ensures.bound.0 in
    let front : take start c.as_mut_slice.result.now ≡ items =
    (λ i. take start (c.as_mut_slice.ensures.value i)) ∙ ap (take start) grown
    ∙ (λ i. take start (take_all c.saturating_add.result items (omega arith) i ++ more)) ∙ take_at items more start len in
    let got : length (take count read) ≡ count = length-take-le count read some in
    let one : ReadFrom contents (c.args.at + c.reads.came) items c.truncate.new.self.items count = record {
      bytes = take count read;
      is = c.truncate.ensures.items ∙ kept items c.as_mut_slice.result.now read _ _ start count _ front len some (omega (arith, size, c.read_at.auto.buf, c.as_mut_slice.ensures.len));
      size = got;
      given = given contents (c.args.at + c.reads.came) count read got c.in-Ok.ensures.bytes;
    } in
    (omega (arith, some, size, c.read_at.auto.buf, c.as_mut_slice.ensures.len), read_more contents c.args.at c.args.into.now.items items c.truncate.new.self.items c.reads.came count c.reads.invariant.1 one)
