use Rattle.std.proofs.Common.{◌≡◌, ◌+◌, ◌*◌, ℕ, List, ◌++◌, length, take, drop, inl, refl, sym, ap, subst, ◌∙◌, arith, rules}
use Rattle.std.proofs.lemmas.List.{length-take-le, take-append-le}
use Rattle.bao_check.specs.Outline.{outline_claimed}
use Rattle.b3par.specs.Given.{GivenAt}
use Rattle.bao_text.specs.Choice.{chunk_count}
use Rattle.bao_decode.proofs.CopyPasses.{ends_known, fault_known}
use Rattle.bao_decode.proofs.copy_pass.read_piece.Goals as goal

pub returns-in-Ok-clause-piece : goal.returns-in-Ok-clause-piece
returns-in-Ok-clause-piece g c =
    let contents = g.S.Source.contents c.args.copy.now in
    let total : ℕ = outline_claimed c.args.outline.now in
    let len : ℕ = c.in_ok-len.len in
    let room : ℕ = c.asked_len-room.result in
    let got : List ℕ = c.fill_most.new.buf in
    let rest : List ℕ = drop room c.args.buf.now in
    let part : List ℕ = take len (got ++ rest) in
    let same : part ≡ take len got = take-append-le len got rest c.in_ok-len.ensures.bound in
    let size : length got ≡ room = search rules in
    let part_len : length part ≡ len = ap length same ∙ length-take-le len got c.in_ok-len.ensures.bound in
    let are = c.in-Ok.ensures.accepted.0 refl in
    record {
      are = are;
      each = c.bytes_are.ensures;
      given = subst (GivenAt contents (1024 * c.args.first)) (sym same) (c.in_ok-len.ensures.given (inl tt));
      ends = λ last.
          ends_known contents (1024 * c.args.first + len) total (omega (arith, part_len, are.ends, last, c.requires.chunks.0))
          (c.in_ok-len.ensures.end (omega (arith, size, part_len, are.ends, c.asked_len-room.ensures.last (last ∙ ap chunk_count (sym c.claimed-total.ensures)))));
    }

pub returns-in-Err-clause-fault : goal.returns-in-Err-clause-fault
returns-in-Err-clause-fault g c =
    let contents = g.S.Source.contents c.args.copy.now in
    let outline = c.args.outline.now in
    let total : ℕ = outline_claimed outline in
    let len : ℕ = c.in_ok-len.len in
    let room : ℕ = c.asked_len-room.result in
    let got : List ℕ = c.fill_most.new.buf in
    let rest : List ℕ = drop room c.args.buf.now in
    let part : List ℕ = take len (got ++ rest) in
    let same : part ≡ take len got = take-append-le len got rest c.in_ok-len.ensures.bound in
    let size : length got ≡ room = search rules in
    let part_len : length part ≡ len = ap length same ∙ length-take-le len got c.in_ok-len.ensures.bound in
    let claims : c.claimed-total.result ≡ total = c.claimed-total.ensures in
    fault_known contents outline c.args.first c.args.count room part c.in-Err.fault c.fault_of_copy.result c.fault_of_copy.ensures
    (omega (arith, claims)) c.requires.chunks.1 c.requires.chunks.0
    (λ last. c.asked_len-room.ensures.last (last ∙ ap chunk_count (sym claims)) ∙ omega (arith, claims))
    (λ less. c.asked_len-room.ensures.other (omega (arith, less, claims)) ∙ omega (arith, claims))
    (omega (arith, part_len, size, c.in_ok-len.ensures.bound))
    (subst (GivenAt contents (1024 * c.args.first)) (sym same) (c.in_ok-len.ensures.given (inl tt)))
    (λ less. ends_known contents (1024 * c.args.first + len) (1024 * c.args.first + length part) (omega (arith, part_len)) (c.in_ok-len.ensures.end (omega (arith, less, part_len, size))))
    c.in-Err.ensures.fault
