use Rattle.std.proofs.Common.{◌≡◌, ℕ, List, length, take, arith}
use Rattle.std.proofs.lemmas.List.{length-take-le}
use Rattle.bao_files.proofs.KeyTexts.{left_key}
use Rattle.bao_files.proofs.key.read_key.Goals as goal

pub returns-in-Ok-clause-key : goal.returns-in-Ok-clause-key
returns-in-Ok-clause-key g c =
    let room : List ℕ = c.read_start.new.room in
    let count : ℕ = c.in-Ok.count in
    let new = g.I.Read.remaining c.read_start.new.reader in
    let size : length (take count room) ≡ count = length-take-le count room (omega (arith, c.in-Ok.ensures.bound, c.read_start.ensures.room)) in
    left_key (g.I.Read.remaining c.args.input.now) new (take count room) c.key_of.result c.in-Ok.ensures.start (λ short. c.in-Ok.ensures.end (omega (arith, short, size))) c.key_of.ensures
