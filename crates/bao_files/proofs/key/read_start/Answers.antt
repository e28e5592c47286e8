use Rattle.std.proofs.Common.{rules, ◌≡◌, ℕ, ◌-◌, ◌≤◌, ◌+◌, List, ◌++◌, length, take, refl, arith, length-append, ◌∙◌}
use Rattle.std.proofs.KnownBytes.{Consumes-kept, Consumes-nil, Consumes-trans}
use Rattle.std.proofs.lemmas.List.{length-take-le}
use Rattle.bao_files.proofs.KeyTexts.{put_consumes}
use borrow.Rule.Slice.PartMut.{put_mid}
use Rattle.bao_files.proofs.key.read_start.Goals as goal

pub reads-init : goal.reads-init
reads-init g c = (omega arith, refl, Consumes-nil (g.R.Read.remaining c.args.reader.now))

pub reads-preserved : goal.reads-preserved
reads-preserved g c =
    let filled : ℕ = c.reads.filled in
    let count : ℕ = c.in-Ok.count in
    let buffer : List ℕ = c.reads.room in
    let new : List ℕ = c.read.new.buf in
    let fits : filled ≤ length buffer = c.reads.invariant.0 in
    let within : count ≤ length new = c.in-Ok.ensures.bound.0 in
    let k : ℕ = length buffer - filled in
    let size : length (put_mid filled k buffer new) ≡ length buffer = search rules in (
      omega (arith, size, c.read.auto.buf),
      size ∙ c.reads.invariant.1,
      put_consumes (g.R.Read.remaining c.args.reader.now) (g.R.Read.remaining c.reads.reader) (g.R.Read.remaining c.read.new.self) filled k count buffer new fits within c.reads.invariant.2 c.in-Ok.ensures.bytes.0,
    )

pub returns-in-Err-clause-taken : goal.returns-in-Err-clause-taken
returns-in-Err-clause-taken g c =
    let filled : ℕ = c.reads.filled in
    let buffer : List ℕ = c.reads.room in
    let size : length (take filled buffer) ≡ filled = length-take-le filled buffer c.reads.invariant.0 in (
      take filled buffer,
      omega (arith, size, c.reads.invariant.0, c.reads.invariant.1),
      Consumes-kept (g.R.Read.remaining c.args.reader.now) (g.R.Read.remaining c.reads.reader) (g.R.Read.remaining c.read.new.self) (take filled buffer) c.reads.invariant.2 c.in-Err.ensures.bytes,
    )

pub returns-in-Ok-eq0-clause-taken : goal.returns-in-Ok-eq0-clause-taken
returns-in-Ok-eq0-clause-taken g c =
    let filled : ℕ = c.reads.filled in
    let buffer : List ℕ = c.reads.room in
    let count : ℕ = c.in-Ok-eq0.field-0 in
    let new : List ℕ = c.read.new.buf in
    let within : count ≤ length new = c.in-Ok-eq0.ensures.bound.0 in
    let all = Consumes-trans (g.R.Read.remaining c.args.reader.now) (g.R.Read.remaining c.reads.reader) (g.R.Read.remaining c.read.new.self) (take filled buffer) (take count new) c.reads.invariant.2 c.in-Ok-eq0.ensures.bytes.0 in
    let size : length (take filled buffer ++ take count new) ≡ length (take filled buffer) + length (take count new) = length-append (take filled buffer) (take count new) in
    let front : length (take filled buffer) ≡ filled = length-take-le filled buffer c.reads.invariant.0 in
    let rest : length (take count new) ≡ count = length-take-le count new within in
    (take filled buffer ++ take count new, omega (arith, size, front, rest, within, c.read.auto.buf, c.reads.invariant.0, c.reads.invariant.1), all)
