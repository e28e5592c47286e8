use Rattle.std.proofs.Common.{◌≡◌, ◌++◌, ◌<◌, ℕ, List, [], take, length, ap, arith, subst}
use Rattle.std.specs.Io.KnownBytes.{Appends, Consumes, IsAtEnd}
use Rattle.std.proofs.KnownBytes.{Appends-nil, Appends-trans, Consumes-nil, Consumes-trans, Consumes-whole}
use Rattle.bao_tasks.proofs.given.copy_rest.Goals as goal

pub copies-init : goal.copies-init
copies-init g c = ([], Consumes-nil _, Appends-nil _)

pub copies-preserved : goal.copies-preserved
copies-preserved g c =
    let (moved, read, written) = c.copies.invariant in
    (moved ++ take c.in-Ok.count c.read.new.buf, Consumes-trans _ _ _ _ _ read c.in-Ok.ensures.bytes.0, Appends-trans _ _ _ _ _ written c.in-Ok-write_all.ensures.bytes)

pub returns-then-count-eq0 : goal.returns-then-count-eq0
returns-then-count-eq0 g c =
    let (moved, read, written) = c.copies.invariant in
    let some : 0 < length c.read.new.buf = omega (arith, c.read.auto.buf) in
    let end : IsAtEnd (g.I.Read.remaining c.read.new.self) = c.in-Ok.ensures.bytes.1 c.if-count-eq0.true some in
    let none : take c.in-Ok.count c.read.new.buf ≡ [] = ap (λ (n : ℕ). take n c.read.new.buf) c.if-count-eq0.true in
    let all : Consumes (g.I.Read.remaining c.args.input.now) (g.I.Read.remaining c.read.new.self) (moved ++ []) =
    subst (λ (xs : List ℕ). Consumes (g.I.Read.remaining c.args.input.now) (g.I.Read.remaining c.read.new.self) (moved ++ xs)) none
    (Consumes-trans _ _ _ _ _ read c.in-Ok.ensures.bytes.0) in
    Consumes-whole _ _ (moved ++ []) (Appends (g.W.Write.contents c.args.draft.now) (g.W.Write.contents c.copies.draft)) all end (Appends-trans _ _ _ _ _ written (Appends-nil _))
