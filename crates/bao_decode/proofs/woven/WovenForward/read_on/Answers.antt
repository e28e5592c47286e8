use Rattle.std.proofs.Common.{rules, ◌≡◌, ℕ, List, ◌++◌, Bool, if◌then◌else◌, length, drop, min, sym, subst, arith, length-append, length-drop}
use Rattle.std.proofs.lemmas.Result.{IfOk-weaker}
use Rattle.b3par.specs.Given.{ReadsAt}
use Rattle.bao_decode.proofs.Cuttings.{paired}
use Rattle.bao_decode.proofs.Weavings.{woven_end, woven_read}
use Rattle.bao_decode.proofs.woven.WovenForward.read_on.Goals as goal

pub returns-in_default-clause-bytes : goal.returns-in_default-clause-bytes
returns-in_default-clause-bytes g c = λ reach.
    let it = c.args.self.now in
    woven_end it.total it.start it.len (g.S.Source.contents it.outboard.now) (g.S.Source.contents it.copy.now) c.args.at c.args.buf.now c.in_default.ensures.none

pub returns-then-place-clause-bytes : goal.returns-then-place-clause-bytes
returns-then-place-clause-bytes g c = λ reach.
    let it = c.args.self.now in
    let place = c.in-Some.place in
    let outline = g.S.Source.contents it.outboard.now in
    let copy = g.S.Source.contents it.copy.now in
    let new : List ℕ = c.read_at.new.buf in
    let rest : List ℕ = drop c.min-room.result c.args.buf.now in
    let size : length new ≡ c.min-room.result = search rules in
    let room : length new ≡ min place.len (length (new ++ rest)) = omega (arith, size, c.min-room.ensures, length-append new rest, length-drop c.min-room.result c.args.buf.now) in
    IfOk-weaker c.read_at.result _ _ (λ count both.
    woven_read it.total it.start it.len place.is_in_copy outline copy c.args.at place.at place.len count new rest c.in-Some.ensures.some c.in-Some.ensures.within.0 room both.0.0
    (subst (λ (b : Bool). ReadsAt (if b then copy else outline) place.at count new) (sym c.if-place.true) both.1) reach)
    (paired _ _ c.read_at.result c.read_at.ensures.bound c.read_at.ensures.bytes)

pub returns-else-place-clause-bytes : goal.returns-else-place-clause-bytes
returns-else-place-clause-bytes g c = λ reach.
    let it = c.args.self.now in
    let place = c.in-Some.place in
    let outline = g.S.Source.contents it.outboard.now in
    let copy = g.S.Source.contents it.copy.now in
    let new : List ℕ = c.read_at-else-place.new.buf in
    let rest : List ℕ = drop c.min-room.result c.args.buf.now in
    let size : length new ≡ c.min-room.result = search rules in
    let room : length new ≡ min place.len (length (new ++ rest)) = omega (arith, size, c.min-room.ensures, length-append new rest, length-drop c.min-room.result c.args.buf.now) in
    IfOk-weaker c.read_at-else-place.result _ _ (λ count both.
    woven_read it.total it.start it.len place.is_in_copy outline copy c.args.at place.at place.len count new rest c.in-Some.ensures.some c.in-Some.ensures.within.0 room both.0.0
    (subst (λ (b : Bool). ReadsAt (if b then copy else outline) place.at count new) (sym c.if-place.false) both.1) reach)
    (paired _ _ c.read_at-else-place.result c.read_at-else-place.ensures.bound c.read_at-else-place.ensures.bytes)
