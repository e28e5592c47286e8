use Rattle.std.proofs.Common.{◌≡◌, ◌++◌, ◌∷◌, [], ℕ, List, Option, IfSome, if◌then◌else◌, ap, refl, subst, true}
use Rattle.b3tree.specs.declared.values.Hash.{Hash}
use Rattle.bao_files.specs.Printed.{digits_line}
use Rattle.bao_files.proofs.Readable.{passed_on}
use Rattle.bao_sums.specs.Hashed.{Given, IsFileHash, IsReadingAt, hash_line, is_given}
use Rattle.bao_sums.specs.Sums.{sum_line}
use Rattle.bao_sums.proofs.Each.{left_one, printed_one}
use Rattle.bao_sums.proofs.hashing.hash_one.Goals as goal

pub returns-in_err-print_hash-in-Some-clause-fault : goal.returns-in_err-print_hash-in-Some-clause-fault
returns-in_err-print_hash-in-Some-clause-fault g c =
    let at = g.D.Disk.at c.args.disk.now in
    let mode = c.args.hashing.now.mode.now in
    let path = c.args.path.now in
    let text : List ℕ → List ℕ = λ digest. if c.args.hashing.now.names then sum_line digest path ++ 10 ∷ [] else digits_line digest in
    let has = subst (λ (o : Option Hash). IfSome o (λ answer. IsFileHash (at path) mode answer.0)) c.in-Some.is c.in_ok-hash.ensures.hash in
    let fault = c.in_err-print_hash-in-Some in
    passed_on c.from_residual-in_err-print_hash-in-Some.result fault.field-0.0 _ c.from_residual-in_err-print_hash-in-Some.ensures.1
    (left_one (IsReadingAt (g.D.Disk.faultless c.args.disk.now) at) (hash_line mode c.args.hashing.now.names) path (Given has.0) (text c.in-Some.hash.0)
    (g.O.Write.contents c.args.out.now) (g.O.Write.contents c.print_hash.new.out) fault.field-0.0 has.1 (ap text has.2) fault.ensures.fault fault.ensures.prints)

pub returns-in_ok-print_hash-in-Some-clause-one : goal.returns-in_ok-print_hash-in-Some-clause-one
returns-in_ok-print_hash-in-Some-clause-one g c =
    let at = g.D.Disk.at c.args.disk.now in
    let mode = c.args.hashing.now.mode.now in
    let path = c.args.path.now in
    let text : List ℕ → List ℕ = λ digest. if c.args.hashing.now.names then sum_line digest path ++ 10 ∷ [] else digits_line digest in
    let has = subst (λ (o : Option Hash). IfSome o (λ answer. IsFileHash (at path) mode answer.0)) c.in-Some.is c.in_ok-hash.ensures.hash in
    printed_one (IsReadingAt (g.D.Disk.faultless c.args.disk.now) at) (hash_line mode c.args.hashing.now.names) path (Given has.0) (text c.in-Some.hash.0)
    (g.O.Write.contents c.args.out.now) (g.O.Write.contents c.print_hash.new.out) (λ reading. true ≡ is_given reading) has.1 refl (ap text has.2) c.in_ok-print_hash-in-Some.ensures.prints
