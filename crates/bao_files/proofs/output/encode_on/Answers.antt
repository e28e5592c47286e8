use Rattle.std.proofs.Common.{◌≡◌, ℕ, List, length, Option, Some, true, IfSome, IsSome, Result, refl, subst, sym}
use Rattle.b3tree.specs.declared.values.Hash.{Hash}
use Rattle.bao_files.specs.Disks.{FileState, IsKnown, Opens, Stored}
use Rattle.bao_files.specs.Encoded.{Encodes, IsAfterReading, IsReadOnce, encoding_text}
use Rattle.bao_files.specs.declared.fault.FileFault.{FileFault}
use Rattle.bao_files.proofs.Disks.{of_file, puts_text}
use Rattle.bao_files.proofs.Readable.{known_after, passed_on}
use Rattle.bao_files.proofs.output.encode_on.Goals as goal
use Rattle.bao_files.proofs.output.encode_on.Goals.{then-not-is_replaced+then-is_same, else-not-is_replaced+in_ok-size}

pub returns-clause-done : goal.returns-clause-done
returns-clause-done g c =
    let before = g.D.Disk.at c.args.disk.now in
    let mode = c.args.mode.now in
    let kind = c.args.encoding in
    let file = c.args.file in
    let path = c.args.path in
    let input = c.over-input.result.source in
    let empty = g.D.Draft.Write.contents c.in-Ok.out in
    let full = g.D.Draft.Write.contents c.encode_input.new.out in
    let opened = subst (λ i. Opens (before file.now) (g.D.Input.Source.contents i) (g.D.Input.Read.remaining i)) (sym c.over-input.ensures) c.in_ok-input.ensures.opened in
    let made =
    of_file (before file.now) (g.D.Input.Source.contents input) (g.D.Input.Read.remaining input) (λ s. Encodes mode kind s file path empty full c.encode_input.result) opened
    c.encode_input.ensures.all c.encode_input.ensures.some in
    let said = subst (λ (r : Result Hash FileFault). Encodes mode kind made.0 file path empty full r) c.in_ok-hash.was made.2 in (
      made.0,
      made.1,
      said.0,
      puts_text before (g.D.Disk.at c.finish.new.self) path.now empty full (encoding_text mode kind made.0) c.in-Ok.ensures.known said.1 c.in_ok-finish.ensures.put,
    )

pub returns-in_err-hash-clause-refused : goal.returns-in_err-hash-clause-refused
returns-in_err-hash-clause-refused g c =
    let before = g.D.Disk.at c.args.disk.now in
    let mode = c.args.mode.now in
    let kind = c.args.encoding in
    let file = c.args.file in
    let path = c.args.path in
    let own = c.in_ok-input.input in
    let input = c.over-input.result.source in
    let empty = g.D.Draft.Write.contents c.in-Ok.out in
    let full = g.D.Draft.Write.contents c.encode_input.new.out in
    passed_on c.from_residual-in_err-hash.result c.in_err-hash.field-0.0
    (λ fault. g.D.Disk.faultless c.args.disk.now → IsKnown (before path.now) → (bytes : List ℕ) → before file.now ≡ Stored bytes → IsReadOnce kind (length bytes) → IsAfterReading path fault)
    c.from_residual-in_err-hash.ensures.1
    (λ surely known bytes stored once.
    let opens : Opens (Stored bytes) (g.D.Input.Source.contents own) (g.D.Input.Read.remaining own) =
    subst (λ (s : FileState). Opens s (g.D.Input.Source.contents own) (g.D.Input.Read.remaining own)) stored c.in_ok-input.ensures.opened in
    let there : g.D.Input.Source.contents own ≡ Some bytes = opens.0 in
    let replaced : c.is_replaced.result ≡ true = c.is_replaced.ensures (subst IsSome (sym (c.in-Ok.ensures.known known)) refl) in
    let size_is : c.if-not-is_replaced.size ≡ length bytes = elim c.if-not-is_replaced.branch [
      | then-not-is_replaced+then-is_same w ↦ absurd (let no = w.if-not-is_replaced.true in cc)
      | else-not-is_replaced+in_ok-size w ↦
          let said : w.in_ok-size.size ≡ length bytes =
          subst (λ (k : Option (List ℕ)). IfSome k (λ s. w.in_ok-size.size ≡ length s)) there w.in_ok-size.ensures.size in
          cc
    ] in
    known_after mode kind (g.D.Input.Source.contents input) (g.D.Input.Source.faultless input) c.if-not-is_replaced.size file path empty full c.in_err-hash.field-0.0 bytes
    (subst (λ i. g.D.Input.Source.contents i ≡ Some bytes) (sym c.over-input.ensures) there)
    (subst (λ i. g.D.Input.Source.faultless i) (sym c.over-input.ensures) (c.in_ok-input.ensures.sure surely)) size_is once
    c.in_err-hash.ensures.some c.in_err-hash.ensures.read)
