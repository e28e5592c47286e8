use Rattle.std.proofs.Common.{◌≡◌, ℕ, List, Option, None, Some, IfSome, sym}
use Rattle.std.specs.Option.{option_copied}
use Rattle.b3tree.specs.Valid.{AreBytes, IsKeyed}
use Rattle.bao_check.specs.Checked.{HasCertificate, piece_mode, piece_root, piece_text}
use Rattle.bao_check.specs.Laws.{BindsChunk}
use Rattle.bao_check.proofs.Laws.{accepted_binds}
use Rattle.bao_check.proofs.Tails.{certified_chunk, own_certificate}
use Rattle.std.specs.Borrow.{Bor}
use Rattle.bao_check.proofs.checked.Checked.chunk.Goals as goal

-- what holds of what is copied out of an option
IfSome-copied : (r : Option (Bor (List ℕ))) (o : Option (List ℕ)) (P : List ℕ → Type 0) → option_copied r ≡ o → ((bytes : List ℕ) → o ≡ Some bytes → P bytes) → IfSome r (λ b. P b.now)
IfSome-copied None o P same each = tt
IfSome-copied (Some b) o P same each = each b.now (sym same)

pub returns-clause-certificate : goal.returns-clause-certificate
returns-clause-certificate c =
    IfSome-copied c.bytes.result _ (λ bytes. HasCertificate c.args.self.now c.args.i bytes) c.bytes.ensures
    (λ bytes there. own_certificate c.args.self.now c.args.i bytes (certified_chunk c.args.self.now c.args.i bytes there) c.is_of_bytes.ensures)

pub returns-clause-binds : goal.returns-clause-binds
returns-clause-binds c = λ blob valid is.
    let keyed : IsKeyed (piece_mode c.args.self.now) = c.is_keyed.ensures in
    let bytes_are : AreBytes (piece_text c.args.self.now) = c.is_of_bytes.ensures in
    IfSome-copied c.bytes.result _ (λ bytes. BindsChunk (piece_mode c.args.self.now) (piece_text c.args.self.now) c.args.self.now.start c.args.self.now.len blob c.args.i bytes) c.bytes.ensures
    (λ bytes there.
    accepted_binds (piece_mode c.args.self.now) (piece_root c.args.self.now) (piece_text c.args.self.now) blob c.args.self.now.start c.args.self.now.len c.args.i bytes
    keyed valid bytes_are is c.args.self.now.accepted there)
