-- What a piece that holds the last chunk of its claimed length certifies.
use Rattle.std.proofs.Common.{◌≡◌, ℕ, ◌-◌, List, Option, IsSome, None, Some, refl, arith}
use Rattle.b3tree.specs.Valid.{AreBytes}
use Rattle.bao_text.specs.Choice.{chunk_count}
use Rattle.bao_check.specs.declared.checked.Checked.{Checked}
use Rattle.bao_check.specs.Checked.{HasCertificate, HasLastCertificate, HoldsLast, piece_claimed, piece_mode, piece_places, piece_root, piece_text}
use Rattle.bao_check.specs.Pieces.{chunk_in}
use Rattle.bao_check.proofs.Certified.{IsCertified, certificate_of, certified}

-- what is there
value_there : (o : Option (List ℕ)) → IsSome o → (bytes : List ℕ) × (o ≡ Some bytes)
value_there None h = cc
value_there (Some bytes) h = (bytes, refl)

-- its encoding has a way down to each chunk that it holds
pub certified_chunk : (piece : Checked) (number : ℕ) (bytes : List ℕ) → chunk_in (piece_text piece) (piece_places piece) number ≡ Some bytes
    → IsCertified (piece_mode piece) (piece_root piece) (piece_text piece) (piece_places piece) (piece_claimed piece) number bytes
certified_chunk piece number bytes there = certified (piece_mode piece) (piece_root piece) (piece_text piece) piece.start piece.len piece.accepted number bytes there

-- which is the certificate of that chunk
abbrev pub own_certificate : (piece : Checked) (number : ℕ) (bytes : List ℕ)
    → IsCertified (piece_mode piece) (piece_root piece) (piece_text piece) (piece_places piece) (piece_claimed piece) number bytes → AreBytes (piece_text piece)
    → HasCertificate piece number bytes
own_certificate piece number bytes found valid = record { certificate = certificate_of found valid; steps_are = found.steps_are; size = found.size }

pub last_certificate : (piece : Checked) → AreBytes (piece_text piece) → HoldsLast piece → HasLastCertificate piece (piece_claimed piece)
last_certificate piece valid holds =
    let number : ℕ = chunk_count (piece_claimed piece) - 1 in
    let last = value_there _ holds in
    let found : IsCertified (piece_mode piece) (piece_root piece) (piece_text piece) (piece_places piece) (piece_claimed piece) number last.0 =
    certified_chunk piece number last.0 last.1 in
    record { bytes = last.0; there = last.1; own = own_certificate piece number last.0 found valid; last = found.last (omega arith) }
