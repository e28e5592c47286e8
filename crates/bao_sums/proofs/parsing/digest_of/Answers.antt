use Rattle.std.proofs.Common.{◌∙◌, List, ℕ, ap}
use Rattle.hex.specs.Hex.{decode_sized}
use Rattle.bao_sums.proofs.Written.{decoded, digits_back, not_refused}
use Rattle.bao_sums.proofs.parsing.digest_of.Goals as goal

pub returns-in-Ok : goal.returns-in-Ok
returns-in-Ok c digest len are is =
    decoded c.from_hex.result c.in-Ok.bytes digest c.in-Ok.is (c.from_hex.ensures ∙ ap (λ (t : List ℕ). decode_sized t 32) is ∙ digits_back digest len are)

pub returns-in-Err : goal.returns-in-Err
returns-in-Err c digest len are is =
    not_refused c.from_hex.result c.in-Err.field-0 digest c.in-Err.is (c.from_hex.ensures ∙ ap (λ (t : List ℕ). decode_sized t 32) is ∙ digits_back digest len are)
