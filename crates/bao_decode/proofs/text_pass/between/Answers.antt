use Rattle.std.proofs.Common.{◌≡◌, ℕ, ◌-◌, min, List, length, take, drop, ◌∙◌, ap, arith}
use Rattle.bao_decode.proofs.Ranges.{bounded}
use Rattle.bao_decode.proofs.text_pass.between.Goals as goal

pub returns : goal.returns
returns c =
    let bytes : List ℕ = c.args.bytes.now in
    let q : ℕ = c.args.to - c.args.at in
    let p : ℕ = c.args.from - c.args.at in
    let end : c.min-end.result ≡ min q (length bytes) = omega arith in
    let start : c.min-start.result ≡ min p (min q (length bytes)) = omega arith in
    ap (λ e. take (e - c.min-start.result) (drop c.min-start.result bytes)) end
    ∙ ap (λ s. take (min q (length bytes) - s) (drop s bytes)) start
    ∙ bounded p q bytes
