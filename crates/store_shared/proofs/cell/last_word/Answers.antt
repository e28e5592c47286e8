use Rattle.std.proofs.Common.{◌-◌, length, take, drop, refl, ◌∙◌}
use Rattle.store_shared.proofs.Eights.{rest_word}
use Rattle.store_shared.proofs.cell.last_word.Goals as goal

pub returns : goal.returns
returns c =
    let bytes = c.args.bytes.now in
    let from = c.min.result in
    c.from_le_bytes.ensures
    ∙ rest_word bytes (take (length bytes - from) (drop from bytes)) c.copy_from_slice.new.self c.args.at from c.min.ensures refl c.copy_from_slice.ensures.after
