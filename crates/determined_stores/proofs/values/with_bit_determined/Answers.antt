use Rattle.determined_stores.proofs.Bits.{bits_same}
use Rattle.determined_stores.proofs.values.with_bit_determined.Goals as goal

pub returns : goal.returns
returns c =
    bits_same c.args.mask c.args.j c.with_bit.result c.with_bit-2.result c.with_bit.type_inv c.with_bit-2.type_inv c.with_bit.ensures.same c.with_bit-2.ensures.same
    c.with_bit.ensures.others c.with_bit-2.ensures.others
