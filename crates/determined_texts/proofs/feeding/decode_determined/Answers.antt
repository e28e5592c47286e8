use Rattle.std.proofs.Common.{arith}
use Rattle.determined_texts.proofs.Decoding.{decodes_agree}
use Rattle.determined_texts.proofs.feeding.decode_determined.Goals as goal

pub returns : goal.returns
returns c task taken blob a b few =
    decodes_agree task taken blob c.args.bytes.now c.decode-one.new.room c.decode-other.new.room c.decode-one.new.self c.decode-other.new.self c.wants-ours.result c.wants-theirs.result
    c.decode-one.result c.decode-other.result few
    (record {
      large = omega (arith, c.requires.first, c.decode-one.ensures.size);
      bound = c.decode-one.ensures.bound;
      parts = c.decode-one.ensures.decoded task taken blob a;
      value = c.wants-ours.ensures.value;
      most = c.decode-one.ensures.most;
      fault = c.decode-one.ensures.fault task taken a.has_taken;
      knows = λ text has. record {
        done = c.wants-ours.ensures.done task text has;
        short = c.wants-ours.ensures.short task text has;
        trailing = c.wants-ours.ensures.trailing task text has;
      };
    })
    (record {
      large = omega (arith, c.requires.second, c.decode-other.ensures.size);
      bound = c.decode-other.ensures.bound;
      parts = c.decode-other.ensures.decoded task taken blob b;
      value = c.wants-theirs.ensures.value;
      most = c.decode-other.ensures.most;
      fault = c.decode-other.ensures.fault task taken b.has_taken;
      knows = λ text has. record {
        done = c.wants-theirs.ensures.done task text has;
        short = c.wants-theirs.ensures.short task text has;
        trailing = c.wants-theirs.ensures.trailing task text has;
      };
    })
