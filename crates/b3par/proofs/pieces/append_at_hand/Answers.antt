use Rattle.std.proofs.Common.{rules, ◌≡◌, ◌*◌, ℕ, List, length, sym, ap}
use Rattle.b3tree.specs.Pieces.{piece}
use Rattle.b3tree.specs.Valid.{AreBytes}
use Rattle.b3par.proofs.pieces.append_at_hand.Goals as goal

pub returns-clause-text : goal.returns-clause-text
returns-clause-text c =
    let part : List ℕ = piece c.args.bytes.now (1024 * c.args.first) c.args.len in
    let size : length part ≡ c.args.len = search rules in
    let are : AreBytes part = search rules in
    record {
      top = record {
        bytes = part;
        are = are;
        given = ap (piece c.args.bytes.now (1024 * c.args.first)) (sym size);
        len_is = size;
        top = search rules;
      };
      text = search rules;
    }
