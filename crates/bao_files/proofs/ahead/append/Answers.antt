use Rattle.std.proofs.Common.{rules}
use Rattle.bao_files.proofs.ahead.append.Goals as goal

pub returns-in-Ok : goal.returns-in-Ok
returns-in-Ok g c = record {
  top = record {
    bytes = c.fill.new.buf;
    are = c.bytes_are.ensures;
    given = search rules;
    len_is = search rules;
    top = c.in-Ok.ensures.top;
  };
  text = c.in-Ok.ensures.text;
}
