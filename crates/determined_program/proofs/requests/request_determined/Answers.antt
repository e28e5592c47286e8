use Rattle.std.proofs.Common.{map, string_bytes}
use Rattle.determined_program.proofs.Answered.{answers_agree}
use Rattle.determined_program.proofs.requests.request_determined.Goals as goal

pub returns : goal.returns
returns c =
    answers_agree (map string_bytes c.args.words.now) c.parse-one.result c.parse-other.result c.parse-one.ensures.request c.parse-other.ensures.request
    c.parse-one.ensures.refused c.parse-other.ensures.refused
