use Rattle.std.proofs.Common.{◌≡◌, ◌∙◌, true, sym}
use Rattle.std.specs.Char.{is_ascii_digit}
use Rattle.std.specs.List.{list_all}
use Rattle.bao_script.proofs.Numbers.{number_from_parse}
use Rattle.bao_script.proofs.words.number_64.Goals as goal

pub returns : goal.returns
returns c =
    let digits : list_all is_ascii_digit c.args.word.now ≡ true = sym c.has_digits_alone.ensures ∙ c.if-not-has_digits_alone.false in
    c.ok.ensures.value ∙ number_from_parse 64 c.args.word.now _ c.parse.ensures.value.0 digits
