use Rattle.std.proofs.Common.{sym, ◌∙◌, arith}
use Rattle.choices.proofs.Texts.{digits_utf8, parse_failed}
use Rattle.choices.proofs.text.number_in.Goals as goal

pub returns-in_default-3 : goal.returns-in_default-3
returns-in_default-3 c =
    let most = c.ranges.most in
    parse_failed _ _ c.in-Ok.text.now c.args.field.now c.parse.result _ c.requires (omega arith) c.in-Ok.ensures.cases.0
    (sym c.has_only_digits.ensures ∙ c.if-not-has_only_digits.false) c.parse.ensures.value.0 c.in_default.is

pub returns-in-Err : goal.returns-in-Err
returns-in-Err c =
    absurd (c.in-Err.ensures.cases.0 (digits_utf8 c.args.field.now (sym c.has_only_digits.ensures ∙ c.if-not-has_only_digits.false)))
