use Rattle.std.proofs.Common.{sym, ap, ◌∙◌}
use Rattle.std.specs.Result.{is_ok}
use Rattle.std.proofs.lemmas.Bool.{false≢true}
use Rattle.hex.proofs.HexLemmas.{IsOk-decode_sized}
use Rattle.command_line.proofs.digits.seed.Goals as goal

pub returns-in-Ok-clause-digits : goal.returns-in-Ok-clause-digits
returns-in-Ok-clause-digits c =
    let digits = IsOk-decode_sized c.args.text.now 16 in
    ((λ h. digits.0 (ap is_ok (sym c.from_hex.ensures ∙ c.in-Ok.is))), (λ h. ap is_ok (sym c.in-Ok.is) ∙ ap is_ok c.in-Ok.is))

pub returns-in-Err-clause-digits : goal.returns-in-Err-clause-digits
returns-in-Err-clause-digits c =
    let digits = IsOk-decode_sized c.args.text.now 16 in
    ((λ h. absurd (false≢true h)), (λ h. sym (ap is_ok (sym c.from_hex.ensures ∙ c.in-Err.is)) ∙ digits.1 h))
