use Rattle.std.proofs.Common.{◌≡◌, ◌∙◌, ap, length, sym, true≢false}
use Rattle.std.specs.Prelude.{codes}
use Rattle.std.proofs.lemmas.List.{length-map}
use Rattle.std.proofs.lemmas.Result.{err_from_is_err_and}
use Rattle.command_line.specs.Values.{rows_in, texts_of}
use Rattle.command_line.proofs.BadValues.{on_any}
use Rattle.command_line.proofs.recording.choices.Goals as goal

pub returns-in_err-check_count : goal.returns-in_err-check_count
returns-in_err-check_count c =
    let p = err_from_is_err_and c.from_residual.result c.from_residual.ensures.1 in
    let programs : length c.texts.result.now ≡ length (texts_of (codes "ELF") (rows_in c.args.values.now)) =
    sym (length-map _ _) ∙ ap length c.texts.ensures in
    rw p.1 (record {
      found = tt;
      none = on_any p.0 (λ texts has.
          let count : length c.texts-files.result.now ≡ length texts =
          sym (length-map _ _) ∙ ap length (c.texts-files.ensures ∙ has.given) in
          true≢false (sym (c.in_err-check_count.ensures.1 (rw (count, programs) has.enough))));
    })
