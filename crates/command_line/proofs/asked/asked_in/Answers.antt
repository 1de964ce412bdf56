use Rattle.std.proofs.Common.{◌≡◌, ◌∙◌, [], subst, sym}
use Rattle.std.specs.Borrow.{Bor}
use Rattle.std.proofs.lemmas.Result.{err_from_is_err_and}
use Rattle.clap.specs.Words.{Text}
use Rattle.command_line.specs.Asked.{IsAsked}
use Rattle.command_line.proofs.Questions.{no_choices, no_core, no_full, no_help, no_quiet, no_quit}
use Rattle.command_line.proofs.asked.asked_in.Goals as goal

pub returns-in_err-file-in-core : goal.returns-in_err-file-in-core
returns-in_err-file-in-core c =
    let p = err_from_is_err_and c.from_residual.result c.from_residual.ensures.1 in
    let parts = c.name_and_value.ensures in
    rw p.1 (record {
      found = tt;
      none = no_core _ _ (sym parts.name ∙ c.in-core.is)
          (subst (λ (t : Text). (file : Bor Text) → (file.now ≡ t) × (t ≡ [] → ⊥) → ⊥) parts.value c.in_err-file-in-core.ensures.none);
    })

pub returns-in_err-none_of-in-choices : goal.returns-in_err-none_of-in-choices
returns-in_err-none_of-in-choices c =
    let p = err_from_is_err_and c.from_residual-in_err-none_of-in-choices.result c.from_residual-in_err-none_of-in-choices.ensures.1 in
    let parts = c.name_and_value.ensures in
    rw p.1 (record {
      found = tt;
      none = no_choices _ _ (sym parts.name ∙ c.in-choices.is)
          (λ empty. c.in_err-none_of-in-choices.ensures.none tt (parts.value ∙ empty));
    })

pub returns-in_err-none_of-in-quiet : goal.returns-in_err-none_of-in-quiet
returns-in_err-none_of-in-quiet c =
    let p = err_from_is_err_and c.from_residual-in_err-none_of-in-quiet.result c.from_residual-in_err-none_of-in-quiet.ensures.1 in
    let parts = c.name_and_value.ensures in
    rw p.1 (record {
      found = tt;
      none = no_quiet _ _ (sym parts.name ∙ c.in-quiet.is)
          (λ empty. c.in_err-none_of-in-quiet.ensures.none tt (parts.value ∙ empty));
    })

pub returns-in_err-none_of-in-full : goal.returns-in_err-none_of-in-full
returns-in_err-none_of-in-full c =
    let p = err_from_is_err_and c.from_residual-in_err-none_of-in-full.result c.from_residual-in_err-none_of-in-full.ensures.1 in
    let parts = c.name_and_value.ensures in
    rw p.1 (record {
      found = tt;
      none = no_full _ _ (sym parts.name ∙ c.in-full.is)
          (λ empty. c.in_err-none_of-in-full.ensures.none tt (parts.value ∙ empty));
    })

pub returns-in_err-none_of-in-help : goal.returns-in_err-none_of-in-help
returns-in_err-none_of-in-help c =
    let p = err_from_is_err_and c.from_residual-in_err-none_of-in-help.result c.from_residual-in_err-none_of-in-help.ensures.1 in
    let parts = c.name_and_value.ensures in
    rw p.1 (record {
      found = tt;
      none = no_help _ _ (sym parts.name ∙ c.in-help.is) (λ empty. c.in_err-none_of-in-help.ensures.none tt (parts.value ∙ empty));
    })

pub returns-in_err-none_of-in-quit : goal.returns-in_err-none_of-in-quit
returns-in_err-none_of-in-quit c =
    let p = err_from_is_err_and c.from_residual-in_err-none_of-in-quit.result c.from_residual-in_err-none_of-in-quit.ensures.1 in
    let parts = c.name_and_value.ensures in
    rw p.1 (record {
      found = tt;
      none = no_quit _ _ (sym parts.name ∙ c.in-quit.is) (λ empty. c.in_err-none_of-in-quit.ensures.none tt (parts.value ∙ empty));
    })
