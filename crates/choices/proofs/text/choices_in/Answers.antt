use Rattle.std.proofs.Common.{◌≡◌, ◌∙◌, ◌++◌, ℕ, List, Option, Some, Err, Bor, map, ap, sym, subst, refl, append-nil}
use Rattle.std.specs.Option.{option_to_list}
use Rattle.std.proofs.lemmas.Result.{err_from_is_err_and}
use Rattle.rrv_model.specs.declared.record.Choice.{Choice}
use Rattle.choices.specs.declared.text.BadChoices.TheVariants as faults
use Rattle.choices.specs.ChoiceText.{IsFirstBad}
use Rattle.choices.proofs.Texts.{stop, turn}
use Rattle.choices.proofs.text.choices_in.Goals as goal
use Rattle.choices.proofs.text.choices_in.Goals.{in-Some+in_ok-push, in_default}

pub returns-in_err-said-clause-bad : goal.returns-in_err-said-clause-bad
returns-in_err-said-clause-bad c = λ number is.
    let p = err_from_is_err_and c.from_residual-in_err-said.result c.from_residual-in_err-said.ensures.1 in
    let said : c.in_err-said.field-0.0 ≡ faults.Line number = cc in
    let bad = c.in_err-said.ensures.bad number (ap Err said) in
    subst (λ (n : ℕ). IsFirstBad c.args.text.now n) (sym bad.0)
    (stop c.deref-line-items.result.now c.args.text.now c.loop-index.index _ c.loop-index.choices.items c.loop-index-test.true refl
    (ap (map (λ (x : Bor (List ℕ)). x.now)) c.deref-line-items.ensures.value ∙ c.in_ok-lines.ensures) c.loop-index.invariant bad.1)

pub loop-index-preserved : goal.loop-index-preserved
loop-index-preserved c =
    let so_far =
    turn c.deref-line-items.result.now c.loop-index.index _ c.loop-index.choices.items (option_to_list c.in_ok-said.said)
    c.loop-index-test.true refl c.loop-index.invariant c.in_ok-said.ensures.said in
    elim c.match-said.branch [
      | in-Some+in_ok-push w ↦
          so_far ∙ ap Some
          (ap (λ (o : Option Choice). c.loop-index.choices.items ++ option_to_list o) w.in-Some.is ∙ sym w.in_ok-push.ensures.items
          ∙ sym (ap (λ v. v.items) w.choices-is))
      | in_default w ↦
          so_far ∙ ap Some
          (ap (λ (o : Option Choice). c.loop-index.choices.items ++ option_to_list o) w.in_default.is ∙ append-nil _
          ∙ sym (ap (λ v. v.items) w.choices-is))
    ]
