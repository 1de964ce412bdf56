use Rattle.std.proofs.Common.{◌||◌, ◌∙◌, Bool, List, ap, ap₂, arith, map, subst, sym}
use Rattle.std.specs.List.{fold}
use Rattle.std.proofs.lemmas.List.{take_all}
use Rattle.clap.specs.Words.{App, with_subcommand}
use Rattle.command_line.specs.Arguments.{IsCommand, shape_in}
use Rattle.command_line.specs.declared.arguments.Subcommand.{Subcommand}
use Rattle.command_line.proofs.Folds.{fold_more}
use Rattle.command_line.proofs.arguments.with_subcommands.Goals as goal

pub loop-subcommand-preserved : goal.loop-subcommand-preserved
loop-subcommand-preserved c = λ app is.
    let adds = c.in_ok-command.ensures in
    let below = c.in_ok-below.ensures in
    let before = c.loop-subcommand.invariant app is in
    let more = fold_more with_subcommand app shape_in c.args.subcommands.now c.loop-subcommand.subcommand-index _ (omega arith) in (
      adds.shape below.1 ∙ ap₂ with_subcommand before.0 (ap (λ (a : App). a.top) below.0) ∙ sym more,
      adds.globals ∙ ap₂ (λ (a b : Bool). a || b) before.1 below.1,
    )

pub returns : goal.returns
returns c = λ app is.
    subst (λ (subs : List Subcommand). IsCommand (fold with_subcommand app (map shape_in subs)) c.loop-subcommand.command)
    (take_all c.loop-subcommand.subcommand-index c.args.subcommands.now c.loop-subcommand-test.false) (c.loop-subcommand.invariant app is)
