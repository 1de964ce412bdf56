use Rattle.std.proofs.Common.{◌||◌, ◌∙◌, Bool, ap₂, arith, sym}
use Rattle.clap.specs.Words.{new_app, with_rule}
use Rattle.command_line.specs.Arguments.{rule_in}
use Rattle.command_line.proofs.Folds.{fold_more}
use Rattle.command_line.proofs.arguments.Subcommand.for_parser.Goals as goal

pub loop-argument-preserved : goal.loop-argument-preserved
loop-argument-preserved c =
    let adds = c.in_ok-command.ensures in
    let argument = c.for_parser.ensures in
    let more = fold_more with_rule (new_app c.args.self.now.name.now) rule_in c.args.self.now.arguments.now c.loop-argument.argument-index _
    (omega arith) in (
      adds.shape argument.1 ∙ ap₂ with_rule c.loop-argument.invariant.0 argument.0 ∙ sym more,
      adds.globals ∙ ap₂ (λ (a b : Bool). a || b) c.loop-argument.invariant.1 argument.1,
    )
