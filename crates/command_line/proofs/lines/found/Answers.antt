use Rattle.std.proofs.Common.{map, subst, ap, ◌∙◌}
use Rattle.std.proofs.lemmas.Result.{IfOk-weaker}
use Rattle.clap.specs.Words.{App, FailsBy, HasMatchesOf, fault_of, is_simple_and_free}
use Rattle.command_line.proofs.Words.{simple, simple_and_free}
use Rattle.command_line.proofs.lines.found.Goals as goal

pub returns-clause-kinds : goal.returns-clause-kinds
returns-clause-kinds g c =
    subst (λ (a : App). FailsBy (fault_of a (map g.S.AsStr.text c.args.words.now)) c.try_get_matches_from.result)
    c.in_ok-program.ensures.commands.0
    (c.try_get_matches_from.ensures.kinds (ap is_simple_and_free c.in_ok-program.ensures.commands.0 ∙ simple_and_free))

pub returns-clause-found : goal.returns-clause-found
returns-clause-found g c =
    let words = map g.S.AsStr.text c.args.words.now in
    IfOk-weaker c.try_get_matches_from.result _ _
    (λ m has. (subst (λ (a : App). HasMatchesOf a words m) c.in_ok-program.ensures.commands.0 has simple).1)
    c.try_get_matches_from.ensures.matches
