use Rattle.std.proofs.Common.{◌≡◌, ◌∙◌, ℕ, arith, subst}
use Rattle.std.proofs.lemmas.Result.{err_from_is_err_and}
use Rattle.replayer.specs.Verified.{VerifiedValue}
use Rattle.changes.specs.Printed.{PrintsChanges}
use Rattle.answers.proofs.Printing.{unprinted}
use Rattle.answers.proofs.states.print_last.Goals as goal

pub returns-clause-printed : goal.returns-clause-printed
returns-clause-printed g c =
    let v = c.args.verified.now in
    let made = c.in_ok-cursor.ensures in
    let at : c.in_ok-cursor.cursor.place ≡ c.place_in.result = omega (arith, made.at) in
    subst (λ (n : ℕ). PrintsChanges v c.args.shown c.args.times n (g.W.Write.contents c.args.out.now)
    (g.W.Write.contents c.print_changes.new.out))
    (at ∙ c.place_in.ensures)
    (subst (λ (x : VerifiedValue). PrintsChanges x c.args.shown c.args.times c.in_ok-cursor.cursor.place (g.W.Write.contents c.args.out.now)
    (g.W.Write.contents c.print_changes.new.out))
    made.verified_is c.in_ok-print_changes.ensures.printed)

pub returns-in_err-print_changes-clause-reaches : goal.returns-in_err-print_changes-clause-reaches
returns-in_err-print_changes-clause-reaches g c =
    let p = err_from_is_err_and c.from_residual-in_err-print_changes.result c.from_residual-in_err-print_changes.ensures.1 in
    rw (p.1, p.2) (record { within = tt; refused = unprinted _ _ _ _ c.in_err-print_changes.ensures.refused })
