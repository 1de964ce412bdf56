use Rattle.std.proofs.Common.{◌≡◌, List, length, ap, subst, ◌∙◌, arith}
use Rattle.std.proofs.lemmas.Result.{IfOk-weaker}
use Rattle.rrv_model.specs.declared.record.Record.{Record}
use Rattle.replayer.specs.Verified.{Keeps}
use Rattle.replayer.proofs.Sourced.{all_given}
use Rattle.replayer.proofs.verifying.verify_source_watched.Goals as goal

pub returns-clause-keeps : goal.returns-clause-keeps
returns-clause-keeps g c = λ h.
    let all = c.in_ok-walk.ensures.follows in
    let are = all_given g.S.Source c.given.ensures.asks all h (c.in_ok-first.ensures.record h) in
    IfOk-weaker c.kept_of.result _ _ (λ v kept. subst (λ (rs : List Record). Keeps v rs) are
    (kept all.read all.followed (omega (arith, c.len-len.ensures, ap (λ (rs : List Record). length rs) are)))) c.kept_of.ensures.keeps

pub returns-clause-len : goal.returns-clause-len
returns-clause-len g c =
    let all = c.in_ok-walk.ensures.follows in
    let count : length all.read ≡ length (g.S.Source.records c.args.source.now) =
    all.all ∙ ap (λ (rs : List Record). length rs) c.given.ensures.asks.records in
    IfOk-weaker c.kept_of.result _ _ (λ v kept.
    let is = kept all.read all.followed (omega (arith, c.len-len.ensures, count)) in
    is.len ∙ count) c.kept_of.ensures.keeps
