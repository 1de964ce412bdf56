use Rattle.std.proofs.Common.{◌∙◌, List, length, ap, subst}
use Rattle.std.proofs.lemmas.Result.{err_from_is_err_and}
use Rattle.rrv_model.specs.declared.record.Record.{Record}
use Rattle.replayer.specs.Sourced.{IsEndOf, RefusesSource}
use Rattle.replayer.proofs.Sourced.{first_refused}
use Rattle.spans.proofs.Told.{asks_on, same_given}
use Rattle.spans.proofs.verifying.verify_source_end.Goals as goal

pub returns-in_err-following-clause-refused : goal.returns-in_err-following-clause-refused
returns-in_err-following-clause-refused g c = λ h.
    let p = err_from_is_err_and c.from_residual-in_err-following.result c.from_residual-in_err-following.ensures.1 in
    rw (p.1, p.2)
    (first_refused c.in_err-following.field-0.0 (g.S.Source.records c.args.source.now) c.in_ok-first.first (c.in_ok-first.ensures.record h)
    c.in_err-following.ensures.refused)

pub returns-clause-ends : goal.returns-clause-ends
returns-clause-ends g c = λ h.
    let all = c.in_ok-end.ensures.follows in
    let asks = c.given.ensures.asks in
    let there = c.in_ok-first.ensures.record h in
    let are = all.are (asks.honest.1 h) (rw asks.records there) ∙ asks.records in
    subst (λ (rs : List Record). IsEndOf c.into_end.result rs) are (c.into_end.ensures all.read all.reached)

pub returns-clause-len : goal.returns-clause-len
returns-clause-len g c =
    let all = c.in_ok-end.ensures.follows in
    (c.into_end.ensures all.read all.reached).len ∙ all.all ∙ ap (λ (rs : List Record). length rs) c.given.ensures.asks.records

pub returns-in_err-end-clause-refused : goal.returns-in_err-end-clause-refused
returns-in_err-end-clause-refused g c = λ h.
    let e = c.in_err-end.field-0.0 in
    let asks = c.in_ok-first.ensures.asks in
    let p = err_from_is_err_and c.from_residual-in_err-end.result c.from_residual-in_err-end.ensures.1 in
    rw (p.1, p.2)
    (subst (λ (rs : List Record). RefusesSource e rs) asks.records
    (c.in_err-end.ensures.refused (asks.honest.1 h) (rw asks.records (c.in_ok-first.ensures.record h))))

pub returns-in_err-end-clause-asks : goal.returns-in_err-end-clause-asks
returns-in_err-end-clause-asks g c =
    let p = err_from_is_err_and c.from_residual-in_err-end.result c.from_residual-in_err-end.ensures.1 in
    rw (p.1, p.2)
    (asks_on g.S.Source c.in_err-end.field-0.0 c.args.source.now c.given.new.source c.follow_source.new.source
    (same_given g.S.Source c.in_ok-first.first c.args.source.now c.given.new.source c.in_ok-first.ensures.asks)
    c.in_err-end.ensures.asks)

pub returns-clause-asks : goal.returns-clause-asks
returns-clause-asks g c = record {
  records = c.in_ok-end.ensures.asks.records ∙ c.in_ok-first.ensures.asks.records;
  honest = (
    λ h. c.in_ok-first.ensures.asks.honest.0 (c.in_ok-end.ensures.asks.honest.0 h),
    λ h. c.in_ok-end.ensures.asks.honest.1 (c.in_ok-first.ensures.asks.honest.1 h),
  );
  told = record {
    withheld = c.in_ok-end.ensures.asks.told.withheld ∙ c.in_ok-first.ensures.asks.told.withheld;
    names = tt;
  };
}
