use Rattle.std.proofs.Common.{List, length, refl, ap, arith}
use Rattle.rrv_model.specs.declared.record.Record.{Record}
use Rattle.replayer.proofs.Sourced.{all_given, end_of}
use Rattle.replayer.proofs.verifying.verify_source_end.Goals as goal

pub returns-clause-ends : goal.returns-clause-ends
returns-clause-ends g c = λ h.
    let all = c.in_ok-pair.ensures.follows in
    let are = all_given g.S.Source c.given.ensures.asks all h (c.in_ok-first.ensures.record h) in
    end_of c.in_ok-first.first all.read (g.S.Source.records c.args.source.now) c.in_ok-pair.field-0 _ all.followed are c.into_guest.ensures
    refl
    (omega (arith, c.len-len.ensures, ap (λ (rs : List Record). length rs) are)) refl
