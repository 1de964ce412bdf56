use Rattle.std.proofs.Common.{◌≡◌, ◌≤◌, List, [], ◌∷◌, ◌++◌, length, refl, ap, sym, subst, ◌∙◌, arith, length-append, Some}
use Rattle.std.specs.Prelude.{slice_get}
use Rattle.std.proofs.lemmas.Result.{err_from_is_err_and}
use Rattle.rrv_model.specs.declared.record.Record.{Record}
use Rattle.guest_calls.specs.Guest.{state_of}
use Rattle.replayer.specs.Sourced.{RefusesGiven}
use Rattle.replayer.specs.Walks.{LeadsOn}
use Rattle.replayer.proofs.Sourced.{all_read, first_refused, followed_first, followed_next, given_refused}
use Rattle.replayer.proofs.Steps.{take_next}
use Rattle.replayer.proofs.verifying.follow_source.Goals as goal

pub loop-index-init : goal.loop-index-init
loop-index-init g c =
    let first = c.args.first.now in
    let w = c.in_ok-walk.walk in
    record {
      read = first ∷ [];
      followed = followed_first first w c.in_ok-walk.ensures.stands c.in_ok-walk.ensures.row c.in_ok-walk.ensures.frames
          c.in_ok-walk.ensures.marks c.in_ok-walk.ensures.total c.in_ok-walk.ensures.last c.in_ok-walk.ensures.ends;
      count = refl;
      few = omega (arith, c.len-len.ensures, c.requires);
      keeping = c.in_ok-walk.ensures.keeps;
      total = omega (arith, c.in_ok-walk.ensures.total);
      is = λ h there. sym (take_next (g.S.Source.records c.args.source.now) 0 first there);
      records = refl;
      honest = (λ h. h, λ h. h);
      withheld = refl;
    }

pub loop-index-preserved : goal.loop-index-preserved
loop-index-preserved g c =
    let inv = c.loop-index.invariant in
    let next = c.in_ok-follow_given.ensures.follows in
    let old = c.loop-index.walk in
    let new = c.follow_given.new.walk in
    let some : 1 ≤ length inv.read = omega (arith, inv.count, c.loop-index.auto.index) in
    record {
      read = inv.read ++ next.entry ∷ [];
      followed = followed_next c.args.first.now inv.read next.entry old new some inv.followed next.keeps next.row next.goes_on next.counted
          next.last
          (subst (λ n. LeadsOn c.args.first.now.guest n next.entry (state_of old.pair.base) old.parts.items (state_of old.pair.guest)
          (state_of new.pair.base) new.parts.items (state_of new.pair.guest)) (sym inv.count) next.leads);
      count = omega (arith, inv.count, length-append inv.read (next.entry ∷ []));
      few = omega (arith, c.loop-index-test.true);
      keeping = next.goes_on ∙ inv.keeping;
      total = omega (arith, next.grown, inv.total);
      is = λ h there. ap (λ (l : List Record). l ++ next.entry ∷ []) (inv.is h there)
          ∙ sym (take_next (g.S.Source.records c.args.source.now) c.loop-index.index next.entry
          (subst (λ (l : List Record). slice_get l c.loop-index.index ≡ Some next.entry) inv.records (next.there (inv.honest.1 h))));
      records = c.follow_given.ensures.asks.records ∙ inv.records;
      honest = (λ h. inv.honest.0 (c.follow_given.ensures.asks.honest.0 h), λ h. c.follow_given.ensures.asks.honest.1 (inv.honest.1 h));
      withheld = c.in_ok-follow_given.ensures.asks.told.withheld ∙ inv.withheld;
    }

pub returns-in_err-walk-clause-refused : goal.returns-in_err-walk-clause-refused
returns-in_err-walk-clause-refused g c = λ h there.
    let p = err_from_is_err_and c.from_residual.result c.from_residual.ensures.1 in
    rw (p.1, p.2)
    (first_refused c.in_err-walk.field-0.0 (g.S.Source.records c.args.source.now) c.args.first.now there c.in_err-walk.ensures.refused)

pub returns-in_err-follow_given-clause-refused : goal.returns-in_err-follow_given-clause-refused
returns-in_err-follow_given-clause-refused g c = λ h there.
    let inv = c.loop-index.invariant in
    let p = err_from_is_err_and c.from_residual-in_err-follow_given.result c.from_residual-in_err-follow_given.ensures.1 in
    rw (p.1, p.2)
    (given_refused c.in_err-follow_given.field-0.0 c.args.first.now.guest (g.S.Source.records c.args.source.now) c.loop-index.index
    c.args.first.now inv.read
    (state_of c.loop-index.walk.pair.base) c.loop-index.walk.parts.items (state_of c.loop-index.walk.pair.guest)
    (omega (arith, c.loop-index-test.true, c.len-len.ensures)) there c.in_ok-walk.ensures.opened (inv.is h there) inv.followed.stands
    (subst (λ (l : List Record). RefusesGiven c.in_err-follow_given.field-0.0 c.args.first.now.guest c.loop-index.index l
    (state_of c.loop-index.walk.pair.base) c.loop-index.walk.parts.items (state_of c.loop-index.walk.pair.guest))
    inv.records (c.in_err-follow_given.ensures.refused (inv.honest.1 h))))

pub returns-clause-follows : goal.returns-clause-follows
returns-clause-follows g c =
    let inv = c.loop-index.invariant in
    record {
      read = inv.read;
      followed = inv.followed;
      all = omega (arith, inv.count, inv.few, c.loop-index-test.false, c.len-len.ensures);
      are = λ h there. all_read inv.read (g.S.Source.records c.args.source.now) c.loop-index.index (inv.is h there)
          (omega (arith, c.loop-index-test.false, c.len-len.ensures));
    }
