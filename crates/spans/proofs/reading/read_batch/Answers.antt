use Rattle.std.proofs.Common.{List, ap, arith, length, refl, inl}
use Rattle.std.proofs.lemmas.Result.{err_from_is_err_and}
use Rattle.rrv_model.specs.declared.record.Record.{Record}
use Rattle.faults.specs.declared.replay.VerifyFault.TheVariants as faults
use Rattle.spans.proofs.Batches.{one_item, one_item_more, reads_first, reads_next}
use Rattle.spans.proofs.Told.{asks_err, asks_ok, same_ahead, same_given, still_there}
use Rattle.spans.proofs.reading.read_batch.Goals as goal

pub loop-index-init : goal.loop-index-init
loop-index-init g c =
    let first = c.in_ok-first.first in
    let items = one_item c.new-batch.result.items c.push.new.self.items first c.in_ok-push.ensures.items c.new-batch.ensures.items in
    record {
      reads = rw items (reads_first g.S.Source c.args.from first c.args.source.now c.requires c.in_ok-first.ensures.record);
      count = omega (arith, ap (λ (rs : List Record). length rs) items);
      few = omega (arith, c.len-len.ensures, c.requires);
      same = same_given g.S.Source first c.args.source.now c.given.new.source c.in_ok-first.ensures.asks;
    }

pub loop-index-preserved : goal.loop-index-preserved
loop-index-preserved g c =
    let inv = c.loop-index.invariant in
    let i = c.loop-index.index in
    let entry = c.in-Ok.entry in
    let items = c.in_ok-push-2.ensures.items in
    record {
      reads = rw items
          (reads_next g.S.Source c.args.from i c.loop-index.batch.items entry c.args.source.now inv.reads inv.count
          (omega (arith, c.len-len.ensures))
          (still_there g.S.Source c.args.source.now c.loop-index.source i entry inv.same c.in-Ok.ensures.record));
      count = one_item_more c.loop-index.batch.items c.push-in-loop-index.new.self.items entry c.args.from i items inv.count;
      few = omega arith;
      same = same_ahead g.S.Source c.args.source.now c.loop-index.source c.ahead.new.self inv.same c.ahead.ensures.records
          c.ahead.ensures.honest c.ahead.ensures.withheld;
    }

pub returns-in_err-first-clause-refused : goal.returns-in_err-first-clause-refused
returns-in_err-first-clause-refused g c =
    let p = err_from_is_err_and c.from_residual.result c.from_residual.ensures.1 in
    rw (p.1, p.2) c.in_err-first.ensures.refused

pub returns-in_err-push-clause-refused : goal.returns-in_err-push-clause-refused
returns-in_err-push-clause-refused g c =
    let p = err_from_is_err_and c.from_residual-in_err-push.result c.from_residual-in_err-push.ensures.1 in
    rw (p.1, p.2) (inl refl)

pub returns-in_err-push-clause-asks : goal.returns-in_err-push-clause-asks
returns-in_err-push-clause-asks g c =
    let p = err_from_is_err_and c.from_residual-in_err-push.result c.from_residual-in_err-push.ensures.1 in
    rw (p.1, p.2)
    (asks_err g.S.Source faults.Memory c.args.source.now c.given.new.source refl
    (same_given g.S.Source c.in_ok-first.first c.args.source.now c.given.new.source c.in_ok-first.ensures.asks))

pub returns-clause-asks : goal.returns-clause-asks
returns-clause-asks g c =
    asks_ok g.S.Source c.loop-index.batch c.args.source.now c.loop-index.source c.loop-index.invariant.same
