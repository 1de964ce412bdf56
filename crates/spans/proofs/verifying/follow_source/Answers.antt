use Rattle.std.proofs.Common.{◌∷◌, ◌++◌, List, [], length, length-append, refl, ap, sym, arith}
use Rattle.std.proofs.lemmas.Result.{err_from_is_err_and}
use Rattle.rrv_model.specs.declared.record.Record.{Record}
use Rattle.faults.specs.declared.replay.VerifyFault.TheVariants as faults
use Rattle.replayer.specs.Following.{standing_of}
use Rattle.replayer.proofs.Sourced.{all_read}
use Rattle.replayer.proofs.Steps.{take_next}
use Rattle.spans.proofs.Batches.{next_of, read_on}
use Rattle.spans.proofs.Reached.{batch_refused, reached_along, unread_refused}
use Rattle.spans.proofs.Told.{asks_err, asks_ok, asks_on, same_given, same_on, same_source, stopped_known}
use Rattle.spans.proofs.verifying.follow_source.Goals as goal

pub loop-next-init : goal.loop-next-init
loop-next-init g c = record {
  read = c.args.first.now ∷ [];
  reached = c.requires.behind;
  keeps = c.requires.kept;
  count = refl;
  few = omega (arith, c.len-len.ensures, c.requires.some);
  is = λ h there. sym (take_next (g.S.Source.records c.args.source.now) 0 c.args.first.now there);
  same = same_source g.S.Source c.args.source.now;
}

pub read_batch-requires : goal.read_batch-requires
read_batch-requires g c =
    omega (arith, c.len-len.ensures, ap (λ (rs : List Record). length rs) c.loop-next.invariant.same.records)

pub keep_all-requires : goal.keep_all-requires
keep_all-requires g c =
    let inv = c.loop-next.invariant in
    record {
      read = inv.read;
      kept = inv.keeps;
      x = standing_of c.loop-next.following;
      y = standing_of c.in_ok-following.following;
      lead = c.in_ok-following.ensures;
      len = inv.reached.len;
    }

pub loop-next-preserved : goal.loop-next-preserved
loop-next-preserved g c =
    let inv = c.loop-next.invariant in
    let batch = c.as_slice-records.result.now in
    let all = g.S.Source.records c.args.source.now in
    let lead = c.in_ok-following.ensures in
    let reads = c.in_ok-batch.ensures.reads in
    let same = c.as_slice-records.ensures.value in
    record {
      read = inv.read ++ batch;
      reached = reached_along inv.read batch (standing_of c.loop-next.following) (standing_of c.in_ok-following.following) inv.reached
          lead;
      keeps = c.in_ok-keep_all.ensures.kept inv.read inv.keeps;
      count = omega (arith, inv.count, length-append inv.read batch);
      few = omega (
        arith,
        reads.within,
        ap (λ (rs : List Record). length rs) same,
        ap (λ (rs : List Record). length rs) inv.same.records,
        c.len-len.ensures,
      );
      is = λ h there. read_on all inv.read batch c.loop-next.next (inv.is h there)
          (next_of g.S.Source c.args.source.now c.loop-next.source c.loop-next.next c.in_ok-batch.batch.items batch same inv.same reads h);
      same = same_on g.S.Source c.args.source.now c.loop-next.source c.read_batch.new.source inv.same
          (same_given g.S.Source c.in_ok-batch.batch c.loop-next.source c.read_batch.new.source c.in_ok-batch.ensures.asks);
    }

-- ---- refusals

pub returns-in_err-batch-clause-refused : goal.returns-in_err-batch-clause-refused
returns-in_err-batch-clause-refused g c = λ h there.
    let inv = c.loop-next.invariant in
    let p = err_from_is_err_and c.from_residual.result c.from_residual.ensures.1 in
    rw (p.1, p.2)
    (unread_refused c.in_err-batch.field-0.0 (g.S.Source.records c.args.source.now) inv.read c.loop-next.next
    (standing_of c.loop-next.following) c.in_err-batch.ensures.refused (omega (arith, c.len-len.ensures)) inv.reached (inv.is h there))

pub returns-in_err-batch-clause-asks : goal.returns-in_err-batch-clause-asks
returns-in_err-batch-clause-asks g c =
    let p = err_from_is_err_and c.from_residual.result c.from_residual.ensures.1 in
    rw (p.1, p.2)
    (asks_on g.S.Source c.in_err-batch.field-0.0 c.args.source.now c.loop-next.source c.read_batch.new.source
    c.loop-next.invariant.same c.in_err-batch.ensures.asks)

pub returns-in_err-following-clause-refused : goal.returns-in_err-following-clause-refused
returns-in_err-following-clause-refused g c = λ h there.
    let inv = c.loop-next.invariant in
    let batch = c.as_slice-records.result.now in
    let p = err_from_is_err_and c.from_residual-in_err-following.result c.from_residual-in_err-following.ensures.1 in
    rw (p.1, p.2)
    (batch_refused c.in_err-following.field-0.0 (g.S.Source.records c.args.source.now) inv.read batch c.loop-next.next
    (standing_of c.loop-next.following) inv.reached c.in_err-following.ensures (inv.is h there)
    (next_of g.S.Source c.args.source.now c.loop-next.source c.loop-next.next c.in_ok-batch.batch.items batch
    c.as_slice-records.ensures.value inv.same c.in_ok-batch.ensures.reads h) c.requires.some)

pub returns-in_err-following-clause-asks : goal.returns-in_err-following-clause-asks
returns-in_err-following-clause-asks g c =
    let e = c.in_err-following.field-0.0 in
    let p = err_from_is_err_and c.from_residual-in_err-following.result c.from_residual-in_err-following.ensures.1 in
    rw (p.1, p.2)
    (asks_err g.S.Source e c.args.source.now c.read_batch.new.source
    (stopped_known e c.as_slice-records.result.now (standing_of c.loop-next.following) c.in_err-following.ensures)
    (same_on g.S.Source c.args.source.now c.loop-next.source c.read_batch.new.source c.loop-next.invariant.same
    (same_given g.S.Source c.in_ok-batch.batch c.loop-next.source c.read_batch.new.source c.in_ok-batch.ensures.asks)))

pub returns-in_err-keep_all-clause-refused : goal.returns-in_err-keep_all-clause-refused
returns-in_err-keep_all-clause-refused g c = λ h there.
    let p = err_from_is_err_and c.from_residual-in_err-keep_all.result c.from_residual-in_err-keep_all.ensures.1 in
    rw (p.1, p.2, c.in_err-keep_all.ensures.memory) c.requires.some

pub returns-in_err-keep_all-clause-asks : goal.returns-in_err-keep_all-clause-asks
returns-in_err-keep_all-clause-asks g c =
    let p = err_from_is_err_and c.from_residual-in_err-keep_all.result c.from_residual-in_err-keep_all.ensures.1 in
    rw (p.1, p.2, c.in_err-keep_all.ensures.memory)
    (asks_err g.S.Source faults.Memory c.args.source.now c.read_batch.new.source refl
    (same_on g.S.Source c.args.source.now c.loop-next.source c.read_batch.new.source c.loop-next.invariant.same
    (same_given g.S.Source c.in_ok-batch.batch c.loop-next.source c.read_batch.new.source c.in_ok-batch.ensures.asks)))

-- ---- the end

pub returns-clause-follows : goal.returns-clause-follows
returns-clause-follows g c =
    let inv = c.loop-next.invariant in
    record {
      read = inv.read;
      reached = inv.reached;
      keeps = inv.keeps;
      all = omega (arith, inv.count, inv.few, c.len-len.ensures);
      are = λ h there. all_read inv.read (g.S.Source.records c.args.source.now) c.loop-next.next (inv.is h there)
          (omega (arith, c.len-len.ensures));
    }

pub returns-clause-asks : goal.returns-clause-asks
returns-clause-asks g c =
    asks_ok g.S.Source c.loop-next.following c.args.source.now c.loop-next.source c.loop-next.invariant.same
