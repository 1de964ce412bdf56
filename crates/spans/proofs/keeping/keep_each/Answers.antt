use Rattle.std.proofs.Common.{◌≤◌, ◌++◌, List, length, arith, subst, sym}
use Rattle.std.proofs.lemmas.List.{append-nil, take_all}
use Rattle.rrv_model.specs.declared.record.Record.{Record}
use Rattle.replayer.specs.Keepers.{IsKept}
use Rattle.spans.proofs.Batches.{more_read}
use Rattle.spans.proofs.Claiming.{comes_at}
use Rattle.spans.proofs.keeping.keep_each.Goals as goal

pub loop-entry-init : goal.loop-entry-init
loop-entry-init c = record {
  kept = λ read h. subst (λ (rs : List Record). IsKept c.args.keeper.now rs) (sym (append-nil read)) h;
  len = omega arith;
}

pub keep-requires : goal.keep-requires
keep-requires c =
    let len = c.loop-entry.invariant.len in
    comes_at c.args.records.now c.loop-entry.entry-index c.loop-entry.keeper.len c.entry-item.result c.requires.x c.requires.y (omega arith)
    c.entry-item.is c.requires.lead
    (omega (arith, len, c.requires.kept.len, c.requires.len))

pub loop-entry-preserved : goal.loop-entry-preserved
loop-entry-preserved c =
    let i = c.loop-entry.entry-index in
    let len = c.loop-entry.invariant.len in
    record {
      kept = λ read h. more_read (λ rs. IsKept c.keep.new.self rs) read c.args.records.now i c.entry-item.result (omega arith)
          c.entry-item.is (c.in_ok-keep.ensures.kept _ (c.loop-entry.invariant.kept read h));
      len = omega (arith, c.in_ok-keep.ensures.len, len);
    }

pub returns-clause-kept : goal.returns-clause-kept
returns-clause-kept c = λ read h.
    let all : length c.args.records.now ≤ c.loop-entry.entry-index = omega arith in
    subst (λ (rs : List Record). IsKept c.loop-entry.keeper (read ++ rs)) (take_all c.loop-entry.entry-index c.args.records.now all)
    (c.loop-entry.invariant.kept read h)
