use Rattle.line_io.proofs.Sources.{read_failed, still_on}
use Rattle.line_io.proofs.store.record_in.Goals as goal

pub returns-in-Ok-clause-read : goal.returns-in-Ok-clause-read
returns-in-Ok-clause-read g c = record {
  read = λ on. c.in-Ok.ensures.record on.is_honest on.stand;
  refused = λ _. tt;
  on = still_on g.D.Disk.honest g.D.Disk.state c.args.disk.now c.item.new.disk c.args.lists.now c.item.ensures.only.kept.state
      c.item.ensures.only.kept.honest.1;
}

pub returns-in-Err-clause-read : goal.returns-in-Err-clause-read
returns-in-Err-clause-read g c = record {
  read = λ _. tt;
  refused = λ on. read_failed c.of_record.result c.args.index c.in-Err.fault c.of_record.ensures
      (c.in-Err.ensures.record on.is_honest on.stand);
  on = still_on g.D.Disk.honest g.D.Disk.state c.args.disk.now c.item.new.disk c.args.lists.now c.item.ensures.only.kept.state
      c.item.ensures.only.kept.honest.1;
}
