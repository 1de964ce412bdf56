use Rattle.session.proofs.Gained.{flushed_of}
use Rattle.session.proofs.run.fn.run.scope.Goals as goal

pub returns : goal.returns
returns g c =
    let e = c.flush-flushed.ensures in record {
      works = c.finish_all.ensures c.captures.tasks.items c.start_all.ensures.works;
      flushed = flushed_of g.D.Disk c.captures.flusher c.start_all.new.flusher c.flush-flushed.new.flusher c.captures.log
          c.flush-flushed.new.log c.flush-flushed.result c.start_all.ensures.same
          e.turned e.numbers e.never e.group c.requires.2.whole;
    }
