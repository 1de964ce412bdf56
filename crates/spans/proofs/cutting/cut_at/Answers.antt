use Rattle.std.proofs.Common.{◌-◌, arith}
use Rattle.spans.proofs.Claiming.{is_cut}
use Rattle.spans.proofs.cutting.cut_at.Goals as goal

pub returns-then-ends_checkpoint : goal.returns-then-ends_checkpoint
returns-then-ends_checkpoint c =
    is_cut c.args.records.now c.args.place (c.args.place - 1) c.index-records-before.result (omega arith) c.requires.within
    c.index-records-before.is (c.ends_checkpoint.ensures.0 c.if-ends_checkpoint.true)
