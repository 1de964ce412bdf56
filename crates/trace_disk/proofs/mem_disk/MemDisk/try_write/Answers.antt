use Rattle.std.proofs.Common.{subst, sym}
use Rattle.store_model.specs.CrashModel.{DiskState, IsCrash}
use Rattle.trace_disk.proofs.MayLeave.{reads_write}
use Rattle.trace_disk.proofs.mem_disk.MemDisk.try_write.Goals as goal

pub invariant_of-self-2-clause-may_stay : goal.invariant_of-self-2-clause-may_stay
invariant_of-self-2-clause-may_stay c =
    subst (λ (s : DiskState). IsCrash s.pending s.content) (sym c.wrote.ensures)
    (reads_write c.args.self.now.history.state.pending c.args.self.now.history.state.content c.args.bytes.now c.args.at
    c.args.self.now.may_stay)
