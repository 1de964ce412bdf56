use Rattle.std.proofs.Common.{◌∙◌}
use Rattle.trace_disk.proofs.mem_disk.MemDiskDisk.write_at.Goals as goal

-- a failed call leaves the room
pub returns-in-Err-clause-call : goal.returns-in-Err-clause-call
returns-in-Err-clause-call c =
    let tried = c.in-Err.ensures.call in
    record {
      done = tt;
      err = c.failed.ensures.state ∙ tried.err;
      room = tried.room;
      room_left = λ b k room. c.failed.ensures.room b k (tried.room_left b k room);
      room_err = λ b k room. c.failed.ensures.room b k (tried.room_err b k room);
    }
