use Rattle.std.proofs.KnownBytes.{Appends-kept}
use Rattle.guest_calls.specs.Guest.{state_of}
use Rattle.answers.proofs.Cores.{core_written}
use Rattle.answers.proofs.core_files.put_core.Goals as goal

pub returns-clause-written : goal.returns-clause-written
returns-clause-written g c =
    core_written c.args.cursor.now.verified c.args.verified.now c.args.cursor.now.place c.place.result c.first_thread-first.result
    (state_of c.guest.result.now) _ _ _
    c.requires c.place.ensures.place c.first_thread-first.ensures.shown c.guest.ensures.state c.in_ok-core.ensures
    (Appends-kept _ _ _ _ c.in-Ok.ensures c.flush.ensures.bytes)
