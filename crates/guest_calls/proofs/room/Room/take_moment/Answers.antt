use Rattle.std.proofs.Common.{rules}
use Rattle.guest_calls.proofs.room.Room.take_moment.Goals as goal

pub returns : goal.returns
returns g c = record {
  seconds = c.now-moment.result.0;
  nanoseconds = c.now-moment.result.1;
  seconds_low = c.now-moment.ensures.seconds;
  nanoseconds_low = c.now-moment.ensures.nanoseconds;
  are = search rules;
  given = c.now-moment.ensures.gives;
}
