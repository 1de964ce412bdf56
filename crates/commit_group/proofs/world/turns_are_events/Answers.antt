use Rattle.commit_group.proofs.Idles.{idle_turns_are_events, last_turns_are_events}
use Rattle.commit_group.proofs.Refusals.{halted_turns_are_no_events, limits_are_events, shortages_are_events, unmarked_turns_are_events}
use Rattle.commit_group.proofs.Worlds.{failures_are_events, turns_are_events}
use Rattle.commit_group.proofs.world.turns_are_events.Goals as goal

pub returns : goal.returns
returns g c = record {
  commits = turns_are_events g.D.Disk;
  fails = failures_are_events g.D.Disk;
  shortage = shortages_are_events g.D.Disk;
  limit = limits_are_events g.D.Disk;
  unmarked = unmarked_turns_are_events g.D.Disk;
  halted = halted_turns_are_no_events g.D.Disk;
  idle = idle_turns_are_events g.D.Disk.state;
  done = last_turns_are_events g.D.Disk.state;
}
