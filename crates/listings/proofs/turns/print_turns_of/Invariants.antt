use Rattle.std.proofs.Common.{◌≡◌, ◌≤◌, length}
use Rattle.std.specs.Prelude.{take}
use Rattle.rrv_model.specs.Recovered.{of_guest}
use Rattle.recover.specs.Spots.{records_of, StandOn}
use Rattle.replayer.specs.Following.{IsBehind}
use Rattle.listings.specs.Turns.{PrintsTurns}
use Rattle.listings.proofs.turns.print_turns_of.Given as goal

abbrev pub invariant-loop-index : goal.invariant-loop-index
invariant-loop-index g l =
    (l.index-end ≡ length (of_guest l.guest (records_of l.lists))) × (1 ≤ l.index)
    × (StandOn g.D.Disk.honest g.D.Disk.state l.fn.disk l.lists
    → IsBehind l.following (take l.index (of_guest l.guest (records_of l.lists)))
    × PrintsTurns l.form (of_guest l.guest (records_of l.lists)) l.index (g.W.Write.contents l.fn.out) (g.W.Write.contents l.out)
    × StandOn g.D.Disk.honest g.D.Disk.state l.disk l.lists)
