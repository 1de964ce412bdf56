use Rattle.std.proofs.Common.{List, ℕ}
use Rattle.std.specs.Prelude.{take}
use Rattle.std.specs.Io.KnownBytes.{Appends}
use Rattle.recover.specs.Spots.{records_of, StandOn}
use Rattle.listings.specs.LongList.{AreLines}
use Rattle.listings.proofs.long_list.print_all_long.Given as goal

abbrev pub invariant-loop-guest : goal.invariant-loop-guest
invariant-loop-guest g l =
    (StandOn g.D.Disk.honest g.D.Disk.state l.fn.disk l.lists → (text : List ℕ)
    × AreLines (records_of l.lists) (take l.guest-index l.guest-items) text
    × Appends (g.W.Write.contents l.initial.out) (g.W.Write.contents l.out) text)
    × (StandOn g.D.Disk.honest g.D.Disk.state l.fn.disk l.lists → StandOn g.D.Disk.honest g.D.Disk.state l.disk l.lists)
