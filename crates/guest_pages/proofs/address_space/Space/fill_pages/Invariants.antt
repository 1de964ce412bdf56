use Rattle.std.proofs.Common.{◌≡◌, ◌+◌, ◌-◌, ◌≤◌, length, take, drop}
use Rattle.rrv_model.specs.Memory.{stored}
use Rattle.guest_pages.specs.Live.{live_of}
use Rattle.guest_pages.specs.Space.{memory_of, snapshots_of, KeepsOwn}
use Rattle.guest_pages.proofs.address_space.Space.fill_pages.Given as goal

abbrev pub invariant-loop-rest : goal.invariant-loop-rest
invariant-loop-rest l =
    record {
      begun : l.address ≤ l.at;
      len : l.at + length l.rest ≡ l.address + length l.bytes;
      rest : l.rest ≡ drop (l.at - l.address) l.bytes;
      memory : memory_of l.self ≡ stored l.address (take (l.at - l.address) l.bytes) (memory_of l.initial.self);
      snapshots : snapshots_of l.self ≡ snapshots_of l.initial.self;
      own : KeepsOwn l.initial.self l.self;
      live : live_of l.self ≡ live_of l.initial.self;
    }

abbrev pub decreases-loop-rest : goal.decreases-loop-rest
decreases-loop-rest l = length l.rest
