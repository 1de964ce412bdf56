use Rattle.std.proofs.Common.{◌≡◌, ◌+◌, true, drop}
use Rattle.std.specs.Int.{w32, to_le_bytes}
use Rattle.rrv_model.specs.CallRows.{all_writable}
use Rattle.guest_pages.specs.Live.{added_words, live_of}
use Rattle.guest_pages.specs.Space.{memory_of, snapshots_of}
use Rattle.guest_pages.specs.Stores.{stored_at_each, AreOwnWords}
use Rattle.guest_pages.proofs.space_calls.SpaceAddressSpace.store_words.Given as goal

abbrev pub invariant-loop-place : goal.invariant-loop-place
invariant-loop-place l = record {
  stored : stored_at_each (drop l.place-index l.places) (to_le_bytes w32 l.word) (memory_of l.self)
      ≡ stored_at_each l.places (to_le_bytes w32 l.word) (memory_of l.fn.self);
  allowed : all_writable (memory_of l.self) (drop l.place-index l.places) ≡ true;
  own : AreOwnWords l.self l.places;
  snapshots : snapshots_of l.self ≡ snapshots_of l.fn.self;
  live : live_of l.self ≡ live_of l.fn.self + added_words l.fn.self l.places;
}
