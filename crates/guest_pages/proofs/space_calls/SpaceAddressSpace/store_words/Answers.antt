use Rattle.std.proofs.Common.{◌≡◌, ℕ, ◌+◌, ◌/◌, List, drop, get_or, length, sym, ◌∙◌, ap, subst}
use Rattle.std.proofs.lemmas.List.{drop_all}
use Rattle.std.specs.Int.{w32, to_le_bytes}
use Rattle.rrv_model.specs.Memory.{Memory, stored}
use Rattle.rrv_model.specs.CallRows.{all_writable}
use Rattle.guest_pages.specs.Space.{memory_of, CanFill}
use Rattle.guest_pages.specs.Stores.{stored_at_each}
use Rattle.guest_pages.proofs.WordStores.{writable_present, next_place, allowed_after, next_stored, all_stored}
use Rattle.guest_pages.proofs.space_calls.SpaceAddressSpace.store_words.Goals as goal

pub loop-place-init : goal.loop-place-init
loop-place-init c =
    let memory = c.own_words.ensures.memory in
    let bytes = to_le_bytes w32 c.args.word in
    record {
      stored = ap (λ (m : Memory). stored_at_each c.args.places.now bytes m) memory;
      allowed = ap (λ (m : Memory). all_writable m c.args.places.now) memory ∙ c.requires;
      own = c.in_ok-own_words.ensures.ready;
      snapshots = c.own_words.ensures.snapshots;
      live = c.in_ok-own_words.ensures.live;
    }

pub fill-requires : goal.fill-requires
fill-requires c =
    let m = memory_of c.loop-place.self in
    let place = get_or c.args.places.now c.loop-place.place-index 0 in
    let next = next_place m c.args.places.now c.loop-place.place-index c.loop-place-test.true c.loop-place.invariant.allowed in
    subst (λ (n : ℕ). CanFill c.loop-place.self place n) (sym (ap length c.to_le_bytes.ensures))
    (writable_present m place 4 next.0, c.loop-place.invariant.own c.loop-place.place-index c.loop-place-test.true)

pub loop-place-preserved : goal.loop-place-preserved
loop-place-preserved c =
    let m = memory_of c.loop-place.self in
    let places = c.args.places.now in
    let i = c.loop-place.place-index in
    let bytes = to_le_bytes w32 c.args.word in
    let here : memory_of c.fill.new.self ≡ stored (get_or places i 0) bytes m =
    c.fill.ensures.memory ∙ ap (λ (b : List ℕ). stored (get_or places i 0) b m) c.to_le_bytes.ensures in
    let next = next_place m places i c.loop-place-test.true c.loop-place.invariant.allowed in
    record {
      stored = ap (λ (m : Memory). stored_at_each (drop (i + 1) places) bytes m) here
          ∙ next_stored bytes m places i c.loop-place-test.true ∙ c.loop-place.invariant.stored;
      allowed = ap (λ (m : Memory). all_writable m (drop (i + 1) places)) here
          ∙ allowed_after (get_or places i 0) bytes m (drop (i + 1) places) next.1;
      own = λ k l j m. c.fill.ensures.own ((get_or places k 0 + j) / 4096) (c.loop-place.invariant.own k l j m);
      snapshots = c.fill.ensures.snapshots ∙ c.loop-place.invariant.snapshots;
      live = c.fill.ensures.live ∙ c.loop-place.invariant.live;
    }

pub returns-clause-stored : goal.returns-clause-stored
returns-clause-stored c =
    record {
      ok = sym (all_stored (to_le_bytes w32 c.args.word) (memory_of c.loop-place.self) c.args.places.now c.loop-place.place-index
          (drop_all c.loop-place.place-index c.args.places.now c.loop-place-test.false))
          ∙ c.loop-place.invariant.stored;
      err = tt;
      snapshots = c.loop-place.invariant.snapshots;
    }
