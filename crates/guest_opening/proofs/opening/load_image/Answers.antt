use Rattle.std.proofs.Common.{ℕ, List, Option, length, ap, refl, sym, ◌∙◌, subst}
use Rattle.std.proofs.lemmas.List.{length_push}
use Rattle.std.proofs.lemmas.Iterator.Adapters.{YieldsList-from_rev_slice}
use Rattle.std.proofs.lemmas.Iterator.Consumers.{YieldsList-turn, YieldsList-end}
use Rattle.rrv_model.specs.Memory.{Memory, stored}
use Rattle.rrv_model.specs.Elf.{loads, IsLoad}
use Rattle.guest_pages.specs.Space.{memory_of}
use Rattle.guest_opening.specs.Loading.{file_bytes}
use Rattle.guest_opening.proofs.LoadWalk.{IsNext, is_next, next_has_room, next_is_there, walk_begins, walk_goes_on, walk_ends}
use Rattle.guest_opening.proofs.opening.load_image.Goals as goal
use Rattle.guest_opening.proofs.opening.load_image.Goals.{In-Some}

-- the load that comes is the next from the end
next_of : (c : In-Some) → IsNext c.args.image.now (length c.loop-load.yielded) c.in-Some.load.now
next_of c =
    let t = YieldsList-turn (YieldsList-from_rev_slice (loads c.args.image.now) cc) c.loop-load.yielded _ c.loop-load.yielded_by _ _
    c.in-Some.load c.in-Some.is c.next.ensures.steps in
    is_next c.args.image.now (length c.loop-load.yielded) c.in-Some.load.now c.elf-file.ensures.accepted t.0 t.1

pub loop-load-init : goal.loop-load-init
loop-load-init c = (walk_begins c.args.image.now (memory_of c.args.space.now) c.requires.empty, refl)

pub cover_load-requires : goal.cover_load-requires
cover_load-requires c =
    let file = c.args.image.now in
    let next = next_of (goal.at.cover_load-requires c).In-Some in
    record {
      low = next.load.low;
      high = next.load.high;
      room = next_has_room file (length c.loop-load.yielded) c.in-Some.load.now (memory_of c.loop-load.space) c.elf-file.ensures.accepted
          next c.loop-load.invariant.0;
    }

pub fill_load-requires : goal.fill_load-requires
fill_load-requires c =
    let file = c.args.image.now in
    let next = next_of (goal.at.fill_load-requires c).In-Some in
    record {
      load = subst (λ (f : List ℕ). IsLoad f c.in-Some.load.now) (sym c.elf-file.ensures.value) next.load;
      there = next_is_there file c.in-Some.load.now (memory_of c.loop-load.space) (memory_of c.cover_load.new.space) next.load
          c.in_ok-cover_load.ensures.memory;
      alone = λ n. ap (λ (kept : ℕ → Option Memory). kept n) (c.cover_load.ensures.snapshots ∙ c.loop-load.invariant.1)
          ∙ c.requires.alone n;
    }

pub loop-load-preserved : goal.loop-load-preserved
loop-load-preserved c =
    let file = c.args.image.now in
    let load = c.in-Some.load.now in
    let n = length c.loop-load.yielded in
    let next = next_of (goal.at.loop-load-preserved c).In-Some in
    let filled =
    c.fill_load.ensures.memory
    ∙ ap (λ (f : List ℕ). stored load.address (file_bytes f load) (memory_of c.cover_load.new.space)) c.elf-file.ensures.value in (
      walk_goes_on file n _ load (memory_of c.loop-load.space) (memory_of c.cover_load.new.space) (memory_of c.fill_load.new.space) next
          (length_push c.loop-load.yielded c.in-Some.load) c.loop-load.invariant.0 c.in_ok-cover_load.ensures.memory filled,
      c.fill_load.ensures.snapshots ∙ c.cover_load.ensures.snapshots ∙ c.loop-load.invariant.1,
    )

pub returns : goal.returns
returns c =
    let file = c.args.image.now in
    let all = YieldsList-end (YieldsList-from_rev_slice (loads file) cc) c.loop-load.yielded _ c.loop-load.yielded_by _ _ c.in-None.is
    c.next.ensures.steps in
    record {
      accepted = c.elf-file.ensures.accepted;
      memory = walk_ends file (length c.loop-load.yielded) (memory_of c.loop-load.space) all.1 c.loop-load.invariant.0;
      snapshots = c.loop-load.invariant.1;
    }
