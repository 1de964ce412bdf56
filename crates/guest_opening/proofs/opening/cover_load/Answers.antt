use Rattle.std.proofs.Common.{◌≡◌, ◌+◌, ◌-◌, ◌/◌, ◌<◌, ◌≤◌, arith, ap, refl, ◌∙◌}
use Rattle.guest_pages.specs.Space.{memory_of}
use Rattle.guest_pages.specs.Mapping.{covered}
use Rattle.guest_opening.proofs.PageWalk.{walk_begins, walk_goes_on, walk_has_room, walk_ends, covered_empty, only_memory}
use Rattle.guest_opening.proofs.opening.cover_load.Goals as goal

pub loop-page-init : goal.loop-page-init
loop-page-init c =
    let load = c.args.load.now in (
      walk_begins (load.address / 4096) (c.address-page.result / 4096) c.load_permissions-permissions.result (memory_of c.args.space.now)
          (ap (λ a. a / 4096) c.address-page.ensures),
      refl,
    )

pub want_of_memory-requires : goal.want_of_memory-requires
want_of_memory-requires c =
    let load = c.args.load.now in
    let page = c.loop-page.page in
    let permissions = c.load_permissions-permissions.result in
    let some : 0 < load.memory_len = omega arith in
    let low : load.address / 4096 ≤ page = omega arith in
    let below : page < (load.address + load.memory_len - 1) / 4096 + 1 = omega arith in
    let room = walk_has_room load page permissions (memory_of c.args.space.now) (memory_of c.loop-page.space) some
    c.load_permissions-permissions.ensures low c.loop-page.invariant.0 below c.requires.room in
    only_memory (covered page permissions (memory_of c.loop-page.space)) c.in-Err.fault room c.in-Err.ensures.refused

pub loop-page-preserved : goal.loop-page-preserved
loop-page-preserved c =
    let load = c.args.load.now in
    let low : load.address / 4096 ≤ c.loop-page.page = omega arith in (
      walk_goes_on (load.address / 4096) c.loop-page.page c.load_permissions-permissions.result (memory_of c.args.space.now)
          (memory_of c.loop-page.space) (memory_of c.cover.new.self) low c.loop-page.invariant.0 c.in_default.ensures.covered.ok,
      c.cover.ensures.covered.snapshots ∙ c.loop-page.invariant.1,
    )

pub returns-then-memory_len-eq0 : goal.returns-then-memory_len-eq0
returns-then-memory_len-eq0 c = record {
  memory = covered_empty c.args.load.now (memory_of c.args.space.now) (omega arith);
  snapshots = refl;
}

pub returns : goal.returns
returns c =
    let load = c.args.load.now in
    let some : 0 < load.memory_len = omega arith in
    let last : c.loop-page.page ≡ (load.address + load.memory_len - 1) / 4096 + 1 = omega arith in
    record {
      memory = walk_ends load c.loop-page.page c.load_permissions-permissions.result (memory_of c.args.space.now)
          (memory_of c.loop-page.space) some c.load_permissions-permissions.ensures c.loop-page.invariant.0 last;
      snapshots = c.loop-page.invariant.1;
    }
