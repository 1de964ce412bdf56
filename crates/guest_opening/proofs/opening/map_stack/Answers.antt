use Rattle.std.proofs.Common.{subst}
use Rattle.std.specs.Prelude.{IfErr}
use Rattle.guest_pages.specs.Space.{memory_of}
use Rattle.guest_pages.specs.Mapping.{IsMapRefusal}
use Rattle.guest_opening.specs.Loading.{with_stack}
use Rattle.guest_opening.proofs.PageWalk.{only_memory}
use Rattle.guest_opening.proofs.opening.map_stack.Goals as goal

pub map_err-requires : goal.map_err-requires
map_err-requires c e is =
    let m = with_stack (memory_of c.args.space.now) in
    only_memory m e c.requires (subst (λ r. IfErr r (IsMapRefusal m)) is c.map.ensures.refused)
