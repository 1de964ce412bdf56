use Rattle.std.proofs.Common.{◌≤◌, sym, subst}
use Rattle.rrv_model.specs.Memory.{Memory, page_count}
use Rattle.guest_opening.specs.Loading.{with_stack}
use Rattle.rrv_model.proofs.AcceptedFile.{is_accepted}
use Rattle.rrv_model.proofs.OpeningMemory.{bare_pages}
use Rattle.guest_opening.proofs.opening.open_space.Goals as goal

pub map_stack-requires : goal.map_stack-requires
map_stack-requires c =
    let accepted = is_accepted c.args.image.now c.in_ok-load_image.ensures.accepted in
    subst (λ (m : Memory). page_count (with_stack m) ≤ 16_384) (sym c.in_ok-load_image.ensures.memory)
    (bare_pages c.args.image.now accepted)
