use Rattle.std.proofs.Common.{◌<◌, All, subst}
use Rattle.rrv_model.proofs.OpeningState.{is_opening_state}
use Rattle.guest_opening.proofs.opening.opening_keeps_rules.Goals as goal

pub returns : goal.returns
returns c =
    let file = subst (All (λ b. b < 256)) c.elf.ensures.value c.has_bytes.ensures in
    is_opening_state c.args.version c.args.image.now c.args.name.now c.args.random.now c.elf.ensures.accepted file c.requires
    c.has_bytes-2.ensures
