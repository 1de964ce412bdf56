use Rattle.std.proofs.Common.{arith}
use Rattle.guest_calls.proofs.Places.{place_within}
use Rattle.guest_calls.proofs.guest.Guest.free_place.Goals as goal

pub returns-clause-within : goal.returns-clause-within
returns-clause-within c = place_within _ c.args.pages c.saturating_sub.result c.highest_free.result (omega arith) c.highest_free.ensures
