use Rattle.std.proofs.Common.{◌↔◌, IsTrue, ap, subst}
use Rattle.guest_threads.specs.Threads.{ThreadsValue}
use Rattle.guest_calls.specs.Guest.{GuestValue}
use Rattle.guest_calls.proofs.ThreadParts.{AreSameParts, same_parts}
use Rattle.guest_calls.proofs.guest.Guest.same_threads.Goals as goal

pub returns : goal.returns
returns c =
    let a = c.self.inside.threads in
    let b = c.other.inside.threads in
    subst (λ (v : ThreadsValue). IsTrue c.same.result ↔ AreSameParts v c.args.other.now.threads)
    (ap (λ (g : GuestValue). g.threads) c.self.view_is)
    (subst (λ (w : ThreadsValue). IsTrue c.same.result ↔ AreSameParts a w) (ap (λ (g : GuestValue). g.threads) c.other.view_is)
    (λ t. (same_parts a b).0 (c.same.ensures.0 t), λ p. c.same.ensures.1 ((same_parts a b).1 p)))
