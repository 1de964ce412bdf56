use Rattle.std.proofs.Common.{refl, sym, ◌∙◌, ap, subst}
use Rattle.guest_threads.specs.Threads.{ThreadsValue, is_full, thread_map}
use Rattle.std.specs.FinMap.{len}
use Rattle.rrv_model.specs.State.{IsThread, live_threads}
use Rattle.rrv_model.proofs.ThreadRules.{moved, keeps_spawned, room_left}
use Rattle.guest_threads.proofs.threads.Threads.spawn.Goals as goal

pub invariant_of-self : goal.invariant_of-self
invariant_of-self c =
    let full = ap (λ (v : ThreadsValue). is_full v) c.self.view_is ∙ sym c.is_full.ensures ∙ c.if-is_full.false in
    let room = room_left (live_threads c.self.inside.version) (len (thread_map c.self.inside.threads.entries)) c.self.inside.next_tid
    full in
    moved c.in-Ok.ensures.added refl
    (keeps_spawned _ _ _ c.args.thread c.self.invariant room.0 room.1
    (subst (λ (v : ThreadsValue). IsThread v.version c.args.thread) (sym c.self.view_is) c.requires.fits) c.requires.runs)
