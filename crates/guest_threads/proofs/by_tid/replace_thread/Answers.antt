use Rattle.std.proofs.Common.{◌≡◌, Option, None, IsSome, sym, ap, ◌∙◌, subst}
use Rattle.std.proofs.lemmas.Bool.{false≢true}
use Rattle.std.specs.Option.{option_copied_mut}
use Rattle.rrv_model.specs.declared.machine.Thread.{Thread}
use Rattle.guest_threads.proofs.ByTid.{get_thread, one_set}
use Rattle.guest_threads.proofs.by_tid.replace_thread.Goals as goal

none_is_none : (o : Option Thread) → None ≡ o → IsSome o → ⊥
none_is_none o e h = false≢true (subst (λ (o : Option Thread). IsSome o) (sym e) h)

pub returns-in-Some : goal.returns-in-Some
returns-in-Some c =
    let there = subst (λ (o : Option Thread). IsSome o) (get_thread c.args.threads.now.entries c.args.tid) c.requires in
    one_set c.args.threads.now.entries _ c.args.tid c.args.thread ((c.get_mut.follows.holds c.args.thread).3 there).0

pub returns-in_default : goal.returns-in_default
returns-in_default c =
    let there = subst (λ (o : Option Thread). IsSome o) (get_thread c.args.threads.now.entries c.args.tid) c.requires in
    absurd (none_is_none _ (ap option_copied_mut (sym c.in_default.is) ∙ c.get_mut.ensures.value) there)
