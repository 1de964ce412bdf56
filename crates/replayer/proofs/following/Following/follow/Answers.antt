use Rattle.std.proofs.Common.{[], refl, subst, sym}
use Rattle.std.proofs.lemmas.Result.{err_from_is_err_and}
use Rattle.replayer.specs.Following.{FollowingValue, IsBehind}
use Rattle.replayer.proofs.Behind.{reached_next, reached_refused}
use Rattle.replayer.proofs.following.Following.follow.Goals as goal

pub returns-in_err-follow_record-clause-refused : goal.returns-in_err-follow_record-clause-refused
returns-in_err-follow_record-clause-refused c =
    let p = err_from_is_err_and c.from_residual.result c.from_residual.ensures.1 in
    let refused = rw c.deref_mut.ensures.value at c.in_err-follow_record.ensures.refused in
    rw (p.1, p.2) (λ records h. reached_refused c.in_err-follow_record.field-0.0 records c.args.entry.now [] _
    (subst (λ (f : FollowingValue). IsBehind f records) (sym c.self.view_is) h) refused)

pub returns-clause-behind : goal.returns-clause-behind
returns-clause-behind c = λ records h.
    let counted = rw c.deref_mut.ensures.value at c.in_ok-follow_record.ensures.counted in
    let last = rw c.deref_mut.ensures.value at c.in_ok-follow_record.ensures.last in
    let leads = rw c.deref_mut.ensures.value at c.in_ok-follow_record.ensures.leads in
    let index_is = leads.index_is in
    reached_next records c.args.entry.now _ _ (subst (λ (f : FollowingValue). IsBehind f records) (sym c.self.view_is) h)
    (record { number = refl; len = rw index_is refl; total = counted; last = last; leads = leads })
