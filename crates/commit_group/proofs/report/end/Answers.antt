use Rattle.std.proofs.Common.{◌≡◌, ◌++◌, ◌<◌, ◌≤◌, ℕ, length, arith, refl, sym, ap, ◌∙◌, subst}
use Rattle.std.specs.Prelude.{slice_index}
use Rattle.std.proofs.lemmas.Option.{slice_get_within}
use Rattle.std.specs.List.{AllByRecursion}
use Rattle.crossbeam_queue.specs.Passes.{view}
use Rattle.commit_group.specs.Numbers.{base, IsPlaced}
use Rattle.commit_group.specs.Queue.{received_of}
use Rattle.commit_group.specs.Reports.{HasEnded}
use Rattle.commit_group.specs.Seats.{FlusherValue}
use Rattle.commit_group.specs.Words.{flusher_of}
use Rattle.commit_group.proofs.Ends.{ended, counts_past}
use Rattle.commit_group.proofs.Received.{own}
use Rattle.commit_group.proofs.report.end.Goals as goal

pub returns-clause-each : goal.returns-clause-each
returns-clause-each c k r e =
    let i = c.flusher.invariant in
    let f = c.flusher.inside in
    let is = (c.requires.of_group k r e).1 in
    let few = f.group.value.some.1 in
    let low : k < length c.args.recorders.items = slice_get_within c.args.recorders.items k r e in
    let guests : c.args.flusher.group.guests ≡ f.group.value.guests = ap (λ (x : FlusherValue). x.group.guests) (sym c.flusher.view_is) in
    let here : k < f.group.value.guests = let n = c.requires.count in omega arith in
    let here' : k < 16 = omega arith in
    let count = i.counted r.guest (subst (λ (q : ℕ). q < 16) (sym is) here') in
    let told = i.told r.guest (subst (λ (q : ℕ). q < f.group.value.guests) (sym is) here) in
    let at : slice_index f.counts r.guest ≡ slice_index f.counts k = ap (λ (q : ℕ). slice_index f.counts q) is in
    subst (λ (x : FlusherValue). HasEnded x (slice_index c.join_all.result.0 k) (slice_index f.counts k) (slice_index c.join_all.result.1 k)
    r) c.flusher.view_is
    (ended _ (received_of (view f.pass)) (flusher_of f.seat.me.0) _ _ _ r i.parts (sym at ∙ count)
    (subst (λ (q : ℕ). slice_index (flusher_of f.seat.me.0).told r.guest ≤ q) at told)
    refl i.halt refl (c.join_all.ensures.joined k r e))

pub returns-clause-zeros : goal.returns-clause-zeros
returns-clause-zeros c k le =
    let f = c.flusher.inside in
    let guests : c.args.flusher.group.guests ≡ f.group.value.guests = ap (λ (x : FlusherValue). x.group.guests) (sym c.flusher.view_is) in
    let past : f.group.value.guests ≤ k = omega arith in
    let n = c.requires.count in
    let z = c.join_all.ensures.zeros k (omega arith) in
    (z.0, counts_past _ _ _ _ _ _ _ c.flusher.invariant (omega arith) k past, z.1)

pub returns-clause-placed : goal.returns-clause-placed
returns-clause-placed c =
    let f = c.flusher.inside in
    subst (λ (x : FlusherValue). AllByRecursion (IsPlaced (base x.first_guest) x.group.guests) (x.committed ++ x.waiting)) c.flusher.view_is
    (own _ f.pass f.seat f.waiting.items f.counts f.first_guest f.halted c.flusher.invariant).each
