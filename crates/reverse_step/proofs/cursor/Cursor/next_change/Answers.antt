use Rattle.std.proofs.Common.{◌≡◌, ◌∙◌, ◌+◌, Option, ℕ, ap, subst}
use Rattle.rrv_model.specs.StateAt.{total}
use Rattle.replayer.specs.Verified.{VerifiedValue}
use Rattle.reverse_step.specs.Changes.{IsFirstIn, IsNextChange}
use Rattle.reverse_step.specs.Cursors.{CursorValue}
use Rattle.reverse_step.proofs.cursor.Cursor.next_change.Goals as goal

-- the first change behind a place, told of the cursor's recording and place
next_told : (v v' : VerifiedValue) (a at place end : ℕ) (found found' : Option ℕ) → v ≡ v' → at ≡ place → end ≡ total v.frames →
    found ≡ found' → IsFirstIn v.opening v.frames a (at + 1) end found → IsNextChange v'.opening v'.frames a place found'
next_told v v' a at place end found found' same here all is first =
    subst (λ (w : VerifiedValue). IsNextChange w.opening w.frames a place found') same
    (subst (λ (n : ℕ). IsFirstIn v.opening v.frames a (n + 1) (total v.frames) found') here
    (subst (λ (n : ℕ). IsFirstIn v.opening v.frames a (at + 1) n found') all
    (subst (λ (f : Option ℕ). IsFirstIn v.opening v.frames a (at + 1) end f) is first)))

pub returns-in_ok-self-inside-in-Some-clause-change : goal.returns-in_ok-self-inside-in-Some-clause-change
returns-in_ok-self-inside-in-Some-clause-change g c =
    next_told c.verified-verified.result.now c.args.self.now.verified c.args.address c.at-at.result c.args.self.now.place
    c.total-end.result _ _
    (c.verified-verified.ensures ∙ ap (λ (v : CursorValue). v.verified) c.self.view_is)
    (c.at-at.ensures.at ∙ ap (λ (v : CursorValue). v.place) c.self.view_is) c.total-end.ensures c.in-Some.is c.in_ok-found.ensures

pub returns-in-None-clause-change : goal.returns-in-None-clause-change
returns-in-None-clause-change g c =
    next_told c.verified-verified.result.now c.args.self.now.verified c.args.address c.at-at.result c.args.self.now.place
    c.total-end.result _ _
    (c.verified-verified.ensures ∙ ap (λ (v : CursorValue). v.verified) c.self.view_is)
    (c.at-at.ensures.at ∙ ap (λ (v : CursorValue). v.place) c.self.view_is) c.total-end.ensures c.in-None.is c.in_ok-found.ensures
