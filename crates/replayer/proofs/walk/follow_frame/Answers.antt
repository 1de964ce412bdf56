use Rattle.std.proofs.Common.{rules, arith, [], ◌∷◌, ◌++◌, ap, sym, inl, ◌+◌, ◌∙◌}
use Rattle.std.proofs.lemmas.Bool.{false≢true}
use Rattle.std.proofs.lemmas.Result.{err_from_is_err_and}
use Rattle.guest_calls.specs.Guest.{state_of}
use Rattle.replayer.specs.declared.walk.Walk.{Walk}
use Rattle.replayer.proofs.walk.follow_frame.Goals.{then-walk+in_ok-copied_frame+in_ok-push, else-walk}
use Rattle.replayer.proofs.walk.follow_frame.Goals as goal

pub returns-clause-keeps : goal.returns-clause-keeps
returns-clause-keeps c = λ on. elim c.if-walk.branch [
  | then-walk+in_ok-copied_frame+in_ok-push w ↦ (
    ap (λ (x : Walk). x.frames.items) w.walk-is ∙ w.in_ok-push.ensures.items
        ∙ ap (λ f. c.args.walk.now.frames.items ++ f ∷ []) w.in_ok-copied_frame.ensures.copy,
    ap (λ (x : Walk). x.marks.items) w.walk-is ∙ search rules,
    ap (λ n. n + c.from.result) (ap (λ (x : Walk). x.total) w.walk-is) ∙ search (rules, arith),
  )
  | else-walk w ↦ absurd (false≢true (sym w.if-walk.false ∙ on))
]

-- the frame leads on, and it is to keep it that finds no memory
pub returns-in_err-copied_frame-clause-refused : goal.returns-in_err-copied_frame-clause-refused
returns-in_err-copied_frame-clause-refused c =
    let p = err_from_is_err_and c.from_residual.result c.from_residual.ensures.1 in
    rw (p.1, p.2, c.in_err-copied_frame.ensures.memory) (inl (state_of c.follow.new.self.guest, c.in-Ok.ensures.follows))

pub returns-in_err-push-clause-refused : goal.returns-in_err-push-clause-refused
returns-in_err-push-clause-refused c =
    let p = err_from_is_err_and c.from_residual-in_err-push.result c.from_residual-in_err-push.ensures.1 in
    rw (p.1, p.2) (inl (state_of c.follow.new.self.guest, c.in-Ok.ensures.follows))
