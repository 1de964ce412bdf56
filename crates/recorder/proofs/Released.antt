-- What the output that left is.
use Rattle.std.proofs.Common.{◌≡◌, ℕ, ◌+◌, ◌-◌, List, [], ◌++◌, length, take, sym, ap, ◌∙◌, subst, arith, length-append}
use Rattle.std.proofs.lemmas.List.{append-nil, take_all}
use Rattle.rrv_model.specs.declared.record.Record.{Record}
use Rattle.rrv_model.specs.Recording.{items_of}
use Rattle.commit_core.specs.Runs.{ItemsPut}
use Rattle.recorder.specs.Owed.{joined, left_of}
use Rattle.recorder.specs.Recorders.{OutputIsDurable, SettledHasPutAll, made}

pub output_is_durable : OutputIsDurable
output_is_durable r out low has =
    let size : length (made r) ≡ length r.seat.sent + length r.backlog = length-append r.seat.sent r.backlog in
    let h = has.each r.seat.seen (omega arith) (omega arith) in
    (h.0, h.1, (left_of r.owed r.seat.seen, h.2))

pub settled_has_put_all : SettledHasPutAll
settled_has_put_all r out settled has =
    let whole : made r ≡ r.seat.sent = ap (λ (l : List Record). r.seat.sent ++ l) settled.sent ∙ append-nil r.seat.sent in
    let e : length (made r) ≡ length r.seat.sent = ap length whole in
    let s = settled.seen in
    let q = settled.left in
    let h = has.each (length (made r)) (omega arith) (omega arith) in
    let none : length (made r) - r.owed.released ≡ 0 = omega arith in
    let left : left_of r.owed (length (made r)) ≡ [] = ap (λ (n : ℕ). joined (take n r.owed.owed)) none in (
      h.0,
      subst (λ (l : List Record). ItemsPut (items_of l) h.0) (take_all (length (made r)) (made r) (omega arith)) h.1,
      sym (append-nil out) ∙ ap (λ (l : List (ℕ × ℕ)). out ++ l) (sym left) ∙ h.2,
    )
