use Rattle.std.proofs.Common.{◌≡◌, ◌<◌, ◌∙◌, ap, arith, Bool, List, ℕ, cond, length, nat_lt, vec_len, vec_capacity}
use Rattle.std.specs.List.{insert, count_by}
use Rattle.recorder.specs.Deadlines.{without}
use Rattle.recorder.proofs.DeadlineLists.{one_more, place_is_within, put_is_insert}
use Rattle.recorder.proofs.deadlines.put_among.Goals as goal

pub insert-requires : goal.insert-requires
insert-requires c =
    let d = c.args.deadlines.now.items in
    let place : c.count_below-place.result ≡ count_by (λ d. nat_lt d.0 c.args.tid) d =
    c.count_below-place.ensures ∙ ap (λ (l : List (ℕ × ℕ)). count_by (λ d. nat_lt d.0 c.args.tid) l) c.deref.ensures.value in
    omega (
      arith,
      place,
      place_is_within c.args.tid d c.requires.rising,
      ap (λ (l : List (ℕ × ℕ)). length l) c.take_out.ensures.items,
      c.take_out.new.deadlines.ok.0,
    )

-- there is room, so that it is taken
is_room : (c : goal.After-insert) → vec_len c.take_out.new.deadlines < vec_capacity c.take_out.new.deadlines
is_room c =
    let d = c.args.deadlines.now.items in
    omega (
      arith,
      one_more c.args.tid c.args.at d c.requires.rising,
      c.requires.room,
      c.take_out.ensures.capacity,
      ap (λ (l : List (ℕ × ℕ)). length l) c.take_out.ensures.items,
      c.take_out.new.deadlines.ok.0,
    )

pub returns-clause-items : goal.returns-clause-items
returns-clause-items c =
    let d = c.args.deadlines.now.items in
    let place : c.count_below-place.result ≡ count_by (λ d. nat_lt d.0 c.args.tid) d =
    c.count_below-place.ensures ∙ ap (λ (l : List (ℕ × ℕ)). count_by (λ d. nat_lt d.0 c.args.tid) l) c.deref.ensures.value in
    c.insert.ensures.items
    ∙ ap (λ (b : Bool). cond b (insert c.take_out.new.deadlines.items c.count_below-place.result (c.args.tid, c.args.at))
    c.take_out.new.deadlines.items) (c.insert.ensures.succeeds (is_room c))
    ∙ ap (λ (l : List (ℕ × ℕ)). insert l c.count_below-place.result (c.args.tid, c.args.at)) c.take_out.ensures.items
    ∙ ap (λ (n : ℕ). insert (without c.args.tid d) n (c.args.tid, c.args.at)) place
    ∙ put_is_insert c.args.tid c.args.at d c.requires.rising

pub returns-clause-capacity : goal.returns-clause-capacity
returns-clause-capacity c = (c.insert.ensures.in_place (is_room c)).1.0 ∙ c.take_out.ensures.capacity
