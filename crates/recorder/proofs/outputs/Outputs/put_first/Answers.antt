use Rattle.std.proofs.Common.{◌≤◌, ◌+◌, ◌-◌, ◌++◌, ℕ, true, false, List, length, take, drop, ap, ◌∙◌, sym, subst}
use Rattle.rrv_model.specs.Output.{to_descriptor}
use Rattle.std.specs.VecDeque.{deque_len, deque_capacity}
use Rattle.recorder.specs.Owed.{Owed, owed_of}
use Rattle.recorder.proofs.Leaving.{some_waiting, first_whole, first_part, left_by}
use Rattle.recorder.proofs.Puts.{counts_put}
use Rattle.recorder.proofs.outputs.Outputs.put_first.Goals as goal

pub returns-then-all-clause-released : goal.returns-then-all-clause-released
returns-then-all-clause-released g c =
    let s = c.self.inside in
    let p = c.in-Some.first.now in
    let at = c.put_from-at.result.0 in
    let text = c.as_slice-bytes.ensures in
    let some : 1 ≤ length s.waiting.items =
    some_waiting s.offset s.waiting.items (subst (λ (o : Owed). 1 ≤ length o.owed) (sym c.self.view_is) c.requires) in
    let whole = c.put_from-at.ensures.all c.if-all.true ∙ ap length text in
    record {
      put = to_descriptor p.descriptor (take (at - s.offset) (drop s.offset p.bytes));
      takes = λ tells. c.put_from-at.ensures.put tells
          ∙ ap (λ (l : List ℕ). g.S.Sink.taken c.args.sink.now ++ to_descriptor p.descriptor (take (at - s.offset) (drop s.offset l))) text;
      still = c.put_from-at.ensures.tells;
      leaves = left_by c.args.self.now _
          (record {
            released = s.released + 1;
            owed = owed_of 0 c.pop_front.new.self.items;
            room = deque_capacity c.pop_front.new.self - deque_len c.pop_front.new.self;
          }) _ true _ c.self.view_is c.if-all.true
          (first_whole s.released s.offset at s.waiting.items c.pop_front.new.self.items p (deque_capacity s.waiting - deque_len s.waiting)
          (deque_capacity c.pop_front.new.self - deque_len c.pop_front.new.self) some c.in-Some.ensures.lookup whole
          c.pop_front.ensures.rest);
      counted = counts_put p.descriptor s.offset at p.bytes _ c.put_from-at.ensures.reached text;
    }

pub returns-else-all-clause-released : goal.returns-else-all-clause-released
returns-else-all-clause-released g c =
    let at = c.put_from-at.result.0 in
    let p = c.in-Some.first.now in
    let s = c.self.inside in
    let room : ℕ = deque_capacity s.waiting - deque_len s.waiting in
    let some : 1 ≤ length s.waiting.items =
    some_waiting s.offset s.waiting.items (subst (λ (o : Owed). 1 ≤ length o.owed) (sym c.self.view_is) c.requires) in
    record {
      put = to_descriptor p.descriptor (take (at - s.offset) (drop s.offset p.bytes));
      takes = λ tells. c.put_from-at.ensures.put tells
          ∙ ap (λ (l : List ℕ). g.S.Sink.taken c.args.sink.now ++ to_descriptor p.descriptor (take (at - s.offset) (drop s.offset l)))
          c.as_slice-bytes.ensures;
      still = c.put_from-at.ensures.tells;
      leaves = left_by c.args.self.now _ (record { released = s.released; owed = owed_of at s.waiting.items; room = room }) _ false _
          c.self.view_is c.if-all.false
          (first_part s.released s.offset at s.waiting.items p room room some c.in-Some.ensures.lookup c.put_from-at.ensures.reached.0);
      counted = counts_put p.descriptor s.offset at p.bytes _ c.put_from-at.ensures.reached c.as_slice-bytes.ensures;
    }
