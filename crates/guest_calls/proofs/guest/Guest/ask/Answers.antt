use Rattle.std.proofs.Common.{◌≡◌, ◌∙◌, ℕ, ◌≤◌, true, List, length, ap, subst, arith}
use Rattle.rrv_model.specs.Memory.{writable}
use Rattle.guest_calls.specs.Guest.{state_of}
use Rattle.guest_calls.specs.Requests.{Takes, asking_row, requested_row, IsClockOf, IsRequest, IsRequested, NamesClock}
use Rattle.guest_calls.proofs.Inquiries.{answered_as, at_room, fill_within, is_asked, kept_then, leaves_range, taken_within, was_answered}
use Rattle.guest_calls.proofs.guest.Guest.ask.Goals as goal

pub write_answer-requires : goal.write_answer-requires
write_answer-requires g c =
    let within : length c.take-value.new.self.bytes.items ≤ length c.in_ok-room.room.bytes.items =
    taken_within g.O.Outside.gives c.in-Ok.request.wanted (length c.in_ok-room.room.bytes.items) c.take-value.result
    c.take-value.new.self.bytes.items c.args.outside.now c.take-value.new.outside c.take-value.ensures in
    fill_within c.make_room.new.self.space c.in-Ok.request.address c.in-Ok.request.count (length c.take-value.new.self.bytes.items)
    c.in_ok-room.ensures.ready (omega (arith, within, c.in_ok-room.ensures.bytes))

pub returns : goal.returns
returns g c t named =
    let q = c.in-Ok.request in
    let s = state_of c.args.self.now in
    let value = c.take-value.result in
    let bytes : List ℕ = c.take-value.new.self.bytes.items in
    let taken : Takes g.O.Outside.gives q.wanted q.count value bytes c.args.outside.now c.take-value.new.outside =
    subst (λ n. Takes g.O.Outside.gives q.wanted n value bytes c.args.outside.now c.take-value.new.outside) c.in_ok-room.ensures.bytes
    c.take-value.ensures in
    let within : length bytes ≤ q.count =
    taken_within g.O.Outside.gives q.wanted q.count value bytes c.args.outside.now c.take-value.new.outside taken in
    let request : IsRequest q = subst IsRequested c.in-Ok.is c.requires in
    let clock : IsClockOf t q.wanted = subst (NamesClock t) c.in-Ok.is named in
    let free : writable s.memory q.address q.count ≡ true = grind arith in
    let row_is : requested_row s c.args.requested ≡ asking_row q.wanted q.address q.count =
    ap (requested_row s) c.in-Ok.is ∙ is_asked s q c.if-request-eq0.false free in
    was_answered q.wanted q.address q.count row_is
    (answered_as g.O.Outside.gives t q.address q.count value bytes c.write_answer.result c.args.outside.now c.take-value.new.outside
    q.wanted clock c.write_answer.ensures.record c.write_answer.ensures.bytes taken)
    (leaves_range c.args.tid value q.address bytes s (state_of c.write_answer.new.self) c.write_answer.result c.write_answer.ensures.record
    (at_room c.args.tid value q.address bytes s _ (state_of c.write_answer.new.self) c.in_ok-room.ensures.stays.state
    c.write_answer.ensures.state))
    (c.write_answer.ensures.text (omega (arith, within, request.most))) c.write_answer.ensures.puts
    (kept_then _ _ _ c.make_room.ensures.stays.keeps c.write_answer.ensures.keeps)
