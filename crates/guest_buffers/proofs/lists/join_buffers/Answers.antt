use Rattle.std.proofs.Common.{◌≡◌, ◌-◌, true, false, min, get_or, ◌∙◌, arith, refl, sym}
use Rattle.rrv_model.specs.Memory.{readable}
use Rattle.guest_pages.specs.Space.{memory_of}
use Rattle.guest_buffers.proofs.Buffers.{none_readable, none_joined, unreadable_at, readable_next, joined_next, len_next}
use Rattle.guest_buffers.proofs.lists.join_buffers.Goals as goal

pub loop-buffer-init : goal.loop-buffer-init
loop-buffer-init c = (
  none_readable (memory_of c.args.space.now) 65_536,
  c.new-bytes.ensures.items ∙ none_joined (memory_of c.args.space.now) 65_536,
  omega (arith, c.new-bytes.ensures.len),
)

pub returns-then-not-appended-clause-bytes : goal.returns-then-not-appended-clause-bytes
returns-then-not-appended-clause-bytes c =
    let m = memory_of c.args.space.now in
    let b = get_or c.args.buffers.now c.loop-buffer.buffer-index (0, 0) in
    let count = c.min-count.result in
    let refused : readable m b.0 count ≡ false = sym c.in_ok-appended.ensures.readable ∙ c.if-not-appended.true in
    let cut : count ≡ min b.1 (65_536 - c.len.result) = c.min-count.ensures in
    unreadable_at m c.args.buffers.now c.loop-buffer.buffer-index (0, 0) b.0 count c.len.result
    c.loop-buffer-test.true refl cut (c.len.ensures ∙ c.loop-buffer.invariant.2) refused

pub loop-buffer-preserved : goal.loop-buffer-preserved
loop-buffer-preserved c =
    let m = memory_of c.args.space.now in
    let bs = c.args.buffers.now in
    let i = c.loop-buffer.buffer-index in
    let b = get_or bs i (0, 0) in
    let count = c.min-count.result in
    let len = c.len.result in
    let passed : readable m b.0 count ≡ true = sym c.in_ok-appended.ensures.readable ∙ c.if-not-appended.false in
    let cut : count ≡ min b.1 (65_536 - len) = c.min-count.ensures in
    let so_far = c.len.ensures ∙ c.loop-buffer.invariant.2 in (
      readable_next m bs i (0, 0) b.0 count len c.loop-buffer-test.true refl cut so_far passed c.loop-buffer.invariant.0,
      joined_next m bs i (0, 0) b.0 count len c.loop-buffer-test.true refl cut so_far c.loop-buffer.bytes.items c.append.new.bytes.items
          c.loop-buffer.invariant.1 (c.in_ok-appended.ensures.bytes c.if-not-appended.false),
      len_next m bs i (0, 0) b.0 count len c.loop-buffer-test.true refl cut so_far c.append.new.bytes.len
          (omega (arith, c.in_ok-appended.ensures.count c.if-not-appended.false, c.len.ensures)),
    )
