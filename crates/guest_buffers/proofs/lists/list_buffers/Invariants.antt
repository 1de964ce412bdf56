use Rattle.std.proofs.Common.{◌≡◌, vec_len}
use Rattle.rrv_model.specs.CallRows.{buffers_at}
use Rattle.guest_pages.specs.Space.{memory_of}
use Rattle.guest_buffers.proofs.lists.list_buffers.Given as goal

abbrev pub invariant-loop-place : goal.invariant-loop-place
invariant-loop-place l = (l.buffers.items ≡ buffers_at (memory_of l.space) l.address l.place) × (vec_len l.buffers ≡ l.place)
