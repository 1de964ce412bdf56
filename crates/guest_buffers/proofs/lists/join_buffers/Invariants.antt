use Rattle.std.proofs.Common.{◌≡◌, true, min, take, vec_len}
use Rattle.rrv_model.specs.CallRows.{all_readable, clipped, total_len}
use Rattle.guest_buffers.specs.Buffers.{joined}
use Rattle.guest_pages.specs.Space.{memory_of}
use Rattle.guest_buffers.proofs.lists.join_buffers.Given as goal

abbrev pub invariant-loop-buffer : goal.invariant-loop-buffer
invariant-loop-buffer l =
    (all_readable (memory_of l.space) (clipped 65_536 (take l.buffer-index l.buffers)) ≡ true)
    × (l.bytes.items ≡ joined (memory_of l.space) (clipped 65_536 (take l.buffer-index l.buffers)))
    × (vec_len l.bytes ≡ min (total_len (take l.buffer-index l.buffers)) 65_536)
