use Rattle.std.proofs.Common.{◌≡◌, ◌*◌, ◌^◌, ◌≤◌, take}
use Rattle.rrv_model.specs.CallRows.{total_len}
use Rattle.guest_buffers.proofs.lists.total_len.Given as goal

abbrev pub invariant-loop-buffer : goal.invariant-loop-buffer
invariant-loop-buffer l = (l.total ≡ total_len (take l.buffer-index l.buffers)) × (l.total ≤ l.buffer-index * 2 ^ 32)
