-- What a disk in memory stands for.
use Rattle.std.specs.Prelude.{◌≡◌, ◌≤◌, ℕ, ◌+◌, length, vec_len, vec_capacity, Result, IsOk, OnErr, OnOk}
use Rattle.store_model.specs.CrashModel.{DiskState}
use Rattle.trace_disk.specs.declared.mem_disk.MemDisk.{MemDisk}

abbrev pub memory_state : MemDisk → DiskState
memory_state disk = disk.history.state

abbrev pub memory_size : MemDisk → ℕ
memory_size disk = length disk.content.items

abbrev pub memory_failures : MemDisk → ℕ
memory_failures disk = disk.failures

-- Room for so many bytes in writes and so many calls: within it no call takes memory.
pub record HasRoom (disk : MemDisk) (bytes calls : ℕ) : Type 0 where
  pub ranges_fit : vec_len disk.touched + calls ≤ vec_capacity disk.touched
  pub content_fits : vec_len disk.content + bytes ≤ vec_capacity disk.content

-- One call, which writes so many bytes: at an `Ok` the disk has this state, and at an `Err` the one that it had. Within
-- its room it doesn't fail, and takes of the room; where it fails it leaves the room.
pub record IsMemoryCall {T E : Type 0} (old new : MemDisk) (result : Result T E) (after : DiskState) (bytes : ℕ)
    : Type 0 where
  pub done : OnOk result (memory_state new ≡ after)
  pub err : OnErr result (memory_state new ≡ memory_state old)
  pub room : (b c : ℕ) → HasRoom old (bytes + b) (1 + c) → IsOk result
  pub room_left : (b c : ℕ) → HasRoom old (bytes + b) (1 + c) → HasRoom new b c
  pub room_err : (b c : ℕ) → HasRoom old b c → OnErr result (HasRoom new b c)
