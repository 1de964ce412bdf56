-- What a recorded guest puts out.
use Rattle.std.specs.Prelude.{◌≡◌, ℕ, ◌-◌, nat_le, ◌&&◌, if◌then◌else◌, List, [], ◌∷◌, ◌++◌, flat_map, map, Option}
use Rattle.std.specs.Prelude.{Some, None, MatchOption}
use Rattle.rrv_model.specs.declared.machine.Thread.{Thread}
use Rattle.rrv_model.specs.declared.record.End.{End}
use Rattle.rrv_model.specs.declared.record.Frame.{Frame}
use Rattle.rrv_model.specs.declared.record.Opening.{Opening}
use Rattle.rrv_model.specs.declared.syscall.Syscall.{Syscall}
use Rattle.rrv_model.specs.declared.syscall.Syscall.TheVariants.{Write, Writev}
use Rattle.rrv_model.specs.declared.limits.TheConstants.{MAX_TRANSFER}
use Rattle.rrv_model.specs.Memory.{Memory, bytes_at}
use Rattle.rrv_model.specs.State.{State, thread_at, register}
use Rattle.rrv_model.specs.CallRows.{argument, buffers_at, clipped, syscall_of}
use Rattle.rrv_model.specs.Ends.{call_in}
use Rattle.rrv_model.specs.FrameStep.{Steps, FrameStep}
use Rattle.rrv_model.specs.Opening.{Opens}

-- bytes that go to a descriptor
pub record Chunk : Type 0 where
  pub descriptor : ℕ
  pub bytes : List ℕ

-- bytes, each with the descriptor that it goes to
abbrev pub to_descriptor : ℕ → List ℕ → List (ℕ × ℕ)
to_descriptor descriptor bytes = map (λ b. (descriptor, b)) bytes

-- chunks, byte by byte
abbrev pub spread : List Chunk → List (ℕ × ℕ)
spread chunks = flat_map (λ c. to_descriptor c.descriptor c.bytes) chunks

-- the bytes that a call moved: none where it moved no byte, or failed
abbrev pub moved : (descriptor count : ℕ) → List ℕ → List Chunk
moved descriptor count bytes =
    if nat_le 1 count && nat_le count MAX_TRANSFER then record { descriptor = descriptor; bytes = bytes } ∷ [] else []

-- what a call with this result puts out: the first bytes of its buffers
abbrev pub puts : Syscall → Memory → Thread → ℕ → List Chunk
puts Write m t count = moved (argument t 0) count (bytes_at m (argument t 1) count)
puts Writev m t count =
    let buffers = clipped count (buffers_at m (argument t 1) (argument t 2)) in
    moved (argument t 0) count (flat_map (λ b. bytes_at m b.0 b.1) buffers)
puts _ m t count = []

-- so of the call that a thread is about to make
abbrev pub put_out : Memory → Thread → ℕ → List Chunk
put_out m t count = puts (syscall_of (register t.regs 17)) m t count

abbrev pub put_out_by : Option Thread → Memory → ℕ → List Chunk
put_out_by None m count = []
put_out_by (Some t) m count = put_out m t count

-- what the call behind so many instructions puts out, with this result: the bytes before its ECALL
abbrev pub CallPutsAt : State → ℕ → ℕ → ℕ → List Chunk → Type 0
CallPutsAt s tid count result chunks =
    (before : State) × Steps (count - 1) tid s before
    × (chunks ≡ put_out_by (thread_at before tid) before.memory result)

-- what a frame from s on puts out: what its call does, if it ends in one
abbrev pub FramePuts : State → Frame → End → List Chunk → Type 0
FramePuts s f end chunks = MatchOption (call_in end) (chunks ≡ []) (λ r. CallPutsAt s f.tid f.count r.result chunks)

-- what the frames from s on put out, in order
abbrev pub PutFrom : State → List Frame → List Chunk → Type 0
PutFrom s [] chunks = chunks ≡ []
PutFrom s (f ∷ frames) chunks =
    (mid : State) × (first rest : List Chunk) × FrameStep s f mid × FramePuts s f f.end first
    × PutFrom mid frames rest × (chunks ≡ first ++ rest)

abbrev pub Output : Opening → List Frame → List Chunk → Type 0
Output o frames chunks = (s : State) × Opens o s × PutFrom s frames chunks
