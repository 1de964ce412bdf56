-- What is put out of a verified recording.
use Rattle.std.specs.Prelude.{◌≡◌, ◌↔◌, ℕ, List, [], ◌++◌, take, Result, IfErr, OnErr, OnOk}
use Rattle.rrv_model.specs.declared.record.End.{End}
use Rattle.rrv_model.specs.declared.record.End.TheVariants.{Call}
use Rattle.rrv_model.specs.declared.record.Frame.{Frame}
use Rattle.rrv_model.specs.declared.record.Opening.{Opening}
use Rattle.rrv_model.specs.declared.sink.Sink.{Ghosts}
use Rattle.rrv_model.specs.State.{State}
use Rattle.faults.specs.declared.replay.OutputFault.{OutputFault}
use Rattle.faults.specs.declared.replay.OutputFault.TheVariants as faults
use Rattle.outcomes.specs.Failures.{HasFailed}
use Rattle.rrv_model.specs.Output.{Chunk, Output, PutFrom, spread}

-- all that the frames put out was taken
pub record PutsAll (o : Opening) (frames : List Frame) (before after : List (ℕ × ℕ)) : Type 0 where
  pub chunks : List Chunk
  pub is_output : Output o frames chunks
  pub took : after ≡ before ++ spread chunks

-- a beginning of it was
pub record PutsBeginning (o : Opening) (frames : List Frame) (before after : List (ℕ × ℕ)) : Type 0 where
  pub chunks : List Chunk
  pub is_output : Output o frames chunks
  pub count : ℕ
  pub took : after ≡ before ++ take count (spread chunks)

-- what a refusal tells of the sink's failures: there is one more where the sink refused, and else none
abbrev pub RefusesOutput : OutputFault → ℕ → ℕ → Type 0
RefusesOutput faults.SinkFailed old new = HasFailed old new
RefusesOutput faults.Memory old new = new ≡ old

-- what a type of sinks says of each of them
abbrev pub Sinking : Type 0 → Type 1
Sinking S = Ghosts S

-- all that frames put out goes to a sink, or at a refusal a beginning of it, and then the fault says why
pub record PutsOut {S : Type 0} (sink : Sinking S) (result : Result Unit OutputFault) (o : Opening) (frames : List Frame)
    (old new : S) : Type 0 where
  pub all : OnOk result (sink.tells old → PutsAll o frames (sink.taken old) (sink.taken new))
  pub part : OnErr result (sink.tells old → PutsBeginning o frames (sink.taken old) (sink.taken new))
  pub steady : OnOk result (sink.faults new ≡ sink.faults old)
  pub refused : IfErr result (λ e. RefusesOutput e (sink.faults old) (sink.faults new))
  pub tells : sink.tells new ↔ sink.tells old

-- just what was put out before these frames was taken
pub record PutsSoFar (o : Opening) (frames : List Frame) (s : State) (left : List Frame)
    (before after : List (ℕ × ℕ)) : Type 0 where
  pub done : List Chunk
  pub on : (rest : List Chunk) → PutFrom s left rest → Output o frames (done ++ rest)
  pub took : after ≡ before ++ spread done

-- of a frame that ends in a call, what is kept as put out; of another, nothing
abbrev pub chunks_by : End → List Chunk → List Chunk
chunks_by (Call r) kept = kept
chunks_by _ kept = []
