-- What the calls of a guest's recorder do.
use Rattle.std.specs.Prelude.{◌≡◌, ◌≢◌, ◌↔◌, ◌⊎◌, ℕ, ◌+◌, ◌<◌, ◌≤◌, true, false, IsSome, IfErr, MatchOption, Result, List, [], ◌∷◌, ◌++◌, flat_map, length, map, Option, None, Some}
use Rattle.std.specs.Option.{unwrap_or}
use Rattle.std.specs.List.{AllByRecursion}
use Rattle.rrv_model.specs.declared.limits.TheConstants.{MAX_NUMBER}
use Rattle.rrv_model.specs.declared.record.Choice.{Choice}
use Rattle.rrv_model.specs.declared.machine.Timeout.{Timeout}
use Rattle.rrv_model.specs.declared.record.End.{End}
use Rattle.rrv_model.specs.declared.record.End.TheVariants.{Expire}
use Rattle.rrv_model.specs.declared.record.Frame.{Frame}
use Rattle.rrv_model.specs.declared.record.CheckpointRest.{CheckpointRest}
use Rattle.rrv_model.specs.declared.record.Item.{Item}
use Rattle.rrv_model.specs.declared.record.Item.TheVariants as items
use Rattle.rrv_model.specs.declared.record.Part.{Part}
use Rattle.rrv_model.specs.declared.record.Record.{Record}
use Rattle.rrv_model.specs.Calls.{Time}
use Rattle.rrv_model.specs.Checkpoint.{EndsWithRest, all_pages}
use Rattle.recorder.specs.declared.checkpoints.Parts.{Parts}
use Rattle.recorder.specs.declared.checkpoints.Parts.TheVariants as outcomes
use Rattle.recorder.specs.Checkpoints.{IsDue}
use Rattle.recorder.specs.Gaps.{gap_behind}
use Rattle.rrv_model.specs.declared.record.Opening.{Opening}
use Rattle.outcomes.specs.Failures.{HasFailed}
use Rattle.rrv_model.specs.Ends.{call_in}
use Rattle.rrv_model.specs.Output.{Chunk, FramePuts, spread}
use Rattle.rrv_model.specs.Standing.{StandsBehind}
use Rattle.rrv_model.specs.Recording.{frame_record, items_of}
use Rattle.rrv_model.specs.RecordText.{HasText}
use Rattle.rrv_model.specs.Recovered.{OpensAtZero}
use Rattle.rrv_model.specs.State.{State, thread_at, IsRunning}
use Rattle.rrv_model.specs.Memory.{page_count}
use Rattle.rrv_model.specs.Step.{ThreadMayTakeMemory}
use Rattle.guest_calls.specs.declared.put.Put.{Put}
use Rattle.guest_calls.specs.Asking.{Clock}
use Rattle.guest_calls.specs.Guest.{GuestValue, chunks_of, state_of}
use Rattle.guest_calls.specs.Openings as guests
use Rattle.guest_calls.specs.declared.fault.OpeningFault.TheVariants as opening_faults
use Rattle.checkpoint.specs.Made.{NamesChanges}
use Rattle.serial_sched.specs.declared.fault.SliceFault.{SliceFault}
use Rattle.serial_sched.specs.declared.fault.SliceFault.TheVariants as slice_faults
use Rattle.serial_sched.specs.Asking.{Gives}
use Rattle.serial_sched.specs.Slices.{IsAsleep, IsFrameOf, IsLive, IsQuantum, IsSliceOf, NextMayGrow}
use Rattle.commit_group.specs.Seats.{RecorderValue, next_record}
use Rattle.commit_group.specs.Submits.{after_look}
use Rattle.recorder.specs.declared.fault.RecorderFault.{RecorderFault}
use Rattle.recorder.specs.declared.fault.RecorderFault.TheVariants as faults
use Rattle.recorder.specs.Deadlines as timed
use Rattle.recorder.specs.Owed.{bytes_of, count_of}
use Rattle.recorder.specs.Recorders.{GuestRecorder, HasPut, backlog_of, made, records_from}

-- ---- new

-- why there is no recorder: no guest starts so, or there was no memory; a bad name takes none, nor does a file past its limit
abbrev pub RefusesOpening : Opening → RecorderFault → Type 0
RefusesOpening o faults.BadOpening = guests.RefusesOpening opening_faults.BadOpening o
RefusesOpening o faults.Memory = guests.RefusesOpening opening_faults.Memory o
RefusesOpening o _ = ⊥

-- ---- step

-- why a slice is refused
abbrev pub RefusesSlice : State → Choice → SliceFault → Type 0
RefusesSlice s choice slice_faults.Ended = IsSome s.ended
RefusesSlice s choice slice_faults.BadQuantum = IsLive s × ¬ IsQuantum choice.quantum
RefusesSlice s choice slice_faults.NotRunnable =
    IsLive s × IsQuantum choice.quantum × ¬ IsRunning (thread_at s choice.tid)
RefusesSlice s choice slice_faults.Waiting = IsAsleep s
RefusesSlice s choice slice_faults.NotTimed = ⊥
RefusesSlice s choice slice_faults.Memory = ThreadMayTakeMemory s choice.tid × NextMayGrow s choice.tid

-- no slice of this choice would be refused but for memory
abbrev pub MaySlice : State → Choice → Type 0
MaySlice s choice = (fault : SliceFault) → fault ≢ slice_faults.Memory → ¬ RefusesSlice s choice fault

-- a frame's output: what its call kept, else nothing
abbrev pub PutIs : End → Option Put → Put → Type 0
PutIs end kept put =
    (call_in end ≡ None → bytes_of put ≡ []) × (call_in end ≢ None → bytes_of put ≡ spread (chunks_of kept))

-- a frame from s on puts these bytes out
pub record PutsOut (s : State) (f : Frame) (put : Put) : Type 0 where
  pub chunks : List Chunk
  pub puts : FramePuts s f f.end chunks
  pub bytes : spread chunks ≡ bytes_of put

-- the frame is the slice of this choice, and what its call put out isn't kept in the guest
pub record Slices {O : Type 0} (gives : Gives O) (old : GuestValue) (choice : Choice) (f : Frame) (new : GuestValue)
    (before after : O) : Type 0 where
  pub kept : Option Put
  pub slice : IsSliceOf gives old choice f (record new { put = kept }) before after

-- ---- step: deadlines

-- the monotonic clock was asked once, and gave this, in nanoseconds
pub record AsksMoment {O : Type 0} (gives : Gives O) (asked : Option ℕ) (before after : O) : Type 0 where
  pub seconds : ℕ
  pub nanoseconds : ℕ
  pub given : gives before (Clock 1) (Time seconds nanoseconds) after
  pub asked_is : asked ≡ Some (timed.moment_of seconds nanoseconds)

-- before a slice a recorder asks the monotonic clock once, where some wait is timed, and not else
abbrev pub AsksNow : {O : Type 0} → Gives O → List (ℕ × ℕ) → Option ℕ → O → O → Type 0
AsksNow gives [] asked before between = (asked ≡ None) × (between ≡ before)
AsksNow gives (d ∷ ds) asked before between = AsksMoment gives asked before between

-- the clock was asked where some wait is timed, and its answer noted; this thread has come due, or none
pub record FindsDue {O : Type 0} (gives : Gives O) (ds : List (ℕ × ℕ)) (clock : ℕ) (found : Option ℕ) (clock' : ℕ)
    (before after : O) : Type 0 where
  pub asked : Option ℕ
  pub asks : AsksNow gives ds asked before after
  pub found_is : found ≡ timed.due ds asked
  pub clock_is : clock' ≡ unwrap_or asked clock

-- the frame is an expiry of this thread's wait; nobody is asked by it
pub record ExpiresNow (old : GuestValue) (tid : ℕ) (f : Frame) (new : GuestValue) : Type 0 where
  pub expiry : f ≡ record { tid = tid; count = 0; end = Expire }
  pub is_frame : IsFrameOf old f new

-- the frame is an expiry of the thread that is due; else it is the slice of this choice
abbrev pub IsStep : {O : Type 0} → Gives O → GuestValue → Choice → Frame → GuestValue → Option ℕ → O → O → Type 0
IsStep gives old choice f new (Some tid) before after = ExpiresNow old tid f new × (after ≡ before)
IsStep gives old choice f new None before after = Slices gives old choice f new before after

-- The timeout with which a frame's thread waits behind it. Before the frame it ran, or the frame is the expiry of its wait, so
-- that it began this wait by the frame.
abbrev pub began : ℕ → State → Option Timeout
began tid s = timed.timeout_of (thread_at s tid)

-- Behind a frame by which a thread began a timed wait the clock is asked again, and its deadline is that answer plus its
-- timeout. The others are as before, but for those of waits that are over.
abbrev pub Notes : {O : Type 0} → Gives O → ℕ → State → List (ℕ × ℕ) → ℕ → List (ℕ × ℕ) → ℕ → O → O → Type 0
Notes gives tid s old clock new clock' before after = MatchOption (began tid s)
    ((new ≡ timed.kept s old) × (clock' ≡ clock) × (after ≡ before))
    (λ timeout. AsksMoment gives (Some clock') before after
    × (new ≡ timed.put tid (clock' + timed.length_of timeout) (timed.kept s old)))

-- checkpoints are as far apart, and the last is the same
abbrev pub KeepsCheckpoints : GuestRecorder → GuestRecorder → Type 0
KeepsCheckpoints old new = (new.every ≡ old.every) × (new.gap ≡ old.gap) × (new.last ≡ old.last)

-- the deadlines are the same, and the last answer of the clock
abbrev pub KeepsDeadlines : GuestRecorder → GuestRecorder → Type 0
KeepsDeadlines old new = (new.deadlines ≡ old.deadlines) × (new.clock ≡ old.clock)

-- One frame more was made: the expiry of a wait that is over, or the slice of this choice. What had left is all the same.
pub record MakesFrame {O : Type 0} (gives : Gives O) (old : GuestRecorder) (choice : Choice) (new : GuestRecorder)
    (before after : O) : Type 0 where
  pub frame : Frame
  pub asked : Option ℕ
  pub between : O
  pub middle : O
  pub asks : AsksNow gives old.deadlines asked before between
  pub step : IsStep gives old.guest choice frame new.guest (timed.due old.deadlines asked) between middle
  pub may : timed.due old.deadlines asked ≡ None → MaySlice (state_of old.guest) choice
  pub notes : Notes gives frame.tid (state_of new.guest) old.deadlines (unwrap_or asked old.clock) new.deadlines new.clock
      middle after
  pub made_is : made new ≡ made old ++ frame_record old.seat.guest (length (made old)) frame ∷ []
  pub seat : new.seat ≡ old.seat
  pub released : new.owed.released ≡ old.owed.released
  pub checkpoints : KeepsCheckpoints old new
  pub has_put : (out : List (ℕ × ℕ)) → HasPut old out → HasPut new out

-- the records of parts behind what was made
abbrev pub part_records : GuestRecorder → List Part → List Record
part_records r parts = records_from r.seat.guest (length (made r)) (map items.Part parts)

-- the parts name exactly the pages that differ from those of the base behind what was made, each with the lines that do
pub record NamesWhatChanged (old : GuestRecorder) (parts : List Part) : Type 0 where
  pub base : State
  pub behind : StandsBehind (items_of (made old)) base [] (state_of old.guest)
  pub changes : NamesChanges base.memory (state_of old.guest).memory (all_pages parts)

-- the next checkpoint is as far behind that at the guest's place as its parts say
abbrev pub BeginsGap : GuestRecorder → List Part → (gap last : ℕ) → Type 0
BeginsGap old parts gap last = (gap ≡ gap_behind old.every parts (page_count (state_of old.guest).memory)) × (last ≡ old.guest.ran)

-- what became of the parts of a checkpoint: these were kept, all of one, where one was due, or none
abbrev pub TellsParts : Parts → GuestRecorder → List Part → (gap last : ℕ) → Type 0
TellsParts outcomes.NotDue old parts gap last =
    ¬ IsDue old.gap old.last old.guest × (parts ≡ []) × (gap ≡ old.gap) × (last ≡ old.last)
TellsParts outcomes.Kept old parts gap last = IsDue old.gap old.last old.guest
    × ((rest : CheckpointRest) × EndsWithRest parts rest) × BeginsGap old parts gap last × NamesWhatChanged old parts
TellsParts outcomes.LeftOut old parts gap last =
    IsDue old.gap old.last old.guest × (parts ≡ []) × (gap ≡ old.gap) × (last ≡ old.last)

-- Parts were made as this tells. The guest stays, and what had left.
pub record KeepsParts (old : GuestRecorder) (outcome : Parts) (new : GuestRecorder) : Type 0 where
  pub parts : List Part
  pub told : TellsParts outcome old parts new.gap new.last
  pub made_is : made new ≡ made old ++ part_records old parts
  pub seat : new.seat ≡ old.seat
  pub released : new.owed.released ≡ old.owed.released
  pub every : new.every ≡ old.every
  pub guest : (state_of new.guest ≡ state_of old.guest) × (new.guest.ran ≡ old.guest.ran)
  pub deadlines : KeepsDeadlines old new
  pub has_put : (out : List (ℕ × ℕ)) → HasPut old out → HasPut new out

-- One frame more was made, and behind it the parts of a checkpoint as this tells.
pub record HasStepped {O : Type 0} (gives : Gives O) (old : GuestRecorder) (choice : Choice) (outcome : Parts)
    (new : GuestRecorder) (before after : O) : Type 0 where
  pub between : GuestRecorder
  pub makes : MakesFrame gives old choice between before after
  pub keeps : KeepsParts between outcome new

-- all is sent, and there may be a record more
pub record HasPlace (r : GuestRecorder) : Type 0 where
  pub all_sent : r.backlog ≡ []
  pub few : length r.seat.sent < MAX_NUMBER + 1

-- nobody was asked, and the clock's last answer stays
abbrev pub AsksNobody : {O : Type 0} → GuestRecorder → (clock : ℕ) → O → O → Type 0
AsksNobody r clock before after = (after ≡ before) × (clock ≡ r.clock)

-- the clock was asked where some wait is timed, and its answer noted; no thread has come due
pub record NoneIsDue {O : Type 0} (gives : Gives O) (r : GuestRecorder) (clock : ℕ) (before after : O) : Type 0 where
  pub asked : Option ℕ
  pub asks : AsksNow gives r.deadlines asked before after
  pub none : timed.due r.deadlines asked ≡ None
  pub clock_is : clock ≡ unwrap_or asked r.clock

-- so it is where a slice is refused; of a guest that has ended the clock isn't asked
abbrev pub AsksRefusedSlice : {O : Type 0} → Gives O → GuestRecorder → (clock : ℕ) → O → O → SliceFault → Type 0
AsksRefusedSlice gives r clock before after slice_faults.Ended = AsksNobody r clock before after
AsksRefusedSlice gives r clock before after _ = NoneIsDue gives r clock before after

-- What a refused step asked of the clock, and its last answer then: nothing where there was no place for its frame.
abbrev pub AsksRefused : {O : Type 0} → Gives O → GuestRecorder → Choice → (clock : ℕ) → O → O → RecorderFault → Type 0
AsksRefused gives r choice clock before after faults.Full = AsksNobody r clock before after
AsksRefused gives r choice clock before after faults.TooManyRecords = AsksNobody r clock before after
AsksRefused gives r choice clock before after (faults.Refused fault) = AsksRefusedSlice gives r clock before after fault
AsksRefused gives r choice clock before after faults.Memory = AsksNobody r clock before after
    ⊎ (NoneIsDue gives r clock before after × RefusesSlice (state_of r.guest) choice slice_faults.Memory)
AsksRefused gives r choice clock before after _ = Unit {0}

-- there was a place for a frame, in a guest that hasn't ended
pub record MayStep (r : GuestRecorder) : Type 0 where
  pub place : HasPlace r
  pub runs : (state_of r.guest).ended ≡ None

-- why no frame was made
abbrev pub RefusesStep : GuestRecorder → Choice → RecorderFault → Type 0
RefusesStep r choice faults.Full = r.backlog ≢ []
RefusesStep r choice faults.TooManyRecords = (r.backlog ≡ []) × (length r.seat.sent ≡ MAX_NUMBER + 1)
RefusesStep r choice faults.Memory = HasPlace r
RefusesStep r choice (faults.Refused fault) =
    HasPlace r × (fault ≢ slice_faults.Memory) × RefusesSlice (state_of r.guest) choice fault
RefusesStep r choice _ = ⊥

-- nothing was made; the clock may have been asked
pub record IsUnmoved {O : Type 0} (gives : Gives O) (old new : GuestRecorder) (before after : O) : Type 0 where
  pub seat : new.seat ≡ old.seat
  pub backlog : new.backlog ≡ old.backlog
  pub owed : (new.owed.released ≡ old.owed.released) × (new.owed.owed ≡ old.owed.owed)
  pub state : state_of new.guest ≡ state_of old.guest
  pub ran : new.guest.ran ≡ old.guest.ran
  pub put : new.guest.put ≡ old.guest.put
  pub checkpoints : KeepsCheckpoints old new
  pub deadlines : new.deadlines ≡ old.deadlines
  pub environment : (asked : Option ℕ)
      × (AsksNow gives old.deadlines asked before after ⊎ ((asked ≡ None) × (after ≡ before)))
      × (new.clock ≡ unwrap_or asked old.clock)

-- ---- send

-- the items that wait may be sent, one after the other
pub record CanSend (seat : RecorderValue) (items : List Item) : Type 0 where
  pub here : seat.has_left ≡ false
  pub texts : AllByRecursion HasText (backlog_of seat items)
  pub opens : AllByRecursion OpensAtZero (backlog_of seat items)
  pub few : length seat.sent + length items ≤ MAX_NUMBER + 1

-- the first item of the backlog was sent, after a look for a halt
pub record SendsFirst (seat : RecorderValue) (items : List Item) (seat' : RecorderValue) (items' : List Item)
    : Type 0 where
  pub item : Item
  pub items_are : items ≡ item ∷ items'
  pub sent : seat'.sent ≡ seat.sent ++ next_record seat item ∷ []

-- of a seat's parts, all but what was sent and what looks for a halt found
abbrev pub SeatLooksAndSends : RecorderValue → RecorderValue → Type 0
SeatLooksAndSends old new =
    new ≡ record old { sent = new.sent; knows_halt = new.knows_halt; halt_looks = new.halt_looks }

-- some of the backlog is sent; what was made and what of its output has left stay
pub record SendsSome (old new : GuestRecorder) : Type 0 where
  pub made_is : made new ≡ made old
  pub seat : SeatLooksAndSends old.seat new.seat
  pub owed : new.owed ≡ old.owed
  pub guest : new.guest ≡ old.guest
  pub checkpoints : KeepsCheckpoints old new
  pub deadlines : KeepsDeadlines old new
  pub fewer : length new.backlog ≤ length old.backlog

-- ---- release and settle

-- what a fault tells of the bytes that left in its call
abbrev pub TellsTaken : List (ℕ × ℕ) → RecorderFault → Type 0
TellsTaken put (faults.SinkFailed taken) = taken ≡ count_of put
TellsTaken put _ = Unit {0}

-- The sink took these bytes, and no others, and tells on where it told. With them behind what had left before, this is again
-- what has left.
pub record PutsMore {S T : Type 0} (tells : S → Type 0) (taken : S → List (ℕ × ℕ)) (old new : GuestRecorder)
    (sink sink' : S) (result : Result T RecorderFault) : Type 0 where
  pub put : List (ℕ × ℕ)
  pub takes : tells sink → taken sink' ≡ taken sink ++ put
  pub still : tells sink' ↔ tells sink
  pub has_put : (out : List (ℕ × ℕ)) → HasPut old out → HasPut new (out ++ put)
  pub told : IfErr result (TellsTaken put)

-- the same, and they are so many
pub record PutsCounted {S : Type 0} (tells : S → Type 0) (taken : S → List (ℕ × ℕ)) (old new : GuestRecorder)
    (sink sink' : S) (count : ℕ) : Type 0 where
  pub put : List (ℕ × ℕ)
  pub takes : tells sink → taken sink' ≡ taken sink ++ put
  pub still : tells sink' ↔ tells sink
  pub has_put : (out : List (ℕ × ℕ)) → HasPut old out → HasPut new (out ++ put)
  pub counted : count ≡ count_of put

-- of a recorder's parts, all but what was seen to be durable and what has left of the output
pub record OnlyReleases (old new : GuestRecorder) : Type 0 where
  pub looks : new.seat ≡ after_look old.seat new.seat.word
  pub backlog : new.backlog ≡ old.backlog
  pub guest : new.guest ≡ old.guest
  pub checkpoints : KeepsCheckpoints old new
  pub deadlines : KeepsDeadlines old new

-- only the sink refuses a release
abbrev pub RefusesRelease : RecorderFault → ℕ → ℕ → Type 0
RefusesRelease (faults.SinkFailed taken) old new = HasFailed old new
RefusesRelease _ old new = ⊥

-- Rounds, one behind the other, in which these bytes left: in each some of the backlog was sent, and then output released.
abbrev pub AreRounds : GuestRecorder → List (List (ℕ × ℕ)) → GuestRecorder → Type 0
AreRounds old [] new = old ≡ new
AreRounds old (put ∷ later) new =
    (sent next : GuestRecorder) × SendsSome old sent × OnlyReleases sent next
    × ((out : List (ℕ × ℕ)) → HasPut sent out → HasPut next (out ++ put)) × AreRounds next later new

-- It went in rounds, and of a sink that tells it the bytes were taken that left in them.
pub record GoesInRounds {S : Type 0} (tells : S → Type 0) (taken : S → List (ℕ × ℕ)) (old new : GuestRecorder)
    (sink sink' : S) : Type 0 where
  pub puts : List (List (ℕ × ℕ))
  pub rounds : AreRounds old puts new
  pub takes : tells sink → taken sink' ≡ taken sink ++ flat_map (λ put. put) puts

-- why a settling recorder isn't settled: it knows of a halt, or the sink refused; the sink's failures rise by that alone
abbrev pub RefusesSettle : GuestRecorder → RecorderFault → ℕ → ℕ → Type 0
RefusesSettle r faults.Halted old new = (r.seat.knows_halt ≡ true) × (new ≡ old)
RefusesSettle r (faults.SinkFailed taken) old new = HasFailed old new
RefusesSettle r _ old new = ⊥

-- the guest and what was made stay, and of the seat whose it is
pub record KeepsMade (old new : GuestRecorder) : Type 0 where
  pub made_is : made new ≡ made old
  pub guest : new.guest ≡ old.guest
  pub group : new.seat.group ≡ old.seat.group
  pub place : new.seat.guest ≡ old.seat.guest
  pub here : new.seat.has_left ≡ old.seat.has_left
  pub checkpoints : KeepsCheckpoints old new
  pub deadlines : KeepsDeadlines old new
