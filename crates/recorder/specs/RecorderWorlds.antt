-- What a guest's recorder is in the world of a recording, and which events its calls are there.
use Rattle.std.specs.Prelude.{◌≡◌, ◌⊎◌, ℕ, ◌+◌, ◌≤◌, Bool, false, List, [], ◌∷◌, ◌++◌, Result, flat_map, length, map}
use Rattle.rrv_model.specs.declared.limits.TheConstants.{MAX_NUMBER}
use Rattle.rrv_model.specs.declared.record.Choice.{Choice}
use Rattle.rrv_model.specs.declared.record.Record.{Record}
use Rattle.rrv_model.specs.Recording.{frame_record}
use Rattle.rrv_model.specs.State.{State}
use Rattle.guest_calls.specs.Guest.{state_of}
use Rattle.serial_sched.specs.Asking.{Gives}
use Rattle.commit_core.specs.Events.Event.{Look, LookHalt, Push, Release, Slice}
use Rattle.commit_core.specs.Holders.{Act, Does, loading, plain}
use Rattle.commit_core.specs.Holders.Holder.{TheRecorder}
use Rattle.commit_core.specs.World.{World, flag}
use Rattle.commit_group.specs.Numbers.{renumbered}
use Rattle.commit_group.specs.Steps.{StandsForRecorder}
use Rattle.commit_group.specs.Submits.{after_look}
use Rattle.recorder.specs.declared.fault.RecorderFault.{RecorderFault}
use Rattle.recorder.specs.declared.checkpoints.Parts.{Parts}
use Rattle.recorder.specs.RecorderCalls.{AreRounds, HasStepped, IsUnmoved, PutsMore, SendsSome, part_records}
use Rattle.recorder.specs.Recorders.{GuestRecorder, HasPut, HasRecorded, made}

-- What the recorder keeps is what the world's recorder at its place keeps, whose sink took these bytes and whose last state
-- is the guest's.
pub record StandsForGuest (r : GuestRecorder) (out : List (ℕ × ℕ)) (w : World) : Type 0 where
  pub seat : StandsForRecorder r.seat w
  pub backlog : (w.recorders r.seat.guest).backlog ≡ renumbered w.first_guest r.backlog
  pub earlier : List State
  pub states : (w.recorders r.seat.guest).states ≡ earlier ++ state_of r.guest ∷ []
  pub out_is : (w.recorders r.seat.guest).out ≡ out
  pub has_put : HasPut r out

-- the records that a step makes, under their numbers in the store: that of its frame, and those of parts
abbrev pub next_in_store : {O : Type 0} {gives : Gives O} {old new : GuestRecorder} {choice : Choice} {outcome : Parts}
    {before after : O} → World → HasStepped gives old choice outcome new before after → List Record
next_in_store {old = old} w step =
    renumbered w.first_guest (frame_record old.seat.guest (length (made old)) step.makes.frame
    ∷ part_records step.between step.keeps.parts)

-- slices that make these records in a row, each of which leaves the guest in this state
abbrev pub slices : ℕ → List Record → State → List Act
slices g records s = map (λ r. plain (Slice g r s)) records

-- A step is as many slices of the world's as it makes records. Its premises are the clauses of the call, and that guests'
-- numbers stay in their limit.
abbrev pub StepsAreEvents : {O : Type 0} → Gives O → Type 0
StepsAreEvents {O = O} gives =
    (old new : GuestRecorder) (choice : Choice) (outcome : Parts) (before after : O) (out : List (ℕ × ℕ)) (w : World)
    → (step : HasStepped gives old choice outcome new before after) → HasRecorded new
    → w.first_guest + w.guests ≤ MAX_NUMBER + 1 → StandsForGuest old out w
    → Does (TheRecorder old.seat.guest) (slices old.seat.guest (next_in_store w step) (state_of new.guest))
    (StandsForGuest new out) w

-- A step that was refused is no event.
abbrev pub RefusedStepsAreNoEvents : {O : Type 0} → Gives O → Type 0
RefusedStepsAreNoEvents {O = O} gives =
    (old new : GuestRecorder) (before after : O) (out : List (ℕ × ℕ)) (w : World)
    → IsUnmoved gives old new before after → StandsForGuest old out w → StandsForGuest new out w

-- Acts that send: loads of the halt word, and pushes of the records that wait, in order, up to the rest. It knew of the halt
-- or not, and at last it knows what it loaded last.
abbrev pub AreSends : ℕ → (backlog rest : List Record) → (knows last : Bool) → List Act → Type 0
AreSends g backlog rest knows last [] = (backlog ≡ rest) × (knows ≡ last)
AreSends g backlog rest knows last (a ∷ doing) =
    ((found : Bool) × (a ≡ loading (LookHalt g) (flag found)) × AreSends g backlog rest found last doing)
    ⊎ ((r : Record) × (more : List Record) × (backlog ≡ r ∷ more) × (a ≡ plain (Push g r more))
    × AreSends g more rest knows last doing)

-- What is sent of a backlog is sent by any such acts, of a recorder that hasn't left.
abbrev pub SendsAreEvents : Type 0
SendsAreEvents =
    (old new : GuestRecorder) (out : List (ℕ × ℕ)) (w : World) (doing : List Act)
    → SendsSome old new → old.seat.has_left ≡ false
    → AreSends old.seat.guest (renumbered w.first_guest old.backlog) (renumbered w.first_guest new.backlog)
    old.seat.knows_halt new.seat.knows_halt doing
    → StandsForGuest old out w → Does (TheRecorder old.seat.guest) doing (StandsForGuest new out) w

-- the sink takes these bytes, part by part
abbrev pub releases : ℕ → List (List (ℕ × ℕ)) → List Act
releases g parts = map (λ more. plain (Release g more)) parts

-- A release is a look, which loads a word, and then what the sink takes, in any parts.
abbrev pub ReleasesAreEvents : {S : Type 0} → (S → Type 0) → (S → List (ℕ × ℕ)) → Type 0
ReleasesAreEvents {S = S} tells taken =
    (old new : GuestRecorder) (sink sink' : S) (result : Result (Unit {0}) RecorderFault)
    (out : List (ℕ × ℕ)) (w : World) (word : ℕ) (parts : List (List (ℕ × ℕ)))
    → (puts : PutsMore tells taken old new sink sink' result) → flat_map (λ part. part) parts ≡ puts.put
    → new.seat ≡ after_look old.seat word → (new.backlog ≡ old.backlog) × (new.guest ≡ old.guest)
    → StandsForGuest old out w
    → Does (TheRecorder old.seat.guest) (loading (Look old.seat.guest) word ∷ releases old.seat.guest parts)
    (StandsForGuest new (out ++ puts.put)) w

-- Acts by which a recorder settles, round by round: those that send, then a look, and what the sink takes, in any parts.
abbrev pub AreSettling : (b : ℕ) (old : GuestRecorder) (puts : List (List (ℕ × ℕ))) (new : GuestRecorder)
    → AreRounds old puts new → List Act → Type 0
AreSettling b old [] new rounds doing = doing ≡ []
AreSettling b old (put ∷ later) new (sent, next, some, released, has_put, rounds) doing =
    (sending : List Act) × (word : ℕ) × (parts : List (List (ℕ × ℕ))) × (rest : List Act)
    × (doing ≡ sending ++ loading (Look old.seat.guest) word ∷ (releases old.seat.guest parts ++ rest))
    × AreSends old.seat.guest (renumbered b old.backlog) (renumbered b sent.backlog)
    old.seat.knows_halt sent.seat.knows_halt sending
    × (next.seat ≡ after_look sent.seat word) × (flat_map (λ part. part) parts ≡ put)
    × AreSettling b next later new rounds rest

abbrev pub SettlesAreEvents : Type 0
SettlesAreEvents =
    (old new : GuestRecorder) (out : List (ℕ × ℕ)) (w : World) (puts : List (List (ℕ × ℕ))) (doing : List Act)
    → (rounds : AreRounds old puts new) → old.seat.has_left ≡ false
    → AreSettling w.first_guest old puts new rounds doing → StandsForGuest old out w
    → Does (TheRecorder old.seat.guest) doing (StandsForGuest new (out ++ flat_map (λ put. put) puts)) w
