-- Sessions: each opens the store, records or records nothing, and is stopped anywhere.
use Rattle.std.specs.Prelude.{◌≡◌, ◌≢◌, ◌⊎◌, ℕ, ◌+◌, ◌<◌, ◌≤◌, List, [], ◌∷◌, ◌++◌, length, Contains}
use Rattle.std.specs.List.{AllByRecursion, Any}
use Rattle.rrv_model.specs.declared.record.Record.{Record}
use Rattle.store_model.specs.declared.limits.TheConstants.{MAX_SEGMENTS, MAX_STORE}
use Rattle.store_model.specs.CrashModel.{DiskState, IsCrash, all_synced}
use Rattle.store_model.specs.StoreText.{store_text, IsStore, IsNextSegment}
use Rattle.store_model.specs.StoreCalls.{DiskCall, after_disk_calls, open_calls, commit_calls, IsWithin}
use Rattle.rrv_model.specs.Recovered.{mark, of_guest, next_guest, IsRecovered}
use Rattle.commit_core.specs.Runs.{IsBeginning}
use Rattle.commit_core.specs.World.{World, IsStart}
use Rattle.commit_core.specs.Events.{Event, run, IsSchedule}

-- ---- sessions

-- one that is stopped within `open`; one whose `open` answered, that committed the Mark or was stopped in that, and
-- recorded nothing; one whose `open` answered and that did nothing more; and one whose `open` answered these bodies, and
-- that then, with the Mark committed or not, ran a list of events
pub data Session : Type 0 where
  StoppedOpening : Session
  Marked : (bodies : List (List ℕ)) (old : List Record) → Session
  OnlyOpened : (bodies : List (List ℕ)) (old : List Record) → Session
  Ran : (reported : List (List ℕ)) (start : World) (old : List Record) (events : List Event) → Session

-- the disk once `open` has answered
abbrev pub opened_disk : (disk : DiskState) (bodies : List (List ℕ)) → IsStore disk.content bodies → DiskState
opened_disk disk bodies store = after_disk_calls disk (open_calls disk.content bodies store)

-- the Mark may be committed behind these bodies
pub record CanMark (bodies : List (List ℕ)) : Type 0 where
  pub none : ¬ (Contains bodies mark)
  pub number : length bodies < MAX_SEGMENTS
  pub store : length (store_text bodies) + length mark + 42 ≤ MAX_STORE

-- the calls that commit it
abbrev pub mark_calls : List (List ℕ) → List DiskCall
mark_calls bodies = commit_calls (length (store_text bodies)) (length bodies) mark

-- the bodies and the disk with which a run begins: as `open` reported and left them, or with the Mark committed behind these
abbrev pub IsBegun : DiskState → (reported bodies : List (List ℕ)) → DiskState → Type 0
IsBegun disk reported bodies begun =
    (store : IsStore disk.content reported)
    × (((bodies ≡ reported) × (begun ≡ opened_disk disk reported store))
    ⊎ (CanMark reported × (bodies ≡ reported ++ mark ∷ [])
    × (begun ≡ after_disk_calls (opened_disk disk reported store) (mark_calls reported))))

-- a session that finds the one disk and leaves the other
abbrev pub IsSession : DiskState → Session → DiskState → Type 0
IsSession disk StoppedOpening end =
    (bodies : List (List ℕ)) × (store : IsStore disk.content bodies)
    × IsWithin disk (open_calls disk.content bodies store) end
IsSession disk (Marked bodies old) end =
    (store : IsStore disk.content bodies) × IsRecovered bodies old × CanMark bodies
    × IsWithin (opened_disk disk bodies store) (mark_calls bodies) end
IsSession disk (OnlyOpened bodies old) end =
    (store : IsStore disk.content bodies) × IsRecovered bodies old × (end ≡ opened_disk disk bodies store)
IsSession disk (Ran reported start old events) end =
    IsBegun disk reported start.bodies start.disk
    × IsStart start old × IsSchedule start events × (end ≡ (run start events).disk)

-- a disk that holds these bytes and has done nothing yet
abbrev pub fresh_disk : List ℕ → DiskState
fresh_disk bytes = record { content = bytes; pending = all_synced bytes; past = [] }

-- what a read of the disk gives, or a crash leaves on it
abbrev pub Gives : DiskState → List ℕ → Type 0
Gives disk content = (content ≡ disk.content) ⊎ IsCrash disk.pending content

-- the machine stops, and the disk holds what a crash left; or the process alone, and the disk is as it was
abbrev pub IsStopped : DiskState → DiskState → Type 0
IsStopped disk next = (next ≡ disk) ⊎ ((content : List ℕ) × IsCrash disk.pending content × (next ≡ fresh_disk content))

abbrev pub AreSessions : DiskState → List Session → DiskState → Type 0
AreSessions disk [] end = end ≡ disk
AreSessions disk (session ∷ sessions) end =
    (stop : DiskState) × (next : DiskState)
    × IsSession disk session stop × IsStopped stop next × AreSessions next sessions end

-- ---- what `open` reported, and what is found later

-- the bodies, and the number that the next guest behind them has
pub record Report : Type 0 where
  pub bodies : List (List ℕ)
  pub first_guest : ℕ

-- It is so of the bodies of each later report, of those with which a run begins, and of those that a read of the last disk
-- gives or a crash leaves on it;
-- each time with the worlds to which sessions since then came, in their order, the given ones first.
abbrev pub IsFoundLater : (List World → List (List ℕ) → Type 0) → List World → List Session → DiskState → Type 0
IsFoundLater P since [] end =
    (content : List ℕ) (bodies : List (List ℕ)) → Gives end content → IsStore content bodies → P since bodies
IsFoundLater P since (StoppedOpening ∷ later) end = IsFoundLater P since later end
IsFoundLater P since (Marked bodies old ∷ later) end = P since bodies × IsFoundLater P since later end
IsFoundLater P since (OnlyOpened bodies old ∷ later) end = P since bodies × IsFoundLater P since later end
IsFoundLater P since (Ran reported start old events ∷ later) end =
    P since reported × P since start.bodies × IsFoundLater P (since ++ run start events ∷ []) later end

-- in this world the guest with this number has sent these records first
pub record HasSent (number : ℕ) (records : List Record) (w : World) : Type 0 where
  pub g : ℕ
  pub guest : g < w.guests
  pub number_is : w.first_guest + g ≡ number
  pub sent : IsBeginning records (w.recorders g).sent

-- the records of each number are the first that one guest sent, in a world where it had this number
abbrev pub AreSentIn : List World → List Record → Type 0
AreSentIn worlds records =
    (number : ℕ) → of_guest number records ≢ [] → Any (HasSent number (of_guest number records)) worlds

-- what is recovered from the bodies is that of the report, and then records of guests of its number or later ones
pub record GrowsTo (report : Report) (since : List World) (bodies : List (List ℕ)) : Type 0 where
  pub more : List (List ℕ)
  pub bodies_are : bodies ≡ report.bodies ++ more
  pub before : List Record
  pub gained : List Record
  pub reported : IsRecovered report.bodies before
  pub recovered : IsRecovered bodies (before ++ gained)
  pub later : AllByRecursion (λ (r : Record). report.first_guest ≤ r.guest) gained
  -- all of them were sent since then: a body that was there and wasn't reported does not come back
  pub sent : AreSentIn since gained

-- what each report has is found later; of a session that ran also what it has with the Mark, if it committed that
abbrev pub AreGrowing : List Session → DiskState → Type 0
AreGrowing [] end = Unit {0}
AreGrowing (StoppedOpening ∷ sessions) end = AreGrowing sessions end
AreGrowing (Marked bodies old ∷ sessions) end =
    IsFoundLater (GrowsTo (record { bodies = bodies; first_guest = next_guest old })) [] sessions end
    × AreGrowing sessions end
AreGrowing (OnlyOpened bodies old ∷ sessions) end =
    IsFoundLater (GrowsTo (record { bodies = bodies; first_guest = next_guest old })) [] sessions end
    × AreGrowing sessions end
AreGrowing (Ran reported start old events ∷ sessions) end =
    let report : Report = record { bodies = start.bodies; first_guest = start.first_guest } in
    IsFoundLater (GrowsTo report) (run start events ∷ []) sessions end × AreGrowing sessions end

-- ---- what can be opened

-- The bytes are a store whose bodies are as `fine` says; where the last gate isn't 00 a whole segment stands behind it,
-- with which they are, too.
pub record IsStoreOf (fine : List (List ℕ) → Type 0) (bytes : List ℕ) : Type 0 where
  pub bodies : List (List ℕ)
  pub store : IsStore bytes bodies
  pub are : fine bodies
  pub next : (store.gate ≡ 0)
      ⊎ ((segment : IsNextSegment (length bodies) store.behind) × fine (bodies ++ segment.body ∷ []))

abbrev pub HasRecords : List (List ℕ) → Type 0
HasRecords bodies = (records : List Record) × IsRecovered bodies records

-- a store whose bodies hold records in order
abbrev pub CanOpen : List ℕ → Type 0
CanOpen bytes = IsStoreOf HasRecords bytes
