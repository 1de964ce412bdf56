-- Over a list of sessions.
use Rattle.std.proofs.Common.{◌≡◌, inl, inr, ⊎_elim, ℕ, ◌+◌, ◌-◌, ◌<◌, ◌≤◌, List, [], ◌∷◌, ◌++◌, length, take, drop, refl, ap, arith, sym, subst, ◌∙◌, append_assoc, take-append-drop}
use Rattle.std.specs.List.{AllByRecursion, Any}
use Rattle.std.proofs.lemmas.List.{append-nil, take-append-le}
use Rattle.rrv_model.specs.declared.record.Record.{Record}
use Rattle.store_model.specs.CrashModel.{DiskState}
use Rattle.rrv_model.specs.Output.{Chunk, spread}
use Rattle.store_model.specs.StoreText.{IsStore}
use Rattle.store_model.specs.StoreCalls.{after_disk_calls, IsWithin}
use Rattle.rrv_model.specs.Recovered.{mark, of_guest, next_guest, IsRecovered}
use Rattle.outcomes.proofs.Lists.{AllByRecursion-append, AllByRecursion-back, AllByRecursion-weaker}
use Rattle.rrv_model.proofs.RecoveredLaws.{one_recovery, mark_adds_none}
use Rattle.store_model.proofs.StoreLaws.{store_parts}
use Rattle.commit_core.specs.Runs.{IsBeginning, IsOutput}
use Rattle.commit_core.specs.World.{World, IsStart, IsAtRest, made, closed_store}
use Rattle.commit_core.specs.Events.{Event, run, IsSchedule}
use Rattle.commit_core.specs.Sessions.{Session, CanMark, IsBegun, IsSession, IsStopped, AreSessions, Report, HasSent, AreSentIn, GrowsTo, IsFoundLater, AreGrowing, Gives, IsStoreOf, HasRecords, CanOpen, fresh_disk, opened_disk, mark_calls}
use Rattle.commit_core.specs.Sessions.Session.{StoppedOpening, Marked, OnlyOpened, Ran}
use Rattle.commit_core.specs.Headline.{KeepsSession, AreKept}
use Rattle.commit_core.proofs.Lists.{begins_nothing, Any-front, Any-back, none_lower, none_higher, of_guest-front, of_guest-back}
use Rattle.commit_core.proofs.Runs.{nothing_put}
use Rattle.commit_core.proofs.Schedules.{invariant_at_start, invariant_of_run, run_same}
use Rattle.commit_core.proofs.Stages.{IsCommittable, closed_store_of}
use Rattle.commit_core.proofs.Recovery.{LeftBehind, all_below, less_or_more, store_left}
use Rattle.commit_core.proofs.Opening.{Good, good_rest, good_open, good_within_commit, open_end, committed}

-- ---- what stays as bodies grow

-- the bodies with the number that the next guest has behind these records
abbrev report_of : List (List ℕ) → List Record → Report
report_of bodies records = record { bodies = bodies; first_guest = next_guest records }

-- what is so of bodies is so of those that a session leaves which found them, with its world
abbrev Stays : (List World → List (List ℕ) → Type 0) → Type 0
Stays P = (since : List World) (w : World) (old : List Record) (bodies : List (List ℕ)) → LeftBehind w old bodies → P since w.bodies →
    P (since ++ w ∷ []) bodies

-- and of those with the Mark behind them
abbrev StaysMarked : (List World → List (List ℕ) → Type 0) → Type 0
StaysMarked P = (since : List World) (bodies : List (List ℕ)) → CanMark bodies → P since bodies → P since (bodies ++ mark ∷ [])

next_guest-append : (xs ys : List Record) → next_guest xs ≤ next_guest (xs ++ ys)
next_guest-append [] ys = omega arith
next_guest-append (x ∷ xs) ys = omega (arith, next_guest-append xs ys)

records_stay : Stays (λ since. HasRecords)
records_stay since w old bodies behind has = (behind.from.records, behind.from.recovered)

records_stay_marked : StaysMarked (λ since. HasRecords)
records_stay_marked since bodies can has = (has.0, mark_adds_none bodies has.0 can.none has.1)

-- records of numbers below some number, and then records of that number or later ones
sent_both : (since more : List World) (border : ℕ) (xs ys : List Record) → AllByRecursion (λ (r : Record). r.guest < border) xs →
    AllByRecursion (λ (r : Record). border ≤ r.guest) ys
    → AreSentIn since xs → AreSentIn more ys → AreSentIn (since ++ more) (xs ++ ys)
sent_both since more border xs ys low high front back number some = ⊎_elim
    (λ below.
    let same : of_guest number (xs ++ ys) ≡ of_guest number xs = of_guest-front number xs ys (none_lower number border ys high below) in
    subst (λ (l : List Record). Any (HasSent number l) (since ++ more)) (sym same)
    (Any-front (HasSent number (of_guest number xs)) since more (front number (λ none. some (same ∙ none)))))
    (λ above.
    let same : of_guest number (xs ++ ys) ≡ of_guest number ys = of_guest-back number xs ys (none_higher number border xs low above) in
    subst (λ (l : List Record). Any (HasSent number l) (since ++ more)) (sym same)
    (Any-back (HasSent number (of_guest number ys)) since more (back number (λ none. some (same ∙ none)))))
    (less_or_more number border)

module _ (first : List (List ℕ)) (known : List Record) (is : IsRecovered first known) (since : List World) (w : World) (old : List Record)
    (bodies : List (List ℕ))
    (behind : LeftBehind w old bodies) (grows : GrowsTo (report_of first known) since w.bodies) where
  old_is : grows.before ++ grows.gained ≡ old
  old_is = one_recovery w.bodies (grows.before ++ grows.gained) old grows.recovered behind.before

  -- the session's guests have later numbers
  numbers_rise : next_guest known ≤ w.first_guest
  numbers_rise = omega (
    arith,
    behind.next,
    ap next_guest (one_recovery first grows.before known grows.reported is),
    ap next_guest old_is,
    next_guest-append grows.before grows.gained,
  )

  gained_below : AllByRecursion (λ (r : Record). r.guest < w.first_guest) grows.gained
  gained_below = AllByRecursion-back (λ (r : Record). r.guest < w.first_guest) grows.before grows.gained
      (subst (λ (l : List Record). AllByRecursion (λ (r : Record). r.guest < w.first_guest) l) (sym old_is)
      (subst (λ (n : ℕ). AllByRecursion (λ (r : Record). r.guest < n) old) (sym behind.next) (all_below old)))

  grows_on : GrowsTo (report_of first known) (since ++ w ∷ []) bodies
  grows_on =
      let step = behind.grows in
      let whole : step.before ++ step.gained ≡ grows.before ++ (grows.gained ++ step.gained) =
      ap (λ (l : List Record). l ++ step.gained) (one_recovery w.bodies step.before old step.reported behind.before ∙ sym old_is)
      ∙ append_assoc grows.before grows.gained step.gained in
      record {
        more = grows.more ++ step.more;
        bodies_are =
            step.bodies_are ∙ ap (λ (l : List (List ℕ)). l ++ step.more) grows.bodies_are ∙ append_assoc first grows.more step.more;
        before = grows.before;
        gained = grows.gained ++ step.gained;
        reported = grows.reported;
        recovered = subst (IsRecovered bodies) whole step.recovered;
        later = AllByRecursion-append (λ r. next_guest known ≤ r.guest) grows.gained step.gained grows.later
            (AllByRecursion-weaker (λ r. w.first_guest ≤ r.guest) (λ r. next_guest known ≤ r.guest) step.gained
            (λ r l. omega (arith, l, numbers_rise)) step.later);
        sent = sent_both since (w ∷ []) w.first_guest grows.gained step.gained gained_below step.later grows.sent step.sent;
      }

growth_stays : (first : List (List ℕ)) (known : List Record) → IsRecovered first known → Stays (GrowsTo (report_of first known))
growth_stays first known is since w old bodies behind grows = grows_on first known is since w old bodies behind grows

growth_stays_marked : (report : Report) → StaysMarked (GrowsTo report)
growth_stays_marked report since bodies can grows = record {
  more = grows.more ++ mark ∷ [];
  bodies_are = ap (λ (l : List (List ℕ)). l ++ mark ∷ []) grows.bodies_are ∙ append_assoc report.bodies grows.more (mark ∷ []);
  before = grows.before;
  gained = grows.gained;
  reported = grows.reported;
  recovered = mark_adds_none bodies (grows.before ++ grows.gained) can.none grows.recovered;
  later = grows.later;
  sent = grows.sent;
}

-- bodies grow to themselves
own_growth : (bodies : List (List ℕ)) (records : List Record) → IsRecovered bodies records → GrowsTo (report_of bodies records) [] bodies
own_growth bodies records is = record {
  more = [];
  bodies_are = sym (append-nil bodies);
  before = records;
  gained = [];
  reported = is;
  recovered = subst (IsRecovered bodies) (sym (append-nil records)) is;
  later = tt;
  sent = λ number some. absurd (some refl);
}

-- ---- what is kept of a session

-- where nothing was found, nothing had left
nothing_left : (out : List (ℕ × ℕ)) → IsOutput out [] → out ≡ []
nothing_left out (chunks, puts, begins) = begins_nothing out (subst (λ (c : List Chunk). IsBeginning out (spread c)) puts begins)

-- what has an output has nothing as a beginning of it
nothing_of : (out : List (ℕ × ℕ)) (records : List Record) → IsOutput out records → IsOutput [] records
nothing_of out records (chunks, puts, begins) = (chunks, puts, (spread chunks, refl))

module _ (w : World) (old : List Record) where
  -- what it left
  own_session : (bodies : List (List ℕ)) → LeftBehind w old bodies → KeepsSession w old [] bodies
  own_session bodies behind =
      let from = behind.from in
      record {
        left = bodies;
        from = from;
        grows = own_growth bodies from.records from.recovered;
        records = from.records;
        recovered = from.recovered;
        same = λ number low. refl;
        seen = λ g low. seen_first (w.recorders g).seen (made (w.recorders g)) (of_guest (w.first_guest + g) from.records)
            (from.beginning g low) (from.seen g low);
        output = from.output;
      }
    where
      seen_first : (count : ℕ) (whole front : List Record) → IsBeginning front whole → count ≤ length front →
          IsBeginning (take count whole) front
      seen_first count whole front (rest, is) low = (
        drop count front,
        ap (λ (l : List Record). l ++ drop count front) (ap (take count) (sym is) ∙ take-append-le count front rest low)
            ∙ take-append-drop count front,
      )

  -- another session with this world finds it
  module _ (since : List World) (other : World) (known : List Record) (bodies : List (List ℕ)) (behind : LeftBehind other known bodies)
      (keeps : KeepsSession w old since other.bodies) where
    known_is : keeps.records ≡ known
    known_is = one_recovery other.bodies keeps.records known keeps.recovered behind.before

    -- of lower numbers it leaves what it found
    stays_below : (number : ℕ) → number < other.first_guest → of_guest number behind.from.records ≡ of_guest number keeps.records
    stays_below number low = behind.from.kept number low ∙ ap (of_guest number) (sym known_is)

    -- and of others nothing was found
    none_found : (number : ℕ) → other.first_guest ≤ number → of_guest number keeps.records ≡ []
    none_found number high =
        ap (of_guest number) known_is ∙ none_higher number (next_guest known) known (all_below known) (omega (arith, high, behind.next))

    has_output : (number : ℕ) → other.first_guest ≤ number → IsOutput [] (of_guest number behind.from.records)
    has_output number high = ⊎_elim
        (λ low.
        let g = number - other.first_guest in
        let is : other.first_guest + g ≡ number = omega (arith, high) in
        nothing_of (other.recorders g).out (of_guest number behind.from.records)
        (subst (λ (n : ℕ). IsOutput (other.recorders g).out (of_guest n behind.from.records)) is
        (behind.from.output g (omega (arith, low, high)))))
        (λ above. subst (λ (l : List Record). IsOutput [] l) (sym (behind.from.none_above number above)) nothing_put)
        (less_or_more number (other.first_guest + other.guests))

    seen_stays : (seen : List Record) (number : ℕ) → IsBeginning seen (of_guest number keeps.records) →
        IsBeginning seen (of_guest number behind.from.records)
    seen_stays seen number begins = ⊎_elim
        (λ low. subst (λ (l : List Record). IsBeginning seen l) (sym (stays_below number low)) begins)
        (λ high.
        let none : seen ≡ [] = begins_nothing seen (subst (λ (l : List Record). IsBeginning seen l) (none_found number high) begins) in
        (of_guest number behind.from.records, ap (λ (l : List Record). l ++ of_guest number behind.from.records) none))
        (less_or_more number other.first_guest)

    output_stays : (out : List (ℕ × ℕ)) (number : ℕ) → IsOutput out (of_guest number keeps.records) →
        IsOutput out (of_guest number behind.from.records)
    output_stays out number has = ⊎_elim
        (λ low. subst (λ (l : List Record). IsOutput out l) (sym (stays_below number low)) has)
        (λ high.
        let none : out ≡ [] = nothing_left out (subst (λ (l : List Record). IsOutput out l) (none_found number high) has) in
        subst (λ (o : List (ℕ × ℕ)). IsOutput o (of_guest number behind.from.records)) (sym none) (has_output number high))
        (less_or_more number other.first_guest)

    kept_on : KeepsSession w old (since ++ other ∷ []) bodies
    kept_on =
        let rise = numbers_rise keeps.left keeps.from.records keeps.from.recovered since other known bodies behind keeps.grows in
        record {
          left = keeps.left;
          from = keeps.from;
          grows = growth_stays keeps.left keeps.from.records keeps.from.recovered since other known bodies behind keeps.grows;
          records = behind.from.records;
          recovered = behind.from.recovered;
          same = λ number low. stays_below number (omega (arith, low, rise)) ∙ keeps.same number low;
          seen = λ g low. seen_stays (take (w.recorders g).seen (made (w.recorders g))) (w.first_guest + g) (keeps.seen g low);
          output = λ g low. output_stays (w.recorders g).out (w.first_guest + g) (keeps.output g low);
        }

  session_stays : Stays (KeepsSession w old)
  session_stays since other known bodies behind keeps = kept_on since other known bodies behind keeps

  session_stays_marked : StaysMarked (KeepsSession w old)
  session_stays_marked since bodies can keeps = record {
    left = keeps.left;
    from = keeps.from;
    grows = growth_stays_marked (report_of keeps.left keeps.from.records) since bodies can keeps.grows;
    records = keeps.records;
    recovered = mark_adds_none bodies keeps.records can.none keeps.recovered;
    same = keeps.same;
    seen = keeps.seen;
    output = keeps.output;
  }

-- ---- what can be opened

weaker_store : (fine other : List (List ℕ) → Type 0) → ((bodies : List (List ℕ)) → fine bodies → other bodies) → (c : List ℕ) →
    IsStoreOf fine c → IsStoreOf other c
weaker_store fine other weaker c store = record {
  bodies = store.bodies;
  store = store.store;
  are = weaker store.bodies store.are;
  next = ⊎_elim (λ is. inl is) (λ next. inr (next.0, weaker (store.bodies ++ next.0.body ∷ []) next.1)) store.next;
}

good_weaker : (fine other : List (List ℕ) → Type 0) → ((bodies : List (List ℕ)) → fine bodies → other bodies) → (disk : DiskState) →
    Good fine disk → Good other disk
good_weaker fine other weaker disk good c gives = weaker_store fine other weaker c (good c gives)

good_fresh : (fine : List (List ℕ) → Type 0) (c : List ℕ) → IsStoreOf fine c → Good fine (fresh_disk c)
good_fresh fine c is = good_rest fine (fresh_disk c) c (record { read = refl; synced = refl }) is

-- the bodies on such a disk are as `fine` says
fine_at : (fine : List (List ℕ) → Type 0) (disk : DiskState) → Good fine disk → (c : List ℕ) (bodies : List (List ℕ)) → Gives disk c →
    IsStore c bodies → fine bodies
fine_at fine disk good c bodies gives store =
    let here = good c gives in subst fine (store_parts c here.bodies bodies here.store store).0 here.are

-- ---- what a session leaves

-- the Mark is within the limit of a body
is_markable : (bodies : List (List ℕ)) → CanMark bodies → IsCommittable bodies mark
is_markable bodies can = ((omega arith, omega arith), can.number)

good_stopped : (fine : List (List ℕ) → Type 0) (disk next : DiskState) → Good fine disk → IsStopped disk next → Good fine next
good_stopped fine disk next good (inl is) = subst (Good fine) (sym is) good
good_stopped fine disk next good (inr (content, crash, is)) =
    subst (Good fine) (sym is) (good_fresh fine content (good content (inr crash)))

good_opened : (fine : List (List ℕ) → Type 0) (disk : DiskState) (bodies : List (List ℕ)) (store : IsStore disk.content bodies) →
    fine bodies → Good fine (opened_disk disk bodies store)
good_opened fine disk bodies store is = good_rest fine (opened_disk disk bodies store) (closed_store bodies) (open_end disk bodies store)
    (closed_store_of fine (closed_store bodies) [] bodies store.each store.count is refl)

-- what commits the Mark leaves the store at rest with it
pub mark_end : (disk : DiskState) (bodies : List (List ℕ)) (store : IsStore disk.content bodies) → CanMark bodies →
    IsAtRest (after_disk_calls (opened_disk disk bodies store) (mark_calls bodies)) (closed_store (bodies ++ mark ∷ []))
mark_end disk bodies store can = committed (opened_disk disk bodies store) bodies mark (open_end disk bodies store) (is_markable bodies can)

good_marked : (fine : List (List ℕ) → Type 0) (disk : DiskState) (bodies : List (List ℕ)) (store : IsStore disk.content bodies) →
    CanMark bodies → fine bodies → fine (bodies ++ mark ∷ [])
    → (end : DiskState) → IsWithin (opened_disk disk bodies store) (mark_calls bodies) end → Good fine end
good_marked fine disk bodies store can are more end within =
    good_within_commit fine (opened_disk disk bodies store) bodies mark (open_end disk bodies store) store.each store.count
    (is_markable bodies can) are more end within

module _ (start : World) (old : List Record) (events : List Event) (is : IsStart start old) (schedule : IsSchedule start events) where
  -- the bodies that the group left grew from those that were reported
  from_start : (bodies : List (List ℕ)) → LeftBehind (run start events) old bodies
      → GrowsTo (record { bodies = start.bodies; first_guest = start.first_guest }) (run start events ∷ []) bodies
  from_start bodies behind =
      subst (λ (n : ℕ). GrowsTo (record { bodies = start.bodies; first_guest = n }) (run start events ∷ []) bodies)
      (run_same start events).1
      (subst (λ (b : List (List ℕ)). GrowsTo (record { bodies = b; first_guest = (run start events).first_guest }) (run start events ∷ [])
      bodies) (run_same start events).0 behind.grows)

  good_run : (fine : List (List ℕ) → Type 0) → ((bodies : List (List ℕ)) → LeftBehind (run start events) old bodies → fine bodies) →
      Good fine (run start events).disk
  good_run fine weaker = good_weaker (LeftBehind (run start events) old) fine weaker (run start events).disk
      (store_left (run start events) old (invariant_of_run start old events (invariant_at_start start old is) schedule))

-- with the world to which this session came, if it ran
abbrev and_ran : List World → Session → List World
and_ran since StoppedOpening = since
and_ran since (Marked bodies old) = since
and_ran since (OnlyOpened bodies old) = since
and_ran since (Ran reported start old events) = since ++ run start events ∷ []

abbrev and_all_ran : List World → List Session → List World
and_all_ran since [] = since
and_all_ran since (session ∷ sessions) = and_all_ran (and_ran since session) sessions

module _ (P : List World → List (List ℕ) → Type 0) (stays : Stays P) (stays_marked : StaysMarked P) where
  -- what is so of the bodies on a disk is so of those that are reported, and of those with which a run begins
  begun_at : (since : List World) (disk : DiskState) (reported bodies : List (List ℕ)) (begun : DiskState) → Good (P since) disk →
      IsBegun disk reported bodies begun → P since reported × P since bodies
  begun_at since disk reported bodies begun good (store, begins) =
      let here : P since reported = fine_at (P since) disk good disk.content reported (inl refl) store in (
        here,
        ⊎_elim (λ as_reported. subst (P since) (sym as_reported.0) here)
            (λ marked. subst (P since) (sym marked.1) (stays_marked since reported marked.0 here)) begins,
      )

  -- what stays as bodies grow stays over a session
  good_session : (since : List World) (disk : DiskState) (session : Session) (end : DiskState) → Good (P since) disk →
      IsSession disk session end → Good (P (and_ran since session)) end
  good_session since disk StoppedOpening end good (bodies, store, within) = good_open (P since) disk good bodies store end within
  good_session since disk (Marked bodies old) end good (store, recovered, can, within) =
      let are : P since bodies = fine_at (P since) disk good disk.content bodies (inl refl) store in
      good_marked (P since) disk bodies store can are (stays_marked since bodies can are) end within
  good_session since disk (OnlyOpened bodies old) end good (store, recovered, is) =
      subst (Good (P since)) (sym is)
      (good_opened (P since) disk bodies store (fine_at (P since) disk good disk.content bodies (inl refl) store))
  good_session since disk (Ran reported start old events) end good (begun, is, schedule, end_is) =
      subst (Good (P (since ++ run start events ∷ []))) (sym end_is)
      (good_run start old events is schedule (P (since ++ run start events ∷ []))
      (λ bodies behind. stays since (run start events) old bodies behind
      (subst (P since) (sym (run_same start events).0) (begun_at since disk reported start.bodies start.disk good begun).1)))

  -- and once it was stopped
  good_next : (since : List World) (disk : DiskState) (session : Session) (stop next : DiskState) → Good (P since) disk →
      IsSession disk session stop → IsStopped stop next
      → Good (P (and_ran since session)) next
  good_next since disk session stop next good one stopped =
      good_stopped (P (and_ran since session)) stop next (good_session since disk session stop good one) stopped

  found_later : (since : List World) (disk : DiskState) (sessions : List Session) (end : DiskState) → Good (P since) disk →
      AreSessions disk sessions end → IsFoundLater P since sessions end
  found_later since disk [] end good is = fine_at (P since) end (subst (Good (P since)) (sym is) good)
  found_later since disk (StoppedOpening ∷ sessions) end good (stop, next, one, stopped, rest) =
      found_later since next sessions end (good_next since disk StoppedOpening stop next good one stopped) rest
  found_later since disk (Marked bodies old ∷ sessions) end good (stop, next, one, stopped, rest) = (
    fine_at (P since) disk good disk.content bodies (inl refl) one.0,
    found_later since next sessions end (good_next since disk (Marked bodies old) stop next good one stopped) rest,
  )
  found_later since disk (OnlyOpened bodies old ∷ sessions) end good (stop, next, one, stopped, rest) = (
    fine_at (P since) disk good disk.content bodies (inl refl) one.0,
    found_later since next sessions end (good_next since disk (OnlyOpened bodies old) stop next good one stopped) rest,
  )
  found_later since disk (Ran reported start old events ∷ sessions) end good (stop, next, one, stopped, rest) = (
    (begun_at since disk reported start.bodies start.disk good one.0).0,
    (begun_at since disk reported start.bodies start.disk good one.0).1,
    found_later (since ++ run start events ∷ []) next sessions end
        (good_next since disk (Ran reported start old events) stop next good one stopped)
        rest,
  )

  good_end : (since : List World) (disk : DiskState) (sessions : List Session) (end : DiskState) → Good (P since) disk →
      AreSessions disk sessions end → Good (P (and_all_ran since sessions)) end
  good_end since disk [] end good is = subst (Good (P since)) (sym is) good
  good_end since disk (session ∷ sessions) end good (stop, next, one, stopped, rest) =
      good_end (and_ran since session) next sessions end (good_next since disk session stop next good one stopped) rest

-- ---- the laws

pub each_grows : (disk : DiskState) (sessions : List Session) (end : DiskState) → AreSessions disk sessions end → AreGrowing sessions end
each_grows disk [] end is = tt
each_grows disk (StoppedOpening ∷ sessions) end (stop, next, one, stopped, rest) = each_grows next sessions end rest
each_grows disk (Marked bodies old ∷ sessions) end (stop, next, one, stopped, rest) =
    let grows = GrowsTo (report_of bodies old) in
    let own : grows [] bodies = own_growth bodies old one.1 in
    let good : Good (grows []) stop =
    good_marked (grows []) disk bodies one.0 one.2 own (growth_stays_marked (report_of bodies old) [] bodies one.2 own) stop one.3 in (
      found_later grows (growth_stays bodies old one.1) (growth_stays_marked (report_of bodies old)) [] next sessions end
          (good_stopped (grows []) stop next good stopped) rest,
      each_grows next sessions end rest,
    )
each_grows disk (OnlyOpened bodies old ∷ sessions) end (stop, next, one, stopped, rest) =
    let grows = GrowsTo (report_of bodies old) in
    let good : Good (grows []) stop =
    subst (Good (grows [])) (sym one.2) (good_opened (grows []) disk bodies one.0 (own_growth bodies old one.1)) in (
      found_later grows (growth_stays bodies old one.1) (growth_stays_marked (report_of bodies old)) [] next sessions end
          (good_stopped (grows []) stop next good stopped) rest,
      each_grows next sessions end rest,
    )
each_grows disk (Ran reported start old events ∷ sessions) end (stop, next, one, stopped, rest) =
    let grows = GrowsTo (record { bodies = start.bodies; first_guest = start.first_guest }) in
    let since : List World = run start events ∷ [] in
    let good : Good (grows since) stop =
    subst (Good (grows since)) (sym one.3)
    (good_run start old events one.1 one.2 (grows since) (from_start start old events one.1 one.2)) in
    let stays : Stays grows =
    subst (λ (n : ℕ). Stays (GrowsTo (record { bodies = start.bodies; first_guest = n }))) (sym one.1.next)
    (growth_stays start.bodies old one.1.recovered) in (
      found_later grows stays
          (growth_stays_marked (record { bodies = start.bodies; first_guest = start.first_guest })) since next sessions end
          (good_stopped (grows since) stop next good stopped) rest,
      each_grows next sessions end rest,
    )

pub each_is_kept : (disk : DiskState) (sessions : List Session) (end : DiskState) → AreSessions disk sessions end → AreKept sessions end
each_is_kept disk [] end is = tt
each_is_kept disk (StoppedOpening ∷ sessions) end (stop, next, one, stopped, rest) = each_is_kept next sessions end rest
each_is_kept disk (Marked bodies old ∷ sessions) end (stop, next, one, stopped, rest) = each_is_kept next sessions end rest
each_is_kept disk (OnlyOpened bodies old ∷ sessions) end (stop, next, one, stopped, rest) = each_is_kept next sessions end rest
each_is_kept disk (Ran reported start old events ∷ sessions) end (stop, next, one, stopped, rest) =
    let keeps = KeepsSession (run start events) old in
    let good : Good (keeps []) stop =
    subst (Good (keeps [])) (sym one.3) (good_run start old events one.1 one.2 (keeps []) (own_session (run start events) old)) in (
      found_later keeps (session_stays (run start events) old) (session_stays_marked (run start events) old) [] next sessions end
          (good_stopped (keeps []) stop next good stopped) rest,
      each_is_kept next sessions end rest,
    )

pub opens_again : (content : List ℕ) (sessions : List Session) (end : DiskState) → CanOpen content →
    AreSessions (fresh_disk content) sessions end
    → (c : List ℕ) → Gives end c → CanOpen c
opens_again content sessions end can are =
    good_end (λ since. HasRecords) records_stay records_stay_marked [] (fresh_disk content) sessions end (good_fresh HasRecords content can)
    are
