-- How records that are given one at a time go on.
use Rattle.std.proofs.Common.{◌≡◌, ℕ, suc, zero, ◌+◌, ◌<◌, ◌≤◌, true, false, List, [], ◌∷◌, ◌++◌, length, map, take, drop, get_or, refl, sym, ◌∙◌, ap, subst, arith, Some, Result}
use Rattle.std.specs.Prelude.{slice_get, IsSomeAnd}
use Rattle.std.proofs.lemmas.List.{append-nil, length-take-le, take_all}
use Rattle.std.proofs.Math.Seq.{take-suc}
use Rattle.rrv_model.specs.declared.record.Frame.{Frame}
use Rattle.rrv_model.specs.declared.record.Item.{Item}
use Rattle.rrv_model.specs.declared.record.Item.TheVariants as items
use Rattle.rrv_model.specs.declared.record.Opening.{Opening}
use Rattle.rrv_model.specs.declared.record.Part.{Part}
use Rattle.rrv_model.specs.declared.record.Record.{Record}
use Rattle.rrv_model.specs.State.{State}
use Rattle.rrv_model.specs.Recording.{EndsIn, IsRecording, frames_of, items_of}
use Rattle.rrv_model.specs.Standing.{Leads}
use Rattle.rrv_model.specs.StateAt.{StateAtFrom, total}
use Rattle.rrv_model.proofs.RunLaws.{at_total_append, frames-append, items-append}
use Rattle.guest_calls.specs.Guest.{state_of}
use Rattle.serial_sched.specs.LastThread.{last_from, last_tid, thread_after}
use Rattle.faults.specs.declared.replay.VerifyFault.{VerifyFault}
use Rattle.faults.specs.declared.replay.VerifyFault.TheVariants as faults
use Rattle.replayer.specs.declared.recording.Mark.{Mark}
use Rattle.replayer.specs.declared.verified_end.VerifiedEnd.{VerifiedEnd}
use Rattle.replayer.specs.declared.walk.Walk.{Walk}
use Rattle.replayer.specs.Sourced.{Followed, FollowsAll, IsEndOf, RefusesGiven, RefusesSource, is_unreadable}
use Rattle.replayer.specs.Asked.{AsksSource, Sourcing}
use Rattle.replayer.specs.LastThread.{thread_behind}
use Rattle.replayer.specs.Kept.{IsKeptOf, KeepsAll, KeepsOn, RowIs, instructions_in}
use Rattle.replayer.specs.Refusals.{RefusesFirst, RefusesNext, TakesMemory}
use Rattle.replayer.specs.Verified.{Keeps}
use Rattle.replayer.specs.Walks.{LeadsOn, Stands}
use Rattle.replayer.proofs.Kept.{all_kept, drop_first, keeps_first, keeps_on, total-push}
use Rattle.replayer.proofs.Last.{keeps_of}
use Rattle.replayer.proofs.Walked.{recording_of, refused_at, refused_first, stands_next}

get_from : (xs : List Record) (i : ℕ) (x : Record) → slice_get xs i ≡ Some x → x ≡ get_or xs i x
get_from [] i x e = cc
get_from (y ∷ xs) zero x e = let same : y ≡ x = cc in sym same
get_from (y ∷ xs) (suc i) x e = get_from xs i x e

first_and_rest : (xs : List Record) (x : Record) → slice_get xs 0 ≡ Some x → (rest : List Record) × (xs ≡ x ∷ rest)
first_and_rest [] x e = cc
first_and_rest (y ∷ xs) x e = let same : y ≡ x = cc in (xs, ap (λ q. q ∷ xs) same)

pub first_more : (P : Record → Type 0) (xs ys : List Record) → IsSomeAnd (slice_get xs 0) P → IsSomeAnd (slice_get (xs ++ ys) 0) P
first_more P [] ys h = absurd h
first_more P (x ∷ xs) ys h = h

pub keeps_given : (read : List Record) (r : Record) (row row' : List Part) (frames frames' : List Frame) (marks marks' : List Mark)
    (steps steps' : ℕ) → 1 ≤ length read → KeepsAll (drop 1 (items_of read)) row frames marks steps →
    KeepsOn r.item row frames marks steps frames' marks' steps' → RowIs r.item row row' →
    KeepsAll (drop 1 (items_of (read ++ r ∷ []))) row' frames' marks' steps'
keeps_given read r row row' frames frames' marks marks' steps steps' some h k is =
    subst (λ (its : List Item). KeepsAll its row' frames' marks' steps') (sym (drop_first read (r ∷ []) some))
    (keeps_on (drop 1 (items_of read)) r.item row row' frames frames' marks marks' steps steps' h k is)

-- ---- how records that were followed go on

frames_next : (rest : List Item) (it : Item) → frames_of (rest ++ it ∷ []) ≡ frames_of rest ++ frames_of (it ∷ [])
frames_next [] it = refl
frames_next (items.Opening o ∷ rest) it = frames_next rest it
frames_next (items.Frame f ∷ rest) it = ap (λ fs. f ∷ fs) (frames_next rest it)
frames_next (items.Part p ∷ rest) it = frames_next rest it

no_frame : (rest : List Item) (it : Item) → frames_of (it ∷ []) ≡ [] → frames_of (rest ++ it ∷ []) ≡ frames_of rest
no_frame rest it none = frames_next rest it ∙ ap (λ fs. frames_of rest ++ fs) none ∙ append-nil (frames_of rest)

pub counted_next : (its : List Item) (it : Item) → total (frames_of (its ++ it ∷ [])) ≡ total (frames_of its) + instructions_in it
counted_next its (items.Opening o) = ap (λ fs. total fs) (no_frame its (items.Opening o) refl) ∙ omega arith
counted_next its (items.Frame f) = ap (λ fs. total fs) (frames-append its f) ∙ total-push (frames_of its) f
counted_next its (items.Part p) = ap (λ fs. total fs) (no_frame its (items.Part p) refl) ∙ omega arith

last_append : (fs : List Frame) (before : ℕ) (f : Frame) → last_from before (fs ++ f ∷ []) ≡ thread_after f (last_from before fs)
last_append [] before f = refl
last_append (g ∷ fs) before f = last_append fs (thread_after g before) f

pub last_next : (its : List Item) (it : Item) → last_tid (frames_of (its ++ it ∷ [])) ≡ thread_behind it (last_tid (frames_of its))
last_next its (items.Opening o) = ap (λ fs. last_tid fs) (no_frame its (items.Opening o) refl)
last_next its (items.Frame f) = ap (λ fs. last_tid fs) (frames-append its f) ∙ last_append (frames_of its) 0 f
last_next its (items.Part p) = ap (λ fs. last_tid fs) (no_frame its (items.Part p) refl)

pub ends_next : (its : List Item) (it : Item) (base : State) (row : List Part) (s base' : State) (row' : List Part) (s' : State) →
    EndsIn its s → Leads it base row s base' row' s' → EndsIn (its ++ it ∷ []) s'
ends_next [] it base row s base' row' s' h leads = absurd h
ends_next (items.Opening o ∷ rest) (items.Opening p) base row s base' row' s' h leads = absurd leads
ends_next (items.Opening o ∷ rest) (items.Frame f) base row s base' row' s' h leads = (
  h.0,
  h.1,
  subst (λ (fs : List Frame). StateAtFrom h.0 fs (total fs) s') (sym (frames-append rest f))
      (at_total_append (frames_of rest) h.0 s s' f h.2 leads.0),
)
ends_next (items.Opening o ∷ rest) (items.Part p) base row s base' row' s' h leads =
    let there = subst (λ (q : State). StateAtFrom h.0 (frames_of rest) (total (frames_of rest)) q) (sym leads.3) h.2 in
    (h.0, h.1, subst (λ (fs : List Frame). StateAtFrom h.0 fs (total fs) s') (sym (no_frame rest (items.Part p) refl)) there)
ends_next (items.Frame f ∷ rest) it base row s base' row' s' h leads = absurd h
ends_next (items.Part p ∷ rest) it base row s base' row' s' h leads = absurd h

none_ran : (it : Item) (s : State) → EndsIn (it ∷ []) s → last_tid (frames_of (it ∷ [])) ≡ 0
none_ran (items.Opening o) s h = refl
none_ran (items.Frame f) s h = absurd h
none_ran (items.Part p) s h = absurd h

none_counted : (it : Item) (s : State) → EndsIn (it ∷ []) s → total (frames_of (it ∷ [])) ≡ 0
none_counted (items.Opening o) s h = refl
none_counted (items.Frame f) s h = absurd h
none_counted (items.Part p) s h = absurd h

-- the first record alone
pub followed_first : (first : Record) (walk : Walk) →
    Stands first.guest (first ∷ []) (state_of walk.pair.base) walk.parts.items (state_of walk.pair.guest) →
    walk.parts.items ≡ [] → walk.frames.items ≡ [] → walk.marks.items ≡ [] → walk.total ≡ 0 → walk.last ≡ 0 →
    EndsIn (first.item ∷ []) (state_of walk.pair.guest) → Followed first (first ∷ []) walk
followed_first first walk stands row frames marks total_is last_is ends = record {
  first_is = refl;
  stands = stands;
  keeps = λ on. rw (row, frames, marks, total_is) keeps_first;
  ends = ends;
  counted = total_is ∙ sym (none_counted first.item (state_of walk.pair.guest) ends);
  last = last_is ∙ sym (none_ran first.item (state_of walk.pair.guest) ends);
}

pub first_of_list : (records : List Record) (first : Record) (rest : List Record) (walk : Walk) → records ≡ first ∷ rest →
    Followed first (first ∷ []) walk → Followed first (take 1 records) walk
first_of_list records first rest walk is h = subst (λ (rs : List Record). Followed first (take 1 rs) walk) (sym is) h

-- one record more, behind those that were followed
pub followed_next : (first : Record) (read : List Record) (r : Record) (old new : Walk) → 1 ≤ length read → Followed first read old →
    (old.keeps ≡ true →
    KeepsOn r.item old.parts.items old.frames.items old.marks.items old.total new.frames.items new.marks.items new.total)
    →
    RowIs r.item old.parts.items new.parts.items → new.keeps ≡ old.keeps → new.total ≡ old.total + instructions_in r.item →
    new.last ≡ thread_behind r.item old.last →
    LeadsOn first.guest (length read) r (state_of old.pair.base) old.parts.items (state_of old.pair.guest) (state_of new.pair.base)
    new.parts.items
    (state_of new.pair.guest) →
    Followed first (read ++ r ∷ []) new
followed_next first read r old new some h keeps row goes_on counted last leads = record {
  first_is = first_more (λ q. q ≡ first) read (r ∷ []) h.first_is;
  stands = stands_next first.guest read r (state_of old.pair.base) old.parts.items (state_of old.pair.guest) (state_of new.pair.base)
      new.parts.items
      (state_of new.pair.guest) h.stands leads;
  keeps = λ on.
      let kept : old.keeps ≡ true = sym goes_on ∙ on in
      keeps_given read r old.parts.items new.parts.items old.frames.items new.frames.items old.marks.items new.marks.items old.total
      new.total
      some (h.keeps kept) (keeps kept) row;
  ends = subst (λ (its : List Item). EndsIn its (state_of new.pair.guest)) (sym (items-append read r))
      (ends_next (items_of read) r.item (state_of old.pair.base) old.parts.items (state_of old.pair.guest) (state_of new.pair.base)
      new.parts.items
      (state_of new.pair.guest) h.ends leads.leads);
  counted = counted ∙ ap (λ n. n + instructions_in r.item) h.counted ∙ sym (counted_next (items_of read) r.item)
      ∙ ap (λ (its : List Item). total (frames_of its)) (sym (items-append read r));
  last = last ∙ ap (λ n. thread_behind r.item n) h.last ∙ sym (last_next (items_of read) r.item)
      ∙ ap (λ (its : List Item). last_tid (frames_of its)) (sym (items-append read r));
}

-- the next record of a list
pub followed_at : (first : Record) (records : List Record) (index : ℕ) (r : Record) (old new : Walk) → index < length records → 1 ≤ index →
    r ≡ get_or records index r →
    Followed first (take index records) old →
    (old.keeps ≡ true →
    KeepsOn r.item old.parts.items old.frames.items old.marks.items old.total new.frames.items new.marks.items new.total)
    →
    RowIs r.item old.parts.items new.parts.items → new.keeps ≡ old.keeps → new.total ≡ old.total + instructions_in r.item →
    new.last ≡ thread_behind r.item old.last →
    LeadsOn first.guest index r (state_of old.pair.base) old.parts.items (state_of old.pair.guest) (state_of new.pair.base) new.parts.items
    (state_of new.pair.guest) →
    Followed first (take (index + 1) records) new
followed_at first records index r old new below some there h keeps row goes_on counted last leads =
    let len : length (take index records) ≡ index = length-take-le index records (omega arith) in
    let one_more : index + 1 ≡ suc index = omega arith in
    let longer : take (index + 1) records ≡ take index records ++ r ∷ [] =
    ap (λ n. take n records) one_more ∙ take-suc records index r below ∙ ap (λ q. take index records ++ q ∷ []) (sym there) in
    subst (λ (rs : List Record). Followed first rs new) (sym longer)
    (followed_next first (take index records) r old new (omega (arith, len)) h keeps row goes_on counted last
    (subst (λ n. LeadsOn first.guest n r (state_of old.pair.base) old.parts.items (state_of old.pair.guest) (state_of new.pair.base)
    new.parts.items
    (state_of new.pair.guest)) (sym len) leads))

-- all that was read is kept
pub read_kept : (first : Record) (read : List Record) (walk : Walk) (o : Opening) → Followed first read walk → walk.keeps ≡ true →
    first.item ≡ items.Opening o →
    IsRecording read × IsKeptOf (items_of read) o walk.frames.items walk.marks.items
read_kept first read walk o h keeps item_is =
    let long : length read ≤ length read = omega arith in
    let all : take (length read) read ≡ read = take_all (length read) read long in
    all_kept first.guest read first (length read) o (state_of walk.pair.base) walk.parts.items (state_of walk.pair.guest) walk.frames.items
    walk.marks.items walk.total long
    (subst (λ (rs : List Record). Stands first.guest rs (state_of walk.pair.base) walk.parts.items (state_of walk.pair.guest)) (sym all)
    h.stands)
    h.first_is item_is
    (subst (λ (rs : List Record). KeepsAll (drop 1 (items_of rs)) walk.parts.items walk.frames.items walk.marks.items walk.total) (sym all)
    (h.keeps keeps))

pub kept_records : (records : List Record) (o : Opening) (frames : List Frame) (marks : List Mark) (len : ℕ) → length records ≡ len →
    IsRecording records → IsKeptOf (items_of records) o frames marks →
    Keeps (record { opening = o; frames = frames; checkpoints = map (λ m. m.at) marks; len = len }) records
kept_records records o frames marks len is recording kept =
    subst (λ n. Keeps (record { opening = o; frames = frames; checkpoints = map (λ m. m.at) marks; len = n }) records) is
    (keeps_of records o frames marks recording kept)

-- what was read to the end is what the source stands for
pub all_read : (read records : List Record) (index : ℕ) → read ≡ take index records → length records ≤ index → read ≡ records
all_read read records index is long = is ∙ take_all index records long

-- the end of what was followed
pub end_of : (first : Record) (read records : List Record) (walk : Walk) (end : VerifiedEnd) → Followed first read walk → read ≡ records →
    end.guest ≡ walk.pair.guest → end.total ≡ walk.total → end.len ≡ length read → end.last ≡ walk.last →
    IsEndOf end records
end_of first read records walk end h are guest_is total_is len_is last_is = subst (λ (rs : List Record). IsEndOf end rs) are (record {
  recording = recording_of first.guest read (state_of walk.pair.base) walk.parts.items (state_of walk.pair.guest) h.stands;
  ends = subst (λ (g : _). EndsIn (items_of read) (state_of g)) (sym guest_is) h.ends;
  total = total_is ∙ h.counted;
  len = len_is;
  last = last_is ∙ h.last;
})

-- ---- refusals

some_there : (records : List Record) (first : Record) → slice_get records 0 ≡ Some first → 1 ≤ length records
some_there [] first e = cc
some_there (r ∷ records) first e = omega arith

pub first_refused : (e : VerifyFault) (records : List Record) (first : Record) → slice_get records 0 ≡ Some first → RefusesFirst e first →
    RefusesSource e records
first_refused faults.BadOpening records first there refuses = let split =
    first_and_rest records first there in refused_first faults.BadOpening records first split.0 split.1 refuses
first_refused (faults.Mismatch index) records first there refuses = absurd refuses
first_refused (faults.BadCheckpoint index) records first there refuses = absurd refuses
first_refused faults.Memory records first there refuses = some_there records first there
first_refused (faults.Unreadable index) records first there refuses = absurd refuses

taken_there : (records : List Record) (first : Record) → slice_get records 0 ≡ Some first → TakesMemory first →
    IsSomeAnd (slice_get records 0) TakesMemory
taken_there records first there takes = subst (λ o. IsSomeAnd o TakesMemory) (sym there) takes

pub given_refused : (e : VerifyFault) (guest : ℕ) (records : List Record) (index : ℕ) (first : Record) (read : List Record) (base : State)
    (row : List Part) (s : State) → index < length records →
    slice_get records 0 ≡ Some first → TakesMemory first → read ≡ take index records → Stands guest read base row s →
    RefusesGiven e guest index records base row s → RefusesSource e records
given_refused faults.BadOpening guest records index first read base row s below there takes is stands refuses = absurd refuses
given_refused (faults.Mismatch place) guest records index first read base row s below there takes is stands refuses =
    refused_at (faults.Mismatch place) guest records index refuses.0 base row s below (get_from records index refuses.0 refuses.1)
    (subst (λ (rs : List Record). Stands guest rs base row s) is stands)
    (taken_there records first there takes) refuses.2
given_refused (faults.BadCheckpoint place) guest records index first read base row s below there takes is stands refuses =
    refused_at (faults.BadCheckpoint place) guest records index refuses.0 base row s below (get_from records index refuses.0 refuses.1)
    (subst (λ (rs : List Record). Stands guest rs base row s) is stands)
    (taken_there records first there takes) refuses.2
given_refused faults.Memory guest records index first read base row s below there takes is stands refuses = some_there records first there
given_refused (faults.Unreadable place) guest records index first read base row s below there takes is stands refuses =
    subst (λ n. (n < length records) × (1 ≤ n → IsRecording (take n records))) (sym refuses)
    (below, λ some. subst IsRecording is (recording_of guest read base row s stands))

-- ---- what isn't withheld

pub first_given : (e : VerifyFault) (first : Record) → RefusesFirst e first → is_unreadable e ≡ false
first_given faults.BadOpening first refuses = refl
first_given (faults.Mismatch index) first refuses = refl
first_given (faults.BadCheckpoint index) first refuses = refl
first_given faults.Memory first refuses = refl
first_given (faults.Unreadable index) first refuses = absurd refuses

pub next_given : (e : VerifyFault) (guest index : ℕ) (r : Record) (base : State) (row : List Part) (s : State) →
    RefusesNext e guest index r base row s → is_unreadable e ≡ false
next_given faults.BadOpening guest index r base row s refuses = refl
next_given (faults.Mismatch place) guest index r base row s refuses = refl
next_given (faults.BadCheckpoint place) guest index r base row s refuses = refl
next_given faults.Memory guest index r base row s refuses = refl
next_given (faults.Unreadable place) guest index r base row s refuses = absurd refuses

-- the records that were followed are those that an honest source stood for before the first was asked for
pub all_given : {S X : Type 0} (source : Sourcing S) {result : Result X VerifyFault} {old new : S} {first : Record} {walk : Walk} →
    AsksSource source result old new → (all : FollowsAll source.honest source.records new first walk) → source.honest old →
    slice_get (source.records old) 0 ≡ Some first → all.read ≡ source.records old
all_given source {first = first} asks all h there =
    all.are (asks.honest.1 h) (subst (λ (rs : List Record). slice_get rs 0 ≡ Some first) (sym asks.records) there) ∙ asks.records
