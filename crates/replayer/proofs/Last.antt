-- The places of the complete checkpoints, and the last of them at or before a place.
use Rattle.std.proofs.Common.{◌≡◌, ℕ, zero, suc, ◌+◌, ◌<◌, ◌≤◌, ◌⊎◌, inl, inr, Bool, true, false, nat_le, List, [], ◌∷◌, ◌++◌, length, map, take, Option, Some, None, refl, sym, ◌∙◌, ap, subst, arith}
use Rattle.std.specs.Prelude.{Contains, if◌then◌else◌, slice_index_or}
use Rattle.std.proofs.lemmas.Bool.Decides.{nat_tests}
use Rattle.std.proofs.lemmas.List.{map-append}
use Rattle.std.proofs.lemmas.List.Sums.{sum_by-cons}
use Rattle.rrv_model.specs.declared.record.CheckpointRest.{CheckpointRest}
use Rattle.rrv_model.specs.declared.record.Frame.{Frame}
use Rattle.rrv_model.specs.declared.record.Item.{Item}
use Rattle.rrv_model.specs.declared.record.Item.TheVariants as items
use Rattle.rrv_model.specs.declared.record.Opening.{Opening}
use Rattle.rrv_model.specs.declared.record.Part.{Part}
use Rattle.rrv_model.specs.declared.record.Record.{Record}
use Rattle.rrv_model.specs.Recording.{EndsIn, IsRecording, frames_of, items_of, row_after}
use Rattle.rrv_model.specs.State.{State}
use Rattle.rrv_model.specs.StateAt.{StateAt, total}
use Rattle.replayer.specs.declared.recording.Track.{Track}
use Rattle.replayer.specs.declared.recording.Mark.{Mark}
use Rattle.replayer.specs.Kept.{IsKeptOf, IsTrack, last_place, marks_of, new_marks, verified_of}
use Rattle.replayer.specs.Verified.{CheckpointsAreLastParts, HasCheckpointAt, IsLastCheckpoint, IsVerified, Keeps, RanFromLast, TotalIsTheEnd, checkpoints_of, completed}
use Rattle.replayer.proofs.Placed.{last_on}

abbrev places_of : List Mark → List ℕ
places_of marks = map (λ m. m.at) marks

-- ---- elements

contains_first : (x : ℕ) (xs : List ℕ) → Contains (x ∷ xs) x
contains_first x xs = (0, omega arith, refl)

contains_behind : (x : ℕ) (xs : List ℕ) (y : ℕ) → Contains xs y → Contains (x ∷ xs) y
contains_behind x xs y h = let below = h.1 in (suc h.0, omega (arith, below), h.2)

cases_at : (x : ℕ) (xs : List ℕ) (y k : ℕ) → k < length (x ∷ xs) → slice_index_or (x ∷ xs) k y ≡ y → (x ≡ y) ⊎ Contains xs y
cases_at x xs y zero below same = inl same
cases_at x xs y (suc k) below same = inr (k, omega (arith, below), same)

contains_cases : (x : ℕ) (xs : List ℕ) (y : ℕ) → Contains (x ∷ xs) y → (x ≡ y) ⊎ Contains xs y
contains_cases x xs y h = cases_at x xs y h.0 h.1 h.2

contains_none : (y : ℕ) → Contains [] y → ⊥
contains_none y h = let below = h.1 in absurd (omega (arith, below))

-- their places rise from the least on
abbrev pub Rise : ℕ → List Mark → Type 0
Rise least [] = Unit {0}
Rise least (m ∷ marks) = (least ≤ m.at) × Rise m.at marks

-- ---- marks of items

rise_lower : (lower least : ℕ) (marks : List Mark) → lower ≤ least → Rise least marks → Rise lower marks
rise_lower lower least [] low h = tt
rise_lower lower least (m ∷ marks) low h = (omega (arith, low, h.0), h.1)

rise_new : (flag : Option CheckpointRest) (m : Mark) (marks : List Mark) → Rise m.at marks → Rise m.at (new_marks flag m ++ marks)
rise_new None m marks h = h
rise_new (Some rest) m marks h = (omega arith, h)

marks_rise : (its : List Item) (row : List Part) (n steps : ℕ) → Rise steps (marks_of row n steps its)
marks_rise [] row n steps = tt
marks_rise (items.Opening o ∷ its) row n steps = marks_rise its row n steps
marks_rise (items.Frame f ∷ its) row n steps =
    rise_lower steps (steps + f.count) (marks_of [] (n + 1) (steps + f.count) its) (omega arith)
    (marks_rise its [] (n + 1) (steps + f.count))
marks_rise (items.Part p ∷ its) row n steps =
    rise_new p.rest (record { frames = n; at = steps; parts = row ++ p ∷ [] }) (marks_of (row_after p.rest (row ++ p ∷ [])) n steps its)
    (marks_rise its (row_after p.rest (row ++ p ∷ [])) n steps)

-- ---- the last one

pick : (P : ℕ → Type 0) (b : Bool) (x y : ℕ) → P x → P y → P (if b then x else y)
pick P true x y h k = h
pick P false x y h k = k

low_last : (marks : List Mark) (least t : ℕ) → Rise least marks → least ≤ last_place least marks t
low_last [] least t h = omega arith
low_last (m ∷ marks) least t h =
    let more = low_last marks m.at t h.1 in
    pick (λ i. least ≤ i) (nat_le m.at t) (last_place m.at marks t) least (omega (arith, h.0, more)) (omega arith)

rise_any : (marks : List Mark) (least place : ℕ) → Rise least marks → Contains (places_of marks) place → least ≤ place
rise_any [] least place h any = absurd (contains_none place any)
rise_any (m ∷ marks) least place h any =
    by (contains_cases m.at (places_of marks) place any) (λ behind. rise_any marks m.at place h.1 behind) where
      by : (m.at ≡ place) ⊎ Contains (places_of marks) place → (Contains (places_of marks) place → m.at ≤ place) → least ≤ place
      by (inl same) more = omega (arith, same, h.0)
      by (inr behind) more = let above = more behind in omega (arith, above, h.0)

greatest : (marks : List Mark) (least t place : ℕ) → Rise least marks → Contains (places_of marks) place → place ≤ t →
    place ≤ last_place least marks t
greatest [] least t place h any low = absurd (contains_none place any)
greatest (m ∷ marks) least t place h any low =
    by (contains_cases m.at (places_of marks) place any) (λ behind. greatest marks m.at t place h.1 behind low) where
      by : (m.at ≡ place) ⊎ Contains (places_of marks) place → (Contains (places_of marks) place → place ≤ last_place m.at marks t) →
          place ≤ last_place least (m ∷ marks) t
      by (inl same) more =
          let on = last_on least m marks t (omega (arith, same, low)) in
          let last = low_last marks m.at t h.1 in
          omega (arith, on, last, same)
      by (inr behind) more =
          let above = rise_any marks m.at place h.1 behind in
          let on = last_on least m marks t (omega (arith, above, low)) in
          let last = more behind in
          omega (arith, on, last)

either_way : (marks : List Mark) (m : Mark) (place : ℕ) → Contains (places_of marks) place ⊎ (place ≡ m.at) →
    Contains (places_of (m ∷ marks)) place
either_way marks m place (inl any) = contains_behind m.at (places_of marks) place any
either_way marks m place (inr same) = subst (λ i. Contains (places_of (m ∷ marks)) i) (sym same) (contains_first m.at (places_of marks))

chosen : (m : Mark) (marks : List Mark) (least t : ℕ) (b : Bool) → nat_le m.at t ≡ b → least ≤ t →
    (m.at ≤ t → (Contains (places_of marks) (last_place m.at marks t) ⊎ (last_place m.at marks t ≡ m.at)) × (last_place m.at marks t ≤ t)) →
    (Contains (places_of (m ∷ marks)) (if b then last_place m.at marks t else least) ⊎
    ((if b then last_place m.at marks t else least) ≡ least))
    × ((if b then last_place m.at marks t else least) ≤ t)
chosen m marks least t true test low more =
    let behind = more (grind (arith, nat_tests, test)) in
    (inl (either_way marks m (last_place m.at marks t) behind.0), behind.1)
chosen m marks least t false test low more = (inr refl, low)

last_is : (marks : List Mark) (least t : ℕ) → least ≤ t →
    (Contains (places_of marks) (last_place least marks t) ⊎ (last_place least marks t ≡ least)) × (last_place least marks t ≤ t)
last_is [] least t low = (inr refl, low)
last_is (m ∷ marks) least t low = chosen m marks least t (nat_le m.at t) refl low (λ within. last_is marks m.at t within)

-- ---- of a verified recording

marks_kept : (its : List Item) (o : Opening) (frames : List Frame) (marks : List Mark) → IsKeptOf its o frames marks → Rise 0 marks
marks_kept [] o frames marks k = absurd k
marks_kept (items.Opening q ∷ its) o frames marks k = subst (Rise 0) (sym k.2) (marks_rise its [] 0 0)
marks_kept (items.Frame f ∷ its) o frames marks k = absurd k
marks_kept (items.Part q ∷ its) o frames marks k = absurd k

pub ran_from_last : (track : Track) (len t ran : ℕ) → IsTrack track len → ran + last_place 0 track.marks t ≤ t →
    RanFromLast (verified_of track len) t ran
ran_from_last track len t ran is h =
    let rise = marks_kept (items_of is.0) track.opening track.frames track.marks is.1.kept in
    record {
      from_start = omega (arith, h);
      from_last = λ place there low. let last = greatest track.marks 0 t place rise there low in omega (arith, h, last);
    }

pub is_last_checkpoint : (track : Track) (len t : ℕ) → IsTrack track len →
    IsLastCheckpoint (verified_of track len) t (last_place 0 track.marks t)
is_last_checkpoint track len t is =
    let rise = marks_kept (items_of is.0) track.opening track.frames track.marks is.1.kept in
    let last = last_is track.marks 0 t (omega arith) in
    record { there = last.0; low = last.1; last = λ other h low. greatest track.marks 0 t other rise h low }

-- ---- what its value says of its records

completed_new : (flag : Option CheckpointRest) (m : Mark) → places_of (new_marks flag m) ≡ completed flag m.at
completed_new None m = refl
completed_new (Some rest) m = refl

places_are : (its : List Item) (row : List Part) (n steps : ℕ) → places_of (marks_of row n steps its) ≡ checkpoints_of steps its
places_are [] row n steps = refl
places_are (items.Opening o ∷ its) row n steps = places_are its row n steps
places_are (items.Frame f ∷ its) row n steps = places_are its [] (n + 1) (steps + f.count)
places_are (items.Part p ∷ its) row n steps =
    let m : Mark = record { frames = n; at = steps; parts = row ++ p ∷ [] } in
    let rest = marks_of (row_after p.rest (row ++ p ∷ [])) n steps its in
    map-append (λ (q : Mark). q.at) (new_marks p.rest m) rest
    ∙ ap (λ (l : List ℕ). l ++ places_of rest) (completed_new p.rest m)
    ∙ ap (λ (l : List ℕ). completed p.rest steps ++ l) (places_are its (row_after p.rest (row ++ p ∷ [])) n steps)

-- the three parts of what is kept of items
its_kept : (its : List Item) (o : Opening) (frames : List Frame) (marks : List Mark) → IsKeptOf its o frames marks →
    (take 1 its ≡ items.Opening o ∷ []) × (frames ≡ frames_of its) × (places_of marks ≡ checkpoints_of 0 its)
its_kept [] o frames marks k = absurd k
its_kept (items.Opening q ∷ its) o frames marks k =
    (ap (λ (p : Opening). items.Opening p ∷ []) (sym k.0), k.1, ap places_of k.2 ∙ places_are its [] 0 0)
its_kept (items.Frame f ∷ its) o frames marks k = absurd k
its_kept (items.Part q ∷ its) o frames marks k = absurd k

pub keeps_of : (records : List Record) (o : Opening) (frames : List Frame) (marks : List Mark) → IsRecording records →
    IsKeptOf (items_of records) o frames marks →
    Keeps (record { opening = o; frames = frames; checkpoints = places_of marks; len = length records }) records
keeps_of records o frames marks recording kept =
    let its = its_kept (items_of records) o frames marks kept in
    record { recording = recording; opening = its.0; frames = its.1; checkpoints = its.2; len = refl }

pub is_verified : (track : Track) (len : ℕ) → IsTrack track len → IsVerified (verified_of track len)
is_verified track len is =
    let of = is.1 in (
      is.0,
      subst (λ n. Keeps (verified_of track n) is.0) (sym of.len_is)
          (keeps_of is.0 track.opening track.frames track.marks of.recording of.kept),
    )

-- ---- the places are those of last parts

contains_completed : (flag : Option CheckpointRest) (rest : CheckpointRest) (place : ℕ) (more : List ℕ) → flag ≡ Some rest →
    Contains (completed flag place ++ more) place
contains_completed None rest place more h = cc
contains_completed (Some r) rest place more h = contains_first place more

completed_behind : (flag : Option CheckpointRest) (at place : ℕ) (more : List ℕ) → Contains more place →
    Contains (completed flag at ++ more) place
completed_behind None at place more h = h
completed_behind (Some r) at place more h = contains_behind at more place h

any_of : (before : List Item) (p : Part) (after : List Item) (rest : CheckpointRest) (steps : ℕ) → p.rest ≡ Some rest →
    Contains (checkpoints_of steps (before ++ items.Part p ∷ after)) (steps + total (frames_of before))
any_of [] p after rest steps h =
    let none : steps ≡ steps + total [] = omega arith in
    subst (λ i. Contains (checkpoints_of steps (items.Part p ∷ after)) i) none
    (contains_completed p.rest rest steps (checkpoints_of steps after) h)
any_of (items.Opening o ∷ before) p after rest steps h = any_of before p after rest steps h
any_of (items.Frame f ∷ before) p after rest steps h =
    let sum : steps + f.count + total (frames_of before) ≡ steps + total (f ∷ frames_of before) =
    omega (arith, sum_by-cons (λ (g : Frame). g.count) f (frames_of before)) in
    subst (λ i. Contains (checkpoints_of (steps + f.count) (before ++ items.Part p ∷ after)) i) sum
    (any_of before p after rest (steps + f.count) h)
any_of (items.Part q ∷ before) p after rest steps h =
    completed_behind q.rest steps (steps + total (frames_of before)) (checkpoints_of steps (before ++ items.Part p ∷ after))
    (any_of before p after rest steps h)

-- where a checkpoint is at a place, the items have a last part there
abbrev Split : List Item → ℕ → ℕ → Type 0
Split its steps place = (behind : ℕ) × HasCheckpointAt its behind × (place ≡ steps + behind)

split_behind : (x : Item) (its : List Item) (steps more place : ℕ) →
    ((before : List Item) → more + total (frames_of before) ≡ steps + total (frames_of (x ∷ before))) →
    Split its more place → Split (x ∷ its) steps place
split_behind x its steps more place sums (behind, h, is) = (
  total (frames_of (x ∷ h.before)),
  record {
    before = x ∷ h.before;
    part = h.part;
    after = h.after;
    its_are = ap (λ (is : List Item). x ∷ is) h.its_are;
    rest = h.rest;
    is_last = h.is_last;
    place_is = refl;
  },
  is ∙ ap (λ n. more + n) h.place_is ∙ sums h.before,
)

part_back : (p : Part) (its : List Item) (flag : Option CheckpointRest) (at place : ℕ) (more : List ℕ) → p.rest ≡ flag →
    (Contains more place → Split its at place) →
    Contains (completed flag at ++ more) place → Split (items.Part p ∷ its) at place
part_back p its None at place more flag behind any = split_behind (items.Part p) its at at place (λ before. refl) (behind any)
part_back p its (Some rest) at place more flag behind any = by (contains_cases at more place any) where
  by : (at ≡ place) ⊎ Contains more place → Split (items.Part p ∷ its) at place
  by (inl same) = (
    0,
    record { before = []; part = p; after = its; its_are = refl; rest = rest; is_last = flag; place_is = refl },
    sym same ∙ omega arith,
  )
  by (inr left) = split_behind (items.Part p) its at at place (λ before. refl) (behind left)

any_back : (its : List Item) (steps place : ℕ) → Contains (checkpoints_of steps its) place → Split its steps place
any_back [] steps place any = absurd (contains_none place any)
any_back (items.Opening o ∷ its) steps place any =
    split_behind (items.Opening o) its steps steps place (λ before. refl) (any_back its steps place any)
any_back (items.Frame f ∷ its) steps place any =
    split_behind (items.Frame f) its steps (steps + f.count) place
    (λ before. let sum = sum_by-cons (λ (g : Frame). g.count) f (frames_of before) in omega (arith, sum))
    (any_back its (steps + f.count) place any)
any_back (items.Part p ∷ its) steps place any =
    part_back p its p.rest steps place (checkpoints_of steps its) refl (λ behind. any_back its steps place behind) any

pub checkpoints_are_last_parts : CheckpointsAreLastParts
checkpoints_are_last_parts its place = (there, back) where
  there : Contains (checkpoints_of 0 its) place → HasCheckpointAt its place
  there any = let all = any_back its 0 place any in subst (HasCheckpointAt its) (sym (all.2 ∙ omega arith)) all.1

  back : HasCheckpointAt its place → Contains (checkpoints_of 0 its) place
  back h =
      let at : 0 + total (frames_of h.before) ≡ place = sym (h.place_is ∙ omega arith) in
      subst (λ (is : List Item). Contains (checkpoints_of 0 is) place) (sym h.its_are)
      (subst (λ i. Contains (checkpoints_of 0 (h.before ++ items.Part h.part ∷ h.after)) i) at
      (any_of h.before h.part h.after h.rest 0 h.is_last))

-- ---- the state at the total

one_first : (x y : Item) → x ∷ [] ≡ y ∷ [] → x ≡ y
one_first x y h = cc

none_first : (x : Item) → [] ≡ x ∷ [] → ⊥
none_first x h = cc

opening_is : (p o : Opening) → items.Opening p ≡ items.Opening o → o ≡ p
opening_is p o h = cc

frame_opening : (f : Frame) (o : Opening) → items.Frame f ≡ items.Opening o → ⊥
frame_opening f o h = cc

part_opening : (p : Part) (o : Opening) → items.Part p ≡ items.Opening o → ⊥
part_opening p o h = cc

ends_of : (its : List Item) (o : Opening) (frames : List Frame) (s : State) → take 1 its ≡ items.Opening o ∷ [] → frames ≡ frames_of its →
    StateAt o frames (total frames) s → EndsIn its s
ends_of [] o frames s first are at = absurd (none_first (items.Opening o) first)
ends_of (items.Opening p ∷ its) o frames s first are at =
    let same : o ≡ p = opening_is p o (one_first (items.Opening p) (items.Opening o) first) in
    subst (λ (fs : List Frame). StateAt p fs (total fs) s) are (subst (λ (q : Opening). StateAt q frames (total frames) s) same at)
ends_of (items.Frame f ∷ its) o frames s first are at = absurd (frame_opening f o (one_first (items.Frame f) (items.Opening o) first))
ends_of (items.Part p ∷ its) o frames s first are at = absurd (part_opening p o (one_first (items.Part p) (items.Opening o) first))

pub total_is_the_end : TotalIsTheEnd
total_is_the_end verified records s keeps at = ends_of (items_of records) verified.opening verified.frames s keeps.opening keeps.frames at
