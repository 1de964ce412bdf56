-- What is kept of a recording leads to each of its states.
use Rattle.std.proofs.Common.{◌≡◌, ℕ, suc, ◌+◌, ◌-◌, ◌<◌, ◌≤◌, true, false, nat_le, List, [], ◌∷◌, ◌++◌, length, take, drop, refl, sym, ◌∙◌, ap, subst, arith, Option, Some, None}
use Rattle.std.specs.Prelude.{MatchBool, IsSomeAnd, slice_get}
use Rattle.std.proofs.lemmas.Bool.Decides.{nat_tests}
use Rattle.std.proofs.lemmas.List.{append-nil, append_assoc, length-append, take_all}
use Rattle.std.proofs.lemmas.List.Sums.{sum_by-cons}
use Rattle.rrv_model.specs.declared.record.Frame.{Frame}
use Rattle.rrv_model.specs.declared.record.CheckpointRest.{CheckpointRest}
use Rattle.rrv_model.specs.declared.record.Part.{Part}
use Rattle.rrv_model.specs.declared.record.Opening.{Opening}
use Rattle.rrv_model.specs.declared.record.Item.{Item}
use Rattle.rrv_model.specs.declared.record.Item.TheVariants as items
use Rattle.rrv_model.specs.State.{State}
use Rattle.rrv_model.specs.FrameStep.{Steps, FrameStep}
use Rattle.rrv_model.specs.StateAt.{StateAtFrom, total}
use Rattle.rrv_model.specs.Recording.{ItemsFollow, Starts, PartFits, frames_of, row_after, base_after}
use Rattle.rrv_model.proofs.RunLaws.{at_total_first, at_total_of_first, at_total_append}
use Rattle.replayer.specs.declared.recording.Mark.{Mark}
use Rattle.replayer.specs.declared.recording.Track.{Track}
use Rattle.rrv_model.specs.declared.record.Record.{Record}
use Rattle.rrv_model.specs.Recording.{IsRecording, items_of}
use Rattle.replayer.specs.Walks.{Stands}
use Rattle.replayer.proofs.Walked.{recording_of_all}
use Rattle.replayer.specs.Kept.{AreKept, AreMarks, IsKeptOf, IsTrack, KeepsAll, KeepsOn, RowIs, marks_of, new_marks}

-- ---- one item more

take_append : (xs ys : List Frame) → take (length xs) (xs ++ ys) ≡ xs
take_append [] ys = refl
take_append (x ∷ xs) ys = ap (λ (zs : List Frame). x ∷ zs) (take_append xs ys)

frames_more : (xs : List Item) (it : Item) (rest : List Item) (frames : List Frame) →
    ((r : List Item) → frames_of (xs ++ r) ≡ frames ++ frames_of r) →
    frames_of ((xs ++ it ∷ []) ++ rest) ≡ frames ++ frames_of (it ∷ rest)
frames_more xs it rest frames h = ap frames_of (append_assoc xs (it ∷ []) rest) ∙ h (it ∷ rest)

marks_more : (xs : List Item) (it : Item) (rest : List Item) (row : List Part) (n steps : ℕ) (marks : List Mark) →
    ((r : List Item) → marks_of [] 0 0 (xs ++ r) ≡ marks ++ marks_of row n steps r) →
    marks_of [] 0 0 ((xs ++ it ∷ []) ++ rest) ≡ marks ++ marks_of row n steps (it ∷ rest)
marks_more xs it rest row n steps marks h = ap (λ (is : List Item). marks_of [] 0 0 is) (append_assoc xs (it ∷ []) rest) ∙ h (it ∷ rest)

pub total-push : (frames : List Frame) (f : Frame) → total (frames ++ f ∷ []) ≡ total frames + f.count
total-push [] f = sum_by-cons (λ (g : Frame). g.count) f [] ∙ omega arith
total-push (g ∷ frames) f =
    sum_by-cons (λ (h : Frame). h.count) g (frames ++ f ∷ []) ∙ ap (λ n. g.count + n) (total-push frames f)
    ∙ omega (arith, sum_by-cons (λ (h : Frame). h.count) g frames)

length-push : (frames : List Frame) (f : Frame) → length (frames ++ f ∷ []) ≡ length frames + 1
length-push frames f = length-append frames (f ∷ []) ∙ refl

-- a frame ends the row
pub keeps_frame : (xs : List Item) (f : Frame) (row : List Part) (frames : List Frame) (marks : List Mark) (steps : ℕ) →
    KeepsAll xs row frames marks steps →
    KeepsAll (xs ++ items.Frame f ∷ []) [] (frames ++ f ∷ []) marks (steps + f.count)
keeps_frame xs f row frames marks steps h = record {
  frames_are = λ rest. frames_more xs (items.Frame f) rest frames h.frames_are ∙ sym (append_assoc frames (f ∷ []) (frames_of rest));
  marks_are = λ rest. marks_more xs (items.Frame f) rest row (length frames) steps marks h.marks_are
      ∙ ap (λ n. marks ++ marks_of [] n (steps + f.count) rest) (sym (length-push frames f));
  steps_are = ap (λ n. n + f.count) h.steps_are ∙ sym (total-push frames f);
}

pub keeps_part : (xs : List Item) (p : Part) (row : List Part) (frames : List Frame) (marks : List Mark) (steps : ℕ) →
    KeepsAll xs row frames marks steps →
    KeepsAll (xs ++ items.Part p ∷ []) (row_after p.rest (row ++ p ∷ [])) frames
    (marks ++ new_marks p.rest (record { frames = length frames; at = steps; parts = row ++ p ∷ [] })) steps
keeps_part xs p row frames marks steps h = record {
  frames_are = λ rest. frames_more xs (items.Part p) rest frames h.frames_are;
  marks_are = λ rest. marks_more xs (items.Part p) rest row (length frames) steps marks h.marks_are
      ∙ sym (append_assoc marks (new_marks p.rest (record { frames = length frames; at = steps; parts = row ++ p ∷ [] }))
      (marks_of (row_after p.rest (row ++ p ∷ [])) (length frames) steps rest));
  steps_are = h.steps_are;
}

pub keeps_on : (xs : List Item) (it : Item) (row row' : List Part) (frames frames' : List Frame) (marks marks' : List Mark)
    (steps steps' : ℕ) → KeepsAll xs row frames marks steps →
    KeepsOn it row frames marks steps frames' marks' steps' → RowIs it row row' → KeepsAll (xs ++ it ∷ []) row' frames' marks' steps'
keeps_on xs (items.Opening o) row row' frames frames' marks marks' steps steps' h k r = absurd k
keeps_on xs (items.Frame f) row row' frames frames' marks marks' steps steps' h k r =
    rw (k.0, k.1, k.2, r) (keeps_frame xs f row frames marks steps h)
keeps_on xs (items.Part p) row row' frames frames' marks marks' steps steps' h k r =
    rw (k.0, k.1, k.2, r) (keeps_part xs p row frames marks steps h)

one_more : (n : ℕ) → n + 1 ≡ suc n
one_more n = omega arith

items_of_append : (records more : List Record) → items_of (records ++ more) ≡ items_of records ++ items_of more
items_of_append [] more = refl
items_of_append (q ∷ records) more = ap (λ rest. q.item ∷ rest) (items_of_append records more)

pub drop_first : (records more : List Record) → 1 ≤ length records →
    drop 1 (items_of (records ++ more)) ≡ drop 1 (items_of records) ++ items_of more
drop_first [] more some = absurd (omega arith)
drop_first (q ∷ records) more some = items_of_append records more

-- the opening alone keeps nothing
pub keeps_first : KeepsAll [] [] [] [] 0
keeps_first = record { frames_are = λ rest. refl; marks_are = λ rest. refl; steps_are = refl }

kept_of_all : (records : List Record) (first : Record) (rest : List Record) (index : ℕ) (o : Opening) (row : List Part)
    (frames : List Frame) (marks : List Mark) (steps : ℕ) →
    records ≡ first ∷ rest → first.item ≡ items.Opening o → length records ≤ index →
    KeepsAll (drop 1 (items_of (take index records))) row frames marks steps →
    IsKeptOf (items_of records) o frames marks
kept_of_all records first rest index o row frames marks steps is item_is long h =
    let all : KeepsAll (drop 1 (items_of records)) row frames marks steps =
    subst (λ (rs : List Record). KeepsAll (drop 1 (items_of rs)) row frames marks steps) (take_all index records long) h in
    let there : KeepsAll (items_of rest) row frames marks steps =
    subst (λ (rs : List Record). KeepsAll (drop 1 (items_of rs)) row frames marks steps) is all in
    let f : frames ≡ frames_of (items_of rest) =
    sym (append-nil frames) ∙ sym (there.frames_are []) ∙ ap frames_of (append-nil (items_of rest)) in
    let m : marks ≡ marks_of [] 0 0 (items_of rest) =
    sym (append-nil marks) ∙ sym (there.marks_are []) ∙ ap (λ (is : List Item). marks_of [] 0 0 is) (append-nil (items_of rest)) in
    let kept : IsKeptOf (items.Opening o ∷ items_of rest) o frames marks = (refl, f, m) in
    subst (λ (rs : List Record). IsKeptOf (items_of rs) o frames marks) (sym is)
    (subst (λ (it : Item). IsKeptOf (it ∷ items_of rest) o frames marks) (sym item_is) kept)

kept_of_first : (records : List Record) (first : Record) (index : ℕ) (o : Opening) (row : List Part) (frames : List Frame)
    (marks : List Mark) (steps : ℕ) →
    IsSomeAnd (slice_get records 0) (λ q. q ≡ first) → first.item ≡ items.Opening o → length records ≤ index →
    KeepsAll (drop 1 (items_of (take index records))) row frames marks steps →
    IsKeptOf (items_of records) o frames marks
kept_of_first [] first index o row frames marks steps there item_is long h = absurd there
kept_of_first (q ∷ rest) first index o row frames marks steps there item_is long h =
    kept_of_all (q ∷ rest) first rest index o row frames marks steps (ap (λ x. x ∷ rest) there) item_is long h

-- so it is kept of items that begin with an opening
pub kept_of_items : (its : List Item) (o : Opening) (row : List Part) (frames : List Frame) (marks : List Mark) (steps : ℕ) →
    take 1 its ≡ items.Opening o ∷ [] → KeepsAll (drop 1 its) row frames marks steps → IsKeptOf its o frames marks
kept_of_items [] o row frames marks steps is h = cc
kept_of_items (it ∷ rest) o row frames marks steps is h =
    let first : it ≡ items.Opening o = cc in
    let f : frames ≡ frames_of rest = sym (append-nil frames) ∙ sym (h.frames_are []) ∙ ap frames_of (append-nil rest) in
    let m : marks ≡ marks_of [] 0 0 rest =
    sym (append-nil marks) ∙ sym (h.marks_are []) ∙ ap (λ (is : List Item). marks_of [] 0 0 is) (append-nil rest) in
    let kept : IsKeptOf (items.Opening o ∷ rest) o frames marks = (refl, f, m) in
    subst (λ (i : Item). IsKeptOf (i ∷ rest) o frames marks) (sym first) kept

-- where all records stand, they are a recording, and all of it is kept
pub all_kept : (guest : ℕ) (records : List Record) (first : Record) (index : ℕ) (o : Opening) (base : State) (row : List Part) (s : State)
    (frames : List Frame) (marks : List Mark) (steps : ℕ) →
    length records ≤ index → Stands guest (take index records) base row s → IsSomeAnd (slice_get records 0) (λ q. q ≡ first) →
    first.item ≡ items.Opening o →
    KeepsAll (drop 1 (items_of (take index records))) row frames marks steps → IsRecording records ×
    IsKeptOf (items_of records) o frames marks
all_kept guest records first index o base row s frames marks steps long stands there item_is h = (
  recording_of_all guest records index base row s long stands,
  kept_of_first records first index o row frames marks steps there item_is long h,
)

-- ---- the run

marks_part : (first base s : State) (done : List Frame) (row : List Part) (flag : Option CheckpointRest) (parts : List Part)
    (rest : List Item) → PartFits flag base parts s →
    StateAtFrom first done (total done) s →
    AreMarks first (done ++ frames_of rest) (base_after flag base s) (marks_of (row_after flag parts) (length done) (total done) rest) →
    AreMarks first (done ++ frames_of rest) base
    (new_marks flag (record { frames = length done; at = total done; parts = parts })
    ++ marks_of (row_after flag parts) (length done) (total done) rest)
marks_part first base s done row None parts rest fits at h = h
marks_part first base s done row (Some r) parts rest fits at h =
    let same : take (length done) (done ++ frames_of rest) ≡ done = take_append done (frames_of rest) in (
      s,
      subst (λ (fs : List Frame). StateAtFrom first fs (total done) s) (sym same) at,
      ap total (sym same),
      omega (arith, length-append done (frames_of rest)),
      fits,
      h,
    )

-- A list splits where the frames so far end: behind those of which `done` is the list.
pub marks_hold : (first base s : State) (done : List Frame) (row : List Part) (rest : List Item) → ItemsFollow base row s rest →
    StateAtFrom first done (total done) s → AreMarks first (done ++ frames_of rest) base (marks_of row (length done) (total done) rest)
marks_hold first base s done row [] h at = tt
marks_hold first base s done row (items.Opening o ∷ rest) h at = absurd h
marks_hold first base s done row (items.Frame f ∷ rest) h at =
    let next : StateAtFrom first (done ++ f ∷ []) (total (done ++ f ∷ [])) h.0 = at_total_append done first s h.0 f at h.1 in
    let all = marks_hold first base h.0 (done ++ f ∷ []) [] rest h.2 next in
    let one = subst (λ (fs : List Frame). AreMarks first fs base (marks_of [] (length (done ++ f ∷ [])) (total (done ++ f ∷ [])) rest))
    (append_assoc done (f ∷ []) (frames_of rest)) all in
    let two = subst (λ n. AreMarks first (done ++ f ∷ frames_of rest) base (marks_of [] n (total (done ++ f ∷ [])) rest))
    (length-push done f) one in
    subst (λ n. AreMarks first (done ++ f ∷ frames_of rest) base (marks_of [] (length done + 1) n rest)) (total-push done f) two
marks_hold first base s done row (items.Part p ∷ rest) h at =
    marks_part first base s done row p.rest (row ++ p ∷ []) rest h.0 at
    (marks_hold first (base_after p.rest base s) s done (row_after p.rest (row ++ p ∷ [])) rest h.1 at)

pub ends_hold : (base s : State) (row : List Part) (rest : List Item) → ItemsFollow base row s rest → (last : State) ×
    StateAtFrom s (frames_of rest) (total (frames_of rest)) last
ends_hold base s row [] h = (s, (refl, refl))
ends_hold base s row (items.Opening o ∷ rest) h = absurd h
ends_hold base s row (items.Frame f ∷ rest) h =
    let behind = ends_hold base h.0 [] rest h.2 in
    (behind.0, at_total_of_first s f (frames_of rest) h.0 behind.0 h.1 behind.1)
ends_hold base s row (items.Part p ∷ rest) h = ends_hold (base_after p.rest base s) s (row_after p.rest (row ++ p ∷ [])) rest h.1

pub are_kept : (its : List Item) (o : Opening) (frames : List Frame) (marks : List Mark) → Starts its → IsKeptOf its o frames marks →
    AreKept o frames marks
are_kept [] o frames marks h k = absurd k
are_kept (items.Opening p ∷ rest) o frames marks h k =
    let ends = ends_hold h.0 h.0 [] rest h.2 in
    let kept : AreKept p (frames_of rest) (marks_of [] 0 0 rest) = record {
      first = h.0;
      opens = h.1;
      last = ends.0;
      ends = ends.1;
      are_marks = marks_hold h.0 h.0 h.0 [] [] rest h.2 (refl, refl);
    } in
    rw (k.0, k.1, k.2) kept
are_kept (items.Frame f ∷ rest) o frames marks h k = absurd k
are_kept (items.Part p ∷ rest) o frames marks h k = absurd k

-- ---- one state from its frames on

pub frame_first : (s : State) (f : Frame) (mid at : State) (rest : List Frame) (t : ℕ) → f.count ≤ t → FrameStep s f mid →
    StateAtFrom mid rest (t - f.count) at → StateAtFrom s (f ∷ rest) t at
frame_first s f mid at rest t within step h =
    let test : nat_le f.count t ≡ true = grind (arith, nat_tests) in
    subst (λ b. MatchBool b ((m : State) × FrameStep s f m × StateAtFrom m rest (t - f.count) at) (Steps t f.tid s at)) (sym test)
    (mid, step, h)

pub frame_part : (s : State) (f : Frame) (at : State) (rest : List Frame) (t : ℕ) → t < f.count → Steps t f.tid s at →
    StateAtFrom s (f ∷ rest) t at
frame_part s f at rest t within h =
    let test : nat_le f.count t ≡ false = grind (arith, nat_tests) in
    subst (λ b. MatchBool b ((m : State) × FrameStep s f m × StateAtFrom m rest (t - f.count) at) (Steps t f.tid s at)) (sym test) h

-- behind the first frames, up to t, the rest of the frames lead to the state at t
pub at_later : (s mid at : State) (done rest : List Frame) (t : ℕ) → StateAtFrom s done (total done) mid → total done ≤ t →
    StateAtFrom mid rest (t - total done) at →
    StateAtFrom s (done ++ rest) t at
at_later s mid at [] rest t h within later =
    let none : t - 0 ≡ t = omega arith in
    subst (λ (m : State). StateAtFrom m rest t at) h.1 (subst (λ n. StateAtFrom mid rest n at) none later)
at_later s mid at (f ∷ done) rest t h within later =
    let open_ = at_total_first s f done mid h in
    let sum : total (f ∷ done) ≡ f.count + total done = sum_by-cons (λ (g : Frame). g.count) f done in
    let less : t - total (f ∷ done) ≡ t - f.count - total done = omega arith in
    let behind =
    at_later open_.0 mid at done rest (t - f.count) open_.2 (omega arith) (subst (λ n. StateAtFrom mid rest n at) less later) in
    frame_first s f open_.0 at (done ++ rest) t (omega arith) open_.1 behind

pub kept_by : (track : Track) (len : ℕ) → IsTrack track len → AreKept track.opening track.frames track.marks
kept_by track len is = are_kept (items_of is.0) track.opening track.frames track.marks is.1.recording.starts is.1.kept
