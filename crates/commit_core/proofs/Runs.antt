-- Output and states of a beginning of a recording.
use Rattle.std.proofs.Common.{◌≡◌, ◌≢◌, ℕ, zero, suc, ◌+◌, ◌-◌, ◌<◌, ◌≤◌, Bool, true, false, nat_le, List, [], ◌∷◌, ◌++◌, length, take, drop, Option, Some, None, refl, sym, ◌∙◌, ap, subst, arith, append_assoc, take-append-drop}
use Rattle.std.specs.Prelude.{MatchBool, MatchOption, ◌↔◌}
use Rattle.std.specs.List.{AllByRecursion}
use Rattle.std.proofs.lemmas.Bool.Decides.{nat_tests}
use Rattle.std.proofs.lemmas.List.{take-append-le}
use Rattle.std.proofs.lemmas.List.Sums.{sum_by-cons}
use Rattle.std.proofs.lemmas.Grind.{flat_map-append}
use Rattle.rrv_model.specs.declared.record.CallRecord.{CallRecord}
use Rattle.rrv_model.specs.declared.record.End.{End}
use Rattle.rrv_model.specs.declared.record.Frame.{Frame}
use Rattle.rrv_model.specs.declared.record.Part.{Part}
use Rattle.rrv_model.specs.declared.record.Item.{Item}
use Rattle.rrv_model.specs.declared.record.Item.TheVariants as items
use Rattle.rrv_model.specs.declared.record.Record.{Record}
use Rattle.rrv_model.specs.State.{State, thread_at}
use Rattle.rrv_model.specs.FrameStep.{Steps, FrameStep}
use Rattle.rrv_model.specs.StateAt.{total, StateAtFrom}
use Rattle.rrv_model.specs.Ends.{call_in}
use Rattle.rrv_model.specs.Output.{CallPutsAt, Chunk, FramePuts, PutFrom, put_out_by, spread, to_descriptor}
use Rattle.rrv_model.specs.Recording.{IsRecording, IsNumbered, ItemsFollow, Starts, EndsIn, items_of, frames_of, base_after, row_after}
use Rattle.rrv_model.specs.Recovered.{OpensAtZero, IsOpening}
use Rattle.rrv_model.proofs.Ends.{frame_split, puts_some}
use Rattle.rrv_model.proofs.FrameLaws.{one_end, one_state_after_frame}
use Rattle.rrv_model.proofs.RecordingLaws.{beginnings_are_recordings}
use Rattle.commit_core.specs.Runs.{IsBeginning, ItemsPut, IsOutput, IsAt, total_of}
use Rattle.commit_core.proofs.Lists.{begins_further}

-- ---- lists

pub frames_of-append : (xs ys : List Item) → frames_of (xs ++ ys) ≡ frames_of xs ++ frames_of ys
frames_of-append [] ys = refl
frames_of-append (items.Opening o ∷ xs) ys = frames_of-append xs ys
frames_of-append (items.Frame f ∷ xs) ys = ap (λ (l : List Frame). f ∷ l) (frames_of-append xs ys)
frames_of-append (items.Part p ∷ xs) ys = frames_of-append xs ys

pub items_of-append : (xs ys : List Record) → items_of (xs ++ ys) ≡ items_of xs ++ items_of ys
items_of-append [] ys = refl
items_of-append (x ∷ xs) ys = ap (λ (l : List Item). x.item ∷ l) (items_of-append xs ys)

spread-append : (c d : List Chunk) → spread (c ++ d) ≡ spread c ++ spread d
spread-append c d = flat_map-append (λ (k : Chunk). to_descriptor k.descriptor k.bytes) c d

-- ---- output

-- a frame puts out one thing alone
one_put : (end : End) (s : State) (f : Frame) (c d : List Chunk) → FramePuts s f end c → FramePuts s f end d → c ≡ d
one_put end s f c d p q = by (call_in end) p q where
  by : (o : Option CallRecord) → MatchOption o (c ≡ []) (λ r. CallPutsAt s f.tid f.count r.result c) →
      MatchOption o (d ≡ []) (λ r. CallPutsAt s f.tid f.count r.result d) → c ≡ d
  by None none none' = none ∙ sym none'
  by (Some r) (before, steps, puts) (before', steps', puts') =
      let same : before ≡ before' = one_end (f.count - 1) f.tid s before before' steps steps' in
      puts ∙ ap (λ (b : State). put_out_by (thread_at b f.tid) b.memory r.result) same ∙ sym puts'

-- items that follow put something out
puts_from : (base : State) (parts : List Part) (s : State) (rest : List Item) → ItemsFollow base parts s rest →
    (chunks : List Chunk) × PutFrom s (frames_of rest) chunks
puts_from base parts s [] h = ([], refl)
puts_from base parts s (items.Opening o ∷ rest) h = absurd h
puts_from base parts s (items.Frame f ∷ rest) h =
    let first = puts_some f.end s h.0 f h.1.goes in
    let more = puts_from base [] h.0 rest h.2 in
    (first.0 ++ more.0, (h.0, first.0, more.0, h.1, first.1, more.1, refl))
puts_from base parts s (items.Part p ∷ rest) h =
    puts_from (base_after p.rest base s) (row_after p.rest (parts ++ p ∷ [])) s rest h.1

-- more frames put out more
put_further : (s : State) (fs gs : List Frame) (c d : List Chunk) → PutFrom s fs c → PutFrom s (fs ++ gs) d → IsBeginning c d
put_further s [] gs c d p q = (d, ap (λ (l : List Chunk). l ++ d) p)
put_further s (f ∷ fs) gs c d (mid, first, rest, step, puts, others, is) (mid', first', rest', step', puts', others', is') =
    let same : mid' ≡ mid = one_state_after_frame s f mid' mid step' step in
    let front : first ≡ first' = one_put f.end s f first first' puts puts' in
    let more = put_further mid fs gs rest rest' others (subst (λ (m : State). PutFrom m (fs ++ gs) rest') same others') in (
      more.0,
      ap (λ (l : List Chunk). l ++ more.0) is ∙ append_assoc first rest more.0 ∙ ap (λ (l : List Chunk). first ++ l) more.1
          ∙ ap (λ (l : List Chunk). l ++ rest') front ∙ sym is',
    )

-- the items of a recording put something out
pub items_put : (is : List Item) → Starts is → (chunks : List Chunk) × ItemsPut is chunks
items_put [] h = absurd h
items_put (items.Opening o ∷ rest) h =
    let puts = puts_from h.0 [] h.0 rest h.2 in
    (puts.0, (h.0, h.1, puts.1))
items_put (items.Frame f ∷ rest) h = absurd h
items_put (items.Part p ∷ rest) h = absurd h

items_put_further : (xs ys : List Item) (c d : List Chunk) → ItemsPut xs c → ItemsPut (xs ++ ys) d → IsBeginning c d
items_put_further [] ys c d p q = (d, ap (λ (l : List Chunk). l ++ d) p)
items_put_further (items.Opening o ∷ xs) ys c d p q =
    let same : q.0 ≡ p.0 = q.1.state_is ∙ sym p.1.state_is in
    put_further p.0 (frames_of xs) (frames_of ys) c d p.2
    (subst (λ (fs : List Frame). PutFrom p.0 fs d) (frames_of-append xs ys)
    (subst (λ (s : State). PutFrom s (frames_of (xs ++ ys)) d) same q.2))
items_put_further (items.Frame f ∷ xs) ys c d p q = absurd p
items_put_further (items.Part f ∷ xs) ys c d p q = absurd p

spread_further : (c d : List Chunk) → IsBeginning c d → IsBeginning (spread c) (spread d)
spread_further c d more = (spread more.0, sym (spread-append c more.0) ∙ ap spread more.1)

-- a beginning of a recording that isn't empty is one
pub recording_front : (xs ys : List Record) → IsRecording (xs ++ ys) → xs ≢ [] → IsRecording xs
recording_front [] ys is some = absurd (some refl)
recording_front (x ∷ xs) ys is some =
    subst IsRecording (ap (λ (l : List Record). x ∷ l) (take-append-le (length xs) xs ys (omega arith) ∙ take_whole xs))
    (beginnings_are_recordings (x ∷ (xs ++ ys)) (length xs) is)
  where
    take_whole : (l : List Record) → take (length l) l ≡ l
    take_whole [] = refl
    take_whole (y ∷ l) = ap (λ (k : List Record). y ∷ k) (take_whole l)

-- what began the output of some records begins that of more, which are a beginning of a recording
pub output_further : (out : List (ℕ × ℕ)) (xs ys zs : List Record) → IsRecording ((xs ++ ys) ++ zs) → IsOutput out xs →
    IsOutput out (xs ++ ys)
output_further out [] [] zs is put = put
output_further out [] (y ∷ ys) zs is put =
    let puts = items_put (items_of (y ∷ ys)) (recording_front (y ∷ ys) zs is (λ e. cc)).starts in
    let more = items_put_further [] (items_of (y ∷ ys)) put.0 puts.0 put.1 puts.1 in
    (puts.0, puts.1, begins_further out (spread put.0) (spread puts.0) put.2 (spread_further put.0 puts.0 more))
output_further out (x ∷ xs) ys zs is put =
    let whole = recording_front (x ∷ (xs ++ ys)) zs is (λ e. cc) in
    let puts = items_put (items_of (x ∷ (xs ++ ys))) whole.starts in
    let there : ItemsPut (items_of (x ∷ xs) ++ items_of ys) puts.0 =
    subst (λ (l : List Item). ItemsPut l puts.0) (items_of-append (x ∷ xs) ys) puts.1 in
    let more = items_put_further (items_of (x ∷ xs)) (items_of ys) put.0 puts.0 put.1 there in
    (puts.0, puts.1, begins_further out (spread put.0) (spread puts.0) put.2 (spread_further put.0 puts.0 more))

take_less : (m n : ℕ) (xs : List Record) → m ≤ n → (more : List Record) × (take n xs ≡ take m xs ++ more)
take_less zero n xs l = (take n xs, refl)
take_less (suc m) zero xs l = absurd (omega arith)
take_less (suc m) (suc n) [] l = ([], refl)
take_less (suc m) (suc n) (x ∷ xs) l = let more = take_less m n xs (omega arith) in (more.0, ap (λ (k : List Record). x ∷ k) more.1)

-- so of the first records of a recording, and of more of them
pub output_longer : (out : List (ℕ × ℕ)) (m n : ℕ) (records : List Record) → IsRecording records → m ≤ n → IsOutput out (take m records) →
    IsOutput out (take n records)
output_longer out m n records is l put =
    let more = take_less m n records l in
    let whole : (take m records ++ more.0) ++ drop n records ≡ records =
    ap (λ (k : List Record). k ++ drop n records) (sym more.1) ∙ take-append-drop n records in
    subst (IsOutput out) (sym more.1) (output_further out (take m records) more.0 (drop n records) (subst IsRecording (sym whole) is) put)

-- nothing is a beginning of any output of a recording's beginning
pub nothing_put : IsOutput [] []
nothing_put = ([], refl, ([], refl))

-- ---- states

-- below the total of some frames the states are those of more
at_front_by : (b : Bool) (s : State) (f : Frame) (fs gs : List Frame) (t : ℕ) (at : State) →
    ((mid : State) → b ≡ true → StateAtFrom mid (fs ++ gs) (t - f.count) at → StateAtFrom mid fs (t - f.count) at) →
    MatchBool b ((mid : State) × FrameStep s f mid × StateAtFrom mid (fs ++ gs) (t - f.count) at) (Steps t f.tid s at) →
    MatchBool b ((mid : State) × FrameStep s f mid × StateAtFrom mid fs (t - f.count) at) (Steps t f.tid s at)
at_front_by true s f fs gs t at rest h = (h.0, h.1, rest h.0 refl h.2)
at_front_by false s f fs gs t at rest h = h

within_rest : (count t rest : ℕ) → t < count + rest → nat_le count t ≡ true → t - count < rest
within_rest count t rest l le = grind (arith, nat_tests)

at_front : (s : State) (fs gs : List Frame) (t : ℕ) (at : State) → t < total fs → StateAtFrom s (fs ++ gs) t at → StateAtFrom s fs t at
at_front s [] gs t at l h = absurd (omega arith)
at_front s (f ∷ fs) gs t at l h =
    at_front_by (nat_le f.count t) s f fs gs t at
    (λ mid le. at_front mid fs gs (t - f.count) at
    (within_rest f.count t (total fs) (subst (λ n. t < n) (sum_by-cons (λ (g : Frame). g.count) f fs) l) le)) h

at_whole_by : (b : Bool) (s : State) (f : Frame) (fs gs : List Frame) (t : ℕ) (at : State) →
    ((mid : State) → b ≡ true → StateAtFrom mid fs (t - f.count) at → StateAtFrom mid (fs ++ gs) (t - f.count) at) →
    MatchBool b ((mid : State) × FrameStep s f mid × StateAtFrom mid fs (t - f.count) at) (Steps t f.tid s at) →
    MatchBool b ((mid : State) × FrameStep s f mid × StateAtFrom mid (fs ++ gs) (t - f.count) at) (Steps t f.tid s at)
at_whole_by true s f fs gs t at rest h = (h.0, h.1, rest h.0 refl h.2)
at_whole_by false s f fs gs t at rest h = h

at_whole : (s : State) (fs gs : List Frame) (t : ℕ) (at : State) → t < total fs → StateAtFrom s fs t at → StateAtFrom s (fs ++ gs) t at
at_whole s [] gs t at l h = absurd (omega arith)
at_whole s (f ∷ fs) gs t at l h =
    at_whole_by (nat_le f.count t) s f fs gs t at
    (λ mid le. at_whole mid fs gs (t - f.count) at
    (within_rest f.count t (total fs) (subst (λ n. t < n) (sum_by-cons (λ (g : Frame). g.count) f fs) l) le)) h

total_of_opening : (o : Rattle.rrv_model.specs.declared.record.Opening.Opening) (xs : List Item) →
    total_of (items.Opening o ∷ xs) ≡ total (frames_of xs)
total_of_opening o xs = refl

-- so they are of the items of a beginning
pub below_total : (xs ys : List Item) (t : ℕ) (s : State) → t < total_of xs → IsAt xs t s ↔ IsAt (xs ++ ys) t s
below_total [] ys t s l = absurd (omega arith)
below_total (items.Opening o ∷ xs) ys t s l = (
  λ h. (
    h.0,
    h.1,
    subst (λ (fs : List Frame). StateAtFrom h.0 fs t s) (sym (frames_of-append xs ys))
        (at_whole h.0 (frames_of xs) (frames_of ys) t s l h.2),
  ),
  λ h. (
    h.0,
    h.1,
    at_front h.0 (frames_of xs) (frames_of ys) t s l (subst (λ (fs : List Frame). StateAtFrom h.0 fs t s) (frames_of-append xs ys) h.2),
  ),
)
below_total (items.Frame f ∷ xs) ys t s l = (λ h. absurd h, λ h. absurd h)
below_total (items.Part p ∷ xs) ys t s l = (λ h. absurd h, λ h. absurd h)

-- at the total it is the state that they end in
pub at_total_is_end : (xs : List Item) (s : State) → IsAt xs (total_of xs) s ↔ EndsIn xs s
at_total_is_end [] s = (λ h. h, λ h. h)
at_total_is_end (items.Opening o ∷ xs) s = (λ h. h, λ h. h)
at_total_is_end (items.Frame f ∷ xs) s = (λ h. h, λ h. h)
at_total_is_end (items.Part p ∷ xs) s = (λ h. h, λ h. h)

-- ---- Openings

abbrev FollowSome : List Item → Type 0
FollowSome is = (base : State) × (parts : List Part) × (s : State) × ItemsFollow base parts s is

follow_tail : (item : Item) (is : List Item) → FollowSome (item ∷ is) → (IsOpening item → ⊥) × FollowSome is
follow_tail (items.Opening o) is (base, parts, s, h) = absurd h
follow_tail (items.Frame f) is (base, parts, s, h) = (λ never. never, (base, [], h.0, h.2))
follow_tail (items.Part p) is (base, parts, s, h) =
    (λ never. never, (base_after p.rest base s, row_after p.rest (parts ++ p ∷ []), s, h.1))

later_opens : (guest index : ℕ) (rs : List Record) → FollowSome (items_of rs) → 1 ≤ index → IsNumbered guest index rs →
    AllByRecursion OpensAtZero rs
later_opens guest index [] h some n = tt
later_opens guest index (r ∷ rs) h some n =
    let tail = follow_tail r.item (items_of rs) h in
    ((λ e. absurd (omega (arith, n.1)), λ is. absurd (tail.0 is)), later_opens guest (index + 1) rs tail.1 (omega arith) n.2)

starts_tail : (item : Item) (is : List Item) → Starts (item ∷ is) → IsOpening item × FollowSome is
starts_tail (items.Opening o) is h = (tt, (h.0, [], h.0, h.2))
starts_tail (items.Frame f) is h = absurd h
starts_tail (items.Part p) is h = absurd h

starts_open : (guest : ℕ) (rs : List Record) → Starts (items_of rs) → IsNumbered guest 0 rs → AllByRecursion OpensAtZero rs
starts_open guest [] h n = tt
starts_open guest (r ∷ rs) h n =
    let tail = starts_tail r.item (items_of rs) h in
    ((λ e. tail.0, λ is. n.1), later_opens guest 1 rs tail.1 (omega arith) n.2)

-- in a recording index 0 is an Opening, and no other is
pub recording_opens : (guest : ℕ) (rs : List Record) → IsRecording rs → IsNumbered guest 0 rs → AllByRecursion OpensAtZero rs
recording_opens guest rs is n = starts_open guest rs is.starts n

-- ---- states are there

there_by : (b : Bool) (s : State) (f : Frame) (fs : List Frame) (t : ℕ) →
    (b ≡ true → (at : State) × (mid : State) × FrameStep s f mid × StateAtFrom mid fs (t - f.count) at) →
    (b ≡ false → (at : State) × Steps t f.tid s at) →
    (at : State) × MatchBool b ((mid : State) × FrameStep s f mid × StateAtFrom mid fs (t - f.count) at) (Steps t f.tid s at)
there_by true s f fs t behind within = let y = behind refl in (y.0, (y.1, y.2, y.3))
there_by false s f fs t behind within = within refl

below_count : (count t : ℕ) → nat_le count t ≡ false → t < count
below_count count t lt = grind (arith, nat_tests)

there_from : (base : State) (parts : List Part) (s : State) (rest : List Item) → ItemsFollow base parts s rest → (t : ℕ) →
    t < total (frames_of rest) →
    (at : State) × StateAtFrom s (frames_of rest) t at
there_from base parts s [] h t l = absurd (omega (arith, l))
there_from base parts s (items.Opening o ∷ rest) h t l = absurd h
there_from base parts s (items.Frame f ∷ rest) h t l =
    there_by (nat_le f.count t) s f (frames_of rest) t
    (λ le. let more = there_from base [] h.0 rest h.2 (t - f.count)
    (within_rest f.count t (total (frames_of rest)) (subst (λ n. t < n) (sum_by-cons (λ (g : Frame). g.count) f (frames_of rest)) l)
    le) in (more.0, h.0, h.1, more.1))
    (λ lt. let inside = frame_split f.end s h.0 f.tid f.count t (below_count f.count t lt) h.1.goes in (inside.0, inside.1))
there_from base parts s (items.Part p ∷ rest) h t l =
    there_from (base_after p.rest base s) (row_after p.rest (parts ++ p ∷ [])) s rest h.1 t l

pub there_is : (is : List Item) → Starts is → (t : ℕ) → t < total_of is → (s : State) × IsAt is t s
there_is [] h t l = absurd h
there_is (items.Opening o ∷ rest) h t l = let more = there_from h.0 [] h.0 rest h.2 t l in (more.0, (h.0, h.1, more.1))
there_is (items.Frame f ∷ rest) h t l = absurd h
there_is (items.Part p ∷ rest) h t l = absurd h
