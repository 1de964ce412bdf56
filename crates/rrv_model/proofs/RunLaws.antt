-- Runs: their states, and how a frame lengthens them.
use Rattle.std.proofs.Common.{◌≡◌, ℕ, ◌+◌, ◌-◌, Bool, true, false, nat_le, List, [], ◌∷◌, ◌++◌, length, refl, sym, ◌∙◌, ap, subst, arith}
use Rattle.std.specs.Prelude.{MatchBool}
use Rattle.std.proofs.lemmas.Bool.Decides.{nat_tests}
use Rattle.std.proofs.lemmas.List.{append-nil, append_assoc}
use Rattle.std.proofs.lemmas.List.Sums.{sum_by-cons}
use Rattle.rrv_model.specs.declared.record.Frame.{Frame}
use Rattle.rrv_model.specs.declared.record.Opening.{Opening}
use Rattle.rrv_model.specs.declared.record.Part.{Part}
use Rattle.rrv_model.specs.declared.record.Item.{Item}
use Rattle.rrv_model.specs.declared.record.Item.TheVariants as items
use Rattle.rrv_model.specs.declared.record.Record.{Record}
use Rattle.rrv_model.specs.State.{State}
use Rattle.rrv_model.specs.FrameStep.{Steps, FrameStep}
use Rattle.rrv_model.specs.Output.{Chunk, FramePuts, Output, PutFrom}
use Rattle.rrv_model.specs.StateAt.{total, StateAtFrom}
use Rattle.rrv_model.specs.Recording.{IsNumbered, ItemsFollow, Starts, EndsIn, OneEnd, FramesAppend, items_of, frames_of, frame_record, base_after, row_after}
use Rattle.rrv_model.proofs.FrameLaws.{one_end, one_state_after_frame}

-- ---- one state at a count

one_at_by : (b : Bool) (f : Frame) (frames : List Frame) (s : State) (t : ℕ) (at at' : State) →
    ((mid : State) → StateAtFrom mid frames (t - f.count) at → StateAtFrom mid frames (t - f.count) at' → at ≡ at') →
    MatchBool b ((mid : State) × FrameStep s f mid × StateAtFrom mid frames (t - f.count) at) (Steps t f.tid s at) →
    MatchBool b ((mid : State) × FrameStep s f mid × StateAtFrom mid frames (t - f.count) at') (Steps t f.tid s at') → at ≡ at'
one_at_by true f frames s t at at' rest p q =
    let e : q.0 ≡ p.0 = one_state_after_frame s f q.0 p.0 q.1 p.1 in
    rest p.0 p.2 (subst (λ (m : State). StateAtFrom m frames (t - f.count) at') e q.2)
one_at_by false f frames s t at at' rest p q = one_end t f.tid s at at' p q

pub one_state_at_from : (frames : List Frame) (s : State) (t : ℕ) (at at' : State) → StateAtFrom s frames t at →
    StateAtFrom s frames t at' → at ≡ at'
one_state_at_from [] s t at at' p q = p.1 ∙ sym q.1
one_state_at_from (f ∷ frames) s t at at' p q =
    one_at_by (nat_le f.count t) f frames s t at at' (λ mid. one_state_at_from frames mid (t - f.count) at at') p q

pub one_end_state : OneEnd
one_end_state [] s s' p q = absurd p
one_end_state (items.Opening o ∷ rest) s s' p q =
    let e : q.0 ≡ p.0 = q.1.state_is ∙ sym p.1.state_is in
    one_state_at_from (frames_of rest) p.0 (total (frames_of rest)) s s' p.2
    (subst (λ (m : State). StateAtFrom m (frames_of rest) (total (frames_of rest)) s') e q.2)
one_end_state (items.Frame f ∷ rest) s s' p q = absurd p
one_end_state (items.Part p' ∷ rest) s s' p q = absurd p

-- ---- at the total

-- the first of the frames is within the total of them all
first_within : (n rest : ℕ) → nat_le n (n + rest) ≡ true
first_within n rest = grind (arith, nat_tests)

rest_is : (n rest : ℕ) → n + rest - n ≡ rest
rest_is n rest = omega arith

pub at_total_first : (s : State) (f : Frame) (frames : List Frame) (last : State) → StateAtFrom s (f ∷ frames) (total (f ∷ frames)) last →
    (mid : State) × FrameStep s f mid × StateAtFrom mid frames (total frames) last
at_total_first s f frames last h =
    let open_ : (mid : State) × FrameStep s f mid × StateAtFrom mid frames (f.count + total frames - f.count) last =
    subst (λ b. MatchBool b ((mid : State) × FrameStep s f mid × StateAtFrom mid frames (f.count + total frames - f.count) last)
    (Steps (f.count + total frames) f.tid s last))
    (first_within f.count (total frames))
    (subst (λ t. StateAtFrom s (f ∷ frames) t last) (sum_by-cons (λ (g : Frame). g.count) f frames) h) in
    (open_.0, open_.1, subst (λ t. StateAtFrom open_.0 frames t last) (rest_is f.count (total frames)) open_.2)

pub at_total_of_first : (s : State) (f : Frame) (frames : List Frame) (mid last : State) → FrameStep s f mid →
    StateAtFrom mid frames (total frames) last →
    StateAtFrom s (f ∷ frames) (total (f ∷ frames)) last
at_total_of_first s f frames mid last step h =
    subst (λ t. StateAtFrom s (f ∷ frames) t last) (sym (sum_by-cons (λ (g : Frame). g.count) f frames)) (
    subst (λ b. MatchBool b ((mid' : State) × FrameStep s f mid' × StateAtFrom mid' frames (f.count + total frames - f.count) last)
    (Steps (f.count + total frames) f.tid s last))
    (sym (first_within f.count (total frames)))
    (mid, step, subst (λ t. StateAtFrom mid frames t last) (sym (rest_is f.count (total frames))) h))

pub at_total_append : (frames : List Frame) (s last new : State) (f : Frame) → StateAtFrom s frames (total frames) last →
    FrameStep last f new →
    StateAtFrom s (frames ++ f ∷ []) (total (frames ++ f ∷ [])) new
at_total_append [] s last new f h step =
    at_total_of_first s f [] new new (subst (λ (m : State). FrameStep m f new) h.1 step) (refl, refl)
at_total_append (g ∷ frames) s last new f h step =
    let open_ = at_total_first s g frames last h in
    at_total_of_first s g (frames ++ f ∷ []) open_.0 new open_.1 (at_total_append frames open_.0 last new f open_.2 step)

-- ---- a longer recording

pub frames-append : (rest : List Item) (f : Frame) → frames_of (rest ++ items.Frame f ∷ []) ≡ frames_of rest ++ f ∷ []
frames-append [] f = refl
frames-append (items.Opening o ∷ rest) f = frames-append rest f
frames-append (items.Frame g ∷ rest) f = ap (λ fs. g ∷ fs) (frames-append rest f)
frames-append (items.Part p ∷ rest) f = frames-append rest f

pub items-append : (records : List Record) (r : Record) → items_of (records ++ r ∷ []) ≡ items_of records ++ r.item ∷ []
items-append [] r = refl
items-append (q ∷ records) r = ap (λ rest. q.item ∷ rest) (items-append records r)

pub numbered-append : (guest index : ℕ) (records : List Record) (r : Record) → IsNumbered guest index records → r.guest ≡ guest →
    r.index ≡ index + length records →
    IsNumbered guest index (records ++ r ∷ [])
numbered-append guest index [] r h g i = (g, omega (arith, i), tt)
numbered-append guest index (q ∷ records) r h g i = (h.0, h.1, numbered-append guest (index + 1) records r h.2 g (omega (arith, i)))

items_follow-append : (base : State) (parts : List Part) (rest : List Item) (s last new : State) (f : Frame) →
    ItemsFollow base parts s rest → StateAtFrom s (frames_of rest) (total (frames_of rest)) last → FrameStep last f new →
    ItemsFollow base parts s (rest ++ items.Frame f ∷ [])
items_follow-append base parts [] s last new f h at step = (new, subst (λ (m : State). FrameStep m f new) at.1 step, tt)
items_follow-append base parts (items.Opening o ∷ rest) s last new f h at step = absurd h
items_follow-append base parts (items.Frame g ∷ rest) s last new f h at step =
    let open_ = at_total_first s g (frames_of rest) last at in
    let e : open_.0 ≡ h.0 = one_state_after_frame s g open_.0 h.0 open_.1 h.1 in (
      h.0,
      h.1,
      items_follow-append base [] rest h.0 last new f h.2
          (subst (λ (m : State). StateAtFrom m (frames_of rest) (total (frames_of rest)) last) e open_.2) step,
    )
items_follow-append base parts (items.Part p ∷ rest) s last new f h at step =
    (h.0, items_follow-append (base_after p.rest base s) (row_after p.rest (parts ++ p ∷ [])) rest s last new f h.1 at step)

starts-append : (rest : List Item) (last new : State) (f : Frame) → Starts rest → EndsIn rest last → FrameStep last f new →
    Starts (rest ++ items.Frame f ∷ []) × EndsIn (rest ++ items.Frame f ∷ []) new
starts-append [] last new f h at step = absurd h
starts-append (items.Opening o ∷ rest) last new f h at step =
    let e : at.0 ≡ h.0 = at.1.state_is ∙ sym h.1.state_is in
    let from_there = subst (λ (m : State). StateAtFrom m (frames_of rest) (total (frames_of rest)) last) e at.2 in (
      (h.0, h.1, items_follow-append h.0 [] rest h.0 last new f h.2 from_there step),
      (
        h.0,
        h.1,
        subst (λ (fs : List Frame). StateAtFrom h.0 fs (total fs) new) (sym (frames-append rest f))
            (at_total_append (frames_of rest) h.0 last new f from_there step),
      ),
    )
starts-append (items.Frame g ∷ rest) last new f h at step = absurd h
starts-append (items.Part p ∷ rest) last new f h at step = absurd h

pub frames_append : FramesAppend
frames_append records guest old new f h numbered at step =
    let r : Record = frame_record guest (length records) f in
    let longer = starts-append (items_of records) old new f h.starts at step in
    let same = sym (items-append records r) in (
      record {
        guest = guest;
        numbered = numbered-append guest 0 records r numbered refl (omega arith);
        starts = subst Starts same longer.0;
      },
      subst (λ (is : List Item). EndsIn is new) same longer.1,
    )

-- ---- a longer output

put_append : (frames : List Frame) (s last new : State) (f : Frame) (chunks more : List Chunk) → PutFrom s frames chunks →
    StateAtFrom s frames (total frames) last → FrameStep last f new → FramePuts last f f.end more →
    PutFrom s (frames ++ f ∷ []) (chunks ++ more)
put_append [] s last new f chunks more h at step puts =
    let here = subst (λ (m : State). FrameStep m f new) at.1 step in
    let told = subst (λ (m : State). FramePuts m f f.end more) at.1 puts in
    (new, more, [], here, told, refl, ap (λ cs. cs ++ more) h ∙ sym (append-nil more))
put_append (g ∷ frames) s last new f chunks more h at step puts =
    let open_ = at_total_first s g frames last at in
    let e : open_.0 ≡ h.0 = one_state_after_frame s g open_.0 h.0 open_.1 h.3 in
    let rest = put_append frames h.0 last new f h.2 more h.5 (subst (λ (m : State). StateAtFrom m frames (total frames) last) e open_.2)
    step puts in
    (h.0, h.1, h.2 ++ more, h.3, h.4, rest, ap (λ cs. cs ++ more) h.6 ∙ append_assoc h.1 h.2 more)

pub output_append : (o : Opening) (rest : List Item) (last new : State) (f : Frame) (chunks more : List Chunk) →
    Output o (frames_of rest) chunks →
    EndsIn (items.Opening o ∷ rest) last → FrameStep last f new → FramePuts last f f.end more →
    Output o (frames_of (rest ++ items.Frame f ∷ [])) (chunks ++ more)
output_append o rest last new f chunks more h at step puts =
    let e : at.0 ≡ h.0 = at.1.state_is ∙ sym h.1.state_is in
    let from_there = subst (λ (m : State). StateAtFrom m (frames_of rest) (total (frames_of rest)) last) e at.2 in (
      h.0,
      h.1,
      subst (λ (fs : List Frame). PutFrom h.0 fs (chunks ++ more)) (sym (frames-append rest f))
          (put_append (frames_of rest) h.0 last new f chunks more h.2 from_there step puts),
    )
