-- A recording has one list of acts at most.
use Rattle.std.proofs.Common.{◌≡◌, ℕ, zero, suc, ◌+◌, ◌-◌, ◌<◌, ◌≤◌, ◌==◌, Bool, true, false, List, [], ◌∷◌, ◌++◌, map, Option, Some, Result, Ok, refl, sym, ◌∙◌, ap, subst, arith}
use Rattle.std.proofs.lemmas.List.Sums.{sum_by-cons}
use Rattle.rrv_model.specs.declared.machine.Thread.{Thread}
use Rattle.rrv_model.specs.declared.record.End.{End}
use Rattle.rrv_model.specs.declared.record.End.TheVariants.{Preempt, Call, Fault, Stuck, Expire}
use Rattle.rrv_model.specs.declared.record.Frame.{Frame}
use Rattle.rrv_model.specs.declared.record.Opening.{Opening}
use Rattle.rrv_model.specs.Instructions.{Stands}
use Rattle.rrv_model.specs.State.{State, thread_at}
use Rattle.rrv_model.specs.StateAt.{StateAt, StateAtFrom, total}
use Rattle.rrv_model.specs.Step.{hart_of}
use Rattle.rrv_model.proofs.InstructionLaws.{one_row}
use Rattle.rrv_model.proofs.RunLaws.{one_state_at_from}
use Rattle.order.specs.declared.act.Act.{Act}
use Rattle.order.specs.declared.act.Deed.{Deed}
use Rattle.acts.specs.Deeds.{Does, DoesIn, deeds_of}
use Rattle.acts.specs.Acts.{ActsAt, ActsUpTo}

-- ---- one instruction

one_word : {E : Type 0} (r : Result ℕ E) (w w' : ℕ) → r ≡ Ok w → r ≡ Ok w' → w ≡ w'
one_word r w w' p q = cc

one_thread : (o : Option Thread) (t t' : Thread) → o ≡ Some t → o ≡ Some t' → t ≡ t'
one_thread o t t' p q = cc

does_one : (s : State) (t : Thread) (done done' : List Deed) → Does s t done → Does s t done' → done ≡ done'
does_one s t done done' a b =
    let words = one_word _ a.word b.word a.fetches b.fetches in
    let instrs = one_row b.word a.instr b.instr (subst (λ (w : ℕ). Stands w a.instr) words a.stands) b.stands in
    let same : deeds_of a.word a.instr (hart_of s t) ≡ deeds_of b.word b.instr (hart_of s t) =
    λ i. deeds_of (words i) (instrs i) (hart_of s t) in
    a.done_is ∙ same ∙ sym b.done_is

done_one : (is_last : Bool) (end : End) (s : State) (t : Thread) (done done' : List Deed) → DoesIn is_last end s t done
    → DoesIn is_last end s t done' → done ≡ done'
done_one true (Call r) s t done done' a b = a ∙ sym b
done_one true (Fault kind) s t done done' a b = a ∙ sym b
done_one true Preempt s t done done' a b = does_one s t done done' a b
done_one true Stuck s t done done' a b = does_one s t done done' a b
done_one true Expire s t done done' a b = does_one s t done done' a b
done_one false end s t done done' a b = does_one s t done done' a b

-- ---- one frame

total_of : (f : Frame) (frames : List Frame) → total (f ∷ frames) ≡ f.count + total frames
total_of f frames = sum_by-cons (λ (g : Frame). g.count) f frames

same_head : (f g : Frame) (xs ys : List Frame) → f ∷ xs ≡ g ∷ ys → f ≡ g
same_head f g xs ys e = cc

same_tail : (f g : Frame) (xs ys : List Frame) → f ∷ xs ≡ g ∷ ys → xs ≡ ys
same_tail f g xs ys e = cc

one_frame : (xs xs' ys ys' : List Frame) (f f' : Frame) (t : ℕ) → xs ++ f ∷ ys ≡ xs' ++ f' ∷ ys' → total xs ≤ t
    → t < total xs + f.count → total xs' ≤ t → t < total xs' + f'.count → (total xs ≡ total xs') × (f ≡ f')
one_frame [] [] ys ys' f f' t e low high low' high' = (refl, same_head f f' ys ys' e)
one_frame [] (g ∷ xs') ys ys' f f' t e low high low' high' =
    let counts : f.count ≡ g.count = ap (λ (x : Frame). x.count) (same_head f g ys (xs' ++ f' ∷ ys') e) in
    absurd (omega (arith, counts, total_of g xs', low', high))
one_frame (g ∷ xs) [] ys ys' f f' t e low high low' high' =
    let counts : g.count ≡ f'.count = ap (λ (x : Frame). x.count) (same_head g f' (xs ++ f ∷ ys) ys' e) in
    absurd (omega (arith, counts, total_of g xs, low, high'))
one_frame (g ∷ xs) (g' ∷ xs') ys ys' f f' t e low high low' high' =
    let counts : g.count ≡ g'.count = ap (λ (x : Frame). x.count) (same_head g g' (xs ++ f ∷ ys) (xs' ++ f' ∷ ys') e) in
    let one = total_of g xs in
    let other = total_of g' xs' in
    let rest : (total xs ≡ total xs') × (f ≡ f') = one_frame xs xs' ys ys' f f' (t - g.count)
    (same_tail g g' (xs ++ f ∷ ys) (xs' ++ f' ∷ ys') e) (omega (arith, one, low)) (omega (arith, one, low, high))
    (omega (arith, other, counts, low')) (omega (arith, other, counts, low', high')) in
    (omega (arith, one, other, counts, rest.0), rest.1)

-- ---- one list

one_state : (o : Opening) (frames : List Frame) (t : ℕ) (s s' : State) → StateAt o frames t s → StateAt o frames t s' → s ≡ s'
one_state o frames t s s' h k =
    let first : k.0 ≡ h.0 = k.1.state_is ∙ sym h.1.state_is in
    one_state_at_from frames h.0 t s s' h.2 (subst (λ (m : State). StateAtFrom m frames t s') first k.2)

abbrev acts_of : (t tid : ℕ) → List Deed → List Act
acts_of t tid done = map (λ d. record { place = t; tid = tid; deed = d }) done

one_here : (o : Opening) (frames : List Frame) (t : ℕ) (here here' : List Act) → ActsAt o frames t here → ActsAt o frames t here'
    → here ≡ here'
one_here o frames t here here' a b =
    let at_one = one_frame a.stands.before b.stands.before a.stands.after b.stands.after a.frame b.frame t
    (sym a.stands.frames_are ∙ b.stands.frames_are) a.stands.low a.stands.high b.stands.low b.stands.high in
    let totals : total b.stands.before ≡ total a.stands.before = sym at_one.0 in
    let framed : b.frame ≡ a.frame = sym at_one.1 in
    let states : b.state ≡ a.state = one_state o frames t b.state a.state b.is_at a.is_at in
    let found : thread_at a.state a.frame.tid ≡ Some b.thread =
    subst (λ (x : State × Frame). thread_at x.0 x.1.tid ≡ Some b.thread) (λ i. (states i, framed i)) b.there in
    let threads : b.thread ≡ a.thread = one_thread _ b.thread a.thread found a.there in
    let last = (t + 1) == (total a.stands.before + a.frame.count) in
    let does : DoesIn last a.frame.end a.state a.thread b.done =
    subst (λ (x : ℕ × Frame × State × Thread). DoesIn ((t + 1) == (x.0 + x.1.count)) x.1.end x.2 x.3 b.done)
    (λ i. (totals i, framed i, states i, threads i)) b.does in
    let dones : a.done ≡ b.done = done_one last a.frame.end a.state a.thread a.done b.done a.does does in
    let same : acts_of t a.frame.tid a.done ≡ acts_of t b.frame.tid b.done = λ i. acts_of t (at_one.1 i).tid (dones i) in
    a.here_are ∙ same ∙ sym b.here_are

pub acts_are_one : (o : Opening) (frames : List Frame) (n : ℕ) (acts acts' : List Act) → ActsUpTo o frames n acts
    → ActsUpTo o frames n acts' → acts ≡ acts'
acts_are_one o frames zero acts acts' a b = a ∙ sym b
acts_are_one o frames (suc n) acts acts' a b =
    let fronts = acts_are_one o frames n a.0 b.0 a.2 b.2 in
    let heres = one_here o frames n a.1 b.1 a.3 b.3 in
    let both : a.0 ++ a.1 ≡ b.0 ++ b.1 = λ i. fronts i ++ heres i in
    a.4 ∙ both ∙ sym b.4
