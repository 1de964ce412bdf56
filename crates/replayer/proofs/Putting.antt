-- What frames put out, one after the other.
use Rattle.std.proofs.Common.{◌≡◌, ℕ, zero, suc, ◌+◌, List, [], ◌∷◌, ◌++◌, length, take, drop, refl, sym, ◌∙◌, ap, subst, arith}
use Rattle.std.proofs.lemmas.Grind.{flat_map-append}
use Rattle.std.proofs.lemmas.List.{append-nil, append_assoc, map-append}
use Rattle.std.proofs.Math.Seq.{take-append_seam, take-append-add}
use Rattle.rrv_model.specs.declared.record.CallRecord.{CallRecord}
use Rattle.rrv_model.specs.declared.record.End.{End}
use Rattle.rrv_model.specs.declared.record.End.TheVariants as ends
use Rattle.rrv_model.specs.declared.record.Frame.{Frame}
use Rattle.rrv_model.specs.declared.record.Opening.{Opening}
use Rattle.rrv_model.specs.State.{State}
use Rattle.rrv_model.specs.FrameStep.{FrameStep}
use Rattle.rrv_model.specs.Opening.{Opens}
use Rattle.rrv_model.specs.Output.{Chunk, FramePuts, Output, PutFrom, spread, to_descriptor}
use Rattle.rrv_model.specs.StateAt.{StateAtFrom, total}
use Rattle.rrv_model.proofs.Ends.{puts_some}
use Rattle.rrv_model.proofs.FrameLaws.{one_state_after_frame}
use Rattle.rrv_model.proofs.RunLaws.{at_total_first}
use Rattle.serial_sched.specs.Slices.{CallPuts}
use Rattle.replayer.specs.declared.recording.Mark.{Mark}
use Rattle.replayer.specs.Kept.{AreKept}
use Rattle.replayer.specs.Places.{IsPlace}
use Rattle.replayer.specs.Puts.{PutsAll, PutsBeginning, PutsSoFar, chunks_by}

-- ---- bytes

nothing : (i : ℕ) → take {A = ℕ} i [] ≡ []
nothing zero = refl
nothing (suc i) = refl

take_more : (xs : List ℕ) (at n : ℕ) → take (at + n) xs ≡ take at xs ++ take n (drop at xs)
take_more xs zero n = let none : 0 + n ≡ n = omega arith in ap (λ i. take i xs) none
take_more [] (suc at) n = nothing (suc at + n) ∙ sym (nothing n)
take_more (x ∷ xs) (suc at) n =
    let one : suc at + n ≡ suc (at + n) = omega arith in
    ap (λ i. take i (x ∷ xs)) one ∙ ap (λ ys. x ∷ ys) (take_more xs at n)

pub bytes_more : (d at n : ℕ) (bytes : List ℕ) (before : List (ℕ × ℕ)) →
    (before ++ to_descriptor d (take at bytes)) ++ to_descriptor d (take n (drop at bytes)) ≡ before
    ++ to_descriptor d (take (at + n) bytes)
bytes_more d at n bytes before =
    append_assoc before (to_descriptor d (take at bytes)) (to_descriptor d (take n (drop at bytes)))
    ∙ ap (λ (l : List (ℕ × ℕ)). before ++ l)
    (sym (map-append (λ (b : ℕ). (d, b)) (take at bytes) (take n (drop at bytes))) ∙ ap (to_descriptor d) (sym (take_more bytes at n)))

-- one chunk
pub spread_one : (d : ℕ) (bytes : List ℕ) → spread (record { descriptor = d; bytes = bytes } ∷ []) ≡ to_descriptor d bytes
spread_one d bytes = append-nil (to_descriptor d bytes)

pub take_map : (d n : ℕ) (bytes : List ℕ) → to_descriptor d (take n bytes) ≡ take n (to_descriptor d bytes)
take_map d zero bytes = refl
take_map d (suc n) [] = refl
take_map d (suc n) (b ∷ bytes) = ap (λ (l : List (ℕ × ℕ)). (d, b) ∷ l) (take_map d n bytes)

-- ---- frames

-- what was kept as put out is what the frame puts out
pub frame_puts : (end : End) (s : State) (f : Frame) (kept : List Chunk) → CallPuts end s f kept → FramePuts s f end (chunks_by end kept)
frame_puts (ends.Call r) s f kept h = h
frame_puts _ s f kept h = refl

put_ahead : (left : List Frame) (s last : State) → StateAtFrom s left (total left) last → (chunks : List Chunk) × PutFrom s left chunks
put_ahead [] s last h = ([], refl)
put_ahead (f ∷ left) s last h =
    let ahead = at_total_first s f left last h in
    let first = puts_some f.end s ahead.0 f ahead.1.goes in
    let more = put_ahead left ahead.0 last ahead.2 in
    (first.0 ++ more.0, (ahead.0, first.0, more.0, ahead.1, first.1, more.1, refl))

pub ends_behind : (s new last : State) (f : Frame) (left : List Frame) → StateAtFrom s (f ∷ left) (total (f ∷ left)) last →
    FrameStep s f new → StateAtFrom new left (total left) last
ends_behind s new last f left h step =
    let ahead = at_total_first s f left last h in
    subst (λ (m : State). StateAtFrom m left (total left) last) (one_state_after_frame s f ahead.0 new ahead.1 step) ahead.2

-- what a call's put is, bytes of it too
pub call_part : (end : End) (r : CallRecord) (kept : List Chunk) (d n : ℕ) (bytes : List ℕ) → end ≡ ends.Call r →
    kept ≡ record { descriptor = d; bytes = bytes } ∷ [] →
    to_descriptor d (take n bytes) ≡ take n (spread (chunks_by end kept))
call_part end r kept d n bytes is kept_is =
    take_map d n bytes ∙ ap (take n) (sym (spread_one d bytes)) ∙ ap (λ (cs : List Chunk). take n (spread cs)) (sym kept_is)
    ∙ ap (λ (e : End). take n (spread (chunks_by e kept))) (sym is)

-- ---- so far

pub so_far_first : (o : Opening) (frames : List Frame) (s : State) (before : List (ℕ × ℕ)) → Opens o s →
    PutsSoFar o frames s frames before before
so_far_first o frames s before opens = record { done = []; on = λ rest h. (s, opens, h); took = sym (append-nil before) }

pub so_far_next : (o : Opening) (frames : List Frame) (s new : State) (f : Frame) (left : List Frame) (first : List Chunk)
    (before middle after : List (ℕ × ℕ)) →
    PutsSoFar o frames s (f ∷ left) before middle → FrameStep s f new → FramePuts s f f.end first → after ≡ middle ++ spread first →
    PutsSoFar o frames new left before after
so_far_next o frames s new f left first before middle after h step puts took = record {
  done = h.done ++ first;
  on = λ rest more. subst (λ (cs : List Chunk). Output o frames cs) (sym (append_assoc h.done first rest))
      (h.on (first ++ rest) (new, first, rest, step, puts, more, refl));
  took = took ∙ ap (λ (l : List (ℕ × ℕ)). l ++ spread first) h.took ∙ append_assoc before (spread h.done) (spread first)
      ∙ ap (λ (l : List (ℕ × ℕ)). before ++ l) (sym (flat_map-append (λ c. to_descriptor c.descriptor c.bytes) h.done first));
}

pub so_far_all : (o : Opening) (frames : List Frame) (s : State) (before after : List (ℕ × ℕ)) → PutsSoFar o frames s [] before after →
    PutsAll o frames before after
so_far_all o frames s before after h = record {
  chunks = h.done ++ [];
  is_output = h.on [] refl;
  took = h.took ∙ ap (λ (cs : List Chunk). before ++ spread cs) (sym (append-nil h.done));
}

-- what was put out so far is a beginning
pub so_far_part : (o : Opening) (frames : List Frame) (s last : State) (left : List Frame) (before after : List (ℕ × ℕ)) →
    PutsSoFar o frames s left before after →
    StateAtFrom s left (total left) last → PutsBeginning o frames before after
so_far_part o frames s last left before after h ends_ =
    let rest = put_ahead left s last ends_ in
    let all : spread (h.done ++ rest.0) ≡ spread h.done ++ spread rest.0 =
    flat_map-append (λ c. to_descriptor c.descriptor c.bytes) h.done rest.0 in
    record {
      chunks = h.done ++ rest.0;
      is_output = h.on rest.0 rest.1;
      count = length (spread h.done);
      took = h.took
          ∙ ap (λ (l : List (ℕ × ℕ)). before ++ l)
          (sym (take-append_seam (spread h.done) (spread rest.0)) ∙ ap (take (length (spread h.done))) (sym all));
    }

front : (n : ℕ) (xs ys : List (ℕ × ℕ)) → take (length (take n xs)) (xs ++ ys) ≡ take n xs
front zero xs ys = refl
front (suc n) [] ys = refl
front (suc n) (x ∷ xs) ys = ap (λ (l : List (ℕ × ℕ)). x ∷ l) (front n xs ys)

-- so is some of what a frame puts out behind it
pub inside_part : (o : Opening) (frames : List Frame) (s new last : State) (f : Frame) (left : List Frame) (first : List Chunk) (n : ℕ)
    (before middle after : List (ℕ × ℕ)) →
    PutsSoFar o frames s (f ∷ left) before middle → FrameStep s f new → FramePuts s f f.end first → StateAtFrom new left (total left) last →
    after ≡ middle ++ take n (spread first) →
    PutsBeginning o frames before after
inside_part o frames s new last f left first n before middle after h step puts ends_ took =
    let rest = put_ahead left new last ends_ in
    let xs = spread h.done in
    let ys = spread first in
    let k = length (take n ys) in
    let all : spread (h.done ++ (first ++ rest.0)) ≡ xs ++ (ys ++ spread rest.0) =
    flat_map-append (λ c. to_descriptor c.descriptor c.bytes) h.done (first ++ rest.0)
    ∙ ap (λ (l : List (ℕ × ℕ)). xs ++ l) (flat_map-append (λ c. to_descriptor c.descriptor c.bytes) first rest.0) in
    record {
      chunks = h.done ++ (first ++ rest.0);
      is_output = h.on (first ++ rest.0) (new, first, rest.0, step, puts, rest.1, refl);
      count = length xs + k;
      took = took ∙ ap (λ (l : List (ℕ × ℕ)). l ++ take n ys) h.took ∙ append_assoc before xs (take n ys)
          ∙ ap (λ (l : List (ℕ × ℕ)). before ++ l)
          (ap (λ (l : List (ℕ × ℕ)). xs ++ l) (sym (front n ys (spread rest.0))) ∙ sym (take-append-add xs (ys ++ spread rest.0) k)
          ∙ ap (take (length xs + k)) (sym all));
    }

-- nothing is a beginning
pub none_put : (o : Opening) (frames : List Frame) (marks : List Mark) (before : List (ℕ × ℕ)) → AreKept o frames marks →
    PutsBeginning o frames before before
none_put o frames marks before kept =
    so_far_part o frames kept.first kept.last frames before before (so_far_first o frames kept.first before kept.opens) kept.ends

-- ---- at the start

pub start_opens : (o : Opening) (frames : List Frame) (n m : ℕ) (s : State) → IsPlace o frames n m s → n ≡ 0 → Opens o s
start_opens o frames n m s place none =
    let here = subst (λ i. StateAtFrom place.first (take i frames) m s) none place.reached in
    subst (λ (x : State). Opens o x) (sym here.1) place.opens

pub start_ends : (o : Opening) (frames : List Frame) (marks : List Mark) (s : State) → AreKept o frames marks → Opens o s → (last : State) ×
    StateAtFrom s frames (total frames) last
start_ends o frames marks s kept opens =
    let same : kept.first ≡ s = kept.opens.state_is ∙ sym opens.state_is in
    (kept.last, subst (λ (m : State). StateAtFrom m frames (total frames) kept.last) same kept.ends)
