-- What a recorder made, and what of its output has left.
use Rattle.std.proofs.Common.{◌≡◌, ℕ, suc, ◌+◌, ◌≤◌, min, List, [], ◌∷◌, ◌++◌, length, take, refl, sym, ap, ◌∙◌, subst, arith, append_assoc, length-append}
use Rattle.std.proofs.lemmas.List.{append-nil}
use Rattle.rrv_model.specs.declared.record.Item.{Item}
use Rattle.rrv_model.specs.declared.record.Record.{Record}
use Rattle.rrv_model.specs.Recording.{items_of}
use Rattle.commit_core.specs.Runs.{ItemsPut}
use Rattle.std.specs.Prelude.{IfErr, Result}
use Rattle.commit_group.specs.Seats.{RecorderValue}
use Rattle.recorder.specs.declared.fault.RecorderFault.{RecorderFault}
use Rattle.recorder.specs.Owed.{Owed, left_of, Leaves}
use Rattle.recorder.specs.RecorderCalls.{KeepsMade, OnlyReleases, PutsCounted, PutsMore, SendsSome, TellsTaken}
use Rattle.recorder.specs.Recorders.{GuestRecorder, HasPut, backlog_of, made, records_from}
use Rattle.recorder.proofs.Puts.{counted_both}

pub length_from : (place index : ℕ) (items : List Item) → length (records_from place index items) ≡ length items
length_from place index [] = refl
length_from place index (item ∷ items) = ap suc (length_from place (index + 1) items)

pub made_count : (seat : RecorderValue) (items : List Item) → length (seat.sent ++ backlog_of seat items) ≡ length seat.sent + length items
made_count seat items =
    length-append seat.sent (backlog_of seat items) ∙ ap (λ (n : ℕ). length seat.sent + n) (length_from seat.guest (length seat.sent) items)

-- more has left
pub released_more : (old new : GuestRecorder) (put : List (ℕ × ℕ)) (seen : ℕ) → made new ≡ made old → new.seat.seen ≡ seen →
    old.seat.seen ≤ seen → old.owed.released ≤ old.seat.seen → Leaves seen old.owed new.owed put
    → (out : List (ℕ × ℕ)) → HasPut old out → HasPut new (out ++ put)
released_more old new put seen same seen_is rises low leaves out has = record {
  each = λ k le within.
      let size : length (made new) ≡ length (made old) = ap length same in
      let h = has.each k (omega arith) (omega arith) in (
        h.0,
        subst (λ (l : List Record). ItemsPut (items_of (take k l)) h.0) (sym same) h.1,
        append_assoc out put (left_of new.owed k) ∙ ap (λ (l : List (ℕ × ℕ)). out ++ l) (leaves.parts k (omega arith) (omega arith)) ∙ h.2,
      );
}

-- ---- calls one behind the other

pub keeps_none : (r : GuestRecorder) → KeepsMade r r
keeps_none r =
    record {
      made_is = refl;
      guest = refl;
      group = refl;
      place = refl;
      here = refl;
      checkpoints = (refl, refl, refl);
      deadlines = (refl, refl);
    }

pub keeps_both : (a b c : GuestRecorder) → KeepsMade a b → KeepsMade b c → KeepsMade a c
keeps_both a b c h k = record {
  made_is = k.made_is ∙ h.made_is;
  guest = k.guest ∙ h.guest;
  group = k.group ∙ h.group;
  place = k.place ∙ h.place;
  here = k.here ∙ h.here;
  checkpoints = (
    k.checkpoints.0 ∙ h.checkpoints.0,
    k.checkpoints.1 ∙ h.checkpoints.1,
    k.checkpoints.2 ∙ h.checkpoints.2,
  );
  deadlines = (k.deadlines.0 ∙ h.deadlines.0, k.deadlines.1 ∙ h.deadlines.1);
}

pub keeps_sent : (a b : GuestRecorder) → SendsSome a b → KeepsMade a b
keeps_sent a b h = record {
  made_is = h.made_is;
  guest = h.guest;
  group = ap (λ (q : RecorderValue). q.group) h.seat;
  place = ap (λ (q : RecorderValue). q.guest) h.seat;
  here = ap (λ (q : RecorderValue). q.has_left) h.seat;
  checkpoints = h.checkpoints;
  deadlines = h.deadlines;
}

pub keeps_released : (a b : GuestRecorder) → OnlyReleases a b → KeepsMade a b
keeps_released a b h = record {
  made_is = (λ i. (h.looks i).sent ++ h.backlog i);
  guest = h.guest;
  group = ap (λ (q : RecorderValue). q.group) h.looks;
  place = ap (λ (q : RecorderValue). q.guest) h.looks;
  here = ap (λ (q : RecorderValue). q.has_left) h.looks;
  checkpoints = h.checkpoints;
  deadlines = h.deadlines;
}

pub looks_once : (a b c : GuestRecorder) → SendsSome a b → OnlyReleases b c → c.seat.looks ≡ a.seat.looks + 1
looks_once a b c sends h = ap (λ (q : RecorderValue). q.looks) h.looks ∙ ap (λ (q : RecorderValue). q.looks + 1) sends.seat

pub put_stays : (a b : GuestRecorder) → SendsSome a b → (out : List (ℕ × ℕ)) → HasPut a out → HasPut b out
put_stays a b h out p = record {
  each = λ k le within.
      let size : length (made b) ≡ length (made a) = ap length h.made_is in
      let seen : b.seat.seen ≡ a.seat.seen = ap (λ (q : RecorderValue). q.seen) h.seat in
      let e = p.each k (omega arith) (omega arith) in (
        e.0,
        subst (λ (l : List Record). ItemsPut (items_of (take k l)) e.0) (sym h.made_is) e.1,
        ap (λ (o : Owed). out ++ left_of o k) h.owed ∙ e.2,
      );
}

module _ {S : Type 0} (tells : S → Type 0) (taken : S → List (ℕ × ℕ)) where
  pub puts_none : (r : GuestRecorder) (s : S) → PutsCounted tells taken r r s s 0
  puts_none r s = record {
    put = [];
    takes = λ t. sym (append-nil (taken s));
    still = ((λ t. t), (λ t. t));
    has_put = λ out h. subst (HasPut r) (sym (append-nil out)) h;
    counted = refl;
  }

  pub puts_both : (a b c : GuestRecorder) (s m t : S) (j k n : ℕ) → n ≡ min (j + k) 18446744073709551615
      → PutsCounted tells taken a b s m j → PutsCounted tells taken b c m t k → PutsCounted tells taken a c s t n
  puts_both a b c s m t j k n is g h = record {
    put = g.put ++ h.put;
    takes = λ tell. h.takes (g.still.1 tell) ∙ ap (λ (l : List (ℕ × ℕ)). l ++ h.put) (g.takes tell) ∙ append_assoc (taken s) g.put h.put;
    still = ((λ t. g.still.0 (h.still.0 t)), (λ t. h.still.1 (g.still.1 t)));
    has_put = λ out p. subst (HasPut c) (append_assoc out g.put h.put) (h.has_put (out ++ g.put) (g.has_put out p));
    counted = is ∙ (λ i. min (g.counted i + h.counted i) 18446744073709551615) ∙ counted_both g.put h.put;
  }

  -- records are sent behind it
  pub puts_sent : (a b c : GuestRecorder) (s t : S) (n : ℕ)
      → PutsCounted tells taken a b s t n → SendsSome b c → PutsCounted tells taken a c s t n
  puts_sent a b c s t n g h = record {
    put = g.put;
    takes = g.takes;
    still = g.still;
    has_put = λ out p. put_stays b c h (out ++ g.put) (g.has_put out p);
    counted = g.counted;
  }

  -- a round of settling
  pub puts_round : (a b d c : GuestRecorder) (s m t : S) (j k n : ℕ) → n ≡ min (j + k) 18446744073709551615
      → PutsCounted tells taken a b s m j → SendsSome b d → PutsCounted tells taken d c m t k → PutsCounted tells taken a c s t n
  puts_round a b d c s m t j k n is g sent h = puts_both a d c s m t j k n is (puts_sent a b d s m j g sent) h

  pub puts_more : (a b : GuestRecorder) (s t : S) (n : ℕ) (result : Result (Unit {0}) RecorderFault) (h : PutsCounted tells taken a b s t n)
      → IfErr result (TellsTaken h.put) → PutsMore tells taken a b s t result
  puts_more a b s t n result h told = record { put = h.put; takes = h.takes; still = h.still; has_put = h.has_put; told = told }
