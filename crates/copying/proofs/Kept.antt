-- How a log gets copies, body by body, and what a crash leaves of it meanwhile.
use Rattle.std.proofs.Common.{◌≡◌, inl, inr, ℕ, ◌+◌, ◌≤◌, Bool, true, false, List, [], ◌∷◌, ◌++◌, length, refl, sym, ◌∙◌, ap, subst, arith, append_assoc}
use Rattle.std.specs.Prelude.{◌↔◌, Contains}
use Rattle.std.specs.List.{AllByRecursion}
use Rattle.std.proofs.lemmas.List.Elements.{Contains-append_left}
use Rattle.std.proofs.lemmas.List.{append-nil}
use Rattle.outcomes.proofs.Lists.{AllByRecursion-back}
use Rattle.store_model.specs.CrashModel.{DiskState, Leaves, LeavesOnly}
use Rattle.store_model.specs.Settled.{IsBeforeOrAfter, IsClosed, IsSettled}
use Rattle.store_model.proofs.CrashLaws.{crash_synced, leaves_both, leaves_weaker, started}
use Rattle.rrv_model.specs.declared.record.Record.{Record}
use Rattle.rrv_model.specs.RecordText.{HasText}
use Rattle.rrv_model.specs.Recovered.{body_text, mark, next_guest, AreInOrder, IsBodyText, IsOld, IsRecovered, MayFollow}
use Rattle.rrv_model.proofs.RecoveredLaws.{in_order_front, recovered_more}
use Rattle.trace_disk.specs.Devices.{Device}
use Rattle.trace_log.specs.Committed.{HasCommitted}
use Rattle.trace_log.specs.Kept.{Keeps, LogValue}
use Rattle.copying.specs.Copied.{AreCopies, HoldsBeginning, IsBeginning, IsTornBefore, KeepsRecords}
use Rattle.copying.proofs.Numbered.{copies_in_order, copies_low}

-- ---- beginnings

pub begins_all : (all : List Record) → IsBeginning all all
begins_all all = record { rest = []; all_is = sym (append-nil all) }

pub begins_with : (first rest : List Record) → IsBeginning first (first ++ rest)
begins_with first rest = record { rest = rest; all_is = refl }

pub begins_none : (all : List Record) → IsBeginning [] all
begins_none all = record { rest = all; all_is = refl }

pub begins_longer : (first middle all : List Record) → IsBeginning first middle → IsBeginning middle all → IsBeginning first all
begins_longer first middle all p q = record {
  rest = p.rest ++ q.rest;
  all_is = q.all_is ∙ ap (λ (l : List Record). l ++ q.rest) p.all_is ∙ append_assoc first p.rest q.rest;
}

-- ---- what is recovered

-- records may follow where the Mark is there, or all are old
may_follow : (marked : Bool) (bodies : List (List ℕ)) (batch : List Record) → (marked ≡ true → Contains bodies mark) →
    (marked ≡ false → AllByRecursion (λ r. IsOld r.item) batch) → MayFollow bodies batch
may_follow true bodies batch there old = inl (there refl)
may_follow false bodies batch there old = inr (old refl)

-- with the text of more copies
pub recovers_more : (marked : Bool) (bodies : List (List ℕ)) (body : List ℕ) (earlier read batch : List Record) (number : ℕ) →
    next_guest earlier ≤ number → AreCopies marked number 0 (read ++ batch) → body ≡ body_text batch → 1 ≤ length batch
    → (marked ≡ true → Contains bodies mark) → IsRecovered bodies (earlier ++ read)
    → IsRecovered (bodies ++ body ∷ []) (earlier ++ (read ++ batch))
recovers_more marked bodies body earlier read batch number below are spelled some there old =
    let assoc : (earlier ++ read) ++ batch ≡ earlier ++ (read ++ batch) = append_assoc earlier read batch in
    let order : AreInOrder (earlier ++ (read ++ batch)) =
    copies_in_order earlier (read ++ batch) number below (in_order_front earlier read old.in_order) are in
    let is_text : IsBodyText body batch =
    record { some = some; each = AllByRecursion-back HasText read batch are.texts; spelled = spelled } in
    subst (λ (l : List Record). IsRecovered (bodies ++ body ∷ []) l) assoc
    (recovered_more bodies body (earlier ++ read) batch old is_text
    (may_follow marked bodies batch there (λ unmarked. AllByRecursion-back (λ (r : Record). IsOld r.item) read batch (are.old unmarked)))
    (subst AreInOrder (sym assoc) order))

-- ---- what a crash leaves

closed_settled : (state : DiskState) (bodies : List (List ℕ)) → IsSettled state bodies → IsClosed bodies state.content
closed_settled state bodies settled = record {
  sound = record {
    store = record { gate = 0; behind = []; text = settled.content; not_open = omega arith; each = settled.each; count = settled.count };
    next = inl refl;
  };
  closed = refl;
}

-- of more copies
pub holds_longer : (earlier copies longer : List Record) (bytes : List ℕ) → IsBeginning copies longer →
    HoldsBeginning earlier copies bytes →
    HoldsBeginning earlier longer bytes
holds_longer earlier copies longer bytes more h = record {
  bodies = h.bodies;
  first = h.first;
  beginning = begins_longer h.first copies longer h.beginning more;
  recovered = h.recovered;
  holds = elim h.holds [
    | inl closed ↦ inl closed
    | inr torn ↦ inr (torn_longer torn)
  ];
}
  where
    torn_longer : IsTornBefore h.bodies earlier copies bytes → IsTornBefore h.bodies earlier longer bytes
    torn_longer torn = record {
      body = torn.body;
      first = torn.first;
      beginning = begins_longer torn.first copies longer torn.beginning more;
      before = torn.before;
      recovered = torn.recovered;
    }

-- while one body more is committed
holds_more : (bodies : List (List ℕ)) (body : List ℕ) (earlier read batch : List Record) (bytes : List ℕ) →
    IsRecovered bodies (earlier ++ read)
    → IsRecovered (bodies ++ body ∷ []) (earlier ++ (read ++ batch)) → IsBeforeOrAfter bodies body bytes
    → HoldsBeginning earlier (read ++ batch) bytes
holds_more bodies body earlier read batch bytes old new either = elim either [
  | inl before ↦ record {
    bodies = bodies;
    first = read;
    beginning = begins_with read batch;
    recovered = old;
    holds = inr (record { body = body; first = read ++ batch; beginning = begins_all (read ++ batch); before = before; recovered = new });
  }
  | inr after ↦ record {
    bodies = bodies ++ body ∷ [];
    first = read ++ batch;
    beginning = begins_all (read ++ batch);
    recovered = new;
    holds = inl after;
  }
]

module _ {D : Type 0} (device : Device D) where
  -- of a log that keeps them, before anything is done
  pub at_rest : (log : LogValue D) (earlier first copies : List Record) → IsBeginning first copies →
      KeepsRecords device log (earlier ++ first)
      → LeavesOnly (device.state log.disk) (device.state log.disk) (HoldsBeginning earlier copies)
  at_rest log earlier first copies beginning k =
      let state = device.state log.disk in
      let settled = k.keeps.settled in
      let now : HoldsBeginning earlier copies state.content = record {
        bodies = k.bodies;
        first = first;
        beginning = beginning;
        recovered = k.recovered;
        holds = inl (closed_settled state k.bodies settled);
      } in
      started state (HoldsBeginning earlier copies) (subst (Leaves (HoldsBeginning earlier copies)) (sym settled.synced)
      (λ bytes crash. subst (HoldsBeginning earlier copies) (sym (crash_synced state.content bytes crash)) now))

  -- and while one body more is committed
  pub more_moments : (log log' : LogValue D) (body : List ℕ) (earlier read batch : List Record) (number : ℕ) →
      next_guest earlier ≤ number → AreCopies log.marked number 0 (read ++ batch) → body ≡ body_text batch → 1 ≤ length batch
      → KeepsRecords device log (earlier ++ read)
      → ((bodies : List (List ℕ)) → device.honest log.disk → Keeps device.state log bodies
      → LeavesOnly (device.state log.disk) (device.state log'.disk) (IsBeforeOrAfter bodies body))
      → LeavesOnly (device.state log.disk) (device.state log'.disk) (HoldsBeginning earlier (read ++ batch))
  more_moments log log' body earlier read batch number below are spelled some k moments =
      leaves_weaker (device.state log.disk) (device.state log'.disk) (IsBeforeOrAfter k.bodies body)
      (HoldsBeginning earlier (read ++ batch))
      (λ bytes either. holds_more k.bodies body earlier read batch bytes k.recovered
      (recovers_more log.marked k.bodies body earlier read batch number below are spelled some k.marked k.recovered) either)
      (moments k.bodies k.is_honest k.keeps)

  -- one after the other
  pub moments_both : (a b c : LogValue D) (earlier read copies : List Record) → IsBeginning read copies →
      LeavesOnly (device.state a.disk) (device.state b.disk) (HoldsBeginning earlier read)
      → LeavesOnly (device.state b.disk) (device.state c.disk) (HoldsBeginning earlier copies)
      → LeavesOnly (device.state a.disk) (device.state c.disk) (HoldsBeginning earlier copies)
  moments_both a b c earlier read copies beginning one two =
      leaves_both (device.state a.disk) (device.state b.disk) (device.state c.disk) (HoldsBeginning earlier copies)
      (leaves_weaker (device.state a.disk) (device.state b.disk) (HoldsBeginning earlier read) (HoldsBeginning earlier copies)
      (λ bytes h. holds_longer earlier read copies bytes beginning h) one) two

  -- ---- what is kept

  -- one body more is committed
  pub keeps_more : (log log' : LogValue D) (body : List ℕ) (earlier read batch : List Record) (number : ℕ) →
      next_guest earlier ≤ number → AreCopies log.marked number 0 (read ++ batch) → body ≡ body_text batch → 1 ≤ length batch
      → number + 1 ≤ log.next_guest → HasCommitted device log log' body → (device.honest log'.disk ↔ device.honest log.disk)
      → KeepsRecords device log (earlier ++ read) → KeepsRecords device log' (earlier ++ (read ++ batch))
  keeps_more log log' body earlier read batch number below are spelled some room committed honest k =
      let next : log'.next_guest ≡ log.next_guest = ap (λ (l : LogValue D). l.next_guest) committed.log in
      let low = copies_low earlier (read ++ batch) number below are in
      record {
        bodies = k.bodies ++ body ∷ [];
        is_honest = honest.1 k.is_honest;
        keeps = committed.kept k.bodies k.is_honest k.keeps;
        marked = λ told. Contains-append_left k.bodies (body ∷ []) mark
            (k.marked (sym (ap (λ (l : LogValue D). l.marked) committed.log) ∙ told));
        recovered = recovers_more log.marked k.bodies body earlier read batch number below are spelled some k.marked k.recovered;
        above = omega (arith, low, room, next);
      }

  -- and another number is given out
  pub keeps_raised : (log log' : LogValue D) (records : List Record) (n : ℕ) → log' ≡ record log { next_guest = n } →
      log.next_guest ≤ n → KeepsRecords device log records → KeepsRecords device log' records
  keeps_raised log log' records n is more k =
      subst (λ (l : LogValue D). KeepsRecords device l records) (sym is) (record {
        bodies = k.bodies;
        is_honest = k.is_honest;
        keeps = record { settled = k.keeps.settled; gate = k.keeps.gate; segments = k.keeps.segments };
        marked = k.marked;
        recovered = k.recovered;
        above = (let e = k.above in omega arith);
      })
