-- How a copy gets on, and how it ends.
use Rattle.std.proofs.Common.{◌≡◌, ℕ, ◌+◌, ◌≤◌, max, Bool, List, [], ◌++◌, length, take, drop, Result, Ok, Err, true, false, refl, sym, ◌∙◌, ap, subst, arith, length-append, take-add}
use Rattle.std.specs.Prelude.{◌↔◌}
use Rattle.std.proofs.lemmas.List.{append-nil, length-map, take-append-drop, take_all}
use Rattle.store_model.specs.declared.limits.TheConstants.{MAX_BODY}
use Rattle.store_model.specs.CrashModel.{LeavesOnly}
use Rattle.rrv_model.specs.declared.record.Record.{Record}
use Rattle.rrv_model.specs.Recovered.{next_guest, of_guest}
use Rattle.recover.specs.declared.spot.Spot.{Spot}
use Rattle.recover.specs.Spots.{records_of, StandOn}
use Rattle.trace_disk.specs.Devices.{Device, IsOnlyRead}
use Rattle.trace_log.specs.Committed.{HasCommitted}
use Rattle.trace_log.specs.Kept.{LogValue}
use Rattle.copying.specs.declared.fault.CopyFault.{CopyFault}
use Rattle.copying.specs.declared.fault.CopyFault.TheVariants as faults
use Rattle.copying.specs.Copied.{copies_of, numbered, AreCopies, CommitsBody, Copies, HasCopied, HoldsBeginning, IsBeginning, IsFull, KeepsRecords, RefusesBody}
use Rattle.copying.specs.Reading.{IsNextBody}
use Rattle.copying.proofs.Bodies.{still_on}
use Rattle.copying.proofs.Kept.{at_rest, begins_all, begins_longer, begins_none, begins_with, holds_longer, keeps_more, keeps_raised, moments_both, more_moments}
use Rattle.store_model.proofs.CrashLaws.{leaves_weaker}
use Rattle.copying.proofs.Numbered.{copies_append, copies_none}

-- The log keeps earlier records and, after them, what was read. A crash since then left the earlier ones and a beginning of that.
pub record Grows {D : Type 0} (device : Device D) (log log' : LogValue D) (earlier read : List Record) : Type 0 where
  pub keeps : KeepsRecords device log' (earlier ++ read)
  pub any_moment : LeavesOnly (device.state log.disk) (device.state log'.disk) (HoldsBeginning earlier read)

-- so many records were read and committed
pub record HasCopiedUpTo {S D : Type 0} (source_device : Device S) (device : Device D) (spots : List Spot) (guest number : ℕ)
    (source : S) (log log' : LogValue D) (next : ℕ) : Type 0 where
  pub read : List Record
  pub are : AreCopies log.marked number 0 read
  pub marked : log'.marked ≡ log.marked
  pub many : length read ≡ next
  pub first : StandOn source_device.honest source_device.state source spots → read ≡ take next (copies_of number guest spots)
  pub grows : (earlier : List Record) → next_guest earlier ≤ number → KeepsRecords device log earlier
      → Grows device log log' earlier read

-- what wasn't committed leaves the log as it was, unless it is broken
kept_unless_broken : {D : Type 0} (log log' : LogValue D) (body : List ℕ) (e : CopyFault) → RefusesBody log log' body e →
    log'.is_broken ≡ false → log' ≡ log
kept_unless_broken {D = D} log log' body (faults.Unread index fault) refused whole = absurd refused
kept_unless_broken {D = D} log log' body faults.DeviceFailed refused whole =
    let broken : log'.is_broken ≡ true = ap (λ (l : LogValue D). l.is_broken) refused in
    let no : true ≡ false = sym broken ∙ whole in
    absurd (true_is_not_false no)
  where
    true_is_not_false : true ≡ false → ⊥
    true_is_not_false e = cc
kept_unless_broken {D = D} log log' body faults.StoreFull refused whole = refused.0
kept_unless_broken {D = D} log log' body faults.NeedsMark refused whole = absurd refused
kept_unless_broken {D = D} log log' body faults.TooManyGuests refused whole = absurd refused
kept_unless_broken {D = D} log log' body faults.Memory refused whole = refused.0

-- the first ones of a list
takes_first : (n : ℕ) (all : List Record) → IsBeginning (take n all) all
takes_first n all = record { rest = drop n all; all_is = sym (take-append-drop n all) }

begins : (n : ℕ) (read all : List Record) → read ≡ take n all → IsBeginning read all
begins n read all is = subst (λ (l : List Record). IsBeginning l all) (sym is) (takes_first n all)

-- ---- what was read so far

module _ {S D : Type 0} (source_device : Device S) (device : Device D) (spots : List Spot) (guest number : ℕ) (source : S)
    (log : LogValue D) where
  -- nothing yet
  pub copied_none : HasCopiedUpTo source_device device spots guest number source log log 0
  copied_none = record {
    read = [];
    are = copies_none log.marked number 0;
    marked = refl;
    many = refl;
    first = λ on. refl;
    grows = λ earlier below k. let all : KeepsRecords device log (earlier ++ []) =
        subst (λ (l : List Record). KeepsRecords device log l) (sym (append-nil earlier)) k in record {
          keeps = all;
          any_moment = at_rest device log earlier [] [] (begins_all []) all;
        };
  }

  -- those that were read, and one body of them more
  module _ (mid log' : LogValue D) (now : S) (body : List ℕ) (next count : ℕ)
      (h : HasCopiedUpTo source_device device spots guest number source log mid next) (only : IsOnlyRead source_device source now)
      (b : IsNextBody source_device now spots guest next number log.marked body count) where
    more_are : AreCopies log.marked number 0 (h.read ++ b.batch)
    more_are = copies_append number 0 next h.read b.batch h.are (let e = h.many in omega arith) b.are

    -- for the log that they are committed to, too
    more_are_here : AreCopies mid.marked number 0 (h.read ++ b.batch)
    more_are_here = subst (λ (m : Bool). AreCopies m number 0 (h.read ++ b.batch)) (sym h.marked) more_are

    more_many : length (h.read ++ b.batch) ≡ next + count
    more_many = let p = h.many in let q = b.count_is in omega (arith, length-append h.read b.batch)

    more_first : StandOn source_device.honest source_device.state source spots →
        h.read ++ b.batch ≡ take (next + count) (copies_of number guest spots)
    more_first on =
        ap (λ (l : List Record). l ++ b.batch) (h.first on)
        ∙ ap (λ (l : List Record). take next (copies_of number guest spots) ++ l) (b.read (still_on source_device source now spots only on))
        ∙ sym (take-add next count (copies_of number guest spots))

    some_more : 1 ≤ length b.batch
    some_more = let p = b.some in let q = b.count_is in omega arith

    -- a crash meanwhile, however it ended
    more_moments_of : (T : Type 0) (result : Result T CopyFault) → CommitsBody device result mid log' body →
        (earlier : List Record) → next_guest earlier ≤ number → KeepsRecords device log earlier
        → LeavesOnly (device.state log.disk) (device.state log'.disk) (HoldsBeginning earlier (h.read ++ b.batch))
    more_moments_of T result commits earlier below k =
        let g = h.grows earlier below k in
        moments_both device log mid log' earlier h.read (h.read ++ b.batch) (begins_with h.read b.batch) g.any_moment
        (more_moments device mid log' body earlier h.read b.batch number below more_are_here b.body_is some_more g.keeps commits.any_moment)

    -- it is committed
    pub copied_more : (T : Type 0) (x : T) → CommitsBody device (Ok x) mid log' body → (device.honest log'.disk ↔ device.honest mid.disk)
        → number + 1 ≤ mid.next_guest
        → HasCopiedUpTo source_device device spots guest number source log log' (next + count)
    copied_more T x commits honest room = record {
      read = h.read ++ b.batch;
      are = more_are;
      marked = ap (λ (l : LogValue D). l.marked) commits.committed.log ∙ h.marked;
      many = more_many;
      first = more_first;
      grows = λ earlier below k. let g = h.grows earlier below k in record {
        keeps = keeps_more device mid log' body earlier h.read b.batch number below more_are_here b.body_is some_more room commits.committed
            honest g.keeps;
        any_moment = more_moments_of T (Ok x) commits earlier below k;
      };
    }

    -- it is not
    pub refused_more : (T U : Type 0) (e : CopyFault) → CommitsBody {T = T} device (Err e) mid log' body →
        HasCopied {T = U} source_device device (Err e) spots guest number source log log'
    refused_more T U e commits = record {
      read = h.read ++ b.batch;
      are = more_are;
      first = λ on. begins (next + count) (h.read ++ b.batch) (copies_of number guest spots) (more_first on);
      all = λ on. tt;
      copies = λ earlier below k. record {
        all = tt;
        beginning = λ whole. record {
          first = h.read;
          beginning = begins_with h.read b.batch;
          keeps = subst (λ (l : LogValue D). KeepsRecords device l (earlier ++ h.read))
              (sym (kept_unless_broken mid log' body e commits.refused whole)) (h.grows earlier below k).keeps;
        };
        any_moment = more_moments_of T (Err e) commits earlier below k;
      };
    }

  -- ---- how it ends

  module _ (log' : LogValue D) (next : ℕ) (h : HasCopiedUpTo source_device device spots guest number source log log' next) where
    -- a body could not be read
    pub stopped : (U : Type 0) (e : CopyFault) → HasCopied {T = U} source_device device (Err e) spots guest number source log log'
    stopped U e = record {
      read = h.read;
      are = h.are;
      first = λ on. begins next h.read (copies_of number guest spots) (h.first on);
      all = λ on. tt;
      copies = λ earlier below k. let g = h.grows earlier below k in record {
        all = tt;
        beginning = λ whole. record { first = h.read; beginning = begins_all h.read; keeps = g.keeps };
        any_moment = g.any_moment;
      };
    }

    -- all records were
    pub finished : (U : Type 0) (x : U) → length (of_guest guest (records_of spots)) ≤ next →
        HasCopied {T = U} source_device device (Ok x) spots guest number source log log'
    finished U x enough = record {
      read = h.read;
      are = h.are;
      first = λ on. begins next h.read (copies_of number guest spots) (h.first on);
      all = λ on. h.first on ∙ take_all next (copies_of number guest spots)
          (let e = length-map (of_guest guest (records_of spots)) (numbered number) in omega arith);
      copies = λ earlier below k. let g = h.grows earlier below k in record {
        all = g.keeps;
        beginning = tt;
        any_moment = g.any_moment;
      };
    }

-- ---- what it leaves

module _ {D : Type 0} (device : Device D) (log log' : LogValue D) (earlier copies : List Record) where
  -- a beginning of the copies is there, whatever the error is called
  pub copies_longer : {T U E F : Type 0} (e : E) (f : F) (read : List Record) → IsBeginning read copies →
      Copies {T = T} device (Err e) log log' earlier read → Copies {T = U} device (Err f) log log' earlier copies
  copies_longer e f read beginning c = record {
    all = tt;
    beginning = λ whole. let k = c.beginning whole in record {
      first = k.first;
      beginning = begins_longer k.first read copies k.beginning beginning;
      keeps = k.keeps;
    };
    any_moment =
        leaves_weaker (device.state log.disk) (device.state log'.disk) (HoldsBeginning earlier read) (HoldsBeginning earlier copies)
        (λ bytes h. holds_longer earlier read copies bytes beginning h) c.any_moment;
  }

  -- all of them are
  pub copies_done : {T U E F : Type 0} (x : T) (y : U) → Copies {E = E} device (Ok x) log log' earlier copies →
      Copies {E = F} device (Ok y) log log' earlier copies
  copies_done x y c = record { all = c.all; beginning = tt; any_moment = c.any_moment }

  -- all of them are, and something failed after that
  pub copies_failed : {T U E F : Type 0} (x : T) (f : F) → Copies {E = E} device (Ok x) log log' earlier copies →
      Copies {T = U} device (Err f) log log' earlier copies
  copies_failed x f c = record {
    all = tt;
    beginning = λ whole. record { first = copies; beginning = begins_all copies; keeps = c.all };
    any_moment = c.any_moment;
  }

-- nothing was done
pub copies_nothing : {D T E : Type 0} (device : Device D) (e : E) (log : LogValue D) (earlier copies : List Record) →
    KeepsRecords device log earlier → Copies {T = T} device (Err e) log log earlier copies
copies_nothing device e log earlier copies k =
    let all : KeepsRecords device log (earlier ++ []) =
    subst (λ (l : List Record). KeepsRecords device log l) (sym (append-nil earlier)) k in
    record {
      all = tt;
      beginning = λ whole. record { first = []; beginning = begins_none copies; keeps = all };
      any_moment = at_rest device log earlier [] copies (begins_none copies) all;
    }

-- ---- from the log as it was before it gave out a number

-- of a log that only gave out another number
copies_raised : {D T E : Type 0} (device : Device D) (result : Result T E) (log raised log' : LogValue D) (n : ℕ)
    (earlier copies : List Record)
    → raised ≡ record log { next_guest = n } → Copies device result raised log' earlier copies →
    Copies device result log log' earlier copies
copies_raised {D = D} device result log raised log' n earlier copies is c =
    let there = subst (λ (l : LogValue D). Copies device result l log' earlier copies) is c in
    record { all = there.all; beginning = there.beginning; any_moment = there.any_moment }

module _ {S D : Type 0} (source_device : Device S) (device : Device D) (spots : List Spot) (guest : ℕ) (source : S)
    (log raised log' : LogValue D) (n : ℕ) (is : raised ≡ record log { next_guest = n }) (more : log.next_guest ≤ n) where
  -- what was read is copied, as far as that goes
  pub copied_as_read : {T : Type 0} (result : Result T CopyFault)
      (h : HasCopied source_device device result spots guest log.next_guest source raised log') (earlier : List Record) →
      KeepsRecords device log earlier → Copies device result log log' earlier h.read
  copied_as_read result h earlier k =
      copies_raised device result log raised log' n earlier h.read is
      (h.copies earlier k.above (keeps_raised device log raised earlier n is more k))

  pub copied_safely : {T U : Type 0} (e f : CopyFault)
      (h : HasCopied {T = T} source_device device (Err e) spots guest log.next_guest source raised log') (earlier : List Record) →
      KeepsRecords device log earlier → Copies {T = U} device (Err f) log log' earlier h.read
  copied_safely e f h earlier k =
      copies_longer device log log' earlier h.read e f h.read (begins_all h.read) (copied_as_read (Err e) h earlier k)

  pub copied_in_part : {T U : Type 0} (e f : CopyFault)
      → HasCopied {T = T} source_device device (Err e) spots guest log.next_guest source raised log' →
      StandOn source_device.honest source_device.state source spots → (earlier : List Record) → KeepsRecords device log earlier
      → Copies {T = U} device (Err f) log log' earlier (copies_of log.next_guest guest spots)
  copied_in_part e f h on earlier k =
      copies_longer device log log' earlier (copies_of log.next_guest guest spots) e f h.read (h.first on)
      (copied_as_read (Err e) h earlier k)

  pub copied_whole : {T U : Type 0} (x : T) (y : U) → HasCopied source_device device (Ok x) spots guest log.next_guest source raised log' →
      StandOn source_device.honest source_device.state source spots → (earlier : List Record) → KeepsRecords device log earlier
      → Copies {E = CopyFault} device (Ok y) log log' earlier (copies_of log.next_guest guest spots)
  copied_whole x y h on earlier k =
      copies_done device log log' earlier (copies_of log.next_guest guest spots) x y
      (subst (λ (l : List Record). Copies device (Ok x) log log' earlier l) (h.all on) (copied_as_read (Ok x) h earlier k))

-- ---- the log after a body

pub whole_after : {D : Type 0} (device : Device D) (log log' : LogValue D) (body : List ℕ) → HasCommitted device log log' body →
    log'.is_broken ≡ false
whole_after {D = D} device log log' body committed = ap (λ (l : LogValue D). l.is_broken) committed.log

pub room_after : {D : Type 0} (device : Device D) (log log' : LogValue D) (body : List ℕ) (n : ℕ) → HasCommitted device log log' body →
    n ≤ log.next_guest → n ≤ log'.next_guest
room_after {D = D} device log log' body n committed room =
    let same : log'.next_guest ≡ log.next_guest = ap (λ (l : LogValue D). l.next_guest) committed.log in omega arith

-- a log that gave out its next number, and was committed to
pub next_after : {D : Type 0} (log raised log' : LogValue D) (number : ℕ)
    → raised ≡ record log { next_guest = max log.next_guest (number + 1) } → number ≡ log.next_guest
    → log'.next_guest ≡ raised.next_guest → log'.next_guest ≡ log.next_guest + 1
next_after {D = D} log raised log' number is same kept =
    let raised_is : raised.next_guest ≡ max log.next_guest (number + 1) = ap (λ (l : LogValue D). l.next_guest) is in omega arith

-- a full store has no room for some body
pub full_of : {D T : Type 0} (device : Device D) (log log' : LogValue D) (body : List ℕ) (e : CopyFault) → 1 ≤ length body →
    length body ≤ MAX_BODY → CommitsBody {T = T} device (Err e) log log' body → e ≡ faults.StoreFull → IsFull log'
full_of {D = D} device log log' body e some fits commits is =
    let past = subst (λ (f : CopyFault). RefusesBody log log' body f) is commits.refused in
    subst (λ (l : LogValue D). IsFull l) (sym past.0) (body, some, fits, past.1)
