-- Calls that ask the outside, and calls that don't.
use Rattle.std.proofs.Common.{◌≡◌, ◌≢◌, ℕ, ◌+◌, ◌-◌, ◌<◌, ◌≤◌, ◌^◌, true, false, List, [], ◌∷◌, length, All, Result, Ok, Err, IfOk, OnErr, is_some, refl, sym, ◌∙◌, ap, subst, arith}
use Rattle.std.proofs.lemmas.Bool.Decides.{nat_tests}
use Rattle.rrv_model.specs.declared.machine.Thread.{Thread}
use Rattle.rrv_model.specs.declared.record.CallRecord.{CallRecord}
use Rattle.rrv_model.specs.declared.refusal.Memory.{Memory as Refusal}
use Rattle.rrv_model.specs.Memory.{Memory, stored, writable}
use Rattle.rrv_model.specs.State.{State}
use Rattle.rrv_model.specs.CallRows.{Row, Returns, NoResult, AsksInput, AsksRandom, AsksTime, fails, only_returns, range, with_memory}
use Rattle.rrv_model.specs.Calls.{Answer, Silence, Bytes, Time, HasRecord, after_call, results, write_all, writes}
use Rattle.rrv_model.specs.RecordText.{HasCallText}
use Rattle.rrv_model.specs.Output.{Chunk}
use Rattle.guest_pages.specs.Space.{SpaceValue, CanFill, memory_of, snapshots_of}
use Rattle.guest_pages.proofs.Cells.{all_pass, one_of_all}
use Rattle.guest_pages.proofs.Stores.{stored_none}
use Rattle.guest_calls.specs.Guest.{GuestValue, chunks_of, state_of}
use Rattle.guest_calls.specs.declared.request.Request.{Request}
use Rattle.guest_calls.specs.declared.request.Wanted.{Wanted}
use Rattle.guest_calls.specs.declared.request.Wanted.TheVariants as wants
use Rattle.guest_calls.specs.Asking.{Asks, Clock, IsAnswered, Question}
use Rattle.guest_calls.specs.Carries.{ComesTo, KeepsRest, Makes}
use Rattle.guest_calls.specs.Requests.{IsClockOf, Takes, asking_row, request_row}

-- ---- what a call comes to

pub kept : (old new : GuestValue) → new ≡ old → KeepsRest old new
kept old new e = record {
  ran = ap (λ (g : GuestValue). g.ran) e;
  ran_before_call = ap (λ (g : GuestValue). g.ran_before_call) e;
  snapshots = ap (λ (g : GuestValue). snapshots_of g.space) e;
}

pub kept_then : (old mid new : GuestValue) → KeepsRest old mid → KeepsRest mid new → KeepsRest old new
kept_then old mid new p q = record {
  ran = q.ran ∙ p.ran;
  ran_before_call = q.ran_before_call ∙ p.ran_before_call;
  snapshots = q.snapshots ∙ p.snapshots;
}

-- a row that answers in silence asks nobody
quietly_answered : {O : Type 0} (gives : O → Question → Answer → O → Type 0) (row : Row) (t : Thread) (r : CallRecord) (o : O) →
    HasRecord row Silence r → IsAnswered gives row t r o o
quietly_answered gives (Returns result written change) t r o p = record { answer = Silence; given = refl; records = p }
quietly_answered gives (NoResult written change) t r o p = record { answer = Silence; given = refl; records = p }
quietly_answered gives (AsksInput a count) t r o p = absurd p
quietly_answered gives (AsksRandom a count) t r o p = absurd p
quietly_answered gives (AsksTime a) t r o p = absurd p

-- a row that wants something asks
asks : (w : Wanted) (a count : ℕ) → Asks (asking_row w a count)
asks wants.Input a count = tt
asks wants.Random a count = tt
asks (wants.Moment clock) a count = tt

after_asking : (w : Wanted) (a count tid : ℕ) (r : CallRecord) (s : State) →
    results tid r.result (writes r.written s) ≡ after_call (asking_row w a count) tid r s
after_asking wants.Input a count tid r s = refl
after_asking wants.Random a count tid r s = refl
after_asking (wants.Moment clock) a count tid r s = refl

module _ {O : Type 0} {gives : O → Question → Answer → O → Type 0} {row : Row} {puts : ℕ → List Chunk} {MayTakeMemory : Type 0}
    {tid : ℕ} {t : Thread} {old new : GuestValue} {before : O} where
  -- a call that asks nobody
  pub quiet : (result : Result CallRecord Refusal) → IfOk result (λ r. Makes row (puts r.result) tid old r new) →
      OnErr result MayTakeMemory → OnErr result (new ≡ old) → ComesTo gives row puts MayTakeMemory tid t old result new before before
  quiet (Ok r) made memory refused = record {
    answered = quietly_answered gives row t r before made.carries.records;
    leaves = made.carries.leaves;
    text = made.text;
    puts_out = made.puts;
    keeps = made.keeps;
    memory = tt;
    refused = tt;
  }
  quiet (Err e) made memory refused =
      record {
        answered = tt;
        leaves = tt;
        text = tt;
        puts_out = tt;
        keeps = kept old new refused;
        memory = memory;
        refused = (refused, refl);
      }

  -- a call whose row comes to what another does, and may take memory where that one does
  pub alike : {after : O} {row' : Row} {puts' : ℕ → List Chunk} {MayTakeMemory' : Type 0} (result : Result CallRecord Refusal) →
      row ≡ row' →
      ((value : ℕ) → puts value ≡ puts' value) → (MayTakeMemory' → MayTakeMemory) →
      ComesTo gives row' puts' MayTakeMemory' tid t old result new before after →
      ComesTo gives row puts MayTakeMemory tid t old result new before after
  alike {after} (Ok r) row_is puts_are takes p = record {
    answered = subst (λ (row : Row). IsAnswered gives row t r before after) (sym row_is) p.answered;
    leaves = subst (λ (row : Row). state_of new ≡ after_call row tid r (state_of old)) (sym row_is) p.leaves;
    text = p.text;
    puts_out = p.puts_out ∙ sym (puts_are r.result);
    keeps = p.keeps;
    memory = tt;
    refused = tt;
  }
  alike (Err e) row_is puts_are takes p =
      record { answered = tt; leaves = tt; text = tt; puts_out = tt; keeps = p.keeps; memory = takes p.memory; refused = p.refused }

module _ {O : Type 0} {gives : O → Question → Answer → O → Type 0} {row : Row} {tid : ℕ} {t : Thread} {old new : GuestValue}
    {before : O} where
  -- a test before the question answers a value
  pub answers_value : {r : CallRecord} (value : ℕ) → row ≡ only_returns value → Makes (only_returns value) [] tid old r new →
      ComesTo gives row (λ _. []) (Asks row) tid t old (Ok r) new before before
  answers_value {r} value row_is made = quiet (Ok r) (subst (λ (row : Row). Makes row [] tid old r new) (sym row_is) made) tt tt

  -- a test before the question fails
  pub fails_with : {r : CallRecord} {value : ℕ} (errno : ℕ) → value + errno ≡ 2 ^ 32 → row ≡ fails errno →
      Makes (only_returns value) [] tid old r new →
      ComesTo gives row (λ _. []) (Asks row) tid t old (Ok r) new before before
  fails_with {r} {value} errno value_is row_is made =
      let negated : 2 ^ 32 - errno ≡ value = omega (arith, value_is) in
      answers_value value (row_is ∙ ap only_returns negated) made

  -- there is no room for the answer
  pub finds_no_room : {e : Refusal} (w : Wanted) (a count : ℕ) → row ≡ asking_row w a count → new ≡ old →
      ComesTo gives row (λ _. []) (Asks row) tid t old (Err e) new before before
  finds_no_room {e} w a count row_is same = quiet (Err e) tt (subst Asks (sym row_is) (asks w a count)) same

  -- the question was answered
  pub was_answered : {r : CallRecord} {after : O} (w : Wanted) (a count : ℕ) → row ≡ asking_row w a count →
      IsAnswered gives (asking_row w a count) t r before after →
      state_of new ≡ results tid r.result (writes r.written (state_of old)) → HasCallText r → chunks_of new.put ≡ [] →
      KeepsRest old new → ComesTo gives row (λ _. []) (Asks row) tid t old (Ok r) new before after
  was_answered {r} {after} w a count row_is answered leaves text put keeps = record {
    answered = subst (λ (row : Row). IsAnswered gives row t r before after) (sym row_is) answered;
    leaves = subst (λ (row : Row). state_of new ≡ after_call row tid r (state_of old)) (sym row_is)
        (leaves ∙ after_asking w a count tid r (state_of old));
    text = text;
    puts_out = put;
    keeps = keeps;
    memory = tt;
    refused = tt;
  }

-- ---- what an answer leaves

-- room for some bytes is room for fewer
pub fill_within : (s : SpaceValue) (a count less : ℕ) → CanFill s a count → less ≤ count → CanFill s a less
fill_within s a count less ready within = (
  all_pass is_some (memory_of s) a less (λ k below. one_of_all is_some (memory_of s) a count k ready.0 (omega arith)),
  λ k below. ready.1 k (omega (arith, below, within)),
)

pub at_room : (tid value a : ℕ) (bytes : List ℕ) (old mid new : State) → mid ≡ old →
    new ≡ results tid value (with_memory (stored a bytes mid.memory) mid) →
    new ≡ results tid value (with_memory (stored a bytes old.memory) old)
at_room tid value a bytes old mid new e n = n ∙ ap (λ (s : State). results tid value (with_memory (stored a bytes s.memory) s)) e

pub range_none : (a : ℕ) (bytes : List ℕ) → length bytes ≡ 0 → [] ≡ range a bytes
range_none a [] e = refl
range_none a (b ∷ bytes) e = absurd (omega arith)

pub range_some : (a : ℕ) (bytes : List ℕ) → 0 < length bytes → record { address = a; bytes = bytes } ∷ [] ≡ range a bytes
range_some a [] some = absurd (omega arith)
range_some a (b ∷ bytes) some = refl

written_range : (a : ℕ) (bytes : List ℕ) (m : Memory) → write_all (range a bytes) m ≡ stored a bytes m
unfolding write_all
written_range a [] m = sym (stored_none a m)
written_range a (b ∷ bytes) m = refl

pub leaves_range : (tid value a : ℕ) (bytes : List ℕ) (old new : State) (r : CallRecord) →
    r ≡ record { result = value; written = range a bytes } →
    new ≡ results tid value (with_memory (stored a bytes old.memory) old) → new ≡ results tid r.result (writes r.written old)
leaves_range tid value a bytes old new r is n =
    n ∙ ap (λ (m : Memory). results tid value (with_memory m old)) (sym (written_range a bytes old.memory))
    ∙ ap (λ (r : CallRecord). results tid r.result (writes r.written old)) (sym is)

pub text_range : (value a : ℕ) (bytes : List ℕ) (r : CallRecord) → value < 2 ^ 32 → a < 2 ^ 32 → length bytes ≤ 65_536 →
    All (λ b. b < 256) bytes →
    r ≡ record { result = value; written = range a bytes } → HasCallText r
text_range value a bytes r low at most small is = subst HasCallText (sym is) (listed bytes most small) where
  listed : (bytes : List ℕ) → length bytes ≤ 65_536 → All (λ b. b < 256) bytes →
      HasCallText (record { result = value; written = range a bytes })
  listed [] most small = record { result = low; two = omega arith; written = tt }
  listed (b ∷ bytes) most small =
      record { result = low; two = omega arith; written = (record { address = at; some = omega arith; most = most; bytes = small }, tt) }

-- the record of an answer, by what was wanted
module _ {O : Type 0} (gives : O → Question → Answer → O → Type 0) (t : Thread) (a count value : ℕ) (bytes : List ℕ) (r : CallRecord)
    (before after : O) where
  pub answered_as : (w : Wanted) → IsClockOf t w → r ≡ record { result = value; written = range a bytes } → All (λ b. b < 256) bytes →
      Takes gives w count value bytes before after → IsAnswered gives (asking_row w a count) t r before after
  answered_as wants.Input clock is small taken =
      let made : ℕ → CallRecord = λ n. record { result = n; written = range a bytes } in
      record { answer = Bytes bytes; given = taken.2; records = (taken.1, small, is ∙ ap made taken.0) }
  answered_as wants.Random clock is small taken =
      let made : ℕ → CallRecord = λ n. record { result = n; written = range a bytes } in
      record { answer = Bytes bytes; given = taken.2; records = (taken.1, small, is ∙ ap made taken.0) }
  answered_as (wants.Moment clock) named is small taken =
      let made : ℕ → List ℕ → CallRecord = λ n bytes. record { result = n; written = range a bytes } in
      let told = taken.2 in
      record {
        answer = Time told.seconds told.nanoseconds;
        given = subst (λ (id : ℕ). gives before (Clock id) (Time told.seconds told.nanoseconds) after) named told.given;
        records = (told.seconds_low, told.nanoseconds_low, is ∙ ap (λ n. made n bytes) taken.0 ∙ ap (made 0) told.are);
      }

-- no more bytes come than there is room for
pub taken_within : {O : Type 0} (gives : O → Question → Answer → O → Type 0) (w : Wanted) (room value : ℕ) (bytes : List ℕ)
    (before after : O) →
    Takes gives w room value bytes before after → length bytes ≤ room
taken_within gives wants.Input room value bytes before after taken = taken.1
taken_within gives wants.Random room value bytes before after taken = let all : length bytes ≡ room = taken.1 in omega arith
taken_within gives (wants.Moment clock) room value bytes before after taken = let all : length bytes ≡ room = taken.1 in omega arith

-- ---- which row it is

module _ (s : State) (q : Request) where
  pub nothing_wanted : q.count ≡ 0 → request_row s q ≡ only_returns 0
  nothing_wanted none = grind (arith, nat_tests)

  pub unwritable : q.count ≢ 0 → writable s.memory q.address q.count ≡ false → request_row s q ≡ fails 14
  unwritable some locked = grind (arith, nat_tests)

  pub is_asked : q.count ≢ 0 → writable s.memory q.address q.count ≡ true → request_row s q ≡ asking_row q.wanted q.address q.count
  is_asked some free = grind (arith, nat_tests)
