-- A recorded call that is made again from its state is answered as it was, so its record is determined by the state.
use Rattle.std.proofs.Common.{◌≡◌, ℕ, ◌^◌, ◌<◌, ◌≤◌, min, not, ◌||◌, ◌==◌, nat_le, if◌then◌else◌, List, [], ◌∷◌, ◌++◌, length, take, drop, Option, Some, None, refl, sym, ◌∙◌, ap, subst, arith}
use Rattle.std.proofs.lemmas.Bool.Decides.{nat_tests}
use Rattle.std.proofs.lemmas.List.{append-nil, take-append-le}
use Rattle.std.proofs.lemmas.Nat.{from_le_bytes-to_le_bytes_8}
use Rattle.std.proofs.Math.Seq.{take-length, drop-length}
use Rattle.std.specs.Int.{w64, to_le_bytes, from_le_bytes}
use Rattle.rrv_model.specs.declared.machine.Thread.{Thread}
use Rattle.rrv_model.specs.declared.record.CallRecord.{CallRecord}
use Rattle.rrv_model.specs.State.{State, thread_at}
use Rattle.rrv_model.specs.CallRows.{Row, Returns, NoResult, AsksInput, AsksRandom, AsksTime, argument, range}
use Rattle.rrv_model.specs.Calls.{Answer, Silence, Bytes, Time, Calls, HasRecord, call_row}
use Rattle.guest_calls.specs.Asking.{Question, Input, Random, Clock, IsAnswered, CallIsAnswered}
use Rattle.serial_sched.specs.declared.recorded.Recorded.{Recorded}
use Rattle.serial_sched.specs.Answered.{answered, moment_in, IsMoment, Recalls}

-- what the outside of a recorded call gives
abbrev pub recalled : Recorded → Question → Answer → Recorded → Type 0
recalled before question answer after = Recalls before.bytes.now question answer

-- ---- what a record tells of the answer

answered_range : (a : ℕ) (bytes : List ℕ) → answered (range a bytes) ≡ bytes
answered_range a [] = refl
answered_range a (b ∷ bytes) = refl

answered_in : (r : CallRecord) (result a : ℕ) (bytes : List ℕ) → r ≡ record { result = result; written = range a bytes } →
    answered r.written ≡ bytes
answered_in r result a bytes is = ap (λ (r : CallRecord). answered r.written) is ∙ answered_range a bytes

-- ---- a call that is made again

abbrev ranged : ℕ → List ℕ → ℕ → CallRecord
ranged a bytes result = record { result = result; written = range a bytes }

module _ {O : Type 0} (gives : O → Question → Answer → O → Type 0) (t : Thread) (told found : CallRecord) (before after : O)
    (recalls : (question : Question) (answer : Answer) → gives before question answer after →
    Recalls (answered told.written) question answer) where
  input_again : (a count : ℕ) (bytes : List ℕ) → HasRecord (AsksInput a count) (Bytes bytes) told →
      IsAnswered gives (AsksInput a count) t found before after → found ≡ told
  input_again a count bytes was p =
      let same : answered told.written ≡ bytes = answered_in told (length bytes) a bytes was.2 in
      let fits : length (answered told.written) ≤ count = subst (λ (bs : List ℕ). length bs ≤ count) (sym same) was.0 in
      let answer : p.answer ≡ Bytes bytes = recalls (Input count) p.answer p.given fits ∙ ap Bytes same in
      let again : HasRecord (AsksInput a count) (Bytes bytes) found =
      subst (λ (x : Answer). HasRecord (AsksInput a count) x found) answer p.records in
      again.2 ∙ sym was.2

  random_again : (a count : ℕ) (bytes : List ℕ) → HasRecord (AsksRandom a count) (Bytes bytes) told →
      IsAnswered gives (AsksRandom a count) t found before after → found ≡ told
  random_again a count bytes was p =
      let same : answered told.written ≡ bytes = answered_in told count a bytes was.2 in
      let fits : length (answered told.written) ≡ count = ap (λ (bs : List ℕ). length bs) same ∙ was.0 in
      let answer : p.answer ≡ Bytes bytes = recalls (Random count) p.answer p.given fits ∙ ap Bytes same in
      let again : HasRecord (AsksRandom a count) (Bytes bytes) found =
      subst (λ (x : Answer). HasRecord (AsksRandom a count) x found) answer p.records in
      again.2 ∙ sym was.2

  time_again : (a seconds nanoseconds : ℕ) → HasRecord (AsksTime a) (Time seconds nanoseconds) told →
      IsAnswered gives (AsksTime a) t found before after → found ≡ told
  time_again a seconds nanoseconds was p =
      let moment : IsMoment (answered told.written) seconds nanoseconds = record {
        seconds_low = was.0;
        nanoseconds_low = was.1;
        are = answered_in told 0 a (to_le_bytes w64 seconds ++ to_le_bytes w64 nanoseconds) was.2;
      } in
      let answer : p.answer ≡ Time seconds nanoseconds = recalls (Clock (argument t 0)) p.answer p.given seconds nanoseconds moment in
      let again : HasRecord (AsksTime a) (Time seconds nanoseconds) found =
      subst (λ (x : Answer). HasRecord (AsksTime a) x found) answer p.records in
      again.2 ∙ sym was.2

  row_again : (row : Row) (x : Answer) → HasRecord row x told → IsAnswered gives row t found before after → found ≡ told
  row_again (Returns result written change) x was p = p.records ∙ sym was
  row_again (NoResult written change) x was p = p.records ∙ sym was
  row_again (AsksInput a count) Silence was p = absurd was
  row_again (AsksInput a count) (Bytes bytes) was p = input_again a count bytes was p
  row_again (AsksInput a count) (Time seconds nanoseconds) was p = absurd was
  row_again (AsksRandom a count) Silence was p = absurd was
  row_again (AsksRandom a count) (Bytes bytes) was p = random_again a count bytes was p
  row_again (AsksRandom a count) (Time seconds nanoseconds) was p = absurd was
  row_again (AsksTime a) Silence was p = absurd was
  row_again (AsksTime a) (Bytes bytes) was p = absurd was
  row_again (AsksTime a) (Time seconds nanoseconds) was p = time_again a seconds nanoseconds was p

-- the record that was told is found again, whatever the outside answered first
pub told_again : {O : Type 0} (gives : O → Question → Answer → O → Type 0) (s : State) (tid : ℕ) (x : Answer) (told found : CallRecord)
    (later : State) (before after : O) →
    ((question : Question) (answer : Answer) → gives before question answer after → Recalls (answered told.written) question answer) →
    Calls s tid x told later → CallIsAnswered gives s tid (thread_at s tid) found before after → found ≡ told
told_again gives s tid x told found later before after recalls was again =
    row_again gives was.thread told found before after recalls (call_row s tid was.thread) x was.records
    (subst (λ (o : Option Thread). CallIsAnswered gives s tid o found before after) was.there again)

-- ---- bytes that are copied

pub copied_part : (from into new : List ℕ) (n : ℕ) → n ≡ min (length from) (length into) → new ≡ take n from ++ drop n into →
    length from ≤ length into → take n new ≡ from
copied_part from into new n count bytes fits =
    let all : n ≡ length from = omega (arith, count) in
    let whole : take n from ≡ from = ap (λ (k : ℕ). take k from) all ∙ take-length from in
    let within : n ≤ length from = omega (arith, all) in
    let joined : new ≡ from ++ drop n into = bytes ∙ ap (λ (front : List ℕ). front ++ drop n into) whole in
    ap (take n) joined ∙ take-append-le n from (drop n into) within ∙ whole

pub copied_whole : (from into new : List ℕ) (n : ℕ) → n ≡ min (length from) (length into) → new ≡ take n from ++ drop n into →
    length from ≡ length into → new ≡ from
copied_whole from into new n count bytes fits =
    let all : n ≡ length from = omega (arith, count) in
    let end : n ≡ length into = omega (arith, count) in
    let whole : take n from ≡ from = ap (λ (k : ℕ). take k from) all ∙ take-length from in
    let none : drop n into ≡ [] = ap (λ (k : ℕ). drop k into) end ∙ drop-length into in
    bytes ∙ ap (λ (front : List ℕ). front ++ drop n into) whole ∙ ap (λ (back : List ℕ). from ++ back) none ∙ append-nil from

-- ---- a moment that is read

abbrev choice : ℕ → ℕ → ℕ → Option (ℕ × ℕ)
choice n a b = if not (n == 16) then None else if nat_le (2 ^ 63) a || nat_le (10 ^ 9) b then None else Some (a, b)

chosen : (n a b seconds nanoseconds : ℕ) → n ≡ 16 → a ≡ seconds → b ≡ nanoseconds → seconds < 2 ^ 63 → nanoseconds < 10 ^ 9 →
    choice n a b ≡ Some (seconds, nanoseconds)
chosen n a b seconds nanoseconds len first last low part = grind (arith, nat_tests)

moment_is : (bytes : List ℕ) (seconds nanoseconds : ℕ) → IsMoment bytes seconds nanoseconds → moment_in bytes ≡ Some (seconds, nanoseconds)
moment_is bytes seconds nanoseconds p =
    let len : length bytes ≡ 16 = ap (λ (bs : List ℕ). length bs) p.are in
    let first : from_le_bytes w64 bytes ≡ seconds =
    ap (from_le_bytes w64) p.are ∙ from_le_bytes-to_le_bytes_8 seconds (omega (arith, p.seconds_low)) in
    let last : from_le_bytes w64 (drop 8 bytes) ≡ nanoseconds =
    ap (λ (bs : List ℕ). from_le_bytes w64 (drop 8 bs)) p.are
    ∙ from_le_bytes-to_le_bytes_8 nanoseconds (omega (arith, p.nanoseconds_low)) in
    chosen (length bytes) (from_le_bytes w64 bytes) (from_le_bytes w64 (drop 8 bytes)) seconds nanoseconds len first last p.seconds_low
    p.nanoseconds_low

same_pair : (moment : ℕ × ℕ) (seconds nanoseconds : ℕ) → Some moment ≡ Some (seconds, nanoseconds) → moment ≡ (seconds, nanoseconds)
same_pair moment seconds nanoseconds e = cc

pub moment_told : (moment : ℕ × ℕ) (bytes : List ℕ) (seconds nanoseconds : ℕ) → Some moment ≡ moment_in bytes →
    IsMoment bytes seconds nanoseconds →
    Time moment.0 moment.1 ≡ Time seconds nanoseconds
moment_told moment bytes seconds nanoseconds e p =
    ap (λ (m : ℕ × ℕ). Time m.0 m.1) (same_pair moment seconds nanoseconds (e ∙ moment_is bytes seconds nanoseconds p))

no_pair : (seconds nanoseconds : ℕ) (o : Option (ℕ × ℕ)) → None ≡ o → o ≡ Some (seconds, nanoseconds) → ⊥
no_pair seconds nanoseconds o e p = cc

pub moment_missing : (bytes : List ℕ) (seconds nanoseconds : ℕ) → None ≡ moment_in bytes → IsMoment bytes seconds nanoseconds → ⊥
moment_missing bytes seconds nanoseconds e p = no_pair seconds nanoseconds (moment_in bytes) e (moment_is bytes seconds nanoseconds p)
