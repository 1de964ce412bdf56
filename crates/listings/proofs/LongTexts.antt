-- Records that are summed up as they are replayed, one after another, and the lines of guests.
use Rattle.std.proofs.Common.{◌≡◌, ℕ, suc, ◌+◌, ◌≤◌, List, [], ◌∷◌, ◌++◌, length, Option, Some, inl, inr, arith, refl, ap, sym, subst, ◌∙◌}
use Rattle.std.specs.Prelude.{take, slice_get}
use Rattle.std.specs.Io.KnownBytes.{Appends}
use Rattle.std.proofs.lemmas.List.{append-nil, append_assoc}
use Rattle.rrv_model.specs.declared.record.Item.{Item}
use Rattle.rrv_model.specs.declared.record.Item.TheVariants as items
use Rattle.rrv_model.specs.declared.record.Record.{Record}
use Rattle.rrv_model.specs.Recording.{Starts}
use Rattle.rrv_model.specs.Recovered.{of_guest}
use Rattle.rrv_model.specs.State.{State}
use Rattle.guest_calls.specs.Guest.{state_of}
use Rattle.replayer.specs.Following.{FollowingValue, IsBehind, Names}
use Rattle.replayer.specs.Refusals.{RefusesFirst, RefusesVerify}
use Rattle.faults.specs.declared.replay.VerifyFault.{VerifyFault}
use Rattle.faults.specs.declared.replay.VerifyFault.TheVariants as verify_faults
use Rattle.listings.specs.declared.long_list.Told.{Told}
use Rattle.line_io.specs.declared.refusal.Refusal.{Refusal}
use Rattle.line_io.specs.declared.refusal.Refusal.TheVariants as refusals
use Rattle.listings.specs.declared.tally.Tally.{Tally}
use Rattle.listings.specs.LongList.{AddsUpTo, AreLines, IsTold, RefusesSummary, no_tally, told_text, with_item}
use Rattle.listings.specs.Printed.{first_file, file_in, guest_line}
use Rattle.line_io.specs.Printed.{with_newline}
use Rattle.line_io.specs.Stores.{IsFailed, RefusesList}
use Rattle.line_io.specs.Told.{verify_told}
use Rattle.end_text.proofs.Printed.{appends_on, take_next}
use Rattle.listings.proofs.TurnTexts.{first_refused, next_refused}

-- the file in the first record
pub first_is : (records : List Record) (r : Record) → slice_get records 0 ≡ Some r → first_file records ≡ file_in r.item
first_is [] r there = cc
first_is (x ∷ xs) r there = let same : x ≡ r = cc in ap (λ (q : Record). file_in q.item) same

-- one record more
pub added : (records : List Record) (n : ℕ) (r : Record) (f : FollowingValue) (before after : Tally) → slice_get records n ≡ Some r →
    IsBehind f (take n records ++ r ∷ []) → AddsUpTo records n before → after ≡ with_item before r.item (state_of f.guest)
    → IsBehind f (take (n + 1) records) × AddsUpTo records (n + 1) after
added records n r f before after there behind sums is =
    let one : suc n ≡ n + 1 = omega arith in
    let taken = ap (λ k. take k records) one ∙ take_next records n r there in
    let on = subst (λ l. IsBehind f l) (sym taken) behind in
    subst (λ k. IsBehind f (take k records) × AddsUpTo records k after) one (on, (before, r, state_of f.guest, sums, there, on.ends, is))

-- an opening adds nothing
opening_adds_none : (i : Item) (rest : List Item) (t : Tally) (s : State) → Starts (i ∷ rest) → with_item t i s ≡ t
opening_adds_none (items.Opening o) rest t s starts = refl
opening_adds_none (items.Frame f) rest t s starts = absurd starts
opening_adds_none (items.Part p) rest t s starts = absurd starts

-- the first record
pub first_added : (records : List Record) (r : Record) (f : FollowingValue) (tally : Tally) → slice_get records 0 ≡ Some r →
    IsBehind f (r ∷ []) → tally ≡ no_tally → IsBehind f (take 1 records) × AddsUpTo records 1 tally
first_added [] r f tally there behind is = cc
first_added (x ∷ xs) r f tally there behind is =
    added (x ∷ xs) 0 r f no_tally tally there behind refl
    (is ∙ sym (opening_adds_none r.item [] no_tally (state_of f.guest) behind.recording.starts))

-- ---- refusals

pub failed_unsummed : (e : Refusal) (records : List Record) → IsFailed e → RefusesSummary e records
failed_unsummed e records failed = elim failed [
  | inl device ↦ subst (λ e. RefusesSummary e records) (sym device) (inl refl)
  | inr memory ↦ subst (λ e. RefusesSummary e records) (sym memory) (inr refl)
]

pub first_unsummed : (e : Refusal) (fault : VerifyFault) (records : List Record) (r : Record) → slice_get records 0 ≡ Some r →
    1 ≤ length records → e ≡ verify_told fault → RefusesFirst fault r → RefusesSummary e records
first_unsummed e verify_faults.BadOpening records r there some is refused =
    subst (λ e. RefusesSummary e records) (sym is)
    (first_refused (refusals.Verify verify_faults.BadOpening) verify_faults.BadOpening records r there some refl refused)
first_unsummed e verify_faults.Memory records r there some is refused = subst (λ e. RefusesSummary e records) (sym is) (inr refl)
first_unsummed e (verify_faults.Mismatch index) records r there some is refused = absurd refused
first_unsummed e (verify_faults.BadCheckpoint index) records r there some is refused = absurd refused
first_unsummed e (verify_faults.Unreadable index) records r there some is refused = absurd refused

pub next_unsummed : (e : Refusal) (fault : VerifyFault) (records : List Record) (n : ℕ) (r : Record) (f : FollowingValue) →
    slice_get records n ≡ Some r → 1 ≤ length records → e ≡ verify_told fault → IsBehind f (take n records) → n ≡ f.len →
    Names fault f.len →
    RefusesVerify fault (take n records ++ r ∷ []) → RefusesSummary e records
next_unsummed e (verify_faults.Mismatch index) records n r f there some is behind len named refused =
    subst (λ e. RefusesSummary e records) (sym is)
    (next_refused (refusals.Verify (verify_faults.Mismatch index)) (verify_faults.Mismatch index) records n r f there some refl behind len
    named refused)
next_unsummed e (verify_faults.BadCheckpoint index) records n r f there some is behind len named refused =
    subst (λ e. RefusesSummary e records) (sym is)
    (next_refused (refusals.Verify (verify_faults.BadCheckpoint index)) (verify_faults.BadCheckpoint index) records n r f there some refl
    behind len named refused)
next_unsummed e verify_faults.Memory records n r f there some is behind len named refused =
    subst (λ e. RefusesSummary e records) (sym is) (inr refl)
next_unsummed e verify_faults.BadOpening records n r f there some is behind len named refused = absurd named
next_unsummed e (verify_faults.Unreadable index) records n r f there some is behind len named refused = absurd named

-- what is no refusal of a recording is a failure
pub other_fails : (e : Refusal) (records : List Record) → ((fault : VerifyFault) → e ≡ refusals.Verify fault → ⊥) →
    RefusesSummary e records →
    IsFailed e
other_fails (refusals.Verify fault) records other refused = absurd (other fault refl)
other_fails refusals.BadSeed records other refused = refused
other_fails refusals.CannotOpenStore records other refused = refused
other_fails refusals.CannotReadFile records other refused = refused
other_fails (refusals.BadFile file fault) records other refused = refused
other_fails (refusals.InWords first file fault) records other refused = refused
other_fails (refusals.BadChoices file line) records other refused = refused
other_fails (refusals.Elf guest fault) records other refused = refused
other_fails refusals.DeviceFailed records other refused = refused
other_fails (refusals.Open fault) records other refused = refused
other_fails refusals.NoSuchGuest records other refused = refused
other_fails (refusals.Seek fault) records other refused = refused
other_fails (refusals.Session fault) records other refused = refused
other_fails refusals.CannotMakeCore records other refused = refused
other_fails refusals.CannotWriteCore records other refused = refused
other_fails refusals.SameStore records other refused = refused
other_fails (refusals.Copy fault) records other refused = refused
other_fails refusals.NoClock records other refused = refused
other_fails refusals.OutputFailed records other refused = refused
other_fails refusals.ReaderGone records other refused = refused
other_fails refusals.Memory records other refused = refused

pub failed_unlisted : (e : Refusal) → IsFailed e → RefusesList e
failed_unlisted e failed = elim failed [
  | inl device ↦ inl device
  | inr memory ↦ inr (inl memory)
]

-- ---- lines

-- the line of one guest more
pub line_on : (records : List Record) (guests : List ℕ) (guest : ℕ) (tells : Told) (text : List ℕ) → AreLines records guests text →
    IsTold (of_guest guest records) tells
    → AreLines records (guests ++ guest ∷ []) (text ++ with_newline (guest_line guest (of_guest guest records) ++ told_text tells))
line_on records [] guest tells text are told =
    let line = with_newline (guest_line guest (of_guest guest records) ++ told_text tells) in
    (tells, [], told, refl, ap (λ t. t ++ line) are ∙ sym (append-nil line))
line_on records (g ∷ guests) guest tells text are told =
    let line = with_newline (guest_line guest (of_guest guest records) ++ told_text tells) in
    let own = with_newline (guest_line g (of_guest g records) ++ told_text are.0) in (
      are.0,
      are.1 ++ line,
      are.2,
      line_on records guests guest tells are.1 are.3 told,
      ap (λ t. t ++ line) are.4 ∙ append_assoc own are.1 line,
    )

-- and it is printed
pub line_printed : (records : List Record) (guests : List ℕ) (i guest : ℕ) (tells : Told) (a b c : Option (List ℕ)) →
    slice_get guests i ≡ Some guest → (text : List ℕ) × AreLines records (take i guests) text × Appends a b text →
    IsTold (of_guest guest records) tells
    → Appends b c (with_newline (guest_line guest (of_guest guest records) ++ told_text tells))
    → (text : List ℕ) × AreLines records (take (i + 1) guests) text × Appends a c text
line_printed records guests i guest tells a b c there before told now =
    let line = with_newline (guest_line guest (of_guest guest records) ++ told_text tells) in (
      before.0 ++ line,
      subst (λ gs. AreLines records gs (before.0 ++ line)) (sym (take_next guests i guest there))
          (line_on records (take i guests) guest tells before.0 before.1 told),
      appends_on a b c before.0 line (before.0 ++ line) before.2 now refl,
    )
