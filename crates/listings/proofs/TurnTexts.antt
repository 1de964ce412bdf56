-- Records that are printed as they are replayed, one after another.
use Rattle.std.proofs.Common.{◌≡◌, ℕ, zero, suc, ◌+◌, ◌≤◌, List, [], ◌∷◌, ◌++◌, length, Option, Some, arith, refl, ap, sym, subst, ◌∙◌}
use Rattle.std.specs.Prelude.{take, slice_get, OnOk, Result, Ok, Err}
use Rattle.std.specs.Io.KnownBytes.{Appends}
use Rattle.command_line.specs.declared.request.DumpForm.{DumpForm}
use Rattle.rrv_model.specs.declared.record.Record.{Record}
use Rattle.guest_calls.specs.Guest.{state_of}
use Rattle.replayer.specs.Following.{FollowingValue, IsBehind, Names}
use Rattle.replayer.specs.Refusals.{RefusesFirst, RefusesVerify}
use Rattle.faults.specs.declared.replay.VerifyFault.{VerifyFault}
use Rattle.faults.specs.declared.replay.VerifyFault.TheVariants as verify_faults
use Rattle.line_io.specs.declared.refusal.Refusal.{Refusal}
use Rattle.line_io.specs.Told.{verify_told}
use Rattle.listings.specs.Turns.{IsDumped, PrintsTurns, RefusesTurns, count_before, dump_end, turn_text}
use Rattle.end_text.proofs.Printed.{appends_none, appends_on, take_next}

-- one record more
pub turn_printed : (form : DumpForm) (records : List Record) (n : ℕ) (r : Record) (from : ℕ) (f : FollowingValue) (a b c : Option (List ℕ))
    → slice_get records n ≡ Some r → from ≡ count_before records n → IsBehind f (take n records ++ r ∷ []) → PrintsTurns form records n a b
    → Appends b c (turn_text form r from f.total (state_of f.guest)) → IsBehind f (take (n + 1) records) ×
    PrintsTurns form records (n + 1) a c
turn_printed form records n r from f a b c there before behind printed now =
    let one : suc n ≡ n + 1 = omega arith in
    let taken = ap (λ k. take k records) one ∙ take_next records n r there in
    let on = subst (λ l. IsBehind f l) (sym taken) behind in
    let s = state_of f.guest in
    let line = ap (λ k. turn_text form r k f.total s) before ∙ ap (λ k. turn_text form r (count_before records n) k s) on.total in
    let text = printed.0 ++ turn_text form r (count_before records n) (count_before records (suc n)) s in
    subst (λ k. IsBehind f (take k records) × PrintsTurns form records k a c) one (
      on,
      (
        text,
        (printed.0, r, s, printed.1, there, on.ends, refl),
        appends_on a b c _ _ text printed.2 now (ap (λ l. printed.0 ++ l) (sym line)),
      ),
    )

-- and the end of all
pub all_printed : {T E : Type 0} (result : Result T E) (form : DumpForm) (records : List Record) (a b c : Option (List ℕ))
    → PrintsTurns form records (length records) a b → OnOk result (Appends b c (dump_end form)) → OnOk result (IsDumped form records a c)
all_printed (Ok x) form records a b c printed now = (printed.0, printed.1, appends_on a b c _ _ _ printed.2 now refl)
all_printed (Err e) form records a b c printed now = tt

-- ---- refusals

-- the first record is none that a recording begins with
pub first_refused : (e : Refusal) (fault : VerifyFault) (records : List Record) (r : Record) → slice_get records 0 ≡ Some r →
    1 ≤ length records → e ≡ verify_told fault
    → RefusesFirst fault r → RefusesTurns e records
first_refused e verify_faults.BadOpening [] r there some is refused = absurd (omega (arith, some))
first_refused e verify_faults.BadOpening (x ∷ xs) r there some is refused =
    let same : x ≡ r = cc in
    subst (λ e. RefusesTurns e (x ∷ xs)) (sym is) (subst (λ q. RefusesVerify verify_faults.BadOpening (q ∷ [])) (sym same) refused)
first_refused e verify_faults.Memory records r there some is refused = subst (λ e. RefusesTurns e records) (sym is) some
first_refused e (verify_faults.Mismatch index) records r there some is refused = absurd refused
first_refused e (verify_faults.BadCheckpoint index) records r there some is refused = absurd refused
first_refused e (verify_faults.Unreadable index) records r there some is refused = absurd refused

-- the record behind those that were followed doesn't follow
pub next_refused : (e : Refusal) (fault : VerifyFault) (records : List Record) (n : ℕ) (r : Record) (f : FollowingValue) →
    slice_get records n ≡ Some r → 1 ≤ length records
    → e ≡ verify_told fault → IsBehind f (take n records) → n ≡ f.len → Names fault f.len → RefusesVerify fault (take n records ++ r ∷ []) →
    RefusesTurns e records
next_refused e (verify_faults.Mismatch index) records n r f there some is behind len named refused =
    let place : suc index ≡ n + 1 = omega (arith, named, len) in
    let taken = ap (λ k. take k records) place ∙ take_next records n r there in
    subst (λ e. RefusesTurns e records) (sym is) (subst (λ l. RefusesVerify (verify_faults.Mismatch index) l) (sym taken) refused)
next_refused e (verify_faults.BadCheckpoint index) records n r f there some is behind len named refused =
    let place : suc index ≡ n + 1 = omega (arith, named, len) in
    let taken = ap (λ k. take k records) place ∙ take_next records n r there in
    subst (λ e. RefusesTurns e records) (sym is) (subst (λ l. RefusesVerify (verify_faults.BadCheckpoint index) l) (sym taken) refused)
next_refused e verify_faults.Memory records n r f there some is behind len named refused = subst (λ e. RefusesTurns e records) (sym is) some
next_refused e verify_faults.BadOpening records n r f there some is behind len named refused = absurd named
next_refused e (verify_faults.Unreadable index) records n r f there some is behind len named refused = absurd named

-- ---- the loop

-- the first record
pub first_printed : (form : DumpForm) (records : List Record) (r : Record) (f : FollowingValue) (a b : Option (List ℕ)) →
    slice_get records 0 ≡ Some r → IsBehind f (r ∷ [])
    → Appends a b (turn_text form r 0 f.total (state_of f.guest)) → IsBehind f (take 1 records) × PrintsTurns form records 1 a b
first_printed form [] r f a b there behind now = cc
first_printed form (x ∷ xs) r f a b there behind now =
    turn_printed form (x ∷ xs) 0 r 0 f a a b there refl behind ([], refl, appends_none a) now

pub take_length : {X : Type 0} (xs : List X) (n : ℕ) → n ≤ length xs → length (take n xs) ≡ n
take_length [] zero h = refl
take_length [] (suc n) h = absurd (omega (arith, h))
take_length (x ∷ xs) zero h = refl
take_length (x ∷ xs) (suc n) h = ap suc (take_length xs n (omega (arith, h)))
