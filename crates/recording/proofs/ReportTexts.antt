-- Reports that are printed one behind another.
use Rattle.std.proofs.Common.{◌≡◌, cond, ℕ, zero, suc, ◌+◌, List, [], ◌∷◌, ◌++◌, Option, Some, arith, ap, sym, subst, ◌∙◌}
use Rattle.std.specs.Prelude.{Bool, true, false, OnOk, Result, Ok, Err, slice_get, take}
use Rattle.std.specs.FinMap.{len}
use Rattle.std.specs.Io.KnownBytes.{Appends}
use Rattle.std.proofs.lemmas.List.{append-nil, append_assoc}
use Rattle.end_text.proofs.Printed.{appends_on}
use Rattle.rrv_model.specs.declared.machine.GuestEnd.{GuestEnd}
use Rattle.guest_calls.specs.Guest.{GuestValue, state_of}
use Rattle.end_text.specs.Ends.{end_lines}
use Rattle.session.specs.declared.report.GuestReport.{GuestReport}
use Rattle.trace_text.specs.Lines.{report_line}
use Rattle.line_io.specs.Printed.{with_newline}
use Rattle.recording.specs.Reports.{guest_told, guests_told, has_left}

module _ (naming : ℕ → List ℕ) where
  guests_behind : (place i : ℕ) (reports : List GuestReport) (guests : List GuestValue) (lasts : List ℕ) (report : GuestReport)
      (guest : GuestValue) (last : ℕ)
      → slice_get reports i ≡ Some report → slice_get guests i ≡ Some guest → slice_get lasts i ≡ Some last
      → guests_told naming place (take (suc i) reports) (take (suc i) guests) (take (suc i) lasts)
      ≡ guests_told naming place (take i reports) (take i guests) (take i lasts) ++ guest_told (naming (place + i)) report guest last
  guests_behind place i [] guests lasts report guest last a b c = absurd cc
  guests_behind place i (x ∷ xs) [] lasts report guest last a b c = absurd cc
  guests_behind place i (x ∷ xs) (y ∷ ys) [] report guest last a b c = absurd cc
  guests_behind place zero (x ∷ xs) (y ∷ ys) (z ∷ zs) report guest last a b c =
      let here : place ≡ place + 0 = omega arith in
      let first : x ≡ report = cc in
      let second : y ≡ guest = cc in
      let third : z ≡ last = cc in
      append-nil (guest_told (naming place) x y z) ∙ (λ i. guest_told (naming (here i)) (first i) (second i) (third i))
  guests_behind place (suc i) (x ∷ xs) (y ∷ ys) (z ∷ zs) report guest last a b c =
      let there : place + 1 + i ≡ place + suc i = omega arith in
      let own = guest_told (naming place) x y z in
      ap (λ l. own ++ l) (guests_behind (place + 1) i xs ys zs report guest last a b c)
      ∙ ap (λ n. own ++ (guests_told naming (place + 1) (take i xs) (take i ys) (take i zs) ++ guest_told (naming n) report guest last))
      there
      ∙ sym (append_assoc own _ _)

  -- one more
  pub guests_on : (i : ℕ) (reports : List GuestReport) (guests : List GuestValue) (lasts : List ℕ) (report : GuestReport)
      (guest : GuestValue) (last : ℕ) (name : List ℕ) (a b c : Option (List ℕ))
      → slice_get reports i ≡ Some report → slice_get guests i ≡ Some guest → slice_get lasts i ≡ Some last → name ≡ naming i
      → Appends a b (guests_told naming 0 (take i reports) (take i guests) (take i lasts))
      → Appends b c (guest_told name report guest last)
      → Appends a c (guests_told naming 0 (take (i + 1) reports) (take (i + 1) guests) (take (i + 1) lasts))
  guests_on i reports guests lasts report guest last name a b c x y z named before now =
      let one : suc i ≡ i + 1 = omega arith in
      let here : 0 + i ≡ i = omega arith in
      subst (λ k. Appends a c (guests_told naming 0 (take k reports) (take k guests) (take k lasts))) one
      (appends_on a b c _ _ _ before now
      (guests_behind 0 i reports guests lasts report guest last x y z
      ∙ ap (λ n. guests_told naming 0 (take i reports) (take i guests) (take i lasts) ++ guest_told (naming n) report guest last) here
      ∙ ap (λ n. guests_told naming 0 (take i reports) (take i guests) (take i lasts) ++ guest_told n report guest last) (sym named)))

-- one guest's, where its last thread exited, and where it did not
pub report_alone : (left : Bool) (report : GuestReport) (guest : GuestValue) (last : ℕ) (own name : List ℕ) (end : Option GuestEnd)
    (count : ℕ) (a b : Option (List ℕ))
    → true ≡ left → left ≡ has_left (state_of guest).ended (len (state_of guest).threads) → name ≡ own → end ≡ report.end →
    count ≡ report.records
    → Appends a b (with_newline (report_line name end count)) → Appends a b (guest_told own report guest last)
report_alone left report guest last own name end count a b is left_is named ended counted printed =
    let line : with_newline (report_line own report.end report.records) ≡ with_newline (report_line name end count) =
    λ i. with_newline (report_line (sym named i) (sym ended i) (sym counted i)) in
    subst (λ l. Appends a b l)
    (sym (ap (λ (t : Bool). with_newline (report_line own report.end report.records)
    ++ cond t [] (end_lines guest.ran last (state_of guest))) (sym (is ∙ left_is)) ∙ append-nil _ ∙ line)) printed

pub report_long : {T E : Type 0} (result : Result T E) (left : Bool) (report : GuestReport) (guest shown : GuestValue)
    (last tid ran : ℕ) (own name : List ℕ) (end : Option GuestEnd) (count : ℕ) (a b c : Option (List ℕ))
    → false ≡ left → left ≡ has_left (state_of guest).ended (len (state_of guest).threads) → name ≡ own → end ≡ report.end →
    count ≡ report.records
    → shown ≡ guest → tid ≡ last → ran ≡ guest.ran → Appends a b (with_newline (report_line name end count)) →
    OnOk result (Appends b c (end_lines ran tid (state_of shown)))
    → OnOk result (Appends a c (guest_told own report guest last))
report_long (Ok x) left report guest shown last tid ran own name end count a b c is left_is named ended counted shows tids rans
    printed then =
    let line : with_newline (report_line own report.end report.records) ≡ with_newline (report_line name end count) =
    λ i. with_newline (report_line (sym named i) (sym ended i) (sym counted i)) in
    let lines : end_lines guest.ran last (state_of guest) ≡ end_lines ran tid (state_of shown) =
    λ i. end_lines (sym rans i) (sym tids i) (state_of (sym shows i)) in
    appends_on a b c _ _ _ printed then
    (ap (λ (t : Bool). with_newline (report_line own report.end report.records)
    ++ cond t [] (end_lines guest.ran last (state_of guest))) (sym (is ∙ left_is))
    ∙ (λ i. line i ++ lines i))
report_long (Err e) left report guest shown last tid ran own name end count a b c is left_is named ended counted shows tids rans
    printed then = tt
