-- What is printed where all was.
use Rattle.std.proofs.Common.{◌≡◌, inl, inr, ℕ, ◌++◌, Bool, List, Option, ap, subst, sym, true, ◌∙◌}
use Rattle.std.specs.Prelude.{OnOk, Result, Ok, Err}
use Rattle.std.specs.Io.KnownBytes.{Appends}
use Rattle.rrv_model.specs.declared.machine.GuestEnd.{GuestEnd}
use Rattle.end_text.specs.Ends.{end_lines}
use Rattle.guest_calls.specs.Guest.{GuestValue, state_of}
use Rattle.trace_text.specs.Lines.{verify_line}
use Rattle.line_io.specs.declared.refusal.Refusal.{Refusal}
use Rattle.line_io.specs.Printed.{with_newline}
use Rattle.line_io.specs.Stores.{RefusesPrint}
use Rattle.answers.specs.Ends.{end_told}
use Rattle.answers.specs.Refused.{RefusesPlace}
use Rattle.end_text.proofs.Printed.{appends_on}

pub end_printed : {T E : Type 0} (r : Result T E) (len records total steps : ℕ) (last end : Option GuestEnd) (a b : Option (List ℕ)) →
    records ≡ len → steps ≡ total → end ≡ last
    → OnOk r (Appends a b (with_newline (verify_line records steps end))) → OnOk r (Appends a b (with_newline (verify_line len total last)))
end_printed (Ok x) len records total steps last end a b records_are steps_are end_is printed =
    subst (λ t. Appends a b (with_newline t))
    (ap (λ n. verify_line n steps end) records_are ∙ ap (λ n. verify_line len n end) steps_are ∙ ap (verify_line len total) end_is)
    printed
end_printed (Err e) len records total steps last end a b records_are steps_are end_is printed = tt

-- and what ended its guest
pub end_printed_long : {T E : Type 0} (result : Result T E) (is_long : Bool) (len total place last tid : ℕ) (guest shown : GuestValue)
    (a b c : Option (List ℕ))
    → is_long ≡ true → place ≡ total → tid ≡ last → shown ≡ guest →
    Appends a b (with_newline (verify_line len total (state_of guest).ended))
    → OnOk result (Appends b c (end_lines place tid (state_of shown))) →
    OnOk result (Appends a c (end_told is_long len total last (state_of guest)))
end_printed_long (Ok x) is_long len total place last tid guest shown a b c long places tids guests first then =
    let lines = ap (λ n. end_lines n tid (state_of shown)) places ∙ ap (λ n. end_lines total n (state_of shown)) tids
    ∙ ap (λ g. end_lines total last (state_of g)) guests in
    let line = with_newline (verify_line len total (state_of guest).ended) in
    subst (λ l. Appends a c (end_told l len total last (state_of guest))) (sym long)
    (appends_on a b c line _ _ first then (ap (λ t. line ++ t) (sym lines)))
end_printed_long (Err e) is_long len total place last tid guest shown a b c long places tids guests first then = tt

-- what isn't printed of a place within, for want of memory or of a reader
pub unprinted : (e : Refusal) (total from count : ℕ) → RefusesPrint e → RefusesPlace e total from count
unprinted e total from count (inl is) = subst (λ (x : Refusal). RefusesPlace x total from count) (sym is) tt
unprinted e total from count (inr is) = subst (λ (x : Refusal). RefusesPlace x total from count) (sym is) tt
