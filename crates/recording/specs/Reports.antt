-- What is printed of the guests of a recording.
use Rattle.std.specs.Prelude.{ℕ, ◌+◌, ◌==◌, Bool, false, if◌then◌else◌, List, [], ◌∷◌, ◌++◌, Option, Some}
use Rattle.std.specs.FinMap.{len}
use Rattle.rrv_model.specs.declared.machine.GuestEnd.{GuestEnd}
use Rattle.rrv_model.specs.declared.machine.GuestEnd.TheVariants as guest_ends
use Rattle.rrv_model.specs.State.{State}
use Rattle.guest_calls.specs.Guest.{GuestValue, state_of}
use Rattle.session.specs.declared.report.GuestReport.{GuestReport}
use Rattle.end_text.specs.Ends.{end_lines}
use Rattle.trace_text.specs.Lines.{report_line}
use Rattle.line_io.specs.Printed.{with_newline}

-- a guest with so many live threads exited when the last of them did, and not by `exit_group`
abbrev pub has_left : Option GuestEnd → (live : ℕ) → Bool
has_left (Some (guest_ends.Exited status)) live = live == 0
has_left _ live = false

-- what ended a guest, unless its last thread exited: of that its report tells
abbrev pub left_lines : (place last : ℕ) → State → List ℕ
left_lines place last s = if has_left s.ended (len s.threads) then [] else end_lines place last s

-- the report of the guest of this name, whose thread of tid `last` ran last
abbrev pub guest_told : (name : List ℕ) → GuestReport → GuestValue → (last : ℕ) → List ℕ
guest_told name report guest last =
    with_newline (report_line name report.end report.records) ++ left_lines guest.ran last (state_of guest)

-- those of all guests, from the one at this place on, who are named so by their places
abbrev pub guests_told : (naming : ℕ → List ℕ) → ℕ → List GuestReport → List GuestValue → (lasts : List ℕ) → List ℕ
guests_told naming place (report ∷ reports) (guest ∷ guests) (last ∷ lasts) =
    guest_told (naming place) report guest last ++ guests_told naming (place + 1) reports guests lasts
guests_told naming place _ _ _ = []
