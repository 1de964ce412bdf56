-- What is printed of a place of a recording, and of changes.
use Rattle.std.specs.Prelude.{◌≡◌, ℕ, ◌+◌, List, [], ◌∷◌, ◌++◌, Bool, true, false, Option, length, flat_map, codes}
use Rattle.std.specs.Io.KnownBytes.{Appends}
use Rattle.asking.specs.Places.{RunsNext}
use Rattle.command_line.specs.declared.request.MemoryRange.{MemoryRange}
use Rattle.command_line.specs.declared.request.Watched.{Watched}
use Rattle.replayer.specs.Verified.{VerifiedValue}
use Rattle.rrv_model.specs.declared.record.Frame.{Frame}
use Rattle.rrv_model.specs.declared.record.Opening.{Opening}
use Rattle.rrv_model.specs.Memory.{Memory}
use Rattle.rrv_model.specs.State.{State, thread_at}
use Rattle.rrv_model.specs.StateAt.{StateAt, total}
use Rattle.trace_text.specs.MemoryText.{memory_lines}
use Rattle.trace_text.specs.States.{newline, state_lines}
use Rattle.changes.specs.declared.shown.Shown.{Shown}
use Rattle.changes.specs.Changes.{AreLastChanges}
use Rattle.changes.specs.Texts.{change_line, value_text}

-- ---- a place

-- the lines of the bytes that a line asks for, range by range
abbrev pub ranges_lines : Memory → List MemoryRange → List ℕ
ranges_lines m ranges = flat_map (λ r. memory_lines m r.address r.length) ranges

-- the lines of the state at a place of a recording, and after them those of the bytes that are asked for
pub record IsStateText (o : Opening) (frames : List Frame) (ranges : List MemoryRange) (place : ℕ) (text : List ℕ)
    : Type 0 where
  pub state : State
  pub is_at : StateAt o frames place state
  pub text_is : text ≡ state_lines place (total frames) state ++ ranges_lines state.memory ranges

-- the line of the change at a place, and after it those of the bytes that are asked for, as they are before it
pub record IsLineText (o : Opening) (frames : List Frame) (w : Watched) (ranges : List MemoryRange) (place : ℕ) (text : List ℕ)
    : Type 0 where
  pub before : State
  pub after : State
  pub is_before : StateAt o frames place before
  pub is_after : StateAt o frames (place + 1) after
  pub tid : ℕ
  pub runs : RunsNext frames place tid
  pub text_is : text
      ≡ change_line place tid (thread_at before tid) (value_text before.memory w) (value_text after.memory w)
      ++ ranges_lines before.memory ranges

-- one or the other
abbrev pub IsTextIf : (is_short : Bool) → Opening → List Frame → Watched → List MemoryRange → ℕ → List ℕ → Type 0
IsTextIf true o frames w ranges place text = IsLineText o frames w ranges place text
IsTextIf false o frames w ranges place text = IsStateText o frames ranges place text

-- what is shown of the change at a place
abbrev pub IsShownText : Opening → List Frame → Shown → ℕ → List ℕ → Type 0
IsShownText o frames shown place text = IsTextIf shown.is_short o frames shown.watched shown.ranges.now place text

-- ---- changes

-- what is shown of these, one after the other
abbrev pub AreTexts : Opening → List Frame → Shown → List ℕ → List ℕ → Type 0
AreTexts o frames shown [] text = text ≡ []
AreTexts o frames shown (t ∷ earlier) text =
    (one rest : List ℕ) × IsShownText o frames shown t one × AreTexts o frames shown earlier rest × (text ≡ one ++ rest)

-- a writer took what is shown of the last changes below a place, of which there were so many
pub record PrintsEach (v : VerifiedValue) (shown : Shown) (times from : ℕ) (before after : Option (List ℕ)) (count : ℕ) : Type 0 where
  pub found : List ℕ
  pub are : AreLastChanges v.opening v.frames shown.watched times from found
  pub count_is : length found ≡ count
  pub text : List ℕ
  pub texts : AreTexts v.opening v.frames shown found text
  pub printed : Appends before after text

-- the same, or that there is none
abbrev pub AreTextsOrNone : Opening → List Frame → Shown → List ℕ → List ℕ → Type 0
AreTextsOrNone o frames shown [] text = text ≡ codes "unchanged" ++ newline
AreTextsOrNone o frames shown (t ∷ earlier) text = AreTexts o frames shown (t ∷ earlier) text

-- a writer took what is shown of the last changes below a place, so many at most, or that there is none
pub record PrintsChanges (v : VerifiedValue) (shown : Shown) (times from : ℕ) (before after : Option (List ℕ)) : Type 0 where
  pub found : List ℕ
  pub are : AreLastChanges v.opening v.frames shown.watched times from found
  pub text : List ℕ
  pub texts : AreTextsOrNone v.opening v.frames shown found text
  pub printed : Appends before after text
