-- The text of records, with what a replay tells of their frames: the instructions before and behind them, and the state
-- behind them.
use Rattle.std.specs.Prelude.{ℕ, ◌==◌, ◌||◌, if◌then◌else◌, List, [], ◌++◌, flat_map, codes}
use Rattle.std.specs.Char.{encode_utf8}
use Rattle.std.specs.Fmt.{decimal}
use Rattle.rrv_model.specs.declared.record.Item.{Item}
use Rattle.rrv_model.specs.declared.record.Item.TheVariants as items
use Rattle.rrv_model.specs.declared.record.Record.{Record}
use Rattle.rrv_model.specs.State.{State, thread_at}
use Rattle.trace_text.specs.Lines.{record_line}
use Rattle.turn_text.specs.Turns.{event_line, places_text}

-- a frame has places, no other item
abbrev pub places_of : Item → (from to : ℕ) → State → List ℕ
places_of (items.Opening o) from to s = []
places_of (items.Frame f) from to s = places_text f.end from to (thread_at s f.tid)
places_of (items.Part p) from to s = []

-- the line of a record, and its places
abbrev pub places_line : Record → (from to : ℕ) → State → List ℕ
places_line r from to s = record_line r ++ places_of r.item from to s

-- ---- a list of events, as an array in JSON (RFC 8259)

-- a character in a string (section 7): a quote and a backslash behind a backslash
unfoldable pub escaped : ℕ → List ℕ
escaped b = if (b == 34) || (b == 92) then codes "\\" ++ encode_utf8 b else encode_utf8 b

-- the event that names a guest, up to the name
abbrev pub name_members : (guest : ℕ) → List ℕ
name_members guest =
    codes "{\"name\":\"process_name\",\"ph\":\"M\",\"pid\":" ++ (decimal guest ++ codes ",\"args\":{\"name\":\"")

unfoldable pub name_event : (guest : ℕ) → (name : List ℕ) → List ℕ
name_event guest name = name_members guest ++ (flat_map escaped name ++ codes "\"}}")

-- the opening begins the list with the guest's name, a frame adds its event, a part adds nothing
abbrev pub event_by : Item → (guest index from : ℕ) → State → List ℕ
event_by (items.Opening o) guest index from s = codes "[\n" ++ name_event guest o.name
event_by (items.Frame f) guest index from s = codes ",\n" ++ event_line guest index f.end from f.tid f.count (thread_at s f.tid)
event_by (items.Part p) guest index from s = []

abbrev pub event_text : Record → (from : ℕ) → State → List ℕ
event_text r from s = event_by r.item r.guest r.index from s

-- what ends the list
abbrev pub events_end : List ℕ
events_end = codes "\n]\n"
