-- What the lines print of stores and of guests.
use Rattle.std.specs.Prelude.{◌≡◌, ◌↔◌, ℕ, ◌≤◌, List, [], ◌∷◌, length, flat_map, Contains}
use Rattle.std.specs.List.Sorted.{IsStrictlyIncreasing}
use Rattle.rrv_model.specs.declared.record.Item.{Item}
use Rattle.rrv_model.specs.declared.record.Item.TheVariants as items
use Rattle.rrv_model.specs.declared.record.Record.{Record}
use Rattle.rrv_model.specs.Recording.{frames_of, items_of}
use Rattle.rrv_model.specs.Recovered.{of_guest}
use Rattle.rrv_model.specs.StateAt.{total}
use Rattle.trace_text.specs.Lines.{list_line, record_line}
use Rattle.line_io.specs.Printed.{with_newline}

-- the name in the last opening among the items, of which a guest has one; else this one
abbrev pub name_in : List ℕ → List Item → List ℕ
name_in name [] = name
name_in name (items.Opening o ∷ rest) = name_in o.name rest
name_in name (items.Frame f ∷ rest) = name_in name rest
name_in name (items.Part p ∷ rest) = name_in name rest

-- the file of an opening; no other item has one
abbrev pub file_in : Item → List ℕ
file_in (items.Opening o) = o.elf
file_in (items.Frame f) = []
file_in (items.Part p) = []

-- the file in the first record, which is a guest's opening
abbrev pub first_file : List Record → List ℕ
first_file [] = []
first_file (r ∷ records) = file_in r.item

-- the line of a guest of this name with these records
abbrev pub named_line : (guest : ℕ) → (name : List ℕ) → List Record → List ℕ
named_line guest name records =
    list_line guest name (length records) (length (frames_of (items_of records))) (total (frames_of (items_of records)))

-- the line of a guest with these records
abbrev pub guest_line : ℕ → List Record → List ℕ
guest_line guest records = named_line guest (name_in [] (items_of records)) records

-- the lines of all guests with records among these, by rising number
pub record IsList (records : List Record) (text : List ℕ) : Type 0 where
  pub guests : List ℕ
  pub rising : IsStrictlyIncreasing guests
  pub each : (guest : ℕ) → Contains guests guest ↔ (1 ≤ length (of_guest guest records))
  pub text_is : text ≡ flat_map (λ guest. with_newline (guest_line guest (of_guest guest records))) guests

-- the lines of records
abbrev pub dump_lines : List Record → List ℕ
dump_lines records = flat_map (λ r. with_newline (record_line r)) records
