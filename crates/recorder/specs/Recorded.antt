-- What it means that a guest has been recorded: its records, and the state that they end in.
use Rattle.std.specs.Prelude.{◌≡◌, ℕ, List, ◌∷◌}
use Rattle.std.specs.List.{AllByRecursion}
use Rattle.rrv_model.specs.declared.machine.Version.{Version}
use Rattle.rrv_model.specs.declared.record.Item.TheVariants as items
use Rattle.rrv_model.specs.declared.record.Record.{Record}
use Rattle.rrv_model.specs.State.{State}
use Rattle.rrv_model.specs.Recording.{IsRecording, IsNumbered, EndsIn, items_of}
use Rattle.rrv_model.specs.RecordText.{HasText}

-- the record of an opening
abbrev pub opening_of : ℕ → Version → List ℕ → List ℕ → List ℕ → Record
opening_of guest version elf name random =
    record { guest = guest; index = 0; item = items.Opening (record { version = version; elf = elf; name = name; random = random }) }

-- the records of this guest are a recording that ends in this state, and each has a text
pub record IsRecorded (guest : ℕ) (records : List Record) (s : State) : Type 0 where
  pub recording : IsRecording records
  pub numbered : IsNumbered guest 0 records
  pub ends : EndsIn (items_of records) s
  pub has_text : AllByRecursion HasText records

-- this is the first of the records
abbrev pub IsFirst : Record → List Record → Type 0
IsFirst r records = (rest : List Record) × (records ≡ r ∷ rest)
