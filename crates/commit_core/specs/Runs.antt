-- What the records of one guest tell: their output, and the state at each count of instructions.
use Rattle.std.specs.Prelude.{◌≡◌, ℕ, List, [], ◌∷◌, ◌++◌}
use Rattle.rrv_model.specs.declared.record.Item.{Item}
use Rattle.rrv_model.specs.declared.record.Item.TheVariants as items
use Rattle.rrv_model.specs.declared.record.Record.{Record}
use Rattle.rrv_model.specs.State.{State}
use Rattle.rrv_model.specs.StateAt.{StateAt, total}
use Rattle.rrv_model.specs.Output.{Chunk, Output, spread}
use Rattle.rrv_model.specs.Recording.{frames_of, items_of}

abbrev pub IsBeginning : {X : Type 0} → List X → List X → Type 0
IsBeginning {X = X} front whole = (rest : List X) × (front ++ rest ≡ whole)

-- what the items put out, of which the first is an Opening; no items put out nothing
abbrev pub ItemsPut : List Item → List Chunk → Type 0
ItemsPut [] chunks = chunks ≡ []
ItemsPut (items.Opening o ∷ rest) chunks = Output o (frames_of rest) chunks
ItemsPut (items.Frame f ∷ rest) chunks = ⊥
ItemsPut (items.Part p ∷ rest) chunks = ⊥

-- the bytes, each with its descriptor, are a beginning of what the records put out
abbrev pub IsOutput : List (ℕ × ℕ) → List Record → Type 0
IsOutput out records = (chunks : List Chunk) × ItemsPut (items_of records) chunks × IsBeginning out (spread chunks)

-- the steps of all frames
abbrev pub total_of : List Item → ℕ
total_of items = total (frames_of items)

-- the state at a count of instructions
abbrev pub IsAt : List Item → ℕ → State → Type 0
IsAt [] t s = ⊥
IsAt (items.Opening o ∷ rest) t s = StateAt o (frames_of rest) t s
IsAt (items.Frame f ∷ rest) t s = ⊥
IsAt (items.Part p ∷ rest) t s = ⊥
