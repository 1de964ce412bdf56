-- What stands behind the items of a recording, and how an item leads on from there.
use Rattle.std.specs.Prelude.{◌≡◌, ◌↔◌, List, [], ◌∷◌, ◌++◌}
use Rattle.rrv_model.specs.declared.record.Part.{Part}
use Rattle.rrv_model.specs.declared.record.Item.{Item}
use Rattle.rrv_model.specs.declared.record.Item.TheVariants as items
use Rattle.rrv_model.specs.State.{State}
use Rattle.rrv_model.specs.FrameStep.{FrameStep}
use Rattle.rrv_model.specs.Recording.{ItemsFollow, Starts, PartFits, base_after, row_after}

-- behind these items stand this base, this row of parts and this state: just what may follow there may follow them
abbrev pub StandsBehind : List Item → State → List Part → State → Type 0
StandsBehind items base row s = (rest : List Item) → Starts (items ++ rest) ↔ ItemsFollow base row s rest

-- an item leads on from a base, a row and a state to the next ones
abbrev pub Leads : Item → State → List Part → State → State → List Part → State → Type 0
Leads (items.Opening o) base row s base' row' s' = ⊥
Leads (items.Frame f) base row s base' row' s' = FrameStep s f s' × (base' ≡ base) × (row' ≡ [])
Leads (items.Part p) base row s base' row' s' =
    PartFits p.rest base (row ++ p ∷ []) s × (base' ≡ base_after p.rest base s)
    × (row' ≡ row_after p.rest (row ++ p ∷ [])) × (s' ≡ s)
