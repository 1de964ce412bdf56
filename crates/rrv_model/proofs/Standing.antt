-- What stands behind the items of a recording, with an item more or with the parts of a checkpoint.
use Rattle.std.proofs.Common.{◌≡◌, List, [], ◌∷◌, ◌++◌, map, refl, sym, ◌∙◌, ap, subst, None}
use Rattle.std.proofs.lemmas.List.{append-nil, append_assoc}
use Rattle.rrv_model.specs.declared.record.CheckpointRest.{CheckpointRest}
use Rattle.rrv_model.specs.declared.record.Opening.{Opening}
use Rattle.rrv_model.specs.declared.record.Part.{Part}
use Rattle.rrv_model.specs.declared.record.Item.{Item}
use Rattle.rrv_model.specs.declared.record.Item.TheVariants as items
use Rattle.rrv_model.specs.State.{State}
use Rattle.rrv_model.specs.Opening.{Opens}
use Rattle.rrv_model.specs.Checkpoint.{Describes, EndsWithRest}
use Rattle.rrv_model.specs.Recording.{ItemsFollow, Starts, PartFits, base_after, row_after}
use Rattle.rrv_model.specs.Standing.{Leads, StandsBehind}
use Rattle.rrv_model.proofs.FrameLaws.{one_state_after_frame}

-- the opening alone
pub opening_behind : (o : Opening) (s : State) → Opens o s → StandsBehind (items.Opening o ∷ []) s [] s
opening_behind o s opens = λ rest. (
  λ h.
      let same : h.0 ≡ s = h.1.state_is ∙ sym opens.state_is in
      subst (λ (m : State). ItemsFollow m [] m rest) same h.2,
  λ h. (s, opens, h),
)

-- what leads on is what follows
leads_back : (it : Item) (base : State) (row : List Part) (s base' : State) (row' : List Part) (s' : State) →
    Leads it base row s base' row' s' →
    (rest : List Item) → ItemsFollow base' row' s' rest → ItemsFollow base row s (it ∷ rest)
leads_back (items.Opening o) base row s base' row' s' leads rest h = absurd leads
leads_back (items.Frame f) base row s base' row' s' leads rest h = (
  s',
  leads.0,
  subst (λ (b : State). ItemsFollow b [] s' rest) leads.1 (subst (λ (ps : List Part). ItemsFollow base' ps s' rest) leads.2 h),
)
leads_back (items.Part p) base row s base' row' s' leads rest h =
    let one = subst (λ (b : State). ItemsFollow b row' s' rest) leads.1 h in
    let two = subst (λ (ps : List Part). ItemsFollow (base_after p.rest base s) ps s' rest) leads.2 one in
    (leads.0, subst (λ (m : State). ItemsFollow (base_after p.rest base s) (row_after p.rest (row ++ p ∷ [])) m rest) leads.3 two)

leads_on : (it : Item) (base : State) (row : List Part) (s base' : State) (row' : List Part) (s' : State) →
    Leads it base row s base' row' s' →
    (rest : List Item) → ItemsFollow base row s (it ∷ rest) → ItemsFollow base' row' s' rest
leads_on (items.Opening o) base row s base' row' s' leads rest h = absurd leads
leads_on (items.Frame f) base row s base' row' s' leads rest h =
    let same : h.0 ≡ s' = one_state_after_frame s f h.0 s' h.1 leads.0 in
    subst (λ (ps : List Part). ItemsFollow base' ps s' rest) (sym leads.2)
    (subst (λ (b : State). ItemsFollow b [] s' rest) (sym leads.1) (subst (λ (m : State). ItemsFollow base [] m rest) same h.2))
leads_on (items.Part p) base row s base' row' s' leads rest h =
    let three = subst (λ (m : State). ItemsFollow (base_after p.rest base s) (row_after p.rest (row ++ p ∷ [])) m rest) (sym leads.3) h.1 in
    let two = subst (λ (ps : List Part). ItemsFollow (base_after p.rest base s) ps s' rest) (sym leads.2) three in
    subst (λ (b : State). ItemsFollow b row' s' rest) (sym leads.1) two

-- an item that leads on
pub next_behind : (before : List Item) (it : Item) (base : State) (row : List Part) (s base' : State) (row' : List Part) (s' : State) →
    StandsBehind before base row s → Leads it base row s base' row' s' →
    StandsBehind (before ++ it ∷ []) base' row' s'
next_behind before it base row s base' row' s' h leads = λ rest.
    let same : (before ++ it ∷ []) ++ rest ≡ before ++ it ∷ rest = append_assoc before (it ∷ []) rest in (
      λ starts. leads_on it base row s base' row' s' leads rest ((h (it ∷ rest)).0 (subst Starts same starts)),
      λ follows. subst Starts (sym same) ((h (it ∷ rest)).1 (leads_back it base row s base' row' s' leads rest follows)),
    )

-- where something stands behind the items, they start a recording
pub starts_behind : (before : List Item) (base : State) (row : List Part) (s : State) → StandsBehind before base row s → Starts before
starts_behind before base row s h = subst Starts (append-nil before) ((h []).1 tt)

part_fits_none : (p : Part) (base : State) (row : List Part) (s : State) → p.rest ≡ None → PartFits p.rest base row s
part_fits_none p base row s none = subst (λ r. PartFits r base row s) (sym none) tt

-- the parts of a checkpoint: behind the last of them the base is the state
pub parts_behind : (before : List Item) (base : State) (row parts : List Part) (s : State) (rest : CheckpointRest) →
    EndsWithRest parts rest → Describes base (row ++ parts) s → StandsBehind before base row s →
    StandsBehind (before ++ map items.Part parts) s [] s
parts_behind before base row [] s rest ends describes h = absurd ends
parts_behind before base row (p ∷ []) s rest ends describes h =
    next_behind before (items.Part p) base row s s [] s h (
      subst (λ r. PartFits r base (row ++ p ∷ []) s) (sym ends) describes,
      ap (λ r. base_after r base s) (sym ends),
      ap (λ r. row_after r (row ++ p ∷ [])) (sym ends),
      refl,
    )
parts_behind before base row (p ∷ q ∷ parts) s rest ends describes h =
    let one : StandsBehind (before ++ items.Part p ∷ []) base (row ++ p ∷ []) s =
    next_behind before (items.Part p) base row s base (row ++ p ∷ []) s h (
      part_fits_none p base (row ++ p ∷ []) s ends.0,
      ap (λ r. base_after r base s) (sym ends.0),
      ap (λ r. row_after r (row ++ p ∷ [])) (sym ends.0),
      refl,
    ) in
    let longer : Describes base ((row ++ p ∷ []) ++ q ∷ parts) s =
    subst (λ (ps : List Part). Describes base ps s) (sym (append_assoc row (p ∷ []) (q ∷ parts))) describes in
    subst (λ (is : List Item). StandsBehind is s [] s) (append_assoc before (items.Part p ∷ []) (map items.Part (q ∷ parts)))
    (parts_behind (before ++ items.Part p ∷ []) base (row ++ p ∷ []) (q ∷ parts) s rest ends.1 longer one)
