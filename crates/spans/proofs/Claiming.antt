-- What checkpoints claim.
use Rattle.std.proofs.Common.{◌≡◌, ℕ, suc, ◌+◌, ◌<◌, List, [], ◌∷◌, ◌++◌, length, take, drop, get_or, refl, sym, ◌∙◌, ap, subst, arith, Some, None, Option}
use Rattle.std.specs.Prelude.{Err, IsErrOf, IsSome}
use Rattle.std.proofs.lemmas.List.{length-take-le}
use Rattle.rrv_model.specs.declared.record.CheckpointRest.{CheckpointRest}
use Rattle.rrv_model.specs.declared.record.Item.{Item}
use Rattle.rrv_model.specs.declared.record.Item.TheVariants as items
use Rattle.rrv_model.specs.declared.record.Part.{Part}
use Rattle.rrv_model.specs.declared.record.Record.{Record}
use Rattle.rrv_model.specs.State.{State}
use Rattle.rrv_model.specs.Recording.{base_after}
use Rattle.rrv_model.specs.Standing.{Leads}
use Rattle.replayer.specs.Claims.{ClaimValue, claimed_by}
use Rattle.faults.specs.declared.replay.ClaimFault.{ClaimFault}
use Rattle.replayer.specs.Keepers.{ComesNext, MayCome}
use Rattle.replayer.specs.Refusals.{IsLastPart}
use Rattle.replayer.specs.Standings.{Continues, Fits, Standing}
use Rattle.spans.specs.Spans.{EndsCheckpoint, IsCut, LeadAlong}
use Rattle.spans.proofs.Along.{along_split, parts_at, take_more}

-- behind the last part of a checkpoint the base is the state
base_is_state : (rest : Option CheckpointRest) (base s : State) → IsSome rest → base_after rest base s ≡ s
base_is_state None base s h = absurd cc
base_is_state (Some r) base s h = refl

led_to_base : (it : Item) (base : State) (row : List Part) (s base' : State) (row' : List Part) (s' : State) → IsLastPart it →
    Leads it base row s base' row' s' → s' ≡ base'
led_to_base (items.Opening o) base row s base' row' s' last leads = absurd last
led_to_base (items.Frame f) base row s base' row' s' last leads = absurd last
led_to_base (items.Part p) base row s base' row' s' last leads =
    leads.3 ∙ sym (base_is_state p.rest base s last) ∙ sym leads.1

pub claim_is_state : (records : List Record) (x y : Standing) → EndsCheckpoint records → LeadAlong records x y → y.state ≡ y.base
claim_is_state [] x y ends h = absurd ends
claim_is_state (r ∷ []) x y ends h =
    let next = h.1.leads in
    let here = led_to_base r.item x.base x.row x.state h.0.base h.0.row h.0.state ends next.leads in
    subst (λ (s : Standing). s.state ≡ s.base) (sym h.2) here
claim_is_state (r ∷ q ∷ records) x y ends h = claim_is_state (q ∷ records) h.0 y ends h.2

standing_is : (y : Standing) (number len total last : ℕ) (base : State) (row : List Part) (state : State) → y.number ≡ number →
    y.len ≡ len → y.total ≡ total → y.last ≡ last → y.base ≡ base → y.row ≡ row → y.state ≡ state →
    record { number = number; len = len; total = total; last = last; base = base; row = row; state = state } ≡ y
standing_is y number len total last base row state e0 e1 e2 e3 e4 e5 e6 = rw (← e0, ← e1, ← e2, ← e3, ← e4, ← e5, ← e6) refl

-- a claim is the standing that it fits, where the state there is the checkpoint's
pub claim_is : (c : ClaimValue) (y : Standing) → Fits (claimed_by c) y → y.state ≡ y.base → claimed_by c ≡ y
claim_is c y fits here =
    standing_is y c.number c.len c.total c.last (claimed_by c).base c.row (claimed_by c).base fits.number fits.len fits.total fits.last
    fits.base fits.row (here ∙ fits.base)

-- where records can be cut off
ends_last : (before : List Record) (r : Record) → IsLastPart r.item → EndsCheckpoint (before ++ r ∷ [])
ends_last [] r last = last
ends_last (q ∷ []) r last = last
ends_last (q ∷ p ∷ before) r last = ends_last (p ∷ before) r last

pub ends_at : (records : List Record) (i : ℕ) (r : Record) → i < length records → r ≡ get_or records i r → IsLastPart r.item →
    EndsCheckpoint (take (i + 1) records)
ends_at records i r below there last = subst EndsCheckpoint (sym (take_more records i r below there)) (ends_last (take i records) r last)

pub is_cut : (records : List Record) (place i : ℕ) (r : Record) → i + 1 ≡ place → place < length records → r ≡ get_or records i r →
    IsLastPart r.item → IsCut records place
is_cut records place i r next below there last = record {
  within = below;
  checkpoint = subst (λ n. EndsCheckpoint (take n records)) next (ends_at records i r (omega arith) there last);
}

-- ---- the next record

pub fits_next : (records : List Record) (i : ℕ) (r : Record) (old claim claim' : Standing) → i < length records → r ≡ get_or records i r →
    ((x y : Standing) → Fits old x → LeadAlong (take i records) x y → Fits claim y) →
    ((x y : Standing) → Fits claim x → Continues r x y → Fits claim' y) →
    (x y : Standing) → Fits old x → LeadAlong (take (i + 1) records) x y → Fits claim' y
fits_next records i r old claim claim' below there before next x y fits h =
    let parts =
    along_split (take i records) (r ∷ []) x y
    (subst (λ (rs : List Record). LeadAlong rs x y) (take_more records i r below there) h) in
    let last = parts.2 in
    subst (λ (s : Standing). Fits claim' s) (sym last.2) (next parts.0 last.0 (before x parts.0 fits parts.1) last.1)

pub none_next : (records : List Record) (i : ℕ) (r : Record) (old claim : Standing) → i < length records → r ≡ get_or records i r →
    ((x y : Standing) → Fits old x → LeadAlong (take i records) x y → Fits claim y) →
    ((x y : Standing) → Fits claim x → Continues r x y → ⊥) →
    (x y : Standing) → Fits old x → LeadAlong records x y → ⊥
none_next records i r old claim below there before none x y fits h =
    let parts = along_split (take i records) (r ∷ drop (suc i) records) x y
    (subst (λ (rs : List Record). LeadAlong rs x y) (parts_at records i r below there) h) in
    none parts.0 parts.2.0 (before x parts.0 fits parts.1) parts.2.1

-- a refusal is the same whatever was wanted
pub same_refusal : {X Y : Type 0} (e fault : ClaimFault) → IsErrOf {T = X} (Err e) fault → IsErrOf {T = Y} (Err e) fault
same_refusal e fault h =
    let same : e ≡ fault = cc in
    ap (λ (f : ClaimFault). Err f) same

-- ---- what is kept

along_len : (records : List Record) (x y : Standing) → LeadAlong records x y → y.len ≡ x.len + length records
along_len [] x y h = subst (λ (s : Standing). s.len ≡ x.len + 0) (sym h) (omega arith)
along_len (r ∷ records) x y h = omega (arith, along_len records h.0 y h.2, h.1.len)

may_come : (it : Item) (base : State) (row : List Part) (s base' : State) (row' : List Part) (s' : State) →
    Leads it base row s base' row' s' → MayCome it
may_come (items.Opening o) base row s base' row' s' leads = leads
may_come (items.Frame f) base row s base' row' s' leads = leads.0.limit
may_come (items.Part p) base row s base' row' s' leads = tt

-- a record of those that lead on may come next
pub comes_at : (records : List Record) (i len : ℕ) (r : Record) (x y : Standing) → i < length records → r ≡ get_or records i r →
    LeadAlong records x y → len ≡ x.len + i → ComesNext len r
comes_at records i len r x y below there h len_is =
    let parts = along_split (take i records) (r ∷ drop (suc i) records) x y
    (subst (λ (rs : List Record). LeadAlong rs x y) (parts_at records i r below there) h) in
    let mid = parts.0 in
    let next = parts.2.0 in
    let leads = parts.2.1.leads in
    let before = along_len (take i records) x mid parts.1 in
    record {
      index = omega (arith, leads.index_is, before, len_is, length-take-le i records (omega arith));
      item = may_come r.item mid.base mid.row mid.state next.base next.row next.state leads.leads;
    }
