-- How a replay goes from record to record.
use Rattle.std.proofs.Common.{◌≡◌, ℕ, suc, ◌+◌, ◌<◌, ◌≤◌, List, [], ◌∷◌, ◌++◌, length, take, get_or, refl, sym, ◌∙◌, ap, subst, arith, Some, None, zero}
use Rattle.std.specs.Prelude.{slice_get}
use Rattle.std.proofs.Math.Seq.{take-suc}
use Rattle.std.proofs.lemmas.List.{length-take-le, take_all}
use Rattle.std.specs.Prelude.{IsSomeAnd}
use Rattle.rrv_model.specs.declared.record.Item.{Item}
use Rattle.rrv_model.specs.declared.record.Item.TheVariants as items
use Rattle.rrv_model.specs.declared.record.Opening.{Opening}
use Rattle.rrv_model.specs.declared.record.Part.{Part}
use Rattle.rrv_model.specs.declared.record.Record.{Record}
use Rattle.rrv_model.specs.State.{State}
use Rattle.rrv_model.specs.Opening.{Opens}
use Rattle.rrv_model.specs.Recording.{EndsIn, IsNumbered, IsRecording, Starts, items_of}
use Rattle.elf_load.proofs.Accepted.{accepted, file_limit}
use Rattle.rrv_model.proofs.RecordingLaws.{beginnings_are_recordings}
use Rattle.rrv_model.proofs.RunLaws.{items-append, numbered-append}
use Rattle.faults.specs.declared.replay.VerifyFault.{VerifyFault}
use Rattle.faults.specs.declared.replay.VerifyFault.TheVariants as faults
use Rattle.rrv_model.specs.Standing.{StandsBehind}
use Rattle.rrv_model.proofs.Standing.{next_behind, opening_behind, starts_behind}
use Rattle.replayer.specs.Walks.{LeadsOn, Stands}
use Rattle.guest_calls.specs.Openings.{RefusesOpening}
use Rattle.guest_calls.specs.declared.fault.OpeningFault.{OpeningFault}
use Rattle.guest_calls.specs.declared.fault.OpeningFault.TheVariants as opening_faults
use Rattle.replayer.specs.Refusals.{opening_told, EndsCheckpointAt, Fails, IsLastPart, RefusesFirst, RefusesNext, RefusesVerify, StopsAt, TakesMemory}

one_more : (n : ℕ) → n + 1 ≡ suc n
one_more n = omega arith

-- ---- walks

-- the opening alone
pub stands_first : (r : Record) (o : Opening) (base s : State) → r.index ≡ 0 → r.item ≡ items.Opening o → Opens o base → Opens o s →
    Stands r.guest (r ∷ []) base [] s
stands_first r o base s index_is item_is opens_base opens =
    let e : s ≡ base = opens.state_is ∙ sym opens_base.state_is in
    let behind : StandsBehind (items.Opening o ∷ []) base [] s =
    subst (λ (b : State). StandsBehind (items.Opening o ∷ []) b [] s) e (opening_behind o s opens) in
    record {
      numbered = (refl, index_is, tt);
      behind = subst (λ (it : Item). StandsBehind (it ∷ []) base [] s) (sym item_is) behind;
    }

-- the opening alone ends in the state that it opens
pub ends_first : (it : Item) (o : Opening) (s : State) → it ≡ items.Opening o → Opens o s → EndsIn (it ∷ []) s
ends_first it o s is opens = subst (λ (i : Item). EndsIn (i ∷ []) s) (sym is) (s, opens, (refl, refl))

pub stands_next : (guest : ℕ) (records : List Record) (r : Record) (base : State) (row : List Part) (s base' : State) (row' : List Part)
    (s' : State) →
    Stands guest records base row s → LeadsOn guest (length records) r base row s base' row' s' →
    Stands guest (records ++ r ∷ []) base' row' s'
stands_next guest records r base row s base' row' s' h next = record {
  numbered = numbered-append guest 0 records r h.numbered next.guest_is (omega (arith, next.index_is));
  behind = subst (λ (is : List Item). StandsBehind is base' row' s') (sym (items-append records r))
      (next_behind (items_of records) r.item base row s base' row' s' h.behind next.leads);
}

-- where records stand they are a recording
pub recording_of : (guest : ℕ) (records : List Record) (base : State) (row : List Part) (s : State) → Stands guest records base row s →
    IsRecording records
recording_of guest records base row s h = record {
  guest = guest;
  numbered = h.numbered;
  starts = starts_behind (items_of records) base row s h.behind;
}

pub recording_of_all : (guest : ℕ) (records : List Record) (index : ℕ) (base : State) (row : List Part) (s : State) →
    length records ≤ index →
    Stands guest (take index records) base row s → IsRecording records
recording_of_all guest records index base row s long h =
    subst IsRecording (take_all index records long) (recording_of guest (take index records) base row s h)

-- ---- refusals

numbered_end : (guest index : ℕ) (records : List Record) (r : Record) → IsNumbered guest index (records ++ r ∷ []) → (r.guest ≡ guest) ×
    (r.index ≡ index + length records)
numbered_end guest index [] r h = (h.0, omega (arith, h.1))
numbered_end guest index (q ∷ records) r h =
    let behind = numbered_end guest (index + 1) records r h.2 in
    (behind.0, omega (arith, behind.1))

one_guest : (guest other : ℕ) (records : List Record) (r : Record) → IsRecording records → IsNumbered guest 0 records →
    IsNumbered other 0 (records ++ r ∷ []) → other ≡ guest
one_guest guest other [] r recording h k = absurd recording.starts
one_guest guest other (q ∷ records) r recording h k = sym k.0 ∙ h.0

found : (P : Record → Type 0) (records : List Record) (index : ℕ) (r : Record) → index < length records → r ≡ get_or records index r → P r →
    IsSomeAnd (slice_get records index) P
found P [] index r below there h = absurd (omega arith)
found P (q ∷ records) zero r below there h = subst P there h
found P (q ∷ records) (suc index) r below there h = found P records index r (omega arith) there h

lost : (P : Record → Type 0) (records : List Record) (index : ℕ) (r : Record) → index < length records → r ≡ get_or records index r →
    IsSomeAnd (slice_get records index) P → P r
lost P [] index r below there h = absurd (omega arith)
lost P (q ∷ records) zero r below there h = subst P (sym there) h
lost P (q ∷ records) (suc index) r below there h = lost P records index r (omega arith) there h

-- a record behind those that stand is this guest's, of this index, where all are numbered
fits_there : (guest other : ℕ) (records : List Record) (index : ℕ) (r : Record) (base : State) (row : List Part) (s : State) →
    index < length records → r ≡ get_or records index r →
    Stands guest (take index records) base row s → IsNumbered other 0 (take (index + 1) records) → (r.guest ≡ guest) × (r.index ≡ index)
fits_there guest other records index r base row s below there h numbered =
    let len : length (take index records) ≡ index = length-take-le index records (omega arith) in
    let longer : take (index + 1) records ≡ take index records ++ r ∷ [] =
    ap (λ n. take n records) (one_more index) ∙ take-suc records index r below ∙ ap (λ q. take index records ++ q ∷ []) (sym there) in
    let all = subst (λ (rs : List Record). IsNumbered other 0 rs) longer numbered in
    let same : other ≡ guest =
    one_guest guest other (take index records) r (recording_of guest (take index records) base row s h) h.numbered all in
    let at_end = numbered_end other 0 (take index records) r all in
    (at_end.0 ∙ same, omega (arith, at_end.1, len))

stops_at : (guest : ℕ) (records : List Record) (index : ℕ) (r : Record) (base : State) (row : List Part) (s : State) →
    index < length records → r ≡ get_or records index r →
    Stands guest (take index records) base row s → (r.guest ≡ guest → r.index ≡ index → Fails r.item base row s) → StopsAt index records
stops_at guest records index r base row s below there h fails = record {
  within = below;
  before = recording_of guest (take index records) base row s h;
  stops = λ more.
      let longer : take (index + 1) records ≡ take index records ++ r ∷ [] =
      ap (λ n. take n records) (one_more index) ∙ take-suc records index r below ∙ ap (λ q. take index records ++ q ∷ []) (sym there) in
      let fits = fits_there guest more.guest records index r base row s below there h more.numbered in
      let starts : Starts (items_of (take index records ++ r ∷ [])) =
      subst (λ (rs : List Record). Starts (items_of rs)) longer more.starts in
      let all : Starts (items_of (take index records) ++ r.item ∷ []) = subst Starts (items-append (take index records) r) starts in
      fails fits.0 fits.1 ((h.behind (r.item ∷ [])).0 all);
}

pub refused_at : (e : VerifyFault) (guest : ℕ) (records : List Record) (index : ℕ) (r : Record) (base : State) (row : List Part) (s : State)
    → index < length records → r ≡ get_or records index r →
    Stands guest (take index records) base row s → IsSomeAnd (slice_get records 0) TakesMemory → RefusesNext e guest index r base row s →
    RefusesVerify e records
refused_at (faults.Mismatch place) guest records index r base row s below there h opened refuses =
    subst (λ n. StopsAt n records × (EndsCheckpointAt n records → ⊥)) (sym refuses.0) (
      stops_at guest records index r base row s below there h (λ g i. (refuses.1 g i).1),
      λ ends.
          let fits = fits_there guest ends.guest records index r base row s below there h ends.numbered in
          (refuses.1 fits.0 fits.1).0 (lost (λ q. IsLastPart q.item) records index r below there ends.there),
    )
refused_at (faults.BadCheckpoint place) guest records index r base row s below there h opened refuses =
    let len : length (take index records) ≡ index = length-take-le index records (omega arith) in
    let longer : take (index + 1) records ≡ take index records ++ r ∷ [] =
    ap (λ n. take n records) (one_more index) ∙ take-suc records index r below ∙ ap (λ q. take index records ++ q ∷ []) (sym there) in
    subst (λ n. StopsAt n records × EndsCheckpointAt n records) (sym refuses.0) (
      stops_at guest records index r base row s below there h (λ g i. refuses.4),
      record {
        guest = guest;
        numbered = subst (λ (rs : List Record). IsNumbered guest 0 rs) (sym longer)
            (numbered-append guest 0 (take index records) r h.numbered refuses.1 (omega (arith, refuses.2, len)));
        there = found (λ q. IsLastPart q.item) records index r below there refuses.3;
      },
    )
refused_at faults.Memory guest records index r base row s below there h opened refuses = opened
refused_at faults.BadOpening guest records index r base row s below there h opened refuses = absurd refuses
refused_at (faults.Unreadable place) guest records index r base row s below there h opened refuses = absurd refuses

-- the first record
pub first_there : (P : Record → Type 0) (records : List Record) (first : Record) (rest : List Record) → records ≡ first ∷ rest → P first →
    IsSomeAnd (slice_get records 0) P
first_there P records first rest is h = subst (λ (rs : List Record). IsSomeAnd (slice_get rs 0) P) (sym is) h

pub refused_first : (e : VerifyFault) (records : List Record) (first : Record) (rest : List Record) → records ≡ first ∷ rest →
    RefusesFirst e first → RefusesVerify e records
refused_first faults.BadOpening records first rest is refuses = λ h. refuses (subst (λ (rs : List Record). IsRecording (take 1 rs)) is h)
refused_first faults.Memory records first rest is refuses = first_there TakesMemory records first rest is refuses
refused_first (faults.Mismatch index) records first rest is refuses = absurd refuses
refused_first (faults.BadCheckpoint index) records first rest is refuses = absurd refuses
refused_first (faults.Unreadable index) records first rest is refuses = absurd refuses

pub refused_opening : (e : OpeningFault) (r : Record) (o : Opening) → r.index ≡ 0 → r.item ≡ items.Opening o → RefusesOpening e o →
    RefusesFirst (opening_told e) r
refused_opening opening_faults.BadOpening r o zero_is is refuses = λ h. let starts : Starts (items.Opening o ∷ []) =
    subst (λ (it : Item). Starts (it ∷ [])) is h.starts in refuses starts.0 starts.1
refused_opening opening_faults.Memory r o zero_is is refuses = (zero_is, (o, is, refuses))

-- what opened took memory
pub opened : (r : Record) (o : Opening) (s : State) → r.index ≡ 0 → r.item ≡ items.Opening o → Opens o s → TakesMemory r
opened r o s zero_is is opens = (
  zero_is,
  (
    o,
    is,
    (
      opens.is_name,
      (λ n low some. let bad : None ≡ Some n = sym opens.accepted ∙ some in cc),
      file_limit o.elf (accepted o.elf opens.accepted),
    ),
  ),
)

-- ---- of a recording

-- a recording is refused for want of memory alone
pub refuses_recording : (e : VerifyFault) (records : List Record) → IsRecording records → RefusesVerify e records → e ≡ faults.Memory
refuses_recording faults.Memory records recording refuses = refl
refuses_recording faults.BadOpening records recording refuses = absurd (refuses (beginnings_are_recordings records 0 recording))
refuses_recording (faults.Mismatch index) records recording refuses =
    absurd (refuses.0.stops
    (subst (λ n. IsRecording (take n records)) (sym (one_more index)) (beginnings_are_recordings records index recording)))
refuses_recording (faults.BadCheckpoint index) records recording refuses =
    absurd (refuses.0.stops
    (subst (λ n. IsRecording (take n records)) (sym (one_more index)) (beginnings_are_recordings records index recording)))
refuses_recording (faults.Unreadable index) records recording refuses = absurd refuses
