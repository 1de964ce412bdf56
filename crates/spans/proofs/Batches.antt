-- Records that are read in a row.
use Rattle.std.proofs.Common.{◌≡◌, ℕ, ◌+◌, ◌<◌, List, [], ◌∷◌, ◌++◌, length, take, sym, ◌∙◌, ap, arith, append_assoc, length-append, Some, get_or, subst}
use Rattle.std.specs.Prelude.{slice_get}
use Rattle.rrv_model.specs.declared.record.Record.{Record}
use Rattle.replayer.specs.Asked.{Sourcing}
use Rattle.replayer.proofs.Steps.{take_next}
use Rattle.spans.specs.Reading.{AreNext, Reads}
use Rattle.spans.proofs.Along.{take_more}
use Rattle.spans.proofs.Told.{SameSource}

next_more : (records : List Record) (from i : ℕ) (batch : List Record) (r : Record) → AreNext records from batch → from + length batch ≡ i →
    slice_get records i ≡ Some r → AreNext records from (batch ++ r ∷ [])
next_more records from i batch r are count there =
    let more : from + length (batch ++ r ∷ []) ≡ i + 1 = omega (arith, length-append batch (r ∷ []), count) in
    let before : take i records ≡ take from records ++ batch = ap (λ n. take n records) (sym count) ∙ are in
    ap (λ n. take n records) more ∙ take_next records i r there ∙ ap (λ (rs : List Record). rs ++ r ∷ []) before
    ∙ append_assoc (take from records) batch (r ∷ [])

-- the first of a batch
pub one_item : (old new : List Record) (r : Record) → new ≡ old ++ r ∷ [] → old ≡ [] → new ≡ r ∷ []
one_item old new r pushed none = pushed ∙ ap (λ (rs : List Record). rs ++ r ∷ []) none

pub one_item_more : (old new : List Record) (r : Record) (from i : ℕ) → new ≡ old ++ r ∷ [] → from + length old ≡ i →
    from + length new ≡ i + 1
one_item_more old new r from i pushed count =
    omega (arith, count, ap (λ (rs : List Record). length rs) pushed, length-append old (r ∷ []))

pub reads_first : {S : Type 0} (source : Sourcing S) (from : ℕ) (r : Record) (at : S) → from < length (source.records at) →
    (source.honest at → slice_get (source.records at) from ≡ Some r) → Reads source from (r ∷ []) at
reads_first source from r at below there = record {
  are = λ h. take_next (source.records at) from r (there h);
  within = omega (arith, below);
  some = omega arith;
}

pub reads_next : {S : Type 0} (source : Sourcing S) (from i : ℕ) (batch : List Record) (r : Record) (at : S) → Reads source from batch at →
    from + length batch ≡ i → i < length (source.records at) → (source.honest at → slice_get (source.records at) i ≡ Some r) →
    Reads source from (batch ++ r ∷ []) at
reads_next source from i batch r at reads count below there = record {
  are = λ h. next_more (source.records at) from i batch r (reads.are h) count (there h);
  within = omega (arith, length-append batch (r ∷ []), count, below);
  some = omega (arith, length-append batch (r ∷ []));
}

-- what was read before a batch, and the batch
pub read_on : (records read batch : List Record) (next : ℕ) → read ≡ take next records → AreNext records next batch →
    read ++ batch ≡ take (next + length batch) records
read_on records read batch next is are = ap (λ (rs : List Record). rs ++ batch) is ∙ sym are

-- what was read before some records, some of them, and the next
pub more_read : (P : List Record → Type 0) (read records : List Record) (i : ℕ) (r : Record) → i < length records → r ≡ get_or records i r →
    P ((read ++ take i records) ++ r ∷ []) → P (read ++ take (i + 1) records)
more_read P read records i r below there h =
    subst P (append_assoc read (take i records) (r ∷ []) ∙ ap (λ (rs : List Record). read ++ rs) (sym (take_more records i r below there)))
    h

-- a batch of a source that stands for the same records still
pub next_of : {S : Type 0} (source : Sourcing S) (old new : S) (from : ℕ) (items batch : List Record) → batch ≡ items →
    SameSource source old new → Reads source from items new → source.honest old → AreNext (source.records old) from batch
next_of source old new from items batch is same reads h =
    let there = reads.are (same.honest.1 h) in
    subst (λ (rs : List Record). AreNext rs from batch) same.records
    (subst (λ (rs : List Record). AreNext (source.records new) from rs) (sym is) there)
