-- What the parts of a checkpoint do to what a recorder made.
use Rattle.std.proofs.Common.{◌≡◌, ℕ, ◌+◌, ◌≤◌, List, [], ◌∷◌, ◌++◌, length, map, refl, sym, ap, ◌∙◌, subst, arith, length-append}
use Rattle.std.specs.List.{AllByRecursion}
use Rattle.std.proofs.lemmas.List.{length-map, map-append}
use Rattle.rrv_model.specs.declared.limits.TheConstants.{MAX_NUMBER}
use Rattle.rrv_model.specs.declared.record.Frame.{Frame}
use Rattle.rrv_model.specs.declared.record.Item.{Item}
use Rattle.rrv_model.specs.declared.record.Item.TheVariants as items
use Rattle.rrv_model.specs.declared.record.Part.{Part}
use Rattle.rrv_model.specs.declared.record.Record.{Record}
use Rattle.rrv_model.specs.Checkpoint.{Describes}
use Rattle.rrv_model.specs.Output.{Chunk, Output}
use Rattle.rrv_model.specs.RecordText.{HasPartText, HasText}
use Rattle.rrv_model.specs.Recording.{EndsIn, IsNumbered, IsRecording, frames_of, items_of}
use Rattle.rrv_model.specs.Recovered.{OpensAtZero}
use Rattle.rrv_model.specs.Standing.{StandsBehind}
use Rattle.rrv_model.specs.State.{State}
use Rattle.rrv_model.specs.StateAt.{StateAt, total}
use Rattle.std.proofs.Math.Seq.{take-append_seam}
use Rattle.outcomes.proofs.Lists.{AllByRecursion-append, AllByRecursion-front}
use Rattle.rrv_model.proofs.RecordingLaws.{beginnings_are_recordings}
use Rattle.rrv_model.proofs.RecoveredLaws.{numbered_front}
use Rattle.rrv_model.proofs.Standing.{parts_behind, starts_behind}
use Rattle.commit_core.specs.Runs.{ItemsPut}
use Rattle.recorder.specs.Recorded.{IsRecorded}
use Rattle.recorder.specs.Recorders.{records_from}

-- ---- records of items

pub from_both : (place index : ℕ) (a b : List Item) →
    records_from place index (a ++ b) ≡ records_from place index a ++ records_from place (index + length a) b
from_both place index [] b = ap (λ (n : ℕ). records_from place n b) (omega arith)
from_both place index (x ∷ a) b =
    let r : Record = record { guest = place; index = index; item = x } in
    ap (λ (l : List Record). r ∷ l)
    (from_both place (index + 1) a b ∙ ap (λ (n : ℕ). records_from place (index + 1) a ++ records_from place n b) (omega arith))

items_from : (place index : ℕ) (its : List Item) → items_of (records_from place index its) ≡ its
items_from place index [] = refl
items_from place index (x ∷ its) = ap (λ (l : List Item). x ∷ l) (items_from place (index + 1) its)

pub items_both : (records : List Record) (place index : ℕ) (its : List Item) →
    items_of (records ++ records_from place index its) ≡ items_of records ++ its
items_both records place index its =
    map-append (λ (r : Record). r.item) records (records_from place index its)
    ∙ ap (λ (l : List Item). items_of records ++ l) (items_from place index its)

numbered_from : (place index : ℕ) (its : List Item) → IsNumbered place index (records_from place index its)
numbered_from place index [] = tt
numbered_from place index (x ∷ its) = (refl, refl, numbered_from place (index + 1) its)

numbered_both : (guest index : ℕ) (a b : List Record) → IsNumbered guest index a → IsNumbered guest (index + length a) b →
    IsNumbered guest index (a ++ b)
numbered_both guest index [] b h k = subst (λ (n : ℕ). IsNumbered guest n b) (omega arith) k
numbered_both guest index (r ∷ a) b h k =
    (h.0, h.1, numbered_both guest (index + 1) a b h.2 (subst (λ (n : ℕ). IsNumbered guest n b) (omega arith) k))

-- ---- parts leave frames, ends and output

frames_behind : (rest : List Item) (parts : List Part) → frames_of (rest ++ map items.Part parts) ≡ frames_of rest
frames_behind [] [] = refl
frames_behind [] (p ∷ parts) = frames_behind [] parts
frames_behind (items.Opening o ∷ rest) parts = frames_behind rest parts
frames_behind (items.Frame f ∷ rest) parts = ap (λ (l : List Frame). f ∷ l) (frames_behind rest parts)
frames_behind (items.Part p ∷ rest) parts = frames_behind rest parts

ends_behind : (its : List Item) (parts : List Part) (s : State) → EndsIn its s → EndsIn (its ++ map items.Part parts) s
ends_behind [] parts s h = absurd h
ends_behind (items.Opening o ∷ rest) parts s h = subst (λ (fs : List Frame). StateAt o fs (total fs) s) (sym (frames_behind rest parts)) h
ends_behind (items.Frame f ∷ rest) parts s h = absurd h
ends_behind (items.Part p ∷ rest) parts s h = absurd h

pub ends_before : (its : List Item) (parts : List Part) (s : State) → 1 ≤ length its → EndsIn (its ++ map items.Part parts) s → EndsIn its s
ends_before [] parts s some h = absurd (omega arith)
ends_before (items.Opening o ∷ rest) parts s some h = subst (λ (fs : List Frame). StateAt o fs (total fs) s) (frames_behind rest parts) h
ends_before (items.Frame f ∷ rest) parts s some h = absurd h
ends_before (items.Part p ∷ rest) parts s some h = absurd h

pub put_behind : (its : List Item) (parts : List Part) (chunks : List Chunk) → 1 ≤ length its → ItemsPut its chunks →
    ItemsPut (its ++ map items.Part parts) chunks
put_behind [] parts chunks some h = absurd (omega arith)
put_behind (items.Opening o ∷ rest) parts chunks some h = subst (λ (fs : List Frame). Output o fs chunks) (sym (frames_behind rest parts)) h
put_behind (items.Frame f ∷ rest) parts chunks some h = absurd h
put_behind (items.Part p ∷ rest) parts chunks some h = absurd h

-- ---- what holds of each record of a part

texts_from : (place index : ℕ) (parts : List Part) → place ≤ MAX_NUMBER → index + length parts ≤ MAX_NUMBER + 1 →
    AllByRecursion HasPartText parts
    → AllByRecursion HasText (records_from place index (map items.Part parts))
texts_from place index [] low few texts = tt
texts_from place index (p ∷ parts) low few texts =
    (record { guest = low; index = omega arith; item = texts.0 }, texts_from place (index + 1) parts low (omega arith) texts.1)

pub opens_from : (place index : ℕ) (parts : List Part) → 1 ≤ index →
    AllByRecursion OpensAtZero (records_from place index (map items.Part parts))
opens_from place index [] some = tt
opens_from place index (p ∷ parts) some = (((λ e. absurd (omega arith)), (λ e. absurd e)), opens_from place (index + 1) parts (omega arith))

-- ---- a recording with the parts of a checkpoint behind it

pub record Parted (place : ℕ) (records : List Record) (parts : List Part) (s : State) : Type 0 where
  pub recorded : IsRecorded place (records ++ records_from place (length records) (map items.Part parts)) s
  pub behind : StandsBehind (items_of (records ++ records_from place (length records) (map items.Part parts))) s [] s

pub parted : (place : ℕ) (records : List Record) (parts : List Part) (base s : State) → place ≤ MAX_NUMBER →
    length records + length parts ≤ MAX_NUMBER + 1 → AllByRecursion HasPartText parts
    → IsRecorded place records s → StandsBehind (items_of records) base [] s → Describes base parts s → Parted place records parts s
parted place records parts base s low few texts h behind describes =
    let more = records_from place (length records) (map items.Part parts) in
    let its : items_of (records ++ more) ≡ items_of records ++ map items.Part parts =
    items_both records place (length records) (map items.Part parts) in
    let last : StandsBehind (items_of records ++ map items.Part parts) s [] s =
    parts_behind (items_of records) base [] parts s describes.describes.rest describes.describes.flagged describes behind in
    let behind' : StandsBehind (items_of (records ++ more)) s [] s = subst (λ (l : List Item). StandsBehind l s [] s) (sym its) last in
    let numbered : IsNumbered place 0 (records ++ more) =
    numbered_both place 0 records more h.numbered
    (subst (λ (n : ℕ). IsNumbered place n more) (omega arith) (numbered_from place (length records) (map items.Part parts))) in
    record {
      recorded = record {
        recording = record { guest = place; numbered = numbered; starts = starts_behind (items_of (records ++ more)) s [] s behind' };
        numbered = numbered;
        ends = subst (λ (l : List Item). EndsIn l s) (sym its) (ends_behind (items_of records) parts s h.ends);
        has_text = AllByRecursion-append HasText records more h.has_text (texts_from place (length records) parts low few texts);
      };
      behind = behind';
    }

-- ---- a recording without the parts behind it

pub some_pushed : (records : List Record) (r : Record) → 1 ≤ length (records ++ r ∷ [])
some_pushed records r = let n = length-append records (r ∷ []) in omega (arith, n)

front_recording : (records more : List Record) → 1 ≤ length records → IsRecording (records ++ more) → IsRecording records
front_recording [] more some h = absurd (omega arith)
front_recording (r ∷ records) more some h =
    subst IsRecording (ap (λ (l : List Record). r ∷ l) (take-append_seam records more))
    (beginnings_are_recordings (r ∷ (records ++ more)) (length records) h)

pub without_parts : (place : ℕ) (records : List Record) (guest index : ℕ) (parts : List Part) (s : State) → 1 ≤ length records →
    IsRecorded place (records ++ records_from guest index (map items.Part parts)) s
    → IsRecorded place records s
without_parts place records guest index parts s some h =
    let more = records_from guest index (map items.Part parts) in
    let count : length (items_of records) ≡ length records = length-map records (λ (r : Record). r.item) in
    record {
      recording = front_recording records more some h.recording;
      numbered = numbered_front place 0 records more h.numbered;
      ends = ends_before (items_of records) parts s (omega arith)
          (subst (λ (l : List Item). EndsIn l s) (items_both records guest index (map items.Part parts)) h.ends);
      has_text = AllByRecursion-front HasText records more h.has_text;
    }
