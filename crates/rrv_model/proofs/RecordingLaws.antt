-- A beginning of a recording is a recording.
use Rattle.std.proofs.Common.{◌≡◌, ℕ, zero, suc, ◌+◌, List, [], ◌∷◌, ◌++◌, take, ap, subst, refl}
use Rattle.rrv_model.specs.declared.record.Part.{Part}
use Rattle.rrv_model.specs.declared.record.Item.{Item}
use Rattle.rrv_model.specs.declared.record.Item.TheVariants as items
use Rattle.rrv_model.specs.declared.record.Record.{Record}
use Rattle.rrv_model.specs.State.{State}
use Rattle.rrv_model.specs.Recording.{IsNumbered, ItemsFollow, Starts, BeginningsAreRecordings, items_of, base_after, row_after}

numbered-take : (guest index k : ℕ) (records : List Record) → IsNumbered guest index records → IsNumbered guest index (take k records)
numbered-take guest index zero records h = tt
numbered-take guest index (suc k) [] h = tt
numbered-take guest index (suc k) (r ∷ records) h = (h.0, h.1, numbered-take guest (index + 1) k records h.2)

items_follow-take : (base : State) (parts : List Part) (s : State) (k : ℕ) (rest : List Item) → ItemsFollow base parts s rest →
    ItemsFollow base parts s (take k rest)
items_follow-take base parts s zero rest h = tt
items_follow-take base parts s (suc k) [] h = tt
items_follow-take base parts s (suc k) (items.Opening o ∷ rest) h = h
items_follow-take base parts s (suc k) (items.Frame f ∷ rest) h = (h.0, h.1, items_follow-take base [] h.0 k rest h.2)
items_follow-take base parts s (suc k) (items.Part p ∷ rest) h =
    (h.0, items_follow-take (base_after p.rest base s) (row_after p.rest (parts ++ p ∷ [])) s k rest h.1)

starts-take : (k : ℕ) (rest : List Item) → Starts rest → Starts (take (suc k) rest)
starts-take k [] h = h
starts-take k (items.Opening o ∷ rest) h = (h.0, h.1, items_follow-take h.0 [] h.0 k rest h.2)
starts-take k (items.Frame f ∷ rest) h = h
starts-take k (items.Part p ∷ rest) h = h

items-take : (k : ℕ) (records : List Record) → take k (items_of records) ≡ items_of (take k records)
items-take zero records = refl
items-take (suc k) [] = refl
items-take (suc k) (r ∷ records) = ap (λ rest. r.item ∷ rest) (items-take k records)

pub beginnings_are_recordings : BeginningsAreRecordings
beginnings_are_recordings records k h = record {
  guest = h.guest;
  numbered = numbered-take h.guest 0 (suc k) records h.numbered;
  starts = subst Starts (items-take (suc k) records) (starts-take k (items_of records) h.starts);
}
