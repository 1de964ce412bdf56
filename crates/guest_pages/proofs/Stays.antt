-- What a call leaves of a space.
use Rattle.std.proofs.Common.{◌≡◌, ◌∙◌, ℕ, Err, ap}
use Rattle.rrv_model.specs.Memory.{Memory}
use Rattle.page_tables.specs.Contents.{contents_of}
use Rattle.guest_pages.specs.Space.{SpaceValue, memory_of, snapshots_of, BecomesOrStays}
use Rattle.guest_pages.specs.Live.{Prepares}
use Rattle.guest_pages.proofs.Stores.{same_snapshots}

-- a call that was refused, where all is as before
pub stays : {T E : Type 0} (e : E) (m : Memory) (old new : SpaceValue) → new ≡ old → BecomesOrStays {T = T} (Err e) m old new
stays e m old new same = record { ok = tt; err = same; snapshots = ap (λ (s : SpaceValue). snapshots_of s) same }

pub prepares_none : {T E : Type 0} (e : E) (a count : ℕ) (old new : SpaceValue) → new ≡ old → Prepares {T = T} (Err e) a count old new
prepares_none e a count old new same = record {
  ready = tt;
  memory = ap (λ (s : SpaceValue). memory_of s) same;
  err = same;
  snapshots = ap (λ (s : SpaceValue). snapshots_of s) same;
  live = tt;
}

-- where what the tables keep stays, so do the snapshots
pub snapshots_stay : (tables new old : SpaceValue) → (contents_of new).kept ≡ (contents_of tables).kept → tables ≡ old →
    snapshots_of new ≡ snapshots_of old
snapshots_stay tables new old kept is = same_snapshots tables new kept ∙ ap (λ (s : SpaceValue). snapshots_of s) is
