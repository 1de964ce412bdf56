-- Room for a session.
use Rattle.std.specs.Prelude.{◌≡◌, ℕ, ◌≤◌, [], length, vec_capacity, vec_items}
use Rattle.commit_group.specs.Seats.{AllNew, new_flusher_seat}
use Rattle.session.specs.declared.room.SessionRoom.{SessionRoom}

-- a new group of so many guests, and room for as many of each
pub record HasRoom {C O S : Type 0} (guests : ℕ) (r : SessionRoom C O S) : Type 0 where
  pub flusher : r.flusher ≡ new_flusher_seat r.flusher.group
  pub guests_are : r.flusher.group.guests ≡ guests
  pub count : length (vec_items r.seats) ≡ guests
  pub seats : AllNew r.flusher.group (vec_items r.seats)
  pub tasks : (vec_items r.tasks ≡ []) × (guests ≤ vec_capacity r.tasks)
  pub workers : (vec_items r.workers ≡ []) × (guests ≤ vec_capacity r.workers)
  pub done : (vec_items r.done ≡ []) × (guests ≤ vec_capacity r.done)
  pub seats_back : (vec_items r.seats_back ≡ []) × (guests ≤ vec_capacity r.seats_back)
  pub jobs_back : (vec_items r.jobs_back ≡ []) × (guests ≤ vec_capacity r.jobs_back)
  pub reports : (vec_items r.reports ≡ []) × (guests ≤ vec_capacity r.reports)
  pub states : (vec_items r.states ≡ []) × (guests ≤ vec_capacity r.states)
