-- What the end of a group reports.
use Rattle.std.specs.Prelude.{◌≡◌, ◌≢◌, ℕ, ◌+◌, ◌≤◌, true, List, ◌++◌, length, take, slice_index}
use Rattle.rrv_model.specs.declared.record.Record.{Record}
use Rattle.rrv_model.specs.Recovered.{of_guest}
use Rattle.commit_group.specs.declared.words.FlusherView.{FlusherView}
use Rattle.commit_group.specs.Numbers.{base, renumbered}
use Rattle.commit_group.specs.Seats.{RecorderValue, FlusherValue, committed_of}

-- Once a recorder's seat was taken in: what it sent begins with what was received of it; it saw no more than was told,
-- and a halt only where there was one; and a leave word that the flusher loaded says how much it sent.
pub record HasJoined (received : List Record) (t : FlusherView) (r : RecorderValue) : Type 0 where
  pub sent : (rest : List Record) × (r.sent ≡ of_guest r.guest received ++ of_guest r.guest rest)
  pub seen : r.seen ≤ slice_index t.told r.guest
  pub halt : r.knows_halt ≡ true → t.halted ≡ true
  pub total : slice_index t.totals r.guest ≢ 0
      → (r.has_left ≡ true) × (slice_index t.totals r.guest ≡ length r.sent + 1)

-- and these are how much it sent and how much it saw
pub record IsTakenIn (received : List Record) (t : FlusherView) (sent seen : ℕ) (r : RecorderValue) : Type 0 where
  pub sent_is : sent ≡ length r.sent
  pub seen_is : seen ≡ r.seen
  pub joined : HasJoined received t r

-- What is reported of one seat: the counts that it and the flusher held. The committed records are the first of those
-- sent, also with those behind them that wait, and what was seen is committed.
pub record HasEnded (f : FlusherValue) (sent committed seen : ℕ) (r : RecorderValue) : Type 0 where
  pub sent_is : sent ≡ length r.sent
  pub committed_is : committed ≡ committed_of f r.guest
  pub seen_is : seen ≡ r.seen
  pub beginning : of_guest (base f.first_guest + r.guest) f.committed
      ≡ renumbered (base f.first_guest) (take committed r.sent)
  pub received : let all = of_guest (base f.first_guest + r.guest) (f.committed ++ f.waiting) in
      all ≡ renumbered (base f.first_guest) (take (length all) r.sent)
  pub committed_of_sent : committed ≤ sent
  pub seen_of_committed : seen ≤ committed
  pub total : slice_index f.totals r.guest ≢ 0
      → (r.has_left ≡ true) × (slice_index f.totals r.guest ≡ length r.sent + 1)
  pub halted : r.knows_halt ≡ true → f.halted ≡ true
