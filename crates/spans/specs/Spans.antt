-- Records that lead a guest on, all in a row or in spans.
use Rattle.std.specs.Prelude.{◌≡◌, ℕ, ◌+◌, ◌<◌, List, [], ◌∷◌, ◌++◌, length, take, slice_index_or, Result, Ok, Err}
use Rattle.rrv_model.specs.declared.record.Record.{Record}
use Rattle.faults.specs.declared.replay.VerifyFault.{VerifyFault}
use Rattle.replayer.specs.Following.{FollowingValue, standing_of}
use Rattle.replayer.specs.Refusals.{IsLastPart, RefusesNext}
use Rattle.replayer.specs.Standings.{Continues, Standing}

-- the records lead from one standing to another, each from where the one before it led
abbrev pub LeadAlong : List Record → Standing → Standing → Type 0
LeadAlong [] x y = y ≡ x
LeadAlong (r ∷ records) x y = (mid : Standing) × Continues r x mid × LeadAlong records mid y

-- the first of the records that doesn't lead on, and why
pub record StopsAlong (fault : VerifyFault) (records : List Record) (x : Standing) : Type 0 where
  pub before : List Record
  pub entry : Record
  pub behind : List Record
  pub all : records ≡ before ++ entry ∷ behind
  pub at : Standing
  pub lead : LeadAlong before x at
  pub refuses : RefusesNext fault at.number at.len entry at.base at.row at.state

-- where a guest stands that followed the records, or why it didn't follow all
abbrev pub FollowsAlong : Result FollowingValue VerifyFault → List Record → Standing → Type 0
FollowsAlong (Ok following) records x = LeadAlong records x (standing_of following)
FollowsAlong (Err fault) records x = StopsAlong fault records x

-- the last of the records is the last part of a checkpoint
abbrev pub EndsCheckpoint : List Record → Type 0
EndsCheckpoint [] = ⊥
EndsCheckpoint (r ∷ []) = IsLastPart r.item
EndsCheckpoint (r ∷ q ∷ records) = EndsCheckpoint (q ∷ records)

-- records may be cut here in two spans: something stands before and behind, and what stands before ends a checkpoint
pub record IsCut (records : List Record) (cut : ℕ) : Type 0 where
  pub within : cut < length records
  pub checkpoint : EndsCheckpoint (take cut records)

-- ---- laws

-- the records of all spans
abbrev pub whole : List (List Record) → List Record
whole [] = []
whole (span ∷ spans) = span ++ whole spans

-- each span leads from its claim to the next one
abbrev pub EachLeads : List (List Record) → (ℕ → Standing) → Type 0
EachLeads spans claims =
    (k : ℕ) → k < length spans → LeadAlong (slice_index_or spans k []) (claims k) (claims (k + 1))

-- if each span leads from the claim before it to its own, the whole leads from the first claim to the last
abbrev pub SpansLeadAlong : Type 0
SpansLeadAlong = (spans : List (List Record)) (claims : ℕ → Standing) →
    EachLeads spans claims → LeadAlong (whole spans) (claims 0) (claims (length spans))

-- where a span stops, and each before it leads to its claim, the first record of the whole that doesn't lead on is the span's
abbrev pub LeastStopIsFirst : Type 0
LeastStopIsFirst = (spans : List (List Record)) (claims : ℕ → Standing) (k : ℕ) (fault : VerifyFault) →
    k < length spans → EachLeads (take k spans) claims → StopsAlong fault (slice_index_or spans k []) (claims k) →
    StopsAlong fault (whole spans) (claims 0)
