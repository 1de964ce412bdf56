-- The laws of spans.
use Rattle.std.proofs.Common.{ℕ, zero, suc, ◌+◌, List, [], ◌∷◌, ◌++◌, length, take, refl, sym, subst, arith}
use Rattle.std.specs.Prelude.{slice_index_or}
use Rattle.rrv_model.specs.declared.record.Record.{Record}
use Rattle.replayer.specs.Standings.{Standing}
use Rattle.spans.specs.Spans.{EachLeads, LeadAlong, LeastStopIsFirst, SpansLeadAlong, StopsAlong, whole}
use Rattle.spans.proofs.Along.{along_append, one_more, stops_before, stops_behind}

-- the claims behind the first span
abbrev later : (ℕ → Standing) → ℕ → Standing
later claims k = claims (k + 1)

first_leads : (span : List Record) (spans : List (List Record)) (claims : ℕ → Standing) → EachLeads (span ∷ spans) claims →
    LeadAlong span (claims 0) (claims 1)
first_leads span spans claims h = h 0 (omega arith)

each_later : (span : List Record) (spans : List (List Record)) (claims : ℕ → Standing) → EachLeads (span ∷ spans) claims →
    EachLeads spans (later claims)
each_later span spans claims h k below =
    subst (λ n. LeadAlong (slice_index_or (span ∷ spans) n []) (claims (k + 1)) (claims (k + 1 + 1))) (one_more k)
    (h (k + 1) (omega arith))

pub spans_lead_along : SpansLeadAlong
spans_lead_along [] claims h = refl
spans_lead_along (span ∷ spans) claims h =
    subst (λ n. LeadAlong (span ++ whole spans) (claims 0) (claims n)) (one_more (length spans))
    (along_append span (whole spans) (claims 0) (claims 1) (claims (length spans + 1)) (first_leads span spans claims h)
    (spans_lead_along spans (later claims) (each_later span spans claims h)))

pub least_stop_is_first : LeastStopIsFirst
least_stop_is_first [] claims k e below each stops = absurd (omega arith)
least_stop_is_first (span ∷ spans) claims zero e below each stops = stops_before e span (whole spans) (claims 0) stops
least_stop_is_first (span ∷ spans) claims (suc k) e below each stops =
    stops_behind e span (whole spans) (claims 0) (claims 1) (first_leads span (take k spans) claims each)
    (least_stop_is_first spans (later claims) k e (omega arith) (each_later span (take k spans) claims each)
    (subst (λ n. StopsAlong e (slice_index_or spans k []) (claims n)) (sym (one_more k)) stops))
