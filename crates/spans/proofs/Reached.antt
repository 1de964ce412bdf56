-- Recordings that records lead along.
use Rattle.std.proofs.Common.{◌≡◌, ℕ, ◌+◌, ◌<◌, ◌≤◌, List, [], ◌∷◌, ◌++◌, length, take, drop, sym, ◌∙◌, ap, subst, arith, append_assoc, ◌⊎◌, inl, inr}
use Rattle.std.proofs.lemmas.List.{append-nil, take-append-drop}
use Rattle.rrv_model.specs.declared.record.Record.{Record}
use Rattle.rrv_model.specs.Recording.{IsRecording}
use Rattle.faults.specs.declared.replay.VerifyFault.{VerifyFault}
use Rattle.faults.specs.declared.replay.VerifyFault.TheVariants as faults
use Rattle.replayer.specs.Refusals.{RefusesVerify}
use Rattle.replayer.specs.Sourced.{RefusesSource}
use Rattle.replayer.specs.Standings.{IsReached, Standing}
use Rattle.replayer.proofs.Behind.{reached_next, reached_refused}
use Rattle.spans.specs.Reading.{AreNext}
use Rattle.spans.specs.Spans.{LeadAlong, StopsAlong}
use Rattle.spans.proofs.Batches.{read_on}

-- a recording that records lead on is one with them
pub reached_along : (read xs : List Record) (x y : Standing) → IsReached x read → LeadAlong xs x y → IsReached y (read ++ xs)
reached_along read [] x y h lead =
    subst (λ (s : Standing). IsReached s (read ++ [])) (sym lead) (subst (λ (rs : List Record). IsReached x rs) (sym (append-nil read)) h)
reached_along read (r ∷ xs) x y h lead =
    subst (λ (rs : List Record). IsReached y rs) (append_assoc read (r ∷ []) xs)
    (reached_along (read ++ r ∷ []) xs lead.0 y (reached_next read r x lead.0 h lead.1) lead.2)

-- where they stop the whole is refused, whatever comes behind them
pub reached_stops : (e : VerifyFault) (read xs more : List Record) (x : Standing) → IsReached x read → StopsAlong e xs x →
    RefusesVerify e ((read ++ xs) ++ more)
reached_stops e read xs more x h stops =
    let there = reached_along read stops.before x stops.at h stops.lead in
    let refused = reached_refused e (read ++ stops.before) stops.entry (stops.behind ++ more) stops.at there stops.refuses in
    let same : (read ++ stops.before) ++ stops.entry ∷ (stops.behind ++ more) ≡ (read ++ xs) ++ more =
    append_assoc read stops.before (stops.entry ∷ (stops.behind ++ more))
    ∙ ap (λ (rs : List Record). read ++ rs) (sym (append_assoc stops.before (stops.entry ∷ stops.behind) more))
    ∙ sym (append_assoc read (stops.before ++ stops.entry ∷ stops.behind) more)
    ∙ ap (λ (rs : List Record). (read ++ rs) ++ more) (sym stops.all) in
    subst (λ (rs : List Record). RefusesVerify e rs) same refused

-- what is refused of a list is refused of a source of it
pub source_refused : (e : VerifyFault) (records : List Record) → 1 ≤ length records → RefusesVerify e records → RefusesSource e records
source_refused faults.BadOpening records some refuses = refuses
source_refused (faults.Mismatch index) records some refuses = refuses
source_refused (faults.BadCheckpoint index) records some refuses = refuses
source_refused faults.Memory records some refuses = some
source_refused (faults.Unreadable index) records some refuses = absurd refuses

-- so it is of a batch of the records
pub batch_refused : (e : VerifyFault) (records read batch : List Record) (next : ℕ) (x : Standing) → IsReached x read →
    StopsAlong e batch x →
    read ≡ take next records → AreNext records next batch → 1 ≤ length records → RefusesSource e records
batch_refused e records read batch next x h stops is are some =
    let n = next + length batch in
    let all : (read ++ batch) ++ drop n records ≡ records =
    ap (λ (rs : List Record). rs ++ drop n records) (read_on records read batch next is are) ∙ take-append-drop n records in
    source_refused e records some
    (subst (λ (rs : List Record). RefusesVerify e rs) all (reached_stops e read batch (drop n records) x h stops))

-- and of one that isn't given
pub unread_refused : (e : VerifyFault) (records read : List Record) (next : ℕ) (x : Standing) →
    (e ≡ faults.Memory) ⊎ (e ≡ faults.Unreadable next) → next < length records → IsReached x read → read ≡ take next records →
    RefusesSource e records
unread_refused e records read next x (inl memory) below h is =
    let some : 1 ≤ length records = omega (arith, below) in
    subst (λ (f : VerifyFault). RefusesSource f records) (sym memory) some
unread_refused e records read next x (inr unread) below h is =
    subst (λ (f : VerifyFault). RefusesSource f records) (sym unread)
    (below, λ some. subst (λ (rs : List Record). IsRecording rs) is h.recording)
