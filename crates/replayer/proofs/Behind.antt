-- How a guest goes on from record to record.
use Rattle.std.proofs.Common.{◌≡◌, ◌+◌, List, [], ◌∷◌, ◌++◌, length, get_or, refl, sym, ◌∙◌, ap, subst, arith, length-append}
use Rattle.std.proofs.Math.Seq.{take-append_seam}
use Rattle.rrv_model.specs.declared.record.Item.{Item}
use Rattle.rrv_model.specs.declared.record.Record.{Record}
use Rattle.rrv_model.specs.Recording.{EndsIn, frames_of, items_of}
use Rattle.rrv_model.specs.StateAt.{total}
use Rattle.rrv_model.proofs.RunLaws.{items-append}
use Rattle.serial_sched.specs.LastThread.{last_tid}
use Rattle.faults.specs.declared.replay.VerifyFault.{VerifyFault}
use Rattle.replayer.specs.Kept.{instructions_in}
use Rattle.replayer.specs.LastThread.{thread_behind}
use Rattle.replayer.specs.Refusals.{RefusesNext, RefusesVerify, TakesMemory}
use Rattle.replayer.specs.Standings.{Continues, IsReached, Standing}
use Rattle.replayer.specs.Walks.{LeadsOn, Stands}
use Rattle.replayer.proofs.Sourced.{counted_next, ends_next, first_more, last_next}
use Rattle.replayer.proofs.Walked.{recording_of, refused_at, stands_next}

-- behind one record more
pub reached_next : (read : List Record) (r : Record) (x y : Standing) → IsReached x read → Continues r x y → IsReached y (read ++ r ∷ [])
reached_next read r x y h next =
    let on : LeadsOn x.number (length read) r x.base x.row x.state y.base y.row y.state =
    subst (λ n. LeadsOn x.number n r x.base x.row x.state y.base y.row y.state) h.len next.leads in
    let stands = stands_next x.number read r x.base x.row x.state y.base y.row y.state h.stands on in
    let same = sym (items-append read r) in
    record {
      recording = recording_of x.number (read ++ r ∷ []) y.base y.row y.state stands;
      ends = subst (λ (its : List Item). EndsIn its y.state) same
          (ends_next (items_of read) r.item x.base x.row x.state y.base y.row y.state h.ends on.leads);
      total = next.total ∙ ap (λ n. n + instructions_in r.item) h.total ∙ sym (counted_next (items_of read) r.item)
          ∙ ap (λ (its : List Item). total (frames_of its)) same;
      last = next.last ∙ ap (λ n. thread_behind r.item n) h.last ∙ sym (last_next (items_of read) r.item)
          ∙ ap (λ (its : List Item). last_tid (frames_of its)) same;
      len = omega (arith, next.len, h.len, length-append read (r ∷ []));
      takes = first_more TakesMemory read (r ∷ []) h.takes;
      stands = subst (λ n. Stands n (read ++ r ∷ []) y.base y.row y.state) (sym next.number) stands;
    }

-- ---- refusals

next_there : (xs : List Record) (x : Record) (more : List Record) → x ≡ get_or (xs ++ x ∷ more) (length xs) x
next_there [] x more = refl
next_there (y ∷ xs) x more = next_there xs x more

-- a record that doesn't lead on, whatever comes behind it
pub reached_refused : (e : VerifyFault) (read : List Record) (r : Record) (more : List Record) (x : Standing) → IsReached x read →
    RefusesNext e x.number x.len r x.base x.row x.state → RefusesVerify e (read ++ r ∷ more)
reached_refused e read r more x h refuses =
    refused_at e x.number (read ++ r ∷ more) (length read) r x.base x.row x.state
    (omega (arith, length-append read (r ∷ more))) (next_there read r more)
    (subst (λ (rs : List Record). Stands x.number rs x.base x.row x.state) (sym (take-append_seam read (r ∷ more))) h.stands)
    (first_more TakesMemory read (r ∷ more) h.takes)
    (subst (λ n. RefusesNext e x.number n r x.base x.row x.state) h.len refuses)
