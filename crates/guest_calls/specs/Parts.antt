-- What the parts of a checkpoint make of a guest.
use Rattle.std.specs.Prelude.{ℕ, ◌<◌, ◌≤◌, Option, None, map}
use Rattle.std.specs.FinMap.{from_entries}
use Rattle.std.specs.List.Sorted.{IsStrictlyIncreasing}
use Rattle.rrv_model.specs.declared.limits.TheConstants.{MAX_PAGES}
use Rattle.rrv_model.specs.declared.record.CheckpointRest.{CheckpointRest}
use Rattle.rrv_model.specs.Memory.{Memory, page_count}
use Rattle.rrv_model.specs.State.{State, IsState}
use Rattle.guest_pages.specs.declared.page.PageView.{PageView}
use Rattle.guest_pages.specs.WholePages.{with_page, MayHave}
use Rattle.guest_calls.specs.declared.fault.SetPageFault.{SetPageFault}
use Rattle.guest_calls.specs.declared.fault.SetPageFault.TheVariants as faults
use Rattle.guest_calls.specs.declared.fault.SetRestFault.{SetRestFault}
use Rattle.guest_calls.specs.declared.fault.SetRestFault.TheVariants as rest_faults

-- why page n of a memory isn't set
abbrev pub IsSetPageRefusal : SetPageFault → ℕ → Option PageView → Memory → Type 0
IsSetPageRefusal faults.NoState n page m = ¬ MayHave n page
IsSetPageRefusal faults.TooManyPages n page m = MayHave n page × (MAX_PAGES < page_count (with_page n page m))
IsSetPageRefusal faults.Memory n page m = MayHave n page × (page_count (with_page n page m) ≤ MAX_PAGES)

-- the state with the rest of a checkpoint: memory and opening break stay, and there is neither a reservation nor an end
abbrev pub with_rest : CheckpointRest → State → State
with_rest rest s = record s {
  threads = from_entries (map (λ p. (p.tid, p.thread)) rest.threads);
  waiting = rest.waiting;
  next_tid = rest.next_tid;
  program_break = rest.program_break;
  reservation = None;
  ended = None;
}

-- the rest, its tids rising, makes a state of the memory and the opening break of this one
pub record MakesState (rest : CheckpointRest) (s : State) : Type 0 where
  pub tids_rising : IsStrictlyIncreasing (map (λ p. p.tid) rest.threads)
  pub is_state : IsState (with_rest rest s)

-- why the rest isn't taken
abbrev pub IsSetRestRefusal : SetRestFault → CheckpointRest → State → Type 0
IsSetRestRefusal rest_faults.NoState rest s = ¬ MakesState rest s
IsSetRestRefusal rest_faults.Memory rest s = MakesState rest s
