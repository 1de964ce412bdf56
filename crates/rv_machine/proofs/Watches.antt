-- Steps over which a byte is watched.
use Rattle.std.proofs.Common.{◌≡◌, ◌≢◌, ℕ, suc, ◌+◌, false, Option, Result, Ok, Err, refl, sym, subst, ap, ◌∙◌, add-one, arith}
use Rattle.std.specs.Option.{option_map}
use Rattle.rrv_model.specs.Step.{Hart, HartStep, Next}
use Rattle.rrv_model.specs.declared.refusal.Memory.{Memory as Refusal}
use Rattle.rv_machine.specs.declared.Stepped.{Stepped}
use Rattle.rv_machine.specs.declared.Stepped.TheVariants as stepped
use Rattle.rv_machine.specs.declared.flow.Flow.{Flow}
use Rattle.rv_machine.specs.declared.flow.Flow.TheVariants as flows
use Rattle.rv_machine.specs.declared.run.RunEnd.TheVariants.{Limit}
use Rattle.rv_machine.specs.declared.watching.Watch.{Watch}
use Rattle.rv_machine.specs.Flows.{hart_at, may_change}
use Rattle.rv_machine.specs.HartRuns.{run_of}
use Rattle.rv_machine.specs.Watching.{HartWatched, IsWatched, Looks, Notes, WatchedSteps, byte_of}
use Rattle.rv_machine.proofs.HartSteps.{StepsOnce}

-- none
pub none_watched : (a : ℕ) (h : Hart) → HartWatched a 0 h 0 h
unfolding WatchedSteps
none_watched a h = (refl, refl)

-- one more
suc_watched : (a n before changed : ℕ) (first mid new : Hart) → HartWatched a n first before mid → HartStep mid (Next new) →
    Notes (byte_of mid.memory a) (byte_of new.memory a) (suc n) before changed → HartWatched a (suc n) first changed new
unfolding WatchedSteps
suc_watched a n before changed first mid new steps does notes = (mid, before, steps, does, notes)

notes_by : (x x' y y' : Option ℕ) (n n' changed later : ℕ) → x ≡ x' → y ≡ y' → n ≡ n' → Notes x y n changed later →
    Notes x' y' n' changed later
notes_by x x' y y' n n' changed later ex ey en notes = record {
  same = λ e. notes.same (ex ∙ e ∙ sym ey);
  differs = λ other. notes.differs (λ e. other (sym ex ∙ e ∙ ey)) ∙ en;
}

-- a look after one more
pub look_watches : (n k : ℕ) (old new : Watch) (first h later : Hart) → k ≡ n + 1 → HartStep h (Next later) →
    Looks later.memory k old new → IsWatched old n first h → IsWatched new k first later
look_watches n k old new first h later counted does looks watched =
    let count : k ≡ suc n = counted ∙ add-one n in
    let notes = notes_by _ _ _ _ _ _ _ _ watched.byte looks.byte count looks.notes in
    let steps = suc_watched old.address n old.changed new.changed first h later watched.steps does notes in
    record {
      steps = subst (λ a. HartWatched a k first new.changed later) (sym looks.address)
          (subst (λ j. HartWatched old.address j first new.changed later) (sym count) steps);
      byte = looks.byte ∙ ap (byte_of later.memory) (sym looks.address);
    }

-- none after one that leaves the byte as it is
pub stays_watched : (n k : ℕ) (watch : Watch) (first h later : Hart) → k ≡ n + 1 → HartStep h (Next later) →
    later.memory watch.address ≡ h.memory watch.address → IsWatched watch n first h → IsWatched watch k first later
stays_watched n k watch first h later counted does kept watched =
    let count : k ≡ suc n = counted ∙ add-one n in
    let same : byte_of h.memory watch.address ≡ byte_of later.memory watch.address =
    ap (option_map (λ c. c.byte)) (sym kept) in
    let steps = suc_watched watch.address n watch.changed watch.changed first h later watched.steps does
    (record { same = λ e. refl; differs = λ other. absurd (other same) }) in
    record {
      steps = subst (λ j. HartWatched watch.address j first watch.changed later) (sym count) steps;
      byte = watched.byte ∙ same;
    }

-- nor after a run's last one, if nothing ended the run
pub last_watched : (n done : ℕ) (result : Result Stepped Refusal) (watch : Watch) (first h later : Hart) →
    (run_of n result).end ≡ Limit → later.memory watch.address ≡ h.memory watch.address → StepsOnce result h later →
    IsWatched watch (done + n) first h →
    IsWatched watch (done + (run_of n result).count) first later
last_watched n done (Ok stepped.Next) watch first h later e kept once watched =
    stays_watched (done + n) (done + (n + 1)) watch first h later (omega arith) once.step kept watched
last_watched n done (Ok stepped.Call) watch first h later e kept once watched = absurd cc
last_watched n done (Ok (stepped.Fault kind)) watch first h later e kept once watched = absurd cc
last_watched n done (Err refusal) watch first h later e kept once watched = absurd cc

-- by counts and places that are equal: before any,
pub watched_at : (n k pc : ℕ) (watch : Watch) (first h : Hart) → k ≡ n → h.regs.pc ≡ pc → IsWatched watch n first h →
    IsWatched watch k first (hart_at pc h)
watched_at n k pc watch first h count place watched =
    subst (λ p. IsWatched watch k first (hart_at p h)) place (subst (λ j. IsWatched watch j first h) (sym count) watched)

-- a look after one more,
pub looks_at : (n j k pc next : ℕ) (old new : Watch) (first h later : Hart) → j ≡ n + 1 → j ≡ k → pc ≡ next →
    HartStep h (Next (hart_at pc later)) → Looks later.memory j old new → IsWatched old n first h →
    IsWatched new k first (hart_at next later)
looks_at n j k pc next old new first h later counted count place does looks watched =
    subst (λ p. IsWatched new k first (hart_at p later)) place (subst (λ i. IsWatched new i first (hart_at pc later)) count
    (look_watches n j old new first h (hart_at pc later) counted does looks watched))

-- and none
pub stays_at : (n k pc next : ℕ) (watch : Watch) (first h later : Hart) → k ≡ n + 1 → pc ≡ next → HartStep h (Next (hart_at pc later)) →
    later.memory watch.address ≡ h.memory watch.address → IsWatched watch n first h → IsWatched watch k first (hart_at next later)
stays_at n k pc next watch first h later count place does kept watched =
    subst (λ p. IsWatched watch k first (hart_at p later)) place
    (stays_watched n k watch first h (hart_at pc later) count does kept watched)

-- the byte may have changed only where an instruction stored
pub none_stored : (result : Result Flow Refusal) (a : ℕ) → ((stored : ℕ) → result ≢ Ok (flows.Stored stored)) →
    may_change result a ≡ false
none_stored (Ok flows.Next) a none = refl
none_stored (Ok (flows.Jump target)) a none = refl
none_stored (Ok (flows.In to)) a none = refl
none_stored (Ok (flows.Stored stored)) a none = absurd (none stored refl)
none_stored (Ok flows.Call) a none = refl
none_stored (Ok (flows.Fault kind)) a none = refl
none_stored (Err refusal) a none = refl

-- a watch of so many steps
pub watched_all : (watch : Watch) (a n k : ℕ) (first h : Hart) → watch.address ≡ a → n ≡ k → IsWatched watch n first h →
    HartWatched a k first watch.changed h
watched_all watch a n k first h address count watched =
    subst (λ j. HartWatched a j first watch.changed h) count
    (subst (λ x. HartWatched x n first watch.changed h) address watched.steps)
