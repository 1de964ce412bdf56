-- Lists of events, one after the other.
use Rattle.std.proofs.Common.{◌≡◌, List, [], ◌∷◌, ◌++◌, refl}
use Rattle.commit_core.specs.World.{World}
use Rattle.commit_core.specs.Events.{Event, after, run, IsSchedule}

pub run-append : (w : World) (xs ys : List Event) → run w (xs ++ ys) ≡ run (run w xs) ys
run-append w [] ys = refl
run-append w (e ∷ xs) ys = run-append (after w e) xs ys

pub schedule-append : (w : World) (xs ys : List Event) → IsSchedule w xs → IsSchedule (run w xs) ys → IsSchedule w (xs ++ ys)
schedule-append w [] ys front back = back
schedule-append w (e ∷ xs) ys front back = (front.0, schedule-append (after w e) xs ys front.1 back)

-- a beginning of a schedule is one
pub schedule_front : (w : World) (xs ys : List Event) → IsSchedule w (xs ++ ys) → IsSchedule w xs
schedule_front w [] ys schedule = tt
schedule_front w (e ∷ xs) ys schedule = (schedule.0, schedule_front (after w e) xs ys schedule.1)
