-- The order of the acts of a run, and which of them race.
use Rattle.std.specs.Prelude.{◌≡◌, ◌≢◌, ◌⊎◌, ℕ, zero, suc, ◌+◌, ◌<◌, Bool, true, false, not, ◌&&◌, ◌||◌, ◌==◌, if◌then◌else◌, IsTrue, Option, Some, None, List, [], ◌∷◌, slice_index_or}
use Rattle.order.specs.declared.act.Act.{Act}
use Rattle.order.specs.declared.act.Deed.{Deed}
use Rattle.order.specs.declared.act.Deed.TheVariants.{Writes, Changes, SetsTid, ClearsTid, Leaves}
use Rattle.order.specs.Deeds.{acquires_itself, is_acquire, is_change, is_clearing, is_release, is_release_fence, precedes, reads_byte, releases_itself, renews_byte, touches_byte, writes_byte}

-- a run: its acts, by number
abbrev pub Run : Type 0
Run = ℕ → Act

-- that of a list, after whose end nothing is done
abbrev pub nothing : Act
nothing = record { place = 0; tid = 0; deed = Leaves }

abbrev pub run_of : List Act → Run
run_of acts i = slice_index_or acts i nothing

-- ---- writes: `declared` tests the bytes at which plain loads and stores are atomic ones

abbrev pub are_declared : (ℕ → Bool) → (a count : ℕ) → Bool
are_declared declared a zero = true
are_declared declared a (suc n) = declared (a + n) && are_declared declared a n

-- the last of the first n acts that is of this thread is a release fence
abbrev pub is_after_fence : Run → (tid n : ℕ) → Bool
is_after_fence run tid zero = false
is_after_fence run tid (suc n) =
    if (run n).tid == tid then is_release_fence (run n).deed else is_after_fence run tid n

-- a write, just after a fence of its thread or not
abbrev pub is_atomic : (ℕ → Bool) → (fenced : Bool) → Deed → Bool
is_atomic declared fenced (Writes a count) = fenced || are_declared declared a count
is_atomic declared fenced (Changes c) = true
is_atomic declared fenced (SetsTid a) = true
is_atomic declared fenced (ClearsTid a) = true
is_atomic declared fenced _ = false

abbrev pub is_plain : (ℕ → Bool) → (fenced : Bool) → Deed → Bool
is_plain declared fenced (Writes a count) = not (fenced || are_declared declared a count)
is_plain declared fenced _ = false

abbrev pub is_atomic_write : (ℕ → Bool) → Run → ℕ → Bool
is_atomic_write declared run i = is_atomic declared (is_after_fence run (run i).tid i) (run i).deed

abbrev pub is_plain_write : (ℕ → Bool) → Run → ℕ → Bool
is_plain_write declared run i = is_plain declared (is_after_fence run (run i).tid i) (run i).deed

-- the write that stands at a byte before act n; none if the byte was renewed since
abbrev pub stands_at : Run → (b n : ℕ) → Option ℕ
stands_at run b zero = None
stands_at run b (suc n) =
    if renews_byte (run n).deed b then None else (if writes_byte (run n).deed b then Some n else stands_at run b n)

-- ---- messages

-- act r reads what act w wrote
abbrev pub ReadsFrom : Run → (w r : ℕ) → Type 0
ReadsFrom run w r = (b : ℕ) × IsTrue (reads_byte (run r).deed b) × (stands_at run b r ≡ Some w)

-- w carries on what x wrote: it is x, or a change that read it from one that does
abbrev pub CarriesOn : Run → (x steps w : ℕ) → Type 0
CarriesOn run x zero w = w ≡ x
CarriesOn run x (suc k) w = (v : ℕ) × CarriesOn run x k v × IsTrue (is_change (run w).deed) × ReadsFrom run v w

-- the message of x has all up to act i: x itself if it releases, or an earlier release of its thread
abbrev pub Carries : Run → (i x : ℕ) → Type 0
Carries run i x =
    ((i ≡ x) × IsTrue (releases_itself (run x).deed))
    ⊎ ((i < x) × ((run i).tid ≡ (run x).tid) × IsTrue (is_release (run i).deed))

-- what w carries has all up to act i
pub record Sends (declared : ℕ → Bool) (run : Run) (i w : ℕ) : Type 0 where
  pub x : ℕ
  pub atomic : IsTrue (is_atomic_write declared run x)
  pub carries : Carries run i x
  pub steps : ℕ
  pub on : CarriesOn run x steps w

-- what read r heard of w is known from act j of its thread on: at once, or from a later acquire
abbrev pub Knows : Run → (w r j : ℕ) → Type 0
Knows run w r j =
    ((j ≡ r) × IsTrue (acquires_itself (run r).deed || is_clearing (run w).deed))
    ⊎ ((r < j) × ((run j).tid ≡ (run r).tid) × IsTrue (is_acquire (run j).deed))

-- a message leads from act i to act j
pub record Message (declared : ℕ → Bool) (run : Run) (i j : ℕ) : Type 0 where
  pub w : ℕ
  pub sends : Sends declared run i w
  pub r : ℕ
  pub hears : ReadsFrom run w r
  pub knows : Knows run w r j

-- ---- the order

-- act i comes before act j: in one thread, by a start, by a wake, or by a message
abbrev pub Leads : (ℕ → Bool) → Run → (i j : ℕ) → Type 0
Leads declared run i j = (i < j) × (IsTrue (precedes (run i) (run j).tid) ⊎ Message declared run i j)

-- along a path of such steps
abbrev pub LeadsAlong : (ℕ → Bool) → Run → ℕ → List ℕ → ℕ → Type 0
LeadsAlong declared run i [] j = Leads declared run i j
LeadsAlong declared run i (k ∷ path) j = Leads declared run i k × LeadsAlong declared run k path j

abbrev pub HappensBefore : (ℕ → Bool) → Run → (i j : ℕ) → Type 0
HappensBefore declared run i j = (path : List ℕ) × LeadsAlong declared run i path j

-- ---- races

-- acts i and j race on byte b
pub record Race (declared : ℕ → Bool) (run : Run) (i j b : ℕ) : Type 0 where
  pub later : i < j
  pub threads : (run i).tid ≢ (run j).tid
  pub first : IsTrue (touches_byte (run i).deed b)
  pub second : IsTrue (touches_byte (run j).deed b)
  -- one of them writes it plainly
  pub plain : IsTrue (is_plain_write declared run i) ⊎ IsTrue (is_plain_write declared run j)
  -- it was not renewed in between
  pub life : (k : ℕ) → i < k → k < j → renews_byte (run k).deed b ≡ false
  pub free : ¬ HappensBefore declared run i j
