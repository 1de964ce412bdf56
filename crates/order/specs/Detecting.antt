-- A detector, as data: the clocks of threads, the messages of bytes, and of each byte the accesses that are kept. It goes through a
-- run act by act. The acts of a chain, which is a thread or several threads one after another, come each before the next; so a number
-- says which of them are known.
use Rattle.std.specs.Prelude.{◌≡◌, ℕ, zero, suc, ◌+◌, ◌<◌, max, Bool, false, not, ◌&&◌, ◌==◌, nat_lt, if◌then◌else◌, List, [], ◌∷◌, ◌++◌, filter}
use Rattle.order.specs.declared.act.Act.{Act}
use Rattle.order.specs.declared.act.Deed.{Deed}
use Rattle.order.specs.declared.entry.Entry.{Entry}
use Rattle.order.specs.Deeds.{acquires_itself, is_acquire, is_change, is_clearing, is_release, is_release_fence, precedes, read_range, releases_itself, renews_byte, touches_byte, writes_byte}
use Rattle.order.specs.Order.{Run, HappensBefore, is_atomic, is_plain}

-- acts of threads of one chain are in one order
abbrev pub AreChains : (ℕ → Bool) → (chain : ℕ → ℕ) → Run → Type 0
AreChains declared chain run =
    (i j : ℕ) → i < j → chain (run i).tid ≡ chain (run j).tid → HappensBefore declared run i j

-- ---- clocks

-- of each chain: the acts below this number are known
abbrev pub Clock : Type 0
Clock = ℕ → ℕ

abbrev pub empty : Clock
empty q = 0

abbrev pub join : Clock → Clock → Clock
join c d q = max (c q) (d q)

abbrev pub when : Bool → Clock → Clock
when b c q = if b then c q else 0

-- with a chain's acts up to number n
abbrev pub with_own : Clock → (line n : ℕ) → Clock
with_own c line n q = if q == line then n + 1 else c q

-- of count bytes from a on
abbrev pub joined : (ℕ → Clock) → (a count : ℕ) → Clock
joined messages a zero = empty
joined messages a (suc n) = join (joined messages a n) (messages (a + n))

-- ---- threads and messages

pub record Clocks : Type 0 where
  -- by thread: what its next act comes after, what came before its last release, what it heard
  pub known : ℕ → Clock
  pub fenced : ℕ → Clock
  pub heard : ℕ → Clock
  -- whether its last act is a release fence
  pub ready : ℕ → Bool
  -- by byte: the message of the write that stands there, and whether an exit wrote it
  pub messages : ℕ → Clock
  pub cleared : ℕ → Bool

abbrev pub no_clocks : Clocks
no_clocks = record {
  known = λ q. empty;
  fenced = λ q. empty;
  heard = λ q. empty;
  ready = λ q. false;
  messages = λ b. empty;
  cleared = λ b. false;
}

-- what an act hears, and of that what an exit left
abbrev pub told : Clocks → Deed → Clock
told s d = joined s.messages (read_range d).0 (read_range d).1

abbrev pub told_cleared : Clocks → Deed → Clock
told_cleared s d = joined (λ b. when (s.cleared b) (s.messages b)) (read_range d).0 (read_range d).1

-- what comes before the act
abbrev pub before : Clocks → Act → Clock
before s act =
    join (s.known act.tid)
    (join (when (acquires_itself act.deed) (told s act.deed))
    (join (told_cleared s act.deed) (when (is_acquire act.deed) (s.heard act.tid))))

-- the same, and the act, whose number is n
abbrev pub own : (ℕ → ℕ) → ℕ → Clocks → Act → Clock
own chain n s act = with_own (before s act) (chain act.tid) n

-- the message of the act, if it is an atomic write
abbrev pub message : (ℕ → ℕ) → ℕ → Clocks → Act → Clock
message chain n s act =
    join (join (when (releases_itself act.deed) (own chain n s act)) (s.fenced act.tid))
    (when (is_change act.deed) (told s act.deed))

abbrev pub clocks_after : (declared : ℕ → Bool) (chain : ℕ → ℕ) → ℕ → Act → Clocks → Clocks
clocks_after declared chain n act s = record {
  known = λ q. join (s.known q) (when (precedes act q) (own chain n s act));
  fenced = λ q. join (s.fenced q) (when (act.tid == q && is_release act.deed) (own chain n s act));
  heard = λ q. join (s.heard q) (when (act.tid == q) (told s act.deed));
  ready = λ q. if act.tid == q then is_release_fence act.deed else s.ready q;
  messages = λ b. if renews_byte act.deed b then empty
      else (if writes_byte act.deed b
      then when (is_atomic declared (s.ready act.tid) act.deed) (message chain n s act)
      else s.messages b);
  cleared = λ b. if renews_byte act.deed b then false
      else (if writes_byte act.deed b then is_clearing act.deed else s.cleared b);
}

-- after the first n acts of a run
abbrev pub clocks_at : (declared : ℕ → Bool) (chain : ℕ → ℕ) → Run → ℕ → Clocks
clocks_at declared chain run zero = no_clocks
clocks_at declared chain run (suc n) = clocks_after declared chain n (run n) (clocks_at declared chain run n)

-- what comes before act n
abbrev pub before_at : (declared : ℕ → Bool) (chain : ℕ → ℕ) → Run → ℕ → Clock
before_at declared chain run n = before (clocks_at declared chain run n) (run n)

-- ---- accesses that are kept

-- of a byte: plain writes, and other accesses
pub record Kept : Type 0 where
  pub hard : List Entry
  pub soft : List Entry

abbrev pub none_kept : Kept
none_kept = record { hard = []; soft = [] }

-- it is of another chain, and doesn't come before what the clock is of
abbrev pub is_unordered : Clock → (line : ℕ) → Entry → Bool
is_unordered c line e = not (e.line == line) && not (nat_lt e.act (c e.line))

abbrev pub unordered : Clock → (line : ℕ) → List Entry → List Entry
unordered c line entries = filter (is_unordered c line) entries

-- a plain write races with what is kept; all else that touches races with the plain writes
abbrev pub racing : (plain : Bool) → Clock → (line : ℕ) → Kept → List Entry
racing plain c line kept =
    if plain then unordered c line kept.hard ++ unordered c line kept.soft else unordered c line kept.hard

-- what is ordered before the act goes, since what races with that races with the act too; the act is kept
abbrev pub with_access : (plain : Bool) → Clock → Entry → Kept → Kept
with_access plain c me kept =
    if plain
    then record { hard = unordered c me.line kept.hard ++ me ∷ []; soft = unordered c me.line kept.soft }
    else record { hard = kept.hard; soft = unordered c me.line kept.soft ++ me ∷ [] }

abbrev pub kept_after : (renewed touched plain : Bool) → Clock → Entry → Kept → Kept
kept_after renewed touched plain c me kept =
    if renewed then none_kept else (if touched then with_access plain c me kept else kept)

-- whether act n writes plainly, as the detector sees it
abbrev pub writes_plainly : (declared : ℕ → Bool) (chain : ℕ → ℕ) → Run → ℕ → Bool
writes_plainly declared chain run n =
    is_plain declared ((clocks_at declared chain run n).ready (run n).tid) (run n).deed

-- what is kept of byte b after the first n acts
abbrev pub kept_at : (declared : ℕ → Bool) (chain : ℕ → ℕ) → Run → (b n : ℕ) → Kept
kept_at declared chain run b zero = none_kept
kept_at declared chain run b (suc n) =
    kept_after (renews_byte (run n).deed b) (touches_byte (run n).deed b) (writes_plainly declared chain run n)
    (before_at declared chain run n) (record { line = chain (run n).tid; act = n }) (kept_at declared chain run b n)

-- what the detector finds at act n and byte b
abbrev pub found_at : (declared : ℕ → Bool) (chain : ℕ → ℕ) → Run → (n b : ℕ) → List Entry
found_at declared chain run n b =
    if touches_byte (run n).deed b
    then racing (writes_plainly declared chain run n) (before_at declared chain run n) (chain (run n).tid) (kept_at declared chain run b n)
    else []
