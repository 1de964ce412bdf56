-- What an act does: the bytes that it reads, writes, touches and renews, and what of it orders acts of other threads.
use Rattle.std.specs.Prelude.{ℕ, ◌+◌, ◌-◌, ◌*◌, ◌/◌, ◌%◌, ◌^◌, Bool, true, false, not, ◌&&◌, ◌||◌, ◌==◌, nat_lt, nat_le, if◌then◌else◌}
use Rattle.order.specs.declared.act.Act.{Act}
use Rattle.order.specs.declared.act.Deed.{Deed}
use Rattle.order.specs.declared.act.Deed.TheVariants.{Reads, Writes, Reserves, Changes, Fences, SetsTid, ClearsTid, Starts, Wakes, Renews}

-- ---- bytes

-- b is one of count bytes from a on
abbrev pub is_within : (a count b : ℕ) → Bool
is_within a count b = nat_le a b && nat_lt b (a + count)

-- byte k of a word, the lowest first
abbrev pub byte_of : (word k : ℕ) → ℕ
byte_of word k = (word / 2 ^ (8 * k)) % 256

-- the bytes that it reads: the first one, and how many
abbrev pub read_range : Deed → ℕ × ℕ
read_range (Reads a count) = (a, count)
read_range (Reserves a acquires releases) = (a, 4)
read_range (Changes c) = (c.at, (if c.reads then 4 else 0))
read_range _ = (0, 0)

-- those that it writes
abbrev pub write_range : Deed → ℕ × ℕ
write_range (Writes a count) = (a, count)
write_range (Changes c) = (c.at, 4)
write_range (SetsTid a) = (a, 4)
write_range (ClearsTid a) = (a, 4)
write_range _ = (0, 0)

-- those that are new after it
abbrev pub renew_range : Deed → ℕ × ℕ
renew_range (Renews a count) = (a, count)
renew_range _ = (0, 0)

abbrev pub reads_byte : Deed → ℕ → Bool
reads_byte d b = is_within (read_range d).0 (read_range d).1 b

abbrev pub writes_byte : Deed → ℕ → Bool
writes_byte d b = is_within (write_range d).0 (write_range d).1 b

abbrev pub renews_byte : Deed → ℕ → Bool
renews_byte d b = is_within (renew_range d).0 (renew_range d).1 b

-- those that count for a race: of a change the bytes whose value it changes; LR and fences have none
abbrev pub touches_byte : Deed → ℕ → Bool
touches_byte (Reads a count) b = is_within a count b
touches_byte (Writes a count) b = is_within a count b
touches_byte (Changes c) b = is_within c.at 4 b && not (byte_of c.before (b - c.at) == byte_of c.after (b - c.at))
touches_byte (SetsTid a) b = is_within a 4 b
touches_byte (ClearsTid a) b = is_within a 4 b
touches_byte _ b = false

-- ---- order

abbrev pub is_change : Deed → Bool
is_change (Changes c) = true
is_change _ = false

-- an exit clears its word
abbrev pub is_clearing : Deed → Bool
is_clearing (ClearsTid a) = true
is_clearing _ = false

-- an LR, an AMO, or an SC that stores, with both aq and rl
abbrev pub is_full : Deed → Bool
is_full (Reserves a acquires releases) = acquires && releases
is_full (Changes c) = c.full
is_full _ = false

abbrev pub is_acquire_fence : Deed → Bool
is_acquire_fence (Fences acquires releases) = acquires
is_acquire_fence _ = false

abbrev pub is_release_fence : Deed → Bool
is_release_fence (Fences acquires releases) = releases
is_release_fence _ = false

-- from here on its thread knows all that it heard before
abbrev pub is_acquire : Deed → Bool
is_acquire d = is_acquire_fence d || is_full d

-- later messages of its thread have all up to here
abbrev pub is_release : Deed → Bool
is_release d = is_release_fence d || is_full d

-- it knows at once what it hears itself
abbrev pub acquires_itself : Deed → Bool
acquires_itself (Reserves a acquires releases) = acquires
acquires_itself (Changes c) = c.acquires
acquires_itself _ = false

-- its own message has all up to it
abbrev pub releases_itself : Deed → Bool
releases_itself (Changes c) = c.releases
releases_itself (ClearsTid a) = true
releases_itself _ = false

abbrev pub starts : Deed → ℕ → Bool
starts (Starts t) tid = t == tid
starts _ tid = false

abbrev pub wakes : Deed → ℕ → Bool
wakes (Wakes t) tid = t == tid
wakes _ tid = false

-- an act comes before each later act of these threads: its own, one that it starts, one that it wakes
abbrev pub precedes : Act → ℕ → Bool
precedes act tid = act.tid == tid || (starts act.deed tid || wakes act.deed tid)
