-- Output that waits for its records to be durable, and what of it leaves.
use Rattle.std.specs.Prelude.{◌≡◌, ◌↔◌, ℕ, ◌+◌, ◌-◌, ◌^◌, ◌≤◌, max, min, Bool, true, false, List, [], ◌∷◌, ◌++◌, length, take, drop, map, flat_map}
use Rattle.guest_calls.specs.declared.put.Put.{Put}
use Rattle.outcomes.specs.Failures.{HasFailed}
use Rattle.rrv_model.specs.Output.{to_descriptor}

-- how many records' output has left whole, what is left of the output of each record behind them, and for how many more
-- there is room
pub record Owed : Type 0 where
  pub released : ℕ
  pub owed : List (List (ℕ × ℕ))
  pub room : ℕ

-- the bytes of a put, each with its descriptor
abbrev pub bytes_of : Put → List (ℕ × ℕ)
bytes_of p = to_descriptor p.descriptor p.bytes

-- what is owed of these puts, where so many bytes of the first have left
abbrev pub owed_of : ℕ → List Put → List (List (ℕ × ℕ))
owed_of offset [] = []
owed_of offset (p ∷ ps) = to_descriptor p.descriptor (drop offset p.bytes) ∷ map bytes_of ps

abbrev pub IsWithinFirst : ℕ → List Put → Type 0
IsWithinFirst offset [] = offset ≡ 0
IsWithinFirst offset (p ∷ ps) = offset ≤ length p.bytes

abbrev pub joined : List (List (ℕ × ℕ)) → List (ℕ × ℕ)
joined each = flat_map (λ bytes. bytes) each

-- what is left of the first k records' output
abbrev pub left_of : Owed → ℕ → List (ℕ × ℕ)
left_of o k = joined (take (k - o.released) o.owed)

-- of the first record's output these bytes have left: all that was left of it, or a beginning
abbrev pub LeavesFirst : Owed → Owed → List (ℕ × ℕ) → Bool → Type 0
LeavesFirst old new put true = (new.released ≡ old.released + 1) × (old.owed ≡ put ∷ new.owed)
LeavesFirst old new put false = (new.released ≡ old.released)
    × ((first : List (ℕ × ℕ)) × (others : List (List (ℕ × ℕ)))
    × (old.owed ≡ (put ++ first) ∷ others) × (new.owed ≡ first ∷ others))

-- These bytes have left: they begin what was left, and are of records below seen alone.
pub record Leaves (seen : ℕ) (old new : Owed) (put : List (ℕ × ℕ)) : Type 0 where
  pub upward : old.released ≤ new.released
  pub within : new.released ≤ max old.released seen
  pub all : new.released + length new.owed ≡ old.released + length old.owed
  pub parts : (k : ℕ) → seen ≤ k → old.released ≤ k → put ++ left_of new k ≡ left_of old k

-- how many bytes these are, as far as a number of 64 bits tells
abbrev pub count_of : List (ℕ × ℕ) → ℕ
count_of put = min (length put) (2 ^ 64 - 1)

-- A sink that tells its bytes took these and no others, which left so, and they are so many, by this count. It tells on.
pub record ReleasesSome {S : Type 0} (tells : S → Type 0) (taken : S → List (ℕ × ℕ)) (HaveLeft : List (ℕ × ℕ) → Type 0)
    (counted_as : List (ℕ × ℕ) → ℕ) (sink sink' : S) (count : ℕ) : Type 0 where
  pub put : List (ℕ × ℕ)
  pub takes : tells sink → taken sink' ≡ taken sink ++ put
  pub still : tells sink' ↔ tells sink
  pub leaves : HaveLeft put
  pub counted : count ≡ counted_as put

-- of the first record's output
abbrev pub ReleasesFirst : {S : Type 0} → (S → Type 0) → (S → List (ℕ × ℕ)) → Bool → (old new : Owed) → (sink sink' : S) → ℕ → Type 0
ReleasesFirst tells taken all old new sink sink' count =
    ReleasesSome tells taken (λ put. LeavesFirst old new put all) length sink sink' count

-- of the output of the first records
abbrev pub Releases : {S : Type 0} → (S → Type 0) → (S → List (ℕ × ℕ)) → ℕ → (old new : Owed) → (sink sink' : S) → ℕ → Type 0
Releases tells taken seen old new sink sink' count =
    ReleasesSome tells taken (λ put. Leaves seen old new put) count_of sink sink' count

-- a sink that took all has failed as often as before, and one that refused once more
abbrev pub Counts : Bool → ℕ → ℕ → Type 0
Counts true old new = new ≡ old
Counts false old new = HasFailed old new
