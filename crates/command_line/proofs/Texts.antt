-- Texts that are read one by one.
use Rattle.std.proofs.Common.{◌≡◌, ◌<◌, ◌+◌, ℕ, zero, suc, List, [], ◌∷◌, ◌++◌, length, map, take, get_or, arith, subst}
use Rattle.std.specs.List.{AllByRecursion, AllZip}

module _ {A B C : Type 0} (v : C → A) (R : A → B → Type 0) where
  -- the next text, with what it stands for
  one_more : (cs : List C) (bs : List B) (i : ℕ) (d : C) (b : B) → i < length cs → AllZip R (map v (take i cs)) bs → R (v (get_or cs i d)) b
      → AllZip R (map v (take (suc i) cs)) (bs ++ b ∷ [])
  one_more [] bs i d b within h r = absurd (omega (arith, within))
  one_more (c ∷ cs) [] zero d b within h r = (r, tt)
  one_more (c ∷ cs) (x ∷ bs) zero d b within h r = absurd h
  one_more (c ∷ cs) [] (suc i) d b within h r = absurd h
  one_more (c ∷ cs) (x ∷ bs) (suc i) d b within h r = (h.0, one_more cs bs i d b (omega (arith, within)) h.1 r)

  pub next : (cs : List C) (bs : List B) (i : ℕ) (d : C) (b : B) → i < length cs → AllZip R (map v (take i cs)) bs → R (v (get_or cs i d)) b
      → AllZip R (map v (take (i + 1) cs)) (bs ++ b ∷ [])
  next cs bs i d b within h r =
      let follows : suc i ≡ i + 1 = omega arith in
      subst (λ n. AllZip R (map v (take n cs)) (bs ++ b ∷ [])) follows (one_more cs bs i d b within h r)

  -- what one of the texts stands for, where all stand for something
  pub one_of_all : (cs : List C) (bs : List B) (i : ℕ) (d : C) → i < length cs → AllZip R (map v cs) bs → (b : B) × R (v (get_or cs i d)) b
  one_of_all [] bs i d within h = absurd (omega (arith, within))
  one_of_all (c ∷ cs) [] i d within h = absurd h
  one_of_all (c ∷ cs) (b ∷ bs) zero d within h = (b, h.0)
  one_of_all (c ∷ cs) (b ∷ bs) (suc i) d within h = one_of_all cs bs i d (omega (arith, within)) h.1

-- ---- texts of which each is so

module _ {A C : Type 0} (v : C → A) (P : A → Type 0) where
  one_so : (cs : List C) (i : ℕ) (d : C) → i < length cs → AllByRecursion P (map v (take i cs)) → P (v (get_or cs i d))
      → AllByRecursion P (map v (take (suc i) cs))
  one_so [] i d within h p = absurd (omega (arith, within))
  one_so (c ∷ cs) zero d within h p = (p, tt)
  one_so (c ∷ cs) (suc i) d within h p = (h.0, one_so cs i d (omega (arith, within)) h.1 p)

  pub next_so : (cs : List C) (i : ℕ) (d : C) → i < length cs → AllByRecursion P (map v (take i cs)) → P (v (get_or cs i d))
      → AllByRecursion P (map v (take (i + 1) cs))
  next_so cs i d within h p =
      let follows : suc i ≡ i + 1 = omega arith in subst (λ n. AllByRecursion P (map v (take n cs))) follows (one_so cs i d within h p)

  pub each_so : (cs : List C) (i : ℕ) (d : C) → i < length cs → AllByRecursion P (map v cs) → P (v (get_or cs i d))
  each_so [] i d within h = absurd (omega (arith, within))
  each_so (c ∷ cs) zero d within h = h.0
  each_so (c ∷ cs) (suc i) d within h = each_so cs i d (omega (arith, within)) h.1
