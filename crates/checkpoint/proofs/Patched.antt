-- Pages put into a memory one after the other give what the definition of a checkpoint says.
use Rattle.std.proofs.Common.{◌≡◌, inl, inr, ℕ, ◌+◌, ◌/◌, ◌%◌, ◌*◌, ◌^◌, ◌<◌, ◌≤◌, ◌==◌, true, false, cond, List, [], ◌∷◌, ◌++◌, length, get_or, Option, Some, None, Err, refl, sym, ap, ◌∙◌, subst, arith}
use Rattle.std.proofs.lemmas.Bool.Decides.{eqb_tells}
use Rattle.std.specs.Prelude.{IfErr, Result, is_some}
use Rattle.page_permissions.specs.declared.page.Permissions.{Permissions}
use Rattle.rrv_model.specs.declared.record.PagePart.{PagePart}
use Rattle.rrv_model.specs.declared.record.Part.{Part}
use Rattle.rrv_model.specs.CallRows.{with_memory}
use Rattle.rrv_model.specs.Checkpoint.{all_pages, entry_of, mapped_as, patched, patched_byte, patched_cell}
use Rattle.rrv_model.specs.Memory.{Memory, Cell, page_bytes, page_count}
use Rattle.rrv_model.proofs.PageCounts.{pages_fewer}
use Rattle.rrv_model.specs.State.{State}
use Rattle.guest_calls.specs.Carries.{KeepsRest}
use Rattle.guest_calls.specs.Guest.{GuestValue, state_of}
use Rattle.guest_calls.proofs.Inquiries.{kept_then}
use Rattle.checkpoint.specs.declared.fault.ApplyFault.{ApplyFault}
use Rattle.checkpoint.specs.declared.fault.ApplyFault.TheVariants as faults
use Rattle.checkpoint.specs.Fitting.{AreFit}
use Rattle.checkpoint.specs.Patches.{BecomesOrRefuses, RefusesPages, all_cleared, all_set, cleared, cleared_cell, each_put, set, set_cell, with_all_cleared, with_all_set, with_parts_cleared, with_parts_set}

-- ---- one page

set_elsewhere : (p : PagePart) (m : Memory) (a : ℕ) → (p.number == a / page_bytes) ≡ false → set p m a ≡ m a
set_elsewhere p m a e = ap (λ b. cond b (set_cell p p.permissions (m a) a) (m a)) e

cleared_elsewhere : (p : PagePart) (m : Memory) (a : ℕ) → (p.number == a / page_bytes) ≡ false → cleared p m a ≡ m a
cleared_elsewhere p m a e = ap (λ b. cond b (cleared_cell p.permissions (m a)) (m a)) e

set_here : (p : PagePart) (m : Memory) (a : ℕ) → (p.number == a / page_bytes) ≡ true → set p m a ≡ set_cell p p.permissions (m a) a
set_here p m a e = ap (λ b. cond b (set_cell p p.permissions (m a) a) (m a)) e

cleared_here : (p : PagePart) (m : Memory) (a : ℕ) → (p.number == a / page_bytes) ≡ true → cleared p m a ≡ cleared_cell p.permissions (m a)
cleared_here p m a e = ap (λ b. cond b (cleared_cell p.permissions (m a)) (m a)) e

-- a cell becomes what its own value alone says

set_by : (p : PagePart) (m k : Memory) (a : ℕ) → m a ≡ k a → set p m a ≡ set p k a
set_by p m k a e = ap (λ (o : Option Cell). cond (p.number == a / page_bytes) (set_cell p p.permissions o a) o) e

cleared_by : (p : PagePart) (m k : Memory) (a : ℕ) → m a ≡ k a → cleared p m a ≡ cleared p k a
cleared_by p m k a e = ap (λ (o : Option Cell). cond (p.number == a / page_bytes) (cleared_cell p.permissions o) o) e

-- a page below all of them
other_page : (p : PagePart) (a : ℕ) → a / page_bytes < p.number → (p.number == a / page_bytes) ≡ false
other_page p a low = elim (eqb_tells p.number (a / page_bytes)) [
  | inl w ↦ absurd (omega (arith, w.1, low))
  | inr w ↦ w.0
]

-- ---- pages in a row

module _ (put : PagePart → Memory → Memory) where
  each_by : ((p : PagePart) (m k : Memory) (a : ℕ) → m a ≡ k a → put p m a ≡ put p k a) → (pages : List PagePart) (m k : Memory) (a : ℕ) →
      m a ≡ k a → each_put put pages m a ≡ each_put put pages k a
  each_by one [] m k a e = e
  each_by one (p ∷ pages) m k a e = each_by one pages (put p m) (put p k) a (one p m k a e)

  each_append : (xs ys : List PagePart) (m : Memory) → each_put put (xs ++ ys) m ≡ each_put put ys (each_put put xs m)
  each_append [] ys m = refl
  each_append (p ∷ xs) ys m = each_append xs ys (put p m)

  each_above : ((p : PagePart) (m : Memory) (a : ℕ) → (p.number == a / page_bytes) ≡ false → put p m a ≡ m a) → (least : ℕ)
      (pages : List PagePart) (m : Memory) (a : ℕ) → AreFit least pages → a / page_bytes < least → each_put put pages m a ≡ m a
  each_above elsewhere least [] m a fit low = refl
  each_above elsewhere least (p ∷ pages) m a fit low =
      let first = fit.0 in
      each_above elsewhere (p.number + 1) pages (put p m) a fit.2 (omega arith) ∙ elsewhere p m a (other_page p a (omega arith))

-- ---- the whole

in_both_ways : (p : PagePart) (q : Option Permissions) (old : Option Cell) (a : ℕ) → p.permissions ≡ q →
    patched_cell (Some p) old a ≡ set_cell p q (cleared_cell q old) a
in_both_ways p None old a e = ap (λ q. mapped_as q (patched_byte p old (a % page_bytes))) e
in_both_ways p (Some permissions) old a e = ap (λ q. mapped_as q (patched_byte p old (a % page_bytes))) e

pub patched_is : (least : ℕ) (pages : List PagePart) (m : Memory) (a : ℕ) → AreFit least pages →
    patched pages m a ≡ all_set pages (all_cleared pages m) a
unfolding entry_of
patched_is least [] m a fit = refl
patched_is least (p ∷ pages) m a fit = elim (eqb_tells p.number (a / page_bytes)) [
  | inl w ↦
      let low : a / page_bytes < p.number + 1 = omega (arith, w.1) in
      let clear : all_cleared pages (cleared p m) a ≡ cleared_cell p.permissions (m a) =
      each_above cleared cleared_elsewhere (p.number + 1) pages (cleared p m) a fit.2 low ∙ cleared_here p m a w.0 in
      ap (λ b. patched_cell (cond b (Some p) (entry_of (a / page_bytes) pages)) (m a) a) w.0
      ∙ in_both_ways p p.permissions (m a) a refl
      ∙ ap (λ o. set_cell p p.permissions o a) (sym clear)
      ∙ sym (set_here p (all_cleared pages (cleared p m)) a w.0)
      ∙ sym (each_above set set_elsewhere (p.number + 1) pages (set p (all_cleared pages (cleared p m))) a fit.2 low)
  | inr w ↦
      ap (λ b. patched_cell (cond b (Some p) (entry_of (a / page_bytes) pages)) (m a) a) w.0
      ∙ patched_is (p.number + 1) pages m a fit.2
      ∙ each_by set set_by pages (all_cleared pages m) (set p (all_cleared pages (cleared p m))) a
      (each_by cleared cleared_by pages m (cleared p m) a (sym (cleared_elsewhere p m a w.0))
      ∙ sym (set_elsewhere p (all_cleared pages (cleared p m)) a w.0))
]

-- ---- how many are mapped

set_cell_more : (p : PagePart) (q : Option Permissions) (o : Option Cell) (a : ℕ) → is_some o ≡ true → is_some (set_cell p q o a) ≡ true
set_cell_more p None o a some = some
set_cell_more p (Some permissions) o a some = refl

set_more : (p : PagePart) (m : Memory) (a : ℕ) → is_some (m a) ≡ true → is_some (set p m a) ≡ true
set_more p m a some = elim (eqb_tells p.number (a / page_bytes)) [
  | inl w ↦ ap is_some (set_here p m a w.0) ∙ set_cell_more p p.permissions (m a) a some
  | inr w ↦ ap is_some (set_elsewhere p m a w.0) ∙ some
]

all_set_more : (pages : List PagePart) (m : Memory) (a : ℕ) → is_some (m a) ≡ true → is_some (all_set pages m a) ≡ true
all_set_more [] m a some = some
all_set_more (p ∷ pages) m a some = all_set_more pages (set p m) a (set_more p m a some)

pub more_pages : (pages : List PagePart) (m : Memory) → page_count m ≤ page_count (all_set pages m)
more_pages pages m = pages_fewer (2 ^ 20) m (all_set pages m) (λ n below some. all_set_more pages m (n * page_bytes) some)

-- ---- refusals

refuses_more : (fault : ApplyFault) (pages : List PagePart) (m : Memory) → RefusesPages fault m → RefusesPages fault (all_set pages m)
refuses_more faults.BadPart pages m h = h
refuses_more faults.TooManyPages pages m h = omega (arith, h, more_pages pages m)
refuses_more faults.Memory pages m h = tt

pub refuses_first : (fault : ApplyFault) (left : List PagePart) (p : PagePart) (m : Memory) → 1 ≤ length left → p ≡ get_or left 0 p →
    RefusesPages fault (set p m) → RefusesPages fault (all_set left m)
refuses_first fault [] p m some is h = absurd (omega arith)
refuses_first fault (q ∷ rest) p m some is h = refuses_more fault rest (set q m) (subst (λ r. RefusesPages fault (set r m)) is h)

refuses_parts : (fault : ApplyFault) (parts : List Part) (s : State) → RefusesPages fault s.memory →
    RefusesPages fault (with_parts_set parts s).memory
refuses_parts fault [] s h = h
refuses_parts fault (part ∷ parts) s h = refuses_parts fault parts (with_all_set part.pages s) (refuses_more fault part.pages s.memory h)

pub refuses_part : (fault : ApplyFault) (left : List Part) (part : Part) (s : State) (pages : List PagePart) → 1 ≤ length left →
    part ≡ get_or left 0 part → pages ≡ part.pages
    → RefusesPages fault (all_set pages s.memory) → RefusesPages fault (with_parts_set left s).memory
refuses_part fault [] part s pages some is same h = absurd (omega arith)
refuses_part fault (first ∷ rest) part s pages some is same h =
    refuses_parts fault rest (with_all_set first.pages s)
    (subst (λ l. RefusesPages fault (all_set l s.memory)) (same ∙ ap (λ (q : Part). q.pages) is) h)

pub if_err : {T E : Type 0} (Q : E → Type 0) (r : Result T E) (x y : E) → r ≡ Err x → x ≡ y → Q y → IfErr r Q
if_err Q r x y is same h = subst (λ s. IfErr s Q) (sym is) (subst Q (sym same) h)

-- ---- parts one after the other

pub parts_cleared : (parts : List Part) (s : State) → with_parts_cleared parts s ≡ with_all_cleared (all_pages parts) s
parts_cleared [] s = refl
parts_cleared (part ∷ parts) s =
    parts_cleared parts (with_all_cleared part.pages s)
    ∙ ap (λ m. with_memory m s) (sym (each_append cleared part.pages (all_pages parts) s.memory))

pub parts_set : (parts : List Part) (s : State) → with_parts_set parts s ≡ with_all_set (all_pages parts) s
parts_set [] s = refl
parts_set (part ∷ parts) s =
    parts_set parts (with_all_set part.pages s) ∙ ap (λ m. with_memory m s) (sym (each_append set part.pages (all_pages parts) s.memory))

-- the pages of a checkpoint, as they are put into a memory
pub patched_by : (parts : List Part) (s : State) → AreFit 0 (all_pages parts) →
    with_parts_set parts (with_parts_cleared parts s) ≡ with_memory (patched (all_pages parts) s.memory) s
patched_by parts s fit =
    parts_set parts (with_parts_cleared parts s)
    ∙ ap (with_all_set (all_pages parts)) (parts_cleared parts s)
    ∙ ap (λ m. with_memory m s) (λ i a. sym (patched_is 0 (all_pages parts) s.memory a fit) i)

-- pages are put in one after the other: those that are left lead from here to where all led from the first guest
pub record LeavesToDo (left all : State → State) (old new : GuestValue) : Type 0 where
  pub state : left (state_of new) ≡ all (state_of old)
  pub keeps : KeepsRest old new
  pub put : new.put ≡ old.put

-- what is refused of those that are left is refused of all
pub refused_of_all : {T : Type 0} (left all : State → State) (old mid new : GuestValue) (fault : ApplyFault) → LeavesToDo left all old mid
    → RefusesPages fault (left (state_of mid)).memory → KeepsRest mid new → new.put ≡ mid.put
    → BecomesOrRefuses {T = T} (Err fault) (all (state_of old)) old new
refused_of_all left all old mid new fault to_do refused keeps put = record {
  state = tt;
  refused = subst (RefusesPages fault) (ap (λ (s : State). s.memory) to_do.state) refused;
  keeps = kept_then old mid new to_do.keeps keeps;
  put = put ∙ to_do.put;
}
