-- What parts put onto a state come to.
use Rattle.std.proofs.Common.{◌≡◌, ◌<◌, List, [], ◌∷◌, refl, sym, ap, ◌∙◌, subst, arith}
use Rattle.std.specs.List.{AllByRecursion}
use Rattle.std.proofs.lemmas.List.Elements.{All-from_recursion, recursion_from_All}
use Rattle.rrv_model.specs.declared.limits.TheConstants.{MAX_PAGES}
use Rattle.rrv_model.specs.declared.record.CheckpointRest.{CheckpointRest}
use Rattle.rrv_model.specs.declared.record.PagePart.{PagePart}
use Rattle.rrv_model.specs.declared.record.Part.{Part}
use Rattle.rrv_model.specs.Checkpoint.{Describes, DescribesWithoutLimit, EndsWithRest, IsPagePart, all_pages, described_state}
use Rattle.rrv_model.specs.Memory.{IsMemory, page_count}
use Rattle.rrv_model.specs.State.{IsStateWithoutLimit, State}
use Rattle.outcomes.proofs.Lists.{AllByRecursion-weaker}
use Rattle.guest_calls.specs.Parts.{MakesState, with_rest}
use Rattle.guest_calls.specs.declared.fault.SetRestFault.{SetRestFault}
use Rattle.guest_calls.specs.declared.fault.SetRestFault.TheVariants as rest_faults
use Rattle.guest_calls.specs.Parts.{IsSetRestRefusal}
use Rattle.checkpoint.specs.declared.fault.ApplyFault.{ApplyFault}
use Rattle.checkpoint.specs.declared.fault.ApplyFault.TheVariants as faults
use Rattle.checkpoint.specs.Applies.{RefusesApply, apply_told}
use Rattle.checkpoint.specs.Fitting.{Fits, HasBytes, MayBe, PartsFit}
use Rattle.checkpoint.specs.Patches.{RefusesPages, with_parts_cleared, with_parts_set}
use Rattle.checkpoint.proofs.Paged.{all_may_be, is_paged}
use Rattle.checkpoint.proofs.Parts.{IsFew, bytes_of_parts, each_fits, few_of_parts, fit_of, increasing, pages_of_parts, parts_of_pages, rise_from}
use Rattle.checkpoint.proofs.Patched.{patched_by}

abbrev pub HaveBytes : List Part → Type 0
HaveBytes parts = AllByRecursion (λ part. AllByRecursion HasBytes part.pages) parts

all_both : {A : Type 0} (P Q : A → Type 0) (xs : List A) → AllByRecursion P xs → AllByRecursion Q xs → AllByRecursion (λ x. P x × Q x) xs
all_both P Q [] h k = tt
all_both P Q (x ∷ xs) h k = ((h.0, k.0), all_both P Q xs h.1 k.1)

holds : (xs : List PagePart) → AllByRecursion Fits xs → AllByRecursion HasBytes xs → AllByRecursion (λ p. MayBe p × HasBytes p) xs
holds xs fits bytes = all_both MayBe HasBytes xs (AllByRecursion-weaker Fits MayBe xs (λ p h. h.1) fits) bytes

-- ---- parts that fit describe a state

pub describes : (base : State) (parts : List Part) (rest : CheckpointRest) → EndsWithRest parts rest → PartsFit 0 parts → HaveBytes parts →
    MakesState rest base
    → DescribesWithoutLimit base parts (described_state base (all_pages parts) rest)
describes base parts rest ends fit bytes makes =
    let fits = each_fits 0 (all_pages parts) (pages_of_parts 0 parts fit) in
    record {
      rest = rest;
      flagged = ends;
      few = All-from_recursion IsFew parts (few_of_parts 0 parts fit);
      rising = increasing 0 (all_pages parts) (pages_of_parts 0 parts fit);
      pages = All-from_recursion IsPagePart (all_pages parts) (AllByRecursion-weaker Fits IsPagePart (all_pages parts) (λ p h. h.0) fits);
      tids_rising = makes.tids_rising;
      is_state = record {
        memory = is_paged (all_pages parts) base.memory (holds (all_pages parts) fits (bytes_of_parts parts bytes))
            makes.is_state.rules.memory;
        threads = makes.is_state.rules.threads;
        opening = makes.is_state.rules.opening;
        breaks = makes.is_state.rules.breaks;
        reservation = tt;
        ended = tt;
      };
      state_is = refl;
    }

-- what the passes over the pages leave is that state
left_is : (base : State) (parts : List Part) (rest : CheckpointRest) → PartsFit 0 parts →
    with_parts_set parts (with_parts_cleared parts (with_rest rest base)) ≡ described_state base (all_pages parts) rest
left_is base parts rest fit = patched_by parts (with_rest rest base) (pages_of_parts 0 parts fit)

pub applied : (base now : State) (parts : List Part) (rest : CheckpointRest) → EndsWithRest parts rest → PartsFit 0 parts →
    HaveBytes parts → MakesState rest base
    → now ≡ with_parts_set parts (with_parts_cleared parts (with_rest rest base)) → IsMemory now.memory → Describes base parts now
applied base now parts rest ends fit bytes makes is memory = record {
  describes = subst (DescribesWithoutLimit base parts) (sym (is ∙ left_is base parts rest fit))
      (describes base parts rest ends fit bytes makes);
  limit = memory.limit;
}

pub refused_pages : (fault : ApplyFault) (base : State) (parts : List Part) (rest : CheckpointRest) → EndsWithRest parts rest →
    PartsFit 0 parts → HaveBytes parts → MakesState rest base
    → RefusesPages fault (with_parts_set parts (with_parts_cleared parts (with_rest rest base))).memory → RefusesApply base parts fault
refused_pages faults.BadPart base parts rest ends fit bytes makes h = absurd h
refused_pages faults.TooManyPages base parts rest ends fit bytes makes h = (
  described_state base (all_pages parts) rest,
  describes base parts rest ends fit bytes makes,
  subst (λ (s : State). MAX_PAGES < page_count s.memory) (left_is base parts rest fit) h,
)
refused_pages faults.Memory base parts rest ends fit bytes makes h =
    (described_state base (all_pages parts) rest, describes base parts rest ends fit bytes makes)

-- ---- others describe none

pub parts_fit : (base s : State) (parts : List Part) → DescribesWithoutLimit base parts s → PartsFit 0 parts
parts_fit base s parts d =
    let pages = all_pages parts in
    let rise = rise_from 0 pages d.rising (λ p rest e. omega arith) in
    parts_of_pages 0 parts (recursion_from_All IsFew parts d.few)
    (fit_of 0 pages rise (all_both IsPagePart MayBe pages (recursion_from_All IsPagePart pages d.pages)
    (all_may_be 0 pages base.memory s.memory rise (λ a low. ap (λ (x : State). x.memory a) d.state_is) d.is_state.memory)))

ends_once : (parts : List Part) (r q : CheckpointRest) → EndsWithRest parts r → EndsWithRest parts q → r ≡ q
ends_once [] r q h k = absurd h
ends_once (p ∷ []) r q h k = cc
ends_once (p ∷ next ∷ parts) r q h k = ends_once (next ∷ parts) r q h.1 k.1

makes_state : (base s : State) (parts : List Part) (rest : CheckpointRest) → EndsWithRest parts rest → IsMemory base.memory →
    DescribesWithoutLimit base parts s → MakesState rest base
makes_state base s parts rest ends memory d =
    let is : s ≡ described_state base (all_pages parts) d.rest = d.state_is in
    let same : d.rest ≡ rest = ends_once parts d.rest rest d.flagged ends in
    subst (λ r. MakesState r base) same (record {
      tids_rising = d.tids_rising;
      is_state = (let state = subst (λ (x : State). IsStateWithoutLimit x) is d.is_state in record {
        rules = record {
          memory = memory.pages;
          threads = state.threads;
          opening = state.opening;
          breaks = state.breaks;
          reservation = tt;
          ended = tt;
        };
        limit = memory.limit;
      });
    })

pub refused_rest : (fault : SetRestFault) (base : State) (parts : List Part) (rest : CheckpointRest) → EndsWithRest parts rest →
    PartsFit 0 parts → HaveBytes parts → IsMemory base.memory
    → IsSetRestRefusal fault rest base → RefusesApply base parts (apply_told fault)
refused_rest rest_faults.NoState base parts rest ends fit bytes memory h = λ s d. h (makes_state base s parts rest ends memory d)
refused_rest rest_faults.Memory base parts rest ends fit bytes memory h =
    (described_state base (all_pages parts) rest, describes base parts rest ends fit bytes h)
