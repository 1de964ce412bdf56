-- A race is found in the one run, and in the other a message orders the word.
use Rattle.std.proofs.Common.{inl, inr, false, [], ◌∷◌, refl, lit<}
use Rattle.order.specs.Order.{HappensBefore, Leads, Race, run_of}
use Rattle.order.specs.Example.{store_and_load, word_and_flag}
use Rattle.order.proofs.Clocks.{threads}
use Rattle.order.proofs.Found.{found_race}

pub store_races : Race (λ b. false) (run_of store_and_load) 1 2 0x100
store_races =
    found_race (λ b. false) (λ tid. tid) (run_of store_and_load) (threads (λ b. false) (run_of store_and_load)) 2 0x100
    (record { line = 1; act = 1 }) (inl refl)

pub word_is_ordered : HappensBefore (λ b. false) (run_of word_and_flag) 1 6
word_is_ordered = (2 ∷ 5 ∷ [], (store_then_fence, (fence_then_fence, fence_then_load))) where
  store_then_fence : Leads (λ b. false) (run_of word_and_flag) 1 2
  store_then_fence = (lit< tt, inl refl)

  fence_then_fence : Leads (λ b. false) (run_of word_and_flag) 2 5
  fence_then_fence = (
    lit< tt,
    inr (record {
      w = 3;
      sends = record { x = 3; atomic = refl; carries = inr (lit< tt, refl, refl); steps = 0; on = refl };
      r = 4;
      hears = (0x100, refl, refl);
      knows = inr (lit< tt, refl, refl);
    }),
  )

  fence_then_load : Leads (λ b. false) (run_of word_and_flag) 5 6
  fence_then_load = (lit< tt, inl refl)
