-- The jobs of programs, program by program.
use Rattle.std.proofs.Common.{◌≡◌, ℕ, ◌+◌, List, [], ◌∷◌, ◌++◌, length, arith, subst}
use Rattle.host.specs.Seen.{Seen}
use Rattle.session.specs.declared.job.Job.{Job}
use Rattle.recording.specs.Limits.{Limit}
use Rattle.recording.specs.Jobs.{AreJobs, IsJob, Terms}

module _ {S : Type 0} (terms : Terms) where
  pub as_many : (place : ℕ) (files : List (List ℕ)) (jobs : List (Job Limit Seen S)) → AreJobs terms place files jobs →
      length jobs ≡ length files
  as_many place [] [] are = omega arith
  as_many place [] (job ∷ jobs) are = absurd are
  as_many place (file ∷ files) [] are = absurd are
  as_many place (file ∷ files) (job ∷ jobs) are = let e = as_many (place + 1) files jobs are.1 in omega (arith, e)

  pub jobs_on : (place at : ℕ) (files : List (List ℕ)) (jobs : List (Job Limit Seen S)) (file : List ℕ) (job : Job Limit Seen S)
      → AreJobs terms place files jobs → at ≡ place + length jobs → IsJob terms at file job →
      AreJobs terms place (files ++ file ∷ []) (jobs ++ job ∷ [])
  jobs_on place at [] [] file job are there is =
      let here : at ≡ place = omega (arith, there) in (subst (λ n. IsJob terms n file job) here is, tt)
  jobs_on place at [] (first ∷ jobs) file job are there is = absurd are
  jobs_on place at (f ∷ files) [] file job are there is = absurd are
  jobs_on place at (f ∷ files) (first ∷ jobs) file job are there is =
      let next : at ≡ place + 1 + length jobs = omega (arith, there) in (are.0, jobs_on (place + 1) at files jobs file job are.1 next is)
