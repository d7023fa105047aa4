-- One more request of a worker.
use Rattle.std.proofs.Common.{◌≡◌, ℕ, suc, List, [], ◌∷◌, ◌++◌, length, refl, ap, subst}
use Rattle.numa_requests.specs.declared.request.Request.{Request}
use Rattle.numa_fault.specs.Crew.{Serves, result_of}
use Rattle.numa_fault.specs.Fault.{Faults}
use Rattle.numa_fault.specs.Worker.{Parts}
use Rattle.numa_fault.specs.declared.answer.Answer.{Answer}

module _ (frames : List ℕ) where
  pub serves-more : (requests : List Request) (before after later : Parts) (answers : List Answer)
      (r : Request) (a : Answer) → Serves frames requests before after answers
      → Faults frames r after later (result_of a)
      → Serves frames (requests ++ r ∷ []) before later (answers ++ a ∷ [])
  serves-more [] before after later [] r a done next =
      (later, subst (λ (h : Parts). Faults frames r h later (result_of a)) done next, refl)
  serves-more [] before after later (b ∷ bs) r a done next = absurd done
  serves-more (q ∷ qs) before after later [] r a done next = absurd done
  serves-more (q ∷ qs) before after later (b ∷ bs) r a done next =
      (done.0, done.1, serves-more qs done.0 after later bs r a done.2 next)

  pub serves-length : (requests : List Request) (before after : Parts) (answers : List Answer)
      → Serves frames requests before after answers → length answers ≡ length requests
  serves-length [] before after [] done = refl
  serves-length [] before after (b ∷ bs) done = absurd done
  serves-length (q ∷ qs) before after [] done = absurd done
  serves-length (q ∷ qs) before after (b ∷ bs) done =
      ap suc (serves-length qs done.0 after bs done.2)
