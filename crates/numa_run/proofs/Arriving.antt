-- What first touches did, said, where pages of 2 MiB are kept or aren't.
use Rattle.std.proofs.Common.{◌≡◌, ℕ, Option, Some, None, ap, subst, sym, ◌∙◌}
use Rattle.numa_huge.specs.Moves.{HugeArrival, HugeMemory}
use Rattle.numa_huge.specs.Tallies.{HaveArrived, StandsForHuge}
use Rattle.numa_huge.specs.declared.arrived.HugeArrived.{HugeArrived}
use Rattle.numa_huge.specs.declared.pages.HugePages.{HugePages}
use Rattle.numa_page_state.specs.Lying.{Arrival}
use Rattle.numa_page_state.specs.Standing.{ArrivedAs}
use Rattle.numa_page_state.specs.declared.arrived.Arrived.{Arrived}
use Rattle.numa_run.specs.ArrivedTexts.{arrival_beside, arrival_in, arrival_line, arrival_with}
use Rattle.numa_run.specs.ArrivedTexts.{both_arrival_line, huge_arrival_in}
use Rattle.numa_run.proofs.Keeping.{none-huge}
use Rattle.numa_run.proofs.Telling.{arrival-told, both-told}

module _ (version : ℕ) (done : Arrived) (arrival : Arrival) where
  -- none of a span had 2 MiB
  no-arrival : (told : Option HugeArrival) → ArrivedAs done arrival → HaveArrived None told
      → arrival_line version (arrival_in done) ≡ arrival_beside told version arrival
  no-arrival None so have = arrival-told version done arrival so
  no-arrival (Some told) so have = absurd have

  -- some did
  an-arrival : (huge : HugeArrived) (told : Option HugeArrival) → ArrivedAs done arrival
      → HaveArrived (Some huge) told
      → both_arrival_line version (arrival_in done) (huge_arrival_in huge)
      ≡ arrival_beside told version arrival
  an-arrival huge None so have = absurd have
  an-arrival huge (Some told) so have = both-told version done arrival huge told so have

  pub both-arrived : (kept : HugePages) (huge : HugeArrived) (memory : Option HugeMemory)
      → ArrivedAs done arrival → kept.arrived ≡ Some huge → StandsForHuge (Some kept) memory
      → both_arrival_line version (arrival_in done) (huge_arrival_in huge)
      ≡ arrival_with memory version arrival
  both-arrived kept huge None so is stands = absurd stands
  both-arrived kept huge (Some memory) so is stands = an-arrival huge memory.arrived so
      (subst (λ (a : Option HugeArrived). HaveArrived a memory.arrived) is stands.arrived)

  pub small-arrived : (kept : HugePages) (memory : Option HugeMemory) → ArrivedAs done arrival
      → kept.arrived ≡ None → StandsForHuge (Some kept) memory
      → arrival_line version (arrival_in done) ≡ arrival_with memory version arrival
  small-arrived kept None so is stands = absurd stands
  small-arrived kept (Some memory) so is stands = no-arrival memory.arrived so
      (subst (λ (a : Option HugeArrived). HaveArrived a memory.arrived) is stands.arrived)

  pub none-arrived : (huge : Option HugePages) (memory : Option HugeMemory)
      → ArrivedAs done arrival → huge ≡ None → StandsForHuge huge memory
      → arrival_line version (arrival_in done) ≡ arrival_with memory version arrival
  none-arrived huge memory so is stands = arrival-told version done arrival so
      ∙ ap (λ (m : Option HugeMemory). arrival_with m version arrival)
      (sym (none-huge huge memory is stands))
