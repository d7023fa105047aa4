-- Spans that are mapped as pages of 2 MiB.
use Rattle.std.proofs.Common.{◌≡◌, ℕ, Bool, true, false, Option, Some, None, Ok, Err, List, refl}
use Rattle.std.proofs.Common.{sym}
use Rattle.std.proofs.Common.{ap, subst, ◌∙◌, is_some}
use Rattle.std.proofs.lemmas.Bool.{both_ways}
use Rattle.std.specs.Prelude.{◌/◌, ◌&&◌, if◌then◌else◌}
use Rattle.numa_core.specs.Standing.{CoreState, setup_of}
use Rattle.numa_machine.specs.declared.rules.Rules.{Rules}
use Rattle.numa_mode.specs.Policy.{PolicyRecord}
use Rattle.numa_requests.specs.declared.command.Command.{Command}
use Rattle.numa_requests.specs.declared.page_refusal.HugeRefusal.TheVariants as because
use Rattle.numa_requests.specs.declared.page_refusal.PlacedRefusal.{PlacedRefusal}
use Rattle.numa_requests.specs.declared.refusal.Refusal.{Refusal}
use Rattle.numa_requests.specs.declared.refusal.Refusal.TheVariants as own
use Rattle.numa_space.specs.Policies.{allowed_nodes, task_record}
use Rattle.numa_space.specs.Refusals.{refusal_of}
use Rattle.numa_space.specs.Standing.{SpaceState, StandsFor}
use Rattle.numa_pools.specs.Pools.{PoolCounts, lacks_pages, refusing}
use Rattle.numa_huge.specs.Huge.{HugeLying, HugePlaced, fits, fresh_spot, mapping, places_of}
use Rattle.numa_huge.specs.Huge.{with_span}
use Rattle.numa_huge.specs.Tallies.{IsLackFor}
use Rattle.numa_page_state.specs.Huge.{mapping_nodes}
use Rattle.numa_page_state.specs.Lying.{Lying}
use Rattle.numa_page_state.specs.Pooling.{mapped_first, mapped_pages}
use Rattle.numa_page_state.specs.Standing.{LiesAs}
use Rattle.numa_page_state.specs.Strict.{is_late}
use Rattle.numa_pages.specs.Changes.{Answers, PagesState, huge_in}
use Rattle.numa_pages.specs.PoolCalls.{IsLate, Lacking, MapsHuge, command_in, lacks_for, with_pools}
use Rattle.numa_pages.specs.Sizes.{with_mapping}
use Rattle.numa_pages.specs.declared.mapping.HugeMapping.{HugeMapping}
use Rattle.numa_pages.specs.declared.refusal.ChangeRefusal.TheVariants.{OfHuge, OfPages}
use Rattle.numa_pages.specs.declared.refusal.ChangeRefusal.TheVariants.{OfSpace}
use Rattle.numa_pages.proofs.Refusing.{Stands}

-- ---- whether there are too few pages

-- by the task's policy and the allowed nodes as they were read
pub lacks-so : (said : HugeMapping) (pages : PagesState) (policy : Option PolicyRecord)
    (allowed nodes count : ℕ) (pools : PoolCounts) (lacks is : Bool)
    → ((history : List Command) → StandsFor pages.core.space history
    → policy ≡ task_record pages.core.space.machine history said.task)
    → ((history : List Command) → StandsFor pages.core.space history
    → allowed ≡ allowed_nodes pages.core.space.machine history)
    → nodes ≡ mapping_nodes policy allowed → count ≡ mapped_pages said.length
    → pools ≡ pages.huge.pools → lacks ≡ (said.reserves && lacks_pages pools count nodes)
    → lacks ≡ is → Lacking is said pages
lacks-so said pages policy allowed nodes count pools lacks is policy_is allowed_is nodes_are
    count_is pools_are lacks_is so = λ history of.
    sym ((λ i. said.reserves && lacks_pages (pools_are i) (count_is i)
    ((nodes_are ∙ (λ j. mapping_nodes (policy_is history of j) (allowed_is history of j))) i)))
    ∙ sym lacks_is ∙ so

-- ---- a mapping that finds too few

-- what isn't late stands against it
not-late : (rules : Rules) (first : Option Refusal) → is_late rules first ≡ false
    → is_some first ≡ true
not-late rules None late = absurd (both_ways true late refl)
not-late rules (Some refusal) late = refl

pub stands-so : (said : HugeMapping) (pages : PagesState) (late : Bool)
    → ((history : List Command) → StandsFor pages.core.space history
    → late ≡ is_late pages.core.space.machine.rules (refusal_of pages.core.space.machine
    pages.core.space.bounds history (command_in said))) → late ≡ false
    → Stands pages (command_in said)
stands-so said pages late judged is = λ history lying of lies.
    not-late pages.core.space.machine.rules (refusal_of pages.core.space.machine
    pages.core.space.bounds history (command_in said)) (sym (judged history of) ∙ is)

-- free surplus pages end
pub map-lacks : (said : HugeMapping) (before after : PagesState) (pages : ℕ)
    → Lacking true said before → IsLate said before → pages ≡ mapped_pages said.length
    → after.core ≡ before.core → after.state ≡ before.state
    → after.huge.pools ≡ refusing before.huge.pools pages
    → after.huge.runs ≡ before.huge.runs
    → MapsHuge said before (Err (OfHuge because.NoHugePages)) after
map-lacks said before after pages lacks late count core state pools runs = record {
  core = tt;
  huge = tt;
  enough = tt;
  state = state;
  setup = ap setup_of core;
  err = (
    refl,
    lacks,
    late,
    λ i. record {
      core = core i;
      state = state i;
      huge = record { pools = (pools ∙ ap (refusing before.huge.pools) count) i; runs = runs i };
    },
  );
}

-- ---- one that finds enough

-- it lacks runs, or memory for them
pub map-crowded : (said : HugeMapping) (before : PagesState) (first pages : ℕ) (why : PlacedRefusal)
    → Lacking false said before → first ≡ mapped_first said.start
    → pages ≡ mapped_pages said.length
    → IsLackFor (with_span first pages (Some (fresh_spot said.reserves)) (huge_in before).spots) why
    → MapsHuge said before (Err (OfPages why)) before
map-crowded said before first pages why enough start count lacks = record {
  core = tt;
  huge = tt;
  enough = tt;
  state = refl;
  setup = refl;
  err = (
    enough,
    subst (λ n. IsLackFor (with_span (mapped_first said.start) n
        (Some (fresh_spot said.reserves)) (huge_in before).spots) why) count
        (subst (λ n. IsLackFor (with_span n pages (Some (fresh_spot said.reserves))
        (huge_in before).spots) why) start lacks),
    refl,
  );
}

-- it fits, and this is what is kept then
pub fitting-is : (said : HugeMapping) (huge : HugeLying) (first pages : ℕ) (after : HugePlaced)
    → first ≡ mapped_first said.start → pages ≡ mapped_pages said.length
    → fits huge.spots first pages ≡ true
    → places_of after ≡ mapping first pages said.reserves huge
    → places_of after ≡ with_mapping said.start said.length said.reserves huge
fitting-is said huge first pages after start count fit is =
    let so : fits huge.spots (mapped_first said.start) (mapped_pages said.length) ≡ true =
    sym (λ i. fits huge.spots (start i) (count i)) ∙ fit in
    is ∙ (λ i. mapping (start i) (count i) said.reserves huge)
    ∙ sym (ap (λ (b : Bool). if b then mapping (mapped_first said.start)
    (mapped_pages said.length) said.reserves huge else huge) so)

-- it doesn't
pub misfit-is : (said : HugeMapping) (huge : HugeLying)
    → fits huge.spots (mapped_first said.start) (mapped_pages said.length) ≡ false
    → huge ≡ with_mapping said.start said.length said.reserves huge
misfit-is said huge misfit = sym (ap (λ (b : Bool). if b then mapping (mapped_first said.start)
    (mapped_pages said.length) said.reserves huge else huge) misfit)

pub map-done : (said : HugeMapping) (before after : PagesState) (version : ℕ)
    → Lacking false said before
    → Answers before.core (command_in said) (Ok version) after.core
    → setup_of after.core ≡ setup_of before.core → after.state ≡ before.state
    → huge_in after ≡ with_mapping said.start said.length said.reserves (huge_in before)
    → MapsHuge said before (Ok version) after
map-done said before after version enough answers setup state huge = record {
  core = answers;
  huge = huge;
  enough = enough;
  state = state;
  setup = setup;
  err = tt;
}

-- the core refuses it
pub map-refused : (said : HugeMapping) (before after : PagesState) (refusal : Refusal)
    → Answers before.core (command_in said) (Err refusal) after.core → after.core ≡ before.core
    → after.state ≡ before.state → after.huge ≡ before.huge
    → MapsHuge said before (Err (OfSpace refusal)) after
map-refused said before after refusal answers core state huge = record {
  core = tt;
  huge = tt;
  enough = tt;
  state = state;
  setup = ap setup_of core;
  err = (
    subst (Answers before.core (command_in said) (Err refusal)) core answers,
    λ i. record { core = core i; state = state i; huge = huge i },
  );
}

-- ---- as it was read

-- whether it is late, by the space and the command
pub late-so : (said : HugeMapping) (pages : PagesState) (space : SpaceState) (command : Command)
    (late : Bool) → space ≡ pages.core.space → command ≡ command_in said
    → ((history : List Command) → StandsFor space history
    → late ≡ is_late space.machine.rules (refusal_of space.machine space.bounds history command))
    → (history : List Command) → StandsFor pages.core.space history
    → late ≡ is_late pages.core.space.machine.rules (refusal_of pages.core.space.machine
    pages.core.space.bounds history (command_in said))
late-so said pages space command late same is judged =
    subst (λ (s : SpaceState). (history : List Command) → StandsFor s history
    → late ≡ is_late s.machine.rules (refusal_of s.machine s.bounds history (command_in said)))
    same (subst (λ (k : Command). (history : List Command) → StandsFor space history
    → late ≡ is_late space.machine.rules (refusal_of space.machine space.bounds history k)) is
    judged)

-- its first page
pub first-so : (start size : ℕ) → size ≡ 2097152 → start / size ≡ mapped_first start
first-so start size is = ap (λ (n : ℕ). start / n) is
