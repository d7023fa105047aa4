-- Pages that are there, and pages that a touch puts somewhere, counted by node.
use Rattle.std.proofs.Common.{◌≡◌, ℕ, ◌+◌, ◌-◌, ◌<◌, ◌≤◌, ◌^◌, ◌&&◌, eqb, Bool, true, false}
use Rattle.std.proofs.Common.{Option, Some, None, is_some, List, [], ◌∷◌, get_or, length, refl, sym, ap}
use Rattle.std.proofs.Common.{◌∙◌, arith}
use Rattle.std.specs.Prelude.{sum, unwrap_or, if◌then◌else◌}
use Rattle.std.specs.Option.{option_map, option_or}
use Rattle.std.proofs.lemmas.List.Sums.{sum_by-cons}
use Rattle.numa_mode.specs.Policy.{PolicyRecord}
use Rattle.numa_ranges.specs.Counts.{count_pages}
use Rattle.numa_ranges.specs.Runs.{AreApart, end_of, in_pages, page_at}
use Rattle.numa_ranges.specs.declared.run.Run.{Run}
use Rattle.numa_ranges.proofs.Apart.{in_pages-true}
use Rattle.numa_ranges.proofs.Counted.{count-none, count-split}
use Rattle.numa_space.specs.Pages.{is_mapped}
use Rattle.numa_space.specs.Standing.{SpaceState, StandsFor}
use Rattle.numa_requests.specs.declared.command.Command.{Command}
use Rattle.numa_plan.specs.Meaning.{PlanData, is_number, planned_first}
use Rattle.numa_compile.specs.Spans.{first_node}
use Rattle.numa_compile.specs.Standing.{PlanStandsFor}
use Rattle.numa_placed.specs.Spots.{node_of}
use Rattle.numa_placed.specs.declared.spot.Spot.{Spot}
use Rattle.numa_placed.proofs.Shared.{count-same}
use Rattle.numa_placed.proofs.Summed.{count-run}
use Rattle.numa_reports.specs.Lying.{alike_pages, lies_on, planned_node, planned_pages}
use Rattle.numa_reports.specs.Turns.{HasPages}
use Rattle.numa_reports.proofs.Placed.{few-numbers}
use Rattle.numa_reports.proofs.Refusing.{range-mapped}
use Rattle.numa_reports.proofs.Tiling.{count-runs, count_runs, not-mapped}

-- ---- pages that lie alike

-- they have their node, or are counted by the first nodes of their lists
pub alike-counted : (plan : PlanData) (spots : ℕ → Spot) (task cpu node first pages : ℕ)
    (there : Option ℕ)
    → ((page : ℕ) → first ≤ page → page < first + pages → node_of (spots page) ≡ there)
    → planned_pages plan spots task first pages cpu node
    ≡ alike_pages plan there task first pages cpu node
alike-counted plan spots task cpu node first pages None same =
    count-same (λ page. is_number node (planned_node plan spots task cpu page))
    (λ page. is_number node (planned_first plan task page cpu)) first pages
    (λ page low high. ap (λ o. is_number node (option_or o (planned_first plan task page cpu)))
    (same page low high))
alike-counted plan spots task cpu node first pages (Some there) same =
    count-run (λ page. is_number node (planned_node plan spots task cpu page)) (eqb there node)
    first pages
    (λ page low high. ap (λ o. is_number node (option_or o (planned_first plan task page cpu)))
    (same page low high))

-- so pages of a span that were counted, and the next ones that lie alike, are counted together
pub counted-more : (plan : PlanData) (spots : ℕ → Spot)
    (task cpu node first pages left n count more : ℕ) (there : Option ℕ) → left ≤ pages → n ≤ left
    → ((page : ℕ) → first + (pages - left) ≤ page → page < first + (pages - left) + n
    → node_of (spots page) ≡ there)
    → count ≡ planned_pages plan spots task first (pages - left) cpu node
    → more ≡ count + alike_pages plan there task (first + (pages - left)) n cpu node
    → more ≡ planned_pages plan spots task first (pages - (left - n)) cpu node
counted-more plan spots task cpu node first pages left n count more there few fits same so_far now =
    let done = pages - left in
    let size : pages - (left - n) ≡ done + n = omega (arith, few, fits) in
    let cut : planned_pages plan spots task first (done + n) cpu node
    ≡ planned_pages plan spots task first done cpu node
    + planned_pages plan spots task (first + done) n cpu node =
    count-split (λ page. is_number node (planned_node plan spots task cpu page)) first done n
    (done + n) refl in
    omega (
      arith,
      so_far,
      now,
      cut,
      alike-counted plan spots task cpu node (first + done) n there same,
      ap (λ (k : ℕ). planned_pages plan spots task first k cpu node) size,
    )

-- before the first
pub counted-none : (plan : PlanData) (spots : ℕ → Spot) (task cpu node first pages : ℕ)
    → planned_pages plan spots task first (pages - pages) cpu node ≡ 0
counted-none plan spots task cpu node first pages =
    let none : pages - pages ≡ 0 = omega arith in
    ap (λ (k : ℕ). planned_pages plan spots task first k cpu node) none
    ∙ count-none (λ page. is_number node (planned_node plan spots task cpu page)) first 0
    (λ page low high. absurd (omega (arith, low, high)))

-- ---- by the history

module _ (space : SpaceState) (plan : PlanData) (history : List Command) (spots : ℕ → Spot)
    (task cpu node : ℕ) (stands : StandsFor space history)
    (planned : PlanStandsFor space.machine plan history) (known : cpu < space.machine.nodes) where
  -- the node that a plan says of a mapped page is the meant one
  node-meant : (page : ℕ) → is_mapped history page ≡ true
      → is_number node (planned_node plan spots task cpu page)
      ≡ lies_on space.machine history spots task cpu node page
  node-meant page mapped = go (node_of (spots page))
    where
      go : (o : Option ℕ)
          → is_number node (option_or o (planned_first plan task page cpu))
          ≡ (is_mapped history page
          && eqb (unwrap_or o (first_node space.machine history task page cpu)) node)
      go None =
          ap (λ o. is_number node (option_map (λ (nodes : List ℕ). get_or nodes 0 0) o))
          (planned.lists task page cpu known mapped)
          ∙ sym (ap (λ b. b && eqb (first_node space.machine history task page cpu) node) mapped)
      go (Some there) = sym (ap (λ b. b && eqb there node) mapped)

  there-mapped : (page : ℕ) → is_some (page_at space.ranges page) ≡ true
      → is_mapped history page ≡ true
  there-mapped page there = sym (range-mapped space history page stands) ∙ there

  -- so the pages of a range are counted as meant
  pub range-lies : (range : Run (Option PolicyRecord)) → HasPages space.ranges range
      → planned_pages plan spots task range.first range.pages cpu node
      ≡ count_pages (lies_on space.machine history spots task cpu node) range.first range.pages
  range-lies range has =
      count-same (λ page. is_number node (planned_node plan spots task cpu page))
      (lies_on space.machine history spots task cpu node) range.first range.pages
      (λ page low high. node-meant page (there-mapped page
      (ap (λ (o : Option (ℕ × Option PolicyRecord)). is_some o) (has page low high))))

  runs-same : (f g : ℕ → Bool) (from : ℕ) (runs : List (Run (Option PolicyRecord)))
      → AreApart from runs
      → ((page : ℕ) → is_some (page_at runs page) ≡ true → f page ≡ g page)
      → count_runs f runs ≡ count_runs g runs
  runs-same f g from [] apart same = refl
  runs-same f g from (run ∷ runs) apart same =
      let here : count_pages f run.first run.pages ≡ count_pages g run.first run.pages =
      count-same f g run.first run.pages
      (λ page low high. same page (rw (in_pages-true run.first run.pages page low high) refl)) in
      let rest : count_runs f runs ≡ count_runs g runs =
      runs-same f g (end_of run) runs apart.3
      (λ page there. same page (later page there (in_pages run.first run.pages page))) in
      omega (
        arith,
        here,
        rest,
        sum_by-cons (λ run. count_pages f run.first run.pages) run runs,
        sum_by-cons (λ run. count_pages g run.first run.pages) run runs,
      )
    where
      later : (page : ℕ) → is_some (page_at runs page) ≡ true → (b : Bool)
          → is_some {T = ℕ × Option PolicyRecord}
          (if b then Some (run.index + (page - run.first), run.value) else page_at runs page)
          ≡ true
      later page there true = refl
      later page there false = there

  -- and those of all ranges are all mapped pages
  pub all-lie : AreApart 0 space.ranges
      → count_runs (λ page. is_number node (planned_node plan spots task cpu page)) space.ranges
      ≡ count_pages (lies_on space.machine history spots task cpu node) 0 (2 ^ 35)
  all-lie apart =
      runs-same (λ page. is_number node (planned_node plan spots task cpu page))
      (lies_on space.machine history spots task cpu node) 0 space.ranges apart
      (λ page there. node-meant page (there-mapped page there))
      ∙ count-runs (lies_on space.machine history spots task cpu node) 0 (2 ^ 35) space.ranges apart
      refl (λ page low missing.
      ap (λ b. b && eqb (unwrap_or (node_of (spots page))
      (first_node space.machine history task page cpu)) node)
      (not-mapped space history page stands missing))

-- all nodes have no more pages than there are
pub few-there : (plan : PlanData) (spots : ℕ → Spot) (task cpu first n : ℕ) (counts : List ℕ)
    → length counts ≡ 256
    → ((node : ℕ) → node < 256
    → get_or counts node 0 ≡ planned_pages plan spots task first n cpu node) → sum counts ≤ n
few-there plan spots task cpu first n counts long are =
    few-numbers (λ page. planned_node plan spots task cpu page) first n counts long are
