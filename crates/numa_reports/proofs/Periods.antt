-- After how many pages the lists of a range come again.
use Rattle.std.proofs.Common.{◌≡◌, ℕ, ◌+◌, ◌-◌, ◌<◌, ◌≤◌, Bool, cond, Option, Some, None, sym, ap}
use Rattle.std.proofs.Common.{◌∙◌, arith, inl, inr, List, [], unwrap_or}
use Rattle.std.specs.Option.{option_map}
use Rattle.std.proofs.lemmas.Bool.{cases_Bool}
use Rattle.numa_mode.specs.Policy.{PolicyRecord}
use Rattle.numa_ranges.specs.declared.run.Run.{Run}
use Rattle.numa_space.specs.Lists.{list_for, node_list, setting_of}
use Rattle.numa_space.specs.Pages.{index_of, is_mapped, page_in, policy_of_range, range_record}
use Rattle.numa_space.specs.Pages.{resolved_policy}
use Rattle.numa_space.specs.Policies.{policy_that_counts, task_record}
use Rattle.numa_space.specs.Standing.{SpaceState, StandsFor}
use Rattle.numa_requests.specs.declared.command.Command.{Command}
use Rattle.numa_placed.specs.Periods.{IsPeriod, Repeats}
use Rattle.numa_plan.specs.Meaning.{PlanData}
use Rattle.numa_compile.specs.Standing.{PlanStandsFor}
use Rattle.numa_reports.specs.Filled.{planned_nodes}
use Rattle.numa_reports.specs.Turns.{HasPages}
use Rattle.numa_reports.proofs.Taking.{same-nodes}

-- the list that a plan has for a page of a range
range-list : (space : SpaceState) (plan : PlanData) (history : List Command) (task cpu page : ℕ)
    (range : Run (Option PolicyRecord)) (policy : Option PolicyRecord) → StandsFor space history
    → PlanStandsFor space.machine plan history → cpu < space.machine.nodes
    → HasPages space.ranges range → policy ≡ resolved_policy space.machine history task range.first
    → range.first ≤ page → page < range.first + range.pages
    → planned_nodes plan task cpu page ≡ list_for (setting_of space.machine history) policy cpu
    (range.index + (page - range.first))
range-list space plan history task cpu page range policy stands planned lt pages serves low high =
    let machine = space.machine in
    let held : (p : ℕ) → range.first ≤ p → p < range.first + range.pages → page_in machine history p
    ≡ Some (range.index + (p - range.first), range.value) = λ p l h. sym (stands.pages p)
    ∙ pages p l h in
    let counts : (p : ℕ) → range.first ≤ p → p < range.first + range.pages
    → resolved_policy machine history task p ≡ policy_that_counts range.value
    (task_record machine history task) =
    λ p l h.
    ap (λ (o : Option (ℕ × Option PolicyRecord)). policy_that_counts (policy_of_range o)
    (task_record machine history task)) (held p l h) in
    let first : range.first < range.first + range.pages = omega (arith, low, high) in
    let same : resolved_policy machine history task page ≡ policy = counts page low high
    ∙ sym (counts range.first (omega arith) first) ∙ sym serves in
    same-nodes machine plan history task cpu page planned lt
    ∙ elim (cases_Bool (is_mapped history page)) [
      | inl t ↦
          let there : page_in machine history page
          ≡ Some (index_of history page, range_record machine history page) =
          ap (λ (b : Bool).
          cond b (Some (index_of history page, range_record machine history page)) None) t in
          let index : index_of history page ≡ range.index + (page - range.first) =
          ap (λ (o : Option (ℕ × Option PolicyRecord)). unwrap_or (option_map (λ at. at.0) o) 0)
          (sym there ∙ held page low high) in
          ap (λ (b : Bool). cond b (node_list machine history task page cpu) []) t
          ∙ (λ i. list_for (setting_of machine history) (same i) cpu (index i))
      | inr f ↦
          let none : page_in machine history page ≡ None =
          ap (λ (b : Bool).
          cond b (Some (index_of history page, range_record machine history page)) None) f in
          absurd (let odd = sym none ∙ held page low high in cc)
    ]

-- the lists of a range come again after the period of the policy that serves there
pub range-repeats : (space : SpaceState) (plan : PlanData) (history : List Command)
    (task cpu period : ℕ) (range : Run (Option PolicyRecord)) (policy : Option PolicyRecord)
    → StandsFor space history → PlanStandsFor space.machine plan history → cpu < space.machine.nodes
    → HasPages space.ranges range → policy ≡ resolved_policy space.machine history task range.first
    → IsPeriod (setting_of space.machine history) policy range.index range.pages period
    → Repeats (planned_nodes plan task cpu) range.first range.pages period
range-repeats space plan history task cpu period range policy stands planned lt pages serves
    periodic page low high =
    let index : range.index + (page + period - range.first) ≡ range.index + (page - range.first)
    + period = omega (arith, low) in
    range-list space plan history task cpu (page + period) range policy stands planned lt pages
    serves (omega (arith, low)) high
    ∙ ap (λ (n : ℕ). list_for (setting_of space.machine history) policy cpu n) index
    ∙ periodic cpu (page - range.first) (omega (arith, low, high))
    ∙ sym (range-list space plan history task cpu page range policy stands planned lt pages serves
    low (omega (arith, high)))
