-- Lists that come again after the turns of a cycle.
use Rattle.std.proofs.Common.{◌≡◌, ℕ, ◌+◌, ◌-◌, ◌*◌, ◌/◌, ◌%◌, ◌<◌, ◌≤◌, Option, Some, List, length}
use Rattle.std.proofs.Common.{get_or}
use Rattle.std.proofs.Common.{refl, sym, ap, ◌∙◌, arith, slice_get}
use Rattle.std.specs.Prelude.{min}
use Rattle.std.specs.Option.{option_map}
use Rattle.std.proofs.Math.Nat.{add-mul-mod_self_right, mod-add-div', mod-le, min-eq_left}
use Rattle.numa_machine.specs.Sizes.{round_of, turn_at}
use Rattle.numa_machine.proofs.Sizes.{round-within, rounds-later}
use Rattle.std.proofs.lemmas.Option.{get_or_from_slice_get, slice_get_within}
use Rattle.numa_ranges.specs.Runs.{AreApart, page_at}
use Rattle.numa_ranges.specs.declared.run.Run.{Run}
use Rattle.numa_ranges.proofs.Apart.{page_at-inside}
use Rattle.numa_plan.specs.Meaning.{PlanData, planned_list, rule_for}
use Rattle.numa_plan.specs.Rows.{Key, Faulting, Fixed, InTurns, RuleData}
use Rattle.numa_plan.specs.Rows.{number_by, row_at, row_of}
use Rattle.numa_plan.specs.Turns.{cycle_by, cycle_of}

-- the entry of a page's turn is that of the page so many rounds before it
entry-again : (cycle : List ℕ) (index pages k : ℕ) → k < pages
    → get_or cycle (turn_at (index + k) % length cycle) 0 ≡ get_or cycle
    (turn_at (index + k % min (round_of (length cycle) index pages) pages) % length cycle) 0
entry-again cycle index pages k lt =
    let size : ℕ = length cycle in
    let round : ℕ = round_of size index pages in
    let whole : min round pages ≡ round = min-eq_left (round-within size index pages) in
    let parts : k % round + k / round * round ≡ k = mod-add-div' k round in
    let later : turn_at (index + (k % round + k / round * round))
    ≡ turn_at (index + k % round) + k / round * size =
    rounds-later size index pages (k % round) (k / round) (omega (arith, parts, lt)) in
    ap (λ (n : ℕ). get_or cycle n 0)
    (ap (λ (n : ℕ). turn_at (index + n) % size) (sym parts)
    ∙ ap (λ (n : ℕ). n % size) later
    ∙ add-mul-mod_self_right (turn_at (index + k % round)) (k / round) size
    ∙ ap (λ (n : ℕ). turn_at (index + k % n) % size) (sym whole))

number-again : (key : Key) (cpu index pages k : ℕ) → k < pages
    → number_by key cpu (turn_at (index + k))
    ≡ number_by key cpu (turn_at (index + k % min (cycle_by key index pages) pages))
number-again Faulting cpu index pages k lt = refl
number-again Fixed cpu index pages k lt = refl
number-again (InTurns cycle) cpu index pages k lt = entry-again cycle index pages k lt

-- the row of a page is that of the page so many rounds before it
row-again : (rule : RuleData) (cpu index k pages cycle : ℕ)
    → cycle ≡ min (cycle_of rule index pages) pages
    → k < pages → row_of rule cpu (index + k) ≡ row_of rule cpu (index + k % cycle)
row-again rule cpu index k pages cycle is lt =
    ap (λ (n : ℕ). row_at rule n) (number-again rule.key cpu index pages k lt)
    ∙ ap (λ (n : ℕ). row_of rule cpu (index + k % n)) (sym is)

-- the list of a page of a run
list-inside : (plan : PlanData) (task cpu place k : ℕ) (run : Run (Option ℕ))
    → AreApart 0 plan.runs → slice_get plan.runs place ≡ Some run → k < run.pages
    → planned_list plan task (run.first + k) cpu
    ≡ Some (row_of (rule_for plan task run.value) cpu (run.index + k))
list-inside plan task cpu place k run apart is lt =
    let within : place < length plan.runs = slice_get_within plan.runs place run is in
    let same : run ≡ get_or plan.runs place run =
    sym (get_or_from_slice_get plan.runs place run run is) in
    let far : run.index + (run.first + k - run.first) ≡ run.index + k = omega arith in
    let at : page_at plan.runs (run.first + k) ≡ Some (run.index + k, run.value) =
    page_at-inside 0 plan.runs place (run.first + k) run apart within same (omega arith)
    (omega arith)
    ∙ ap (λ (n : ℕ). Some (n, run.value)) far in
    ap (λ o. option_map (λ at. row_of (rule_for plan task at.1) cpu at.0) o) at

pub list-again : (plan : PlanData) (task cpu place k cycle : ℕ) (run : Run (Option ℕ))
    → AreApart 0 plan.runs → slice_get plan.runs place ≡ Some run
    → cycle ≡ min (cycle_of (rule_for plan task run.value) run.index run.pages) run.pages → k <
    run.pages
    → planned_list plan task (run.first + k) cpu ≡ planned_list plan task (run.first + k % cycle) cpu
list-again plan task cpu place k cycle run apart is short lt =
    let before : k % cycle ≤ k = mod-le k cycle in
    list-inside plan task cpu place k run apart is lt
    ∙ ap Some (row-again (rule_for plan task run.value) cpu run.index k run.pages cycle short lt)
    ∙ sym (list-inside plan task cpu place (k % cycle) run apart is (omega (arith, before)))
