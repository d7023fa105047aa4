-- Mapped pages lie below page 2^35.
use Rattle.std.proofs.Common.{◌≡◌, ℕ, ◌+◌, ◌<◌, ◌^◌, true, Option, Some, List, [], ◌∷◌, sym, subst}
use Rattle.std.proofs.Common.{◌∙◌, arith, inl, inr, is_some, length}
use Rattle.std.specs.Option.{ForSome}
use Rattle.std.specs.Prelude.{slice_index}
use Rattle.std.proofs.lemmas.Bool.{cases_Bool}
use Rattle.std.proofs.lemmas.Bool.Decides.{nat_tests}
use Rattle.numa_machine.specs.Machine.{Hardware}
use Rattle.numa_ranges.specs.Runs.{AreApart, end_of, page_at, in_pages}
use Rattle.numa_ranges.specs.declared.run.Run.{Run}
use Rattle.numa_ranges.proofs.Apart.{apart-top}
use Rattle.numa_requests.specs.declared.command.Command.{Command}
use Rattle.numa_space.specs.Pages.{is_mapped}
use Rattle.numa_plan.specs.Found.{IsMapped}
use Rattle.numa_plan.specs.Meaning.{PlanData, planned_first, planned_list}
use Rattle.numa_space.specs.Lists.{node_list}
use Rattle.numa_space.specs.Policies.{allowed_nodes}
use Rattle.numa_space.specs.Standing.{IsNodeList}
use Rattle.numa_compile.specs.Spans.{first_node}
use Rattle.numa_compile.specs.Standing.{PlanStandsFor}
use Rattle.numa_compile.proofs.Replies.{run-mapped, fill-meant}
use Rattle.numa_publish.specs.Spans.{SpanStands}

below : (from : ℕ) (runs : List (Run (Option ℕ))) → AreApart from runs → (page : ℕ)
    → is_some (page_at runs page) ≡ true → page < 2 ^ 35
below from [] apart page e = absurd (cc)
below from (run ∷ runs) apart page e =
    elim (cases_Bool (in_pages run.first run.pages page)) [
      | inl t ↦ let top = apart-top (end_of run) runs apart.3 in
          let low : page < run.first + run.pages = grind (arith, nat_tests) in omega arith
      | inr f ↦ let rest : is_some (page_at runs page) ≡ true = rw f at e in
          below (end_of run) runs apart.3 page rest
    ]

pub mapped-low : (machine : Hardware) (plan : PlanData) (history : List Command)
    → PlanStandsFor machine plan history → AreApart 0 plan.runs → (page cpu : ℕ) → cpu < plan.nodes
    → is_mapped history page ≡ true → page < 2 ^ 35
mapped-low machine plan history stands apart page cpu lt mapped =
    below 0 plan.runs apart page (run-mapped machine plan history stands page cpu lt ∙ mapped)

module _ (machine : Hardware) (plan : PlanData) (history : List Command)
    (stands : PlanStandsFor machine plan history) (apart : AreApart 0 plan.runs)
    (cpu first pages : ℕ) (known : cpu < plan.nodes) where
  pub span-stands : ((k : ℕ) → k < pages → is_mapped history (first + k) ≡ true)
      → SpanStands machine history first pages cpu
  span-stands mapped = record {
    cpu_known = subst (λ (n : ℕ). cpu < n) stands.nodes known;
    mapped = mapped;
    low = λ k l. mapped-low machine plan history stands apart (first + k) cpu known (mapped k l);
  }

  pub span-judged : IsMapped plan.runs first pages → SpanStands machine history first pages cpu
  span-judged all =
      span-stands (λ k l. sym (run-mapped machine plan history stands (first + k) cpu known)
      ∙ all (first + k) (omega arith) (omega arith))

-- what a plan that stands for the history says of a span which it filled
pub span-filled : (machine : Hardware) (plan : PlanData) (history : List Command)
    (task cpu first : ℕ) (out : List ℕ) → PlanStandsFor machine plan history → cpu < plan.nodes
    → ((k : ℕ) → k < length out → planned_first plan task (first + k) cpu
    ≡ Some (slice_index out k)) → (k : ℕ) → k < length out → (is_mapped history (first + k) ≡ true)
    × (slice_index out k ≡ first_node machine history task (first + k) cpu)
span-filled machine plan history task cpu first out stands known filled k l =
    fill-meant machine plan history stands task (first + k) cpu (slice_index out k) known
    (filled k l)

pub span-lists : (machine : Hardware) (plan : PlanData) (history : List Command)
    (task cpu first : ℕ) (out : List ℕ) → PlanStandsFor machine plan history
    → ((task page cpu : ℕ) → cpu < plan.nodes
    → ForSome (planned_list plan task page cpu) (IsNodeList (allowed_nodes machine history)))
    → cpu < plan.nodes
    → ((k : ℕ) → k < length out → planned_first plan task (first + k) cpu
    ≡ Some (slice_index out k)) → (k : ℕ) → k < length out
    → IsNodeList (allowed_nodes machine history) (node_list machine history task (first + k) cpu)
span-lists machine plan history task cpu first out stands sound known filled k l =
    sound task (first + k) cpu known (node_list machine history task (first + k) cpu)
    (stands.lists task (first + k) cpu (subst (λ (n : ℕ). cpu < n) stands.nodes known)
    (span-filled machine plan history task cpu first out stands known filled k l).0)
