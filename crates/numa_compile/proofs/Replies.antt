-- What a plan that stands for a history says of pages and spans.
use Rattle.std.proofs.Common.{◌≡◌, ℕ, ◌+◌, ◌<◌, ◌≤◌, true, false, ◌&&◌, eqb, Option, Some, None}
use Rattle.std.proofs.Common.{List, get_or, is_some, refl, sym, ap, subst, ◌∙◌, arith, inl, inr}
use Rattle.std.proofs.lemmas.Bool.{cases_Bool, cases_lt}
use Rattle.std.proofs.lemmas.Bool.Decides.{nat_tests}
use Rattle.std.specs.Option.{option_map}
use Rattle.std.specs.Prelude.{◌↔◌, nat_le}
use Rattle.numa_machine.specs.Machine.{Hardware}
use Rattle.numa_ranges.specs.Runs.{page_at}
use Rattle.numa_requests.specs.declared.command.Command.{Command}
use Rattle.numa_machine.specs.declared.refusal.PlaceRefusal.{PlaceRefusal}
use Rattle.numa_machine.specs.declared.refusal.PlaceRefusal.TheVariants.{BadCpu, Unmapped}
use Rattle.numa_space.specs.Lists.{node_list}
use Rattle.numa_space.specs.Pages.{is_mapped}
use Rattle.numa_space.specs.Standing.{place_refusal_in, place_refusal_of}
use Rattle.numa_plan.specs.Found.{HasHole}
use Rattle.numa_plan.specs.Rows.{row_of}
use Rattle.numa_plan.specs.Meaning.{PlanData, planned_list, planned_first, planned_count}
use Rattle.numa_plan.specs.Meaning.{place_refusal, rule_for, is_number, RefusesSpan}
use Rattle.numa_plan.proofs.CountLemmas.{shift}
use Rattle.numa_compile.specs.Standing.{PlanStandsFor}
use Rattle.numa_compile.specs.Spans.{first_node, meant_count, HasUnmapped, SpanIsRefused}

-- a page has a list exactly where a run has it
listed : (plan : PlanData) (task page cpu : ℕ) → is_some (planned_list plan task page cpu)
    ≡ is_some (page_at plan.runs page)
listed plan task page cpu = go (page_at plan.runs page)
  where
    go : (o : Option (ℕ × Option ℕ))
        → is_some (option_map (λ at. row_of (rule_for plan task at.1) cpu at.0) o) ≡ is_some o
    go None = refl
    go (Some at) = refl

module _ (machine : Hardware) (plan : PlanData) (history : List Command)
    (stands : PlanStandsFor machine plan history) where
  known : (cpu : ℕ) → cpu < plan.nodes → cpu < machine.nodes
  known cpu lt = subst (λ nodes. cpu < nodes) stands.nodes lt

  -- the runs have the mapped pages
  pub run-mapped : (page cpu : ℕ) → cpu < plan.nodes → is_some (page_at plan.runs page)
      ≡ is_mapped history page
  run-mapped page cpu lt =
      elim (cases_Bool (is_mapped history page)) [
        | inl t ↦ sym (listed plan 0 page cpu)
            ∙ ap (λ o. is_some o) (stands.lists 0 page cpu (known cpu lt) t) ∙ sym t
        | inr f ↦ sym (listed plan 0 page cpu) ∙ ap (λ o. is_some o) (stands.unmapped 0 page cpu f)
            ∙ sym f
      ]

  pub choice-meant : (task page cpu : ℕ) (nodes : List ℕ) → cpu < plan.nodes
      → planned_list plan task page cpu ≡ Some nodes
      → (cpu < machine.nodes) × (is_mapped history page ≡ true)
      × (nodes ≡ node_list machine history task page cpu)
  choice-meant task page cpu nodes lt is =
      elim (cases_Bool (is_mapped history page)) [
        | inl t ↦
            let both : ◌≡◌ {A = Option (List ℕ)} (Some nodes)
            (Some (node_list machine history task page cpu)) = sym is
            ∙ stands.lists task page cpu (known cpu lt) t in
            (known cpu lt, t, cc)
        | inr f ↦ absurd (let odd : ◌≡◌ {A = Option (List ℕ)} (Some nodes) None = sym is
            ∙ stands.unmapped task page cpu f in cc)
      ]

  pub refusal-meant : (page cpu : ℕ) → place_refusal plan page cpu ≡ place_refusal_of machine
      history page cpu
  refusal-meant page cpu =
      elim (cases_lt cpu plan.nodes) [
        | inl lt ↦ (λ i. place_refusal_in (stands.nodes i) (run-mapped page cpu lt i) cpu)
        | inr le ↦
            let far : nat_le plan.nodes cpu ≡ true = grind (arith, nat_tests) in
            let far' : nat_le machine.nodes cpu ≡ true = subst (λ nodes. nat_le nodes cpu ≡ true)
            stands.nodes far in
            rw (far, far') refl
      ]

  pub fill-meant : (task page cpu node : ℕ) → cpu < plan.nodes → planned_first plan task page cpu
      ≡ Some node → (is_mapped history page ≡ true)
      × (node ≡ first_node machine history task page cpu)
  fill-meant task page cpu node lt is =
      elim (cases_Bool (is_mapped history page)) [
        | inl t ↦
            let own : ◌≡◌ {A = Option ℕ} (Some node)
            (Some (first_node machine history task page cpu)) = sym is
            ∙ ap (λ o. option_map (λ (nodes : List ℕ). get_or nodes 0 0) o)
            (stands.lists task page cpu (known cpu lt) t) in
            (t, cc)
        | inr f ↦
            absurd (let odd : ◌≡◌ {A = Option ℕ} (Some node) None = sym is
            ∙ ap (λ o. option_map (λ (nodes : List ℕ). get_or nodes 0 0) o)
            (stands.unmapped task page cpu f) in cc)
      ]

  pub counts-meant : (task first pages cpu node : ℕ) → cpu < plan.nodes
      → planned_count plan task first pages cpu node ≡ meant_count machine history task first pages
      cpu node
  counts-meant task first pages cpu node lt =
      shift (λ page. is_number node (planned_first plan task page cpu))
      (λ page. is_mapped history page && eqb (first_node machine history task page cpu) node)
      first first pages (λ k short. go (first + k))
    where
      go : (page : ℕ) → is_number node (planned_first plan task page cpu)
          ≡ (is_mapped history page && eqb (first_node machine history task page cpu) node)
      go page =
          elim (cases_Bool (is_mapped history page)) [
            | inl t ↦ ap (λ o. is_number node (option_map (λ (nodes : List ℕ). get_or nodes 0 0) o))
                (stands.lists task page cpu (known cpu lt) t)
                ∙ sym (ap (λ b. b && eqb (first_node machine history task page cpu) node) t)
            | inr f ↦ ap (λ o. is_number node (option_map (λ (nodes : List ℕ). get_or nodes 0 0) o))
                (stands.unmapped task page cpu f)
                ∙ sym (ap (λ b. b && eqb (first_node machine history task page cpu) node) f)
          ]

  hole-unmapped : (first pages cpu : ℕ) → cpu < plan.nodes → HasHole plan.runs first pages
      → HasUnmapped history first pages
  hole-unmapped first pages cpu lt hole =
      (hole.0, hole.1, hole.2, sym (run-mapped hole.0 cpu lt) ∙ ap (λ o. is_some o) hole.3)

  unmapped-hole : (first pages cpu : ℕ) → cpu < plan.nodes → HasUnmapped history first pages
      → HasHole plan.runs first pages
  unmapped-hole first pages cpu lt missing = (
    missing.0,
    missing.1,
    missing.2,
    none (page_at plan.runs missing.0)
        (run-mapped missing.0 cpu lt ∙ missing.3),
  )
    where
      none : (o : Option (ℕ × Option ℕ)) → is_some o ≡ false → o ≡ None
      none None e = refl
      none (Some at) e = cc

  pub span-meant : (first pages cpu : ℕ) (refusal : PlaceRefusal)
      → RefusesSpan plan first pages cpu refusal ↔ SpanIsRefused machine history first pages cpu
      refusal
  span-meant first pages cpu BadCpu = (
    λ le. subst (λ nodes. nodes ≤ cpu) stands.nodes le,
    λ le. subst (λ nodes. nodes ≤ cpu) (sym stands.nodes) le,
  )
  span-meant first pages cpu Unmapped = (
    λ refused. (known cpu refused.0, hole-unmapped first pages cpu refused.0 refused.1),
    λ refused. let lt : cpu < plan.nodes = subst (λ nodes. cpu < nodes) (sym stands.nodes)
        refused.0 in (lt, unmapped-hole first pages cpu lt refused.1),
  )
