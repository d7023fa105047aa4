-- What a plan answers is what the history means.
use Rattle.std.proofs.Common.{◌≡◌, ℕ, zero, suc, ◌+◌, ◌-◌, ◌<◌, ◌≤◌, not, true, false, Some, None}
use Rattle.std.proofs.Common.{List, [], ◌∷◌, ◌++◌, length, map, refl, sym, ap, subst, ◌∙◌, arith}
use Rattle.std.proofs.lemmas.Bool.Decides.{nat_tests}
use Rattle.std.specs.List.{flat_map, range_with_len}
use Rattle.std.specs.Prelude.{EachIndex, nat_le, slice_index, decimal, codes}
use Rattle.numa_machine.specs.Machine.{Hardware}
use Rattle.numa_ranges.specs.Maps.{any_page}
use Rattle.numa_ranges.proofs.Pages.{any_page-true, any_page-false}
use Rattle.numa_space.specs.Pages.{is_mapped}
use Rattle.numa_space.specs.Lists.{node_list}
use Rattle.numa_space.specs.Standing.{place_refusal_of}
use Rattle.numa_requests.specs.declared.command.Command.{Command}
use Rattle.numa_machine.specs.declared.refusal.PlaceRefusal.{PlaceRefusal}
use Rattle.numa_machine.specs.declared.refusal.PlaceRefusal.TheVariants.{BadCpu, Unmapped}
use Rattle.numa_plan.specs.Found.{IsMapped}
use Rattle.numa_plan.specs.Meaning.{PlanData, planned_list, planned_first, place_refusal}
use Rattle.numa_plan.specs.Meaning.{CountsFirsts, RefusesSpan}
use Rattle.numa_compile.specs.Standing.{PlanStandsFor}
use Rattle.numa_compile.specs.Spans.{first_node, meant_count, SpanIsRefused}
use Rattle.numa_compile.proofs.Replies.{choice-meant, refusal-meant, fill-meant, counts-meant}
use Rattle.numa_compile.proofs.Replies.{span-meant, run-mapped}
use Rattle.numa_maps.specs.Listing.{node_text, nodes_text as counts_text}
use Rattle.numa_run.specs.Questions.{unless_refused, span_refusal_of, place_text, span_text}
use Rattle.numa_run.specs.Questions.{count_text}
use Rattle.numa_script.specs.Names.{place_name}
use Rattle.numa_script.specs.Texts.{nodes_answer, counts_answer, refused_text}

-- ---- lists

pub mapped-list : (f : ℕ → ℕ) (xs : List ℕ) (first : ℕ)
    → ((k : ℕ) → k < length xs → slice_index xs k ≡ f (first + k))
    → xs ≡ map f (range_with_len first (length xs))
mapped-list f [] first each = refl
mapped-list f (x ∷ xs) first each =
    let head : x ≡ f first = each 0 (omega arith) ∙ ap f (omega arith) in
    let tail : xs ≡ map f (range_with_len (first + 1) (length xs)) =
    mapped-list f xs (first + 1) (λ k low. each (suc k) (omega arith) ∙ ap f (omega arith)) in
    λ i. head i ∷ tail i

flat_map-agree : (f g : ℕ → List ℕ) (n first : ℕ)
    → ((k : ℕ) → first ≤ k → k < first + n → f k ≡ g k) → flat_map f (range_with_len first n)
    ≡ flat_map g (range_with_len first n)
flat_map-agree f g zero first each = refl
flat_map-agree f g (suc n) first each =
    let head : f first ≡ g first = each first (omega arith) (omega arith) in
    let tail =
    flat_map-agree f g n (first + 1) (λ k low high. each k (omega arith) (omega arith)) in
    λ i. head i ++ tail i

pub counts-agree : (f g : ℕ → ℕ) → ((node : ℕ) → node < 256 → f node ≡ g node)
    → counts_text f ≡ counts_text g
unfolding counts_text
counts-agree f g each = flat_map-agree (λ node. node_text node (f node))
    (λ node. node_text node (g node)) 256 0 (λ k low high. ap (node_text k) (each k (omega arith)))

-- ---- refusals

pub span-none : (machine : Hardware) (history : List Command) (first pages cpu : ℕ)
    → cpu < machine.nodes
    → ((page : ℕ) → first ≤ page → page < first + pages → is_mapped history page ≡ true)
    → span_refusal_of machine history first pages cpu ≡ None
span-none machine history first pages cpu known mapped =
    let near : nat_le machine.nodes cpu ≡ false = grind (arith, nat_tests) in
    let all : any_page (λ page. not (is_mapped history page)) first pages ≡ false =
    any_page-false (λ page. not (is_mapped history page)) first pages
    (λ page low high. ap not (mapped page low high)) in
    rw (near, all) refl

pub span-refused : (machine : Hardware) (history : List Command) (first pages cpu : ℕ)
    (refusal : PlaceRefusal) → SpanIsRefused machine history first pages cpu refusal
    → span_refusal_of machine history first pages cpu ≡ Some refusal
span-refused machine history first pages cpu BadCpu far =
    let far' : nat_le machine.nodes cpu ≡ true = grind (arith, nat_tests) in
    rw far' refl
span-refused machine history first pages cpu Unmapped missing =
    let known : cpu < machine.nodes = missing.0 in
    let near : nat_le machine.nodes cpu ≡ false = grind (arith, nat_tests) in
    let hole = missing.1 in
    let some : any_page (λ page. not (is_mapped history page)) first pages ≡ true =
    any_page-true (λ page. not (is_mapped history page)) first pages hole.0 hole.1 hole.2
    (ap not hole.3) in
    rw (near, some) refl

-- ---- answers

module _ (machine : Hardware) (plan : PlanData) (history : List Command)
    (stands : PlanStandsFor machine plan history) where
  pub known : (cpu : ℕ) → cpu < plan.nodes → cpu < machine.nodes
  known cpu lt = subst (λ nodes. cpu < nodes) stands.nodes lt

  pub place-ok : (task page cpu : ℕ) (nodes : List ℕ) → cpu < plan.nodes
      → planned_list plan task page cpu ≡ Some nodes → nodes_answer plan.version nodes
      ≡ place_text machine history task page cpu
  place-ok task page cpu nodes lt is =
      let meant = choice-meant machine plan history stands task page cpu nodes lt is in
      let near : nat_le machine.nodes cpu ≡ false = let within = meant.0 in
      grind (arith, nat_tests) in
      let none : place_refusal_of machine history page cpu ≡ None = rw (near, meant.1) refl in
      let same : nodes_answer plan.version nodes ≡ nodes_answer (length history)
      (node_list machine history task page cpu) =
      λ i. nodes_answer (stands.version i) (meant.2 i) in
      same ∙ sym
      (ap (λ o.
      unless_refused o
      (nodes_answer (length history) (node_list machine history task page cpu))) none)

  pub place-err : (task page cpu : ℕ) (refusal : PlaceRefusal) → place_refusal plan page cpu
      ≡ Some refusal → refused_text (place_name refusal) ≡ place_text machine history task page cpu
  place-err task page cpu refusal is =
      ap (λ o.
      unless_refused o
      (nodes_answer (length history) (node_list machine history task page cpu)))
      (sym is ∙ refusal-meant machine plan history stands page cpu)

  pub span-ok : (task first cpu : ℕ) (nodes : List ℕ) → cpu < plan.nodes
      → EachIndex nodes (λ k. planned_first plan task (first + k) cpu ≡ Some (slice_index nodes k))
      → nodes_answer plan.version nodes ≡ span_text machine history task first (length nodes) cpu
  span-ok task first cpu nodes lt each =
      let meant = λ (k : ℕ) (low : k < length nodes). fill-meant machine plan history stands task
      (first + k) cpu (slice_index nodes k) lt (each k low) in
      let none = span-none machine history first (length nodes) cpu (known cpu lt) (λ page low high.
      let place : first + (page - first) ≡ page = omega arith in
      subst (λ p. is_mapped history p ≡ true) place (meant (page - first) (omega arith)).0) in
      let list = mapped-list (λ page. first_node machine history task page cpu) nodes first
      (λ k low. (meant k low).1) in
      rw none (λ i. nodes_answer (stands.version i) (list i))

  pub span-err : (first pages cpu : ℕ) (refusal : PlaceRefusal) (answer : List ℕ)
      → RefusesSpan plan first pages cpu refusal → refused_text (place_name refusal)
      ≡ unless_refused (span_refusal_of machine history first pages cpu) answer
  span-err first pages cpu refusal answer is =
      ap (λ o. unless_refused o answer)
      (sym (span-refused machine history first pages cpu refusal
      ((span-meant machine plan history stands first pages cpu refusal).0 is)))

  pub count-ok : (task first pages cpu : ℕ) (counts : List ℕ) → cpu < plan.nodes
      → IsMapped plan.runs first pages → CountsFirsts plan task first pages cpu counts
      → counts_answer plan.version (λ node. slice_index counts node) ≡ count_text machine history
      task first pages cpu
  count-ok task first pages cpu counts lt mapped right =
      let none = span-none machine history first pages cpu (known cpu lt)
      (λ page low high. sym (run-mapped machine plan history stands page cpu lt)
      ∙ mapped page low high) in
      let agree = counts-agree (λ node. slice_index counts node)
      (meant_count machine history task first pages cpu)
      (λ node low. right node low ∙ counts-meant machine plan history stands task first
      pages cpu node lt) in
      rw none (λ i. codes "v" ++ decimal (stands.version i) ++ codes ":" ++ agree i ++ codes "\n")
