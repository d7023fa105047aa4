-- Pages that are filled one by one, and range by range.
use Rattle.std.proofs.Common.{◌≡◌, ℕ, zero, suc, ◌+◌, ◌-◌, ◌<◌, ◌≤◌, ◌^◌, Option, Some, None, List}
use Rattle.std.proofs.Common.{[], ◌∷◌, refl, sym, ap, ◌∙◌, arith, inl, inr, cond, Bool, true}
use Rattle.std.proofs.Common.{false, is_some}
use Rattle.std.specs.Prelude.{unwrap_or}
use Rattle.std.proofs.lemmas.Bool.{cases_Bool}
use Rattle.numa_machine.specs.Machine.{Hardware}
use Rattle.numa_ranges.specs.Runs.{AreApart, end_of, page_at}
use Rattle.numa_ranges.specs.declared.run.Run.{Run}
use Rattle.numa_ranges.proofs.Apart.{apart-top, in_pages-above, in_pages-below, page_at-before}
use Rattle.numa_plan.specs.Meaning.{PlanData, planned_list}
use Rattle.numa_compile.specs.Standing.{PlanStandsFor}
use Rattle.numa_space.specs.Lists.{node_list}
use Rattle.numa_space.specs.Pages.{is_mapped}
use Rattle.numa_space.specs.Standing.{SpaceState, StandsFor}
use Rattle.numa_requests.specs.declared.command.Command.{Command}
use Rattle.numa_placed.specs.Spots.{node_of}
use Rattle.numa_placed.specs.declared.spot.Spot.{Spot}
use Rattle.numa_reports.specs.Filled.{first_free, one_less, free_behind, nodes_of, planned_nodes}
use Rattle.numa_reports.specs.Lying.{absent_nodes}
use Rattle.numa_reports.proofs.Tiling.{not-mapped}

pub free-start : (nodes : ℕ → List ℕ) (free : List ℕ) (first : ℕ) → free_behind nodes free first 0
    ≡ free
unfolding free_behind
free-start nodes free first = refl

-- one page more
pub free-step : (nodes : ℕ → List ℕ) (free : List ℕ) (first pages : ℕ)
    → free_behind nodes free first (suc pages) ≡ free_behind nodes
    (one_less free (first_free free (nodes first))) (first + 1) pages
unfolding free_behind
free-step nodes free first pages = refl

-- what is free once a page whose list a plan told took of the first node that had a free one
pub free-took : (plan : PlanData) (task cpu page : ℕ) (list free free' : List ℕ) (took : Option ℕ)
    → planned_list plan task page cpu ≡ Some list → took ≡ first_free free list
    → free' ≡ one_less free took
    → free' ≡ one_less free (first_free free (planned_nodes plan task cpu page))
free-took plan task cpu page list free free' took told node taken =
    let is : planned_nodes plan task cpu page ≡ list = ap (λ (o : Option (List ℕ)). unwrap_or o [])
    told in
    taken ∙ ap (λ (o : Option ℕ). one_less free o) node
    ∙ sym (ap (λ (l : List ℕ). one_less free (first_free free l)) is)

-- a page more
pub free-next : (nodes : ℕ → List ℕ) (free free' : List ℕ) (page left long : ℕ)
    → free' ≡ one_less free (first_free free (nodes page)) → long ≡ suc left
    → free_behind nodes free' (page + 1) left ≡ free_behind nodes free page long
free-next nodes free free' page left long less more =
    ap (λ (f : List ℕ). free_behind nodes f (page + 1) left) less
    ∙ sym (free-step nodes free page left)
    ∙ sym (ap (λ (k : ℕ). free_behind nodes free page k) more)

-- a span cut in two
pub free-split : (nodes : ℕ → List ℕ) (free : List ℕ) (a m n k : ℕ) → m + n ≡ k
    → free_behind nodes free a k ≡ free_behind nodes (free_behind nodes free a m) (a + m) n
unfolding free_behind
free-split nodes free a zero n k sum =
    let one : k ≡ n = omega (arith, sum) in
    let two : a ≡ a + 0 = omega arith in
    ap (λ (x : ℕ). free_behind nodes free a x) one ∙ ap (λ (x : ℕ). free_behind nodes free x n) two
free-split nodes free a (suc m) n zero sum = absurd (omega (arith, sum))
free-split nodes free a (suc m) n (suc k) sum =
    let less : List ℕ = one_less free (first_free free (nodes a)) in
    let place : a + 1 + m ≡ a + suc m = omega arith in
    free-split nodes less (a + 1) m n k (omega (arith, sum))
    ∙ ap (λ (x : ℕ). free_behind nodes (free_behind nodes less (a + 1) m) x n) place

-- pages without a list take nothing
pub free-none : (nodes : ℕ → List ℕ) (free : List ℕ) (a n : ℕ)
    → ((p : ℕ) → a ≤ p → p < a + n → nodes p ≡ []) → free_behind nodes free a n ≡ free
unfolding free_behind
free-none nodes free a zero none = refl
free-none nodes free a (suc n) none =
    let here : one_less free (first_free free (nodes a)) ≡ free =
    ap (λ (l : List ℕ). one_less free (first_free free l))
    (none a (omega arith) (omega arith)) in
    ap (λ (f : List ℕ). free_behind nodes f (a + 1) n) here
    ∙ free-none nodes free (a + 1) n (λ p low high. none p (omega arith) (omega arith))

-- what is free behind the pages of the runs, run by run
abbrev pub free_runs : {T : Type 0} → (ℕ → List ℕ) → List ℕ → List (Run T) → List ℕ
free_runs nodes free [] = free
free_runs nodes free (run ∷ runs) = free_runs nodes (free_behind nodes free run.first run.pages)
    runs

-- a run more
pub runs-left : {T : Type 0} (nodes : ℕ → List ℕ) (whole free free' : List ℕ)
    (runs rest : List (Run T)) (run : Run T) → free' ≡ free_behind nodes free run.first run.pages
    → runs ≡ run ∷ rest
    → free_runs nodes free runs ≡ whole → free_runs nodes free' rest ≡ whole
runs-left {T} nodes whole free free' runs rest run took steps left =
    ap (λ (f : List ℕ). free_runs nodes f rest) took
    ∙ sym (ap (λ (r : List (Run T)). free_runs nodes free r) steps) ∙ left

-- where no page outside the runs has a list, the pages of the runs are all that take something
pub free-runs : {T : Type 0} (nodes : ℕ → List ℕ) (free : List ℕ) (from n : ℕ) (runs : List (Run T))
    → AreApart from runs → from + n ≡ 2 ^ 35
    → ((page : ℕ) → from ≤ page → page_at runs page ≡ None → nodes page ≡ [])
    → free_runs nodes free runs ≡ free_behind nodes free from n
free-runs nodes free from n [] apart all none =
    sym (free-none nodes free from n (λ page low high. none page low refl))
free-runs nodes free from n (run ∷ runs) apart all none =
    let room : end_of run ≤ 2 ^ 35 = apart-top (end_of run) runs apart.3 in
    let hole = run.first - from in
    let tail = 2 ^ 35 - end_of run in
    let held : List ℕ = free_behind nodes free run.first run.pages in
    let cut1 : free_behind nodes free from n ≡ free_behind nodes (free_behind nodes free from hole)
    (from + hole) (run.pages + tail) = free-split nodes free from hole (run.pages + tail) n
    (omega (arith, apart.0)) in
    let before : free_behind nodes free from hole ≡ free =
    free-none nodes free from hole
    (λ page low high.
    none page low (rw (in_pages-below run.first run.pages page (omega (arith, apart.0)))
    (page_at-before (end_of run) runs page apart.3 (omega (arith, apart.0))))) in
    let seam : from + hole ≡ run.first = omega (arith, apart.0) in
    let cut2 : free_behind nodes free run.first (run.pages + tail) ≡ free_behind nodes held
    (run.first + run.pages) tail = free-split nodes free run.first run.pages tail
    (run.pages + tail) refl in
    let behind : free_runs nodes held runs ≡ free_behind nodes held (end_of run) tail =
    free-runs nodes held (end_of run) tail runs apart.3 (omega arith)
    (λ page low miss. none page (omega (arith, apart.0))
    (rw (in_pages-above run.first run.pages page low) miss)) in
    behind ∙ sym cut2
    ∙ sym (ap (λ (f : List ℕ). free_behind nodes f run.first (run.pages + tail)) before)
    ∙ sym
    (ap (λ (a : ℕ). free_behind nodes (free_behind nodes free from hole) a (run.pages + tail))
    seam) ∙ sym cut1

-- the plan's list of a page is what the history means
pub same-nodes : (machine : Hardware) (plan : PlanData) (history : List Command) (task cpu page : ℕ)
    → PlanStandsFor machine plan history → cpu < machine.nodes → planned_nodes plan task cpu page
    ≡ nodes_of machine history task cpu page
same-nodes machine plan history task cpu page planned lt =
    elim (cases_Bool (is_mapped history page)) [
      | inl t ↦ ap (λ (o : Option (List ℕ)). unwrap_or o []) (planned.lists task page cpu lt t)
          ∙ sym (ap (λ b. cond b (node_list machine history task page cpu) []) t)
      | inr f ↦ ap (λ (o : Option (List ℕ)). unwrap_or o []) (planned.unmapped task page cpu f)
          ∙ sym (ap (λ b. cond b (node_list machine history task page cpu) []) f)
    ]

-- a page that no range has, has no list
pub no-list : (space : SpaceState) (plan : PlanData) (history : List Command) (task cpu page : ℕ)
    → StandsFor space history → PlanStandsFor space.machine plan history → page_at space.ranges page
    ≡ None → planned_nodes plan task cpu page ≡ []
no-list space plan history task cpu page stands planned missing =
    ap (λ (o : Option (List ℕ)). unwrap_or o [])
    (planned.unmapped task page cpu (not-mapped space history page stands missing))

-- and so has none where pages that are there have none
pub none-absent : (spots : ℕ → Spot) (nodes : ℕ → List ℕ) (page : ℕ) → nodes page ≡ []
    → absent_nodes spots nodes page ≡ []
none-absent spots nodes page none = go (is_some (node_of (spots page)))
  where
    go : (b : Bool) → cond b [] (nodes page) ≡ []
    go true = refl
    go false = none

-- what is free behind the ranges of a space, by a plan, is what the history means
pub free-all : (space : SpaceState) (plan : PlanData) (history : List Command) (spots : ℕ → Spot)
    (task cpu : ℕ) (free : List ℕ) → StandsFor space history
    → PlanStandsFor space.machine plan history → cpu < space.machine.nodes
    → AreApart 0 space.ranges
    → free_runs (absent_nodes spots (planned_nodes plan task cpu)) free space.ranges
    ≡ free_behind (absent_nodes spots (nodes_of space.machine history task cpu)) free 0 (2 ^ 35)
free-all space plan history spots task cpu free stands planned lt apart =
    free-runs (absent_nodes spots (planned_nodes plan task cpu)) free 0 (2 ^ 35) space.ranges apart
    refl
    (λ page low missing. none-absent spots (planned_nodes plan task cpu) page
    (no-list space plan history task cpu page stands planned missing))
    ∙ ap (λ (nodes : ℕ → List ℕ). free_behind (absent_nodes spots nodes) free 0 (2 ^ 35))
    (λ i page. same-nodes space.machine plan history task cpu page planned lt i)
