-- What a taker is told of ranges that fill up, one after the other.
use Rattle.std.proofs.Common.{◌≡◌, ℕ, ◌+◌, ◌-◌, ◌<◌, ◌≤◌, Option, None, List, [], ◌∷◌, refl, sym}
use Rattle.std.proofs.Common.{ap, subst, ◌∙◌, arith}
use Rattle.std.specs.Borrow.{Bor}
use Rattle.numa_mode.specs.Policy.{PolicyRecord}
use Rattle.numa_ranges.specs.Runs.{AreApart, end_of, page_at}
use Rattle.numa_ranges.specs.declared.run.Run.{Run}
use Rattle.numa_ranges.proofs.Apart.{in_pages-above, in_pages-below, page_at-before}
use Rattle.numa_plan.specs.Meaning.{PlanData}
use Rattle.numa_compile.specs.Standing.{PlanStandsFor}
use Rattle.numa_space.specs.Standing.{SpaceState, StandsFor}
use Rattle.numa_placed.specs.Laid.{Laid}
use Rattle.numa_requests.specs.declared.command.Command.{Command}
use Rattle.numa_reports.specs.Filled.{free_behind, planned_nodes}
use Rattle.numa_reports.specs.Lying.{absent_nodes, spots_in}
use Rattle.numa_reports.specs.Told.{IsFillingBeside, IsTakenBeside, Meaning, Telling, ToldEach}
use Rattle.numa_reports.specs.Told.{ToldOne}
use Rattle.numa_reports.proofs.Taking.{free-none, free-split, free-start, no-list, none-absent}
use Rattle.numa_reports.proofs.Taking.{same-nodes}

-- each range is told in turn, with what it takes of what those before it left
abbrev pub FilledEach : {T : Type 0} → Telling T → (List ℕ → List ℕ → Meaning) → (ℕ → List ℕ)
    → List ℕ → List (Run (Option PolicyRecord)) → T → T → Type 0
FilledEach told takes nodes free [] old new = old ≡ new
FilledEach {T} told takes nodes free (range ∷ ranges) old new = (between : T)
    × ToldOne told (takes free (free_behind nodes free range.first range.pages)) range old between
    × FilledEach told takes nodes (free_behind nodes free range.first range.pages) ranges between
    new

-- what is taken of what those before left, where pages between them have no list
pub filled-each : {T : Type 0} (told : Telling T) (takes : List ℕ → List ℕ → Meaning)
    (nodes : ℕ → List ℕ) (all free : List ℕ) (from : ℕ) (ranges : List (Run (Option PolicyRecord)))
    (old new : T) → AreApart from ranges
    → free_behind nodes all 0 from ≡ free
    → ((page : ℕ) → from ≤ page → page_at ranges page ≡ None → nodes page ≡ [])
    → FilledEach told takes nodes free ranges old new
    → ToldEach told
    (λ range. takes (free_behind nodes all 0 range.first)
    (free_behind nodes all 0 (range.first + range.pages)) range) ranges old new
filled-each told takes nodes all free from [] old new apart start none has = has
filled-each told takes nodes all free from (range ∷ ranges) old new apart start none has =
    let hole = range.first - from in
    let place : 0 + from ≡ from = omega arith in
    let cut : free_behind nodes all 0 range.first ≡ free_behind nodes (free_behind nodes all 0 from)
    (0 + from) hole = free-split nodes all 0 from hole range.first (omega (arith, apart.0)) in
    let gap : free_behind nodes free from hole ≡ free =
    free-none nodes free from hole
    (λ page low high.
    none page low (rw (in_pages-below range.first range.pages page (omega (arith, apart.0)))
    (page_at-before (end_of range) ranges page apart.3 (omega (arith, apart.0))))) in
    let before : free_behind nodes all 0 range.first ≡ free = cut
    ∙ ap (λ (a : ℕ). free_behind nodes (free_behind nodes all 0 from) a hole) place
    ∙ ap (λ (f : List ℕ). free_behind nodes f from hole) start ∙ gap in
    let spot : 0 + range.first ≡ range.first = omega arith in
    let behind : free_behind nodes all 0 (range.first + range.pages) ≡ free_behind nodes free
    range.first range.pages = free-split nodes all 0 range.first range.pages
    (range.first + range.pages) refl
    ∙ ap (λ (a : ℕ). free_behind nodes (free_behind nodes all 0 range.first) a range.pages) spot
    ∙ ap (λ (f : List ℕ). free_behind nodes f range.first range.pages) before in
    let said = has.1.0 in
    let meant =
    subst (λ (f : List ℕ). takes f (free_behind nodes all 0 (range.first + range.pages)) range
    said) (sym before) (subst (λ (f : List ℕ). takes free f range said) (sym behind) has.1.1) in (
      has.0,
      (said, meant, has.1.2),
      filled-each told takes nodes all (free_behind nodes free range.first range.pages)
          (end_of range) ranges has.0 new apart.3 behind
          (λ page low miss. none page (omega (arith, apart.0))
          (rw (in_pages-above range.first range.pages page low) miss)) has.2,
    )

-- what is told of the ranges of a space, by a plan, is what the history means
pub filled-all : {T : Type 0} (told : Telling T) (space : SpaceState) (plan : PlanData)
    (history : List Command) (placed : Option (Bor Laid)) (task cpu : ℕ)
    (free : List ℕ) (old new : T) → StandsFor space history
    → PlanStandsFor space.machine plan history → cpu < space.machine.nodes → AreApart 0 space.ranges
    → FilledEach told (IsTakenBeside space.machine history placed task)
    (absent_nodes (spots_in placed) (planned_nodes plan task cpu)) free space.ranges old new
    → ToldEach told (IsFillingBeside space.machine history placed task cpu free) space.ranges old
    new
filled-all told space plan history placed task cpu free old new stands planned lt apart has =
    let spots = spots_in placed in
    let own = planned_nodes plan task cpu in
    subst (λ (nodes : ℕ → List ℕ).
    ToldEach told
    (λ range. IsTakenBeside space.machine history placed task
    (free_behind (absent_nodes spots nodes) free 0 range.first)
    (free_behind (absent_nodes spots nodes) free 0 (range.first + range.pages)) range)
    space.ranges old new)
    (λ i page. same-nodes space.machine plan history task cpu page planned lt i)
    (filled-each told (IsTakenBeside space.machine history placed task) (absent_nodes spots own)
    free free 0 space.ranges old new apart (free-start (absent_nodes spots own) free 0)
    (λ page low missing. none-absent spots own page
    (no-list space plan history task cpu page stands planned missing)) has)
