-- What each command of a span leaves to be written anew.
use Rattle.std.proofs.Common.{◌≡◌, ℕ, ◌+◌, ◌-◌, ◌<◌, ◌≤◌, true, false, Option, None, List, length}
use Rattle.std.proofs.Common.{get_or, refl, sym, ap, subst, ◌∙◌, arith, inl, inr}
use Rattle.std.proofs.lemmas.Bool.{cases_lt}
use Rattle.std.proofs.lemmas.List.{get_or_default}
use Rattle.numa_machine.specs.Sizes.{whole}
use Rattle.numa_machine.specs.declared.page_size.PageSize.{PageSize}
use Rattle.numa_mode.specs.Policy.{PolicyRecord, Specification}
use Rattle.numa_ranges.specs.Runs.{AreApart, AreMaximal}
use Rattle.numa_ranges.specs.Windows.{begins_in, to_now, IsWindow, Moves}
use Rattle.numa_ranges.specs.declared.run.Run.{Run}
use Rattle.numa_ranges.proofs.Moves.{any-run}
use Rattle.numa_requests.specs.declared.command.Command.TheVariants.{Map, Unmap, Mbind}
use Rattle.numa_space.specs.History.{page_of, page_count}
use Rattle.numa_space.specs.Standing.{SpaceState}
use Rattle.numa_space.specs.Steps.{record_now}
use Rattle.numa_space.specs.Policies.{where_live}
use Rattle.numa_space.proofs.Moving.{map-beside, map-few, map-value, mbind-value, unmap-none}
use Rattle.numa_plan.specs.Meaning.{PlanData}
use Rattle.numa_plan.specs.Slots.{policy_in}
use Rattle.numa_compile.specs.Copies.{IsNumber}
use Rattle.numa_compile.specs.Follows.{IsBehind}
use Rattle.numa_compile.specs.Windows.{BeginsBeside, BeginsInside, HavePolicy, IsOpen}
use Rattle.numa_compile.specs.Windows.{NumbersInside}
use Rattle.numa_compile.specs.declared.recompiler.window.Window.{Window}
use Rattle.numa_compile.proofs.CopyLemmas.{copies-length}
use Rattle.numa_compile.proofs.SpanLemmas.{copies-window}

-- the places of an open window are those of ranges
pub open-within : (space : SpaceState) (plan : PlanData) (window : Window)
    → IsOpen space plan window → (window.from ≤ window.to_now)
    × (window.to_now ≤ length space.ranges)
open-within space plan window of =
    (omega (arith, of.place, of.moves.rises), omega (arith, of.place, of.moves.within))

-- the number of their one policy is that of each range that begins in the span
pub bound-inside : (space : SpaceState) (plan : PlanData) (window : Window)
    (policy : Option PolicyRecord) (number : Option ℕ) → HavePolicy space window policy
    → IsNumber (policy_in plan.slots) (where_live policy) number
    → NumbersInside space plan window number
bound-inside space plan window policy number have is k d low high inside =
    subst (λ (p : Option PolicyRecord). IsNumber (policy_in plan.slots) (where_live p) number)
    (sym (have k d low high inside)) is

module _ (space : SpaceState) (plan : PlanData) (window : Window) (start bytes : ℕ)
    (first : window.first ≡ page_of start) (end : window.end ≡ page_of start + page_count bytes)
    (within : window.to_now ≤ length space.ranges) (rising : AreApart 0 space.ranges)
    (maximal : AreMaximal space.ranges) where
  begins : (run : Run (Option PolicyRecord))
      → begins_in (page_of start) (page_of start + page_count bytes) run ≡ begins_in window.first
      window.end run
  begins run = λ i. begins_in (sym first i) (sym end i) run

  -- where pages were unmapped no range begins
  pub unmap-inside : IsBehind space (Unmap start bytes) plan → (now : PlanData) (number : Option ℕ)
      → NumbersInside space now window number
  unmap-inside behind now number k d low high inside =
      let odd : true ≡ false = sym inside ∙ sym (begins (get_or space.ranges k d))
      ∙ unmap-none behind.before space start bytes behind.step rising maximal k d
      (omega (arith, within)) in
      absurd (cc)

  -- where a policy was set, all ranges that begin have it
  pub mbind-policy : (spec : Specification) (behind : IsBehind space (Mbind start bytes spec) plan)
      (policy : Option PolicyRecord) → policy ≡ record_now behind.before.allowed spec
      → HavePolicy space window policy
  mbind-policy spec behind policy set k d low high inside =
      mbind-value behind.before space start bytes spec behind.step rising maximal k d
      (omega (arith, within)) (begins (get_or space.ranges k d) ∙ inside) ∙ sym set

  -- where pages were mapped, a range that begins has no policy of its own
  pub map-inside : (extent offset : ℕ) (size : PageSize) → whole size extent ≡ bytes
      → IsBehind space (Map start extent offset size) plan → (later : Window)
      → later.first ≡ window.first → later.end ≡ window.end → later.to_now ≡ window.to_now
      → NumbersInside space plan later None
  map-inside extent offset size all behind later first' end' to' k d low high inside =
      let run : Run (Option PolicyRecord) = get_or space.ranges k d in
      let same : begins_in (page_of start) (page_of start + page_count (whole size extent)) run
      ≡ true = ap (λ (n : ℕ). begins_in (page_of start) (page_of start + page_count n) run) all
      ∙ begins run ∙ (λ i. begins_in (sym first' i) (sym end' i) run) ∙ inside in
      let value = map-value behind.before space start extent offset size behind.step rising maximal
      k d
      (omega (arith, within, to')) same in
      subst (λ (p : Option PolicyRecord). IsNumber (policy_in plan.slots) (where_live p) None)
      (sym value) refl

-- ---- the window of pages that were mapped

module _ (space : SpaceState) (plan : PlanData) (window : Window) (start extent offset : ℕ)
    (size : PageSize) (behind : IsBehind space (Map start extent offset size) plan) (rising :
    AreApart 0 space.ranges)
    (maximal : AreMaximal space.ranges)
    (first : window.first ≡ page_of start) (end : window.end ≡ page_of start + page_count (whole
    size extent))
    (place : window.to_now ≡ length space.ranges - (length plan.runs - window.to))
    (is : IsWindow plan.runs window.first window.end window.from window.to) where
  as_many : length plan.runs ≡ length behind.before.ranges
  as_many = copies-length (policy_in plan.slots) behind.before.ranges plan.runs
      behind.follows.copies

  places : window.to_now ≡ to_now behind.before.ranges space.ranges window.to
  places = place ∙ ap (λ (n : ℕ). length space.ranges - (n - window.to)) as_many

  own : IsWindow behind.before.ranges (page_of start) (page_of start + page_count (whole size
      extent)) window.from
      window.to
  own =
      copies-window (policy_in plan.slots) behind.before.ranges plan.runs (page_of start)
      (page_of start + page_count (whole size extent)) window.from window.to behind.follows.copies
      (subst (λ (n : ℕ). IsWindow plan.runs (page_of start) n window.from window.to) end
      (subst (λ (n : ℕ). IsWindow plan.runs n window.end window.from window.to) first is))

  -- a range that wasn't joined to it is left out
  pub map-rest : BeginsBeside space window → (later : Window) → later.first ≡ window.first
      → later.end ≡ window.end → later.from ≡ window.from + 1 → later.to ≡ window.to
      → later.to_now ≡ window.to_now → IsOpen space plan later × (later.to_now - later.from ≤ 2)
  map-rest beside later first' end' from' to' now' =
      let d = any-run space.ranges (omega (arith, beside.0, within-now)) in
      let moved = map-beside behind.before space start extent offset size behind.step rising maximal
      window.from window.to own d (omega (arith, beside.0, places))
      (omega (arith, beside.1 d, first)) in (
        record {
          command = Map start extent offset size;
          behind = behind;
          of_span = tt;
          begins = sym (first' ∙ first);
          ends = sym (end' ∙ end);
          rises = omega (arith, from', to', moved.0);
          within = omega (arith, to', is.within);
          place = now' ∙ places ∙ ap (λ (n : ℕ). to_now behind.before.ranges space.ranges n)
              (sym to');
          moves = subst (λ (n : ℕ). Moves behind.before.ranges space.ranges n later.to) (sym from')
              (subst (λ (n : ℕ). Moves behind.before.ranges space.ranges (window.from + 1) n)
              (sym to') moved.1);
        },
        omega (arith, moved.2, from', now', places),
      )
    where
      within-now : window.to_now ≤ length space.ranges
      within-now = omega (arith, place)

  -- elsewhere the window holds at most two ranges
  pub map-window : BeginsInside space window → window.to_now - window.from ≤ 2
  map-window inside =
      elim (cases_lt window.from window.to_now) [
        | inr none ↦ omega arith
        | inl some ↦
            let d = any-run space.ranges (omega (arith, place)) in
            omega (
              arith,
              places,
              map-few behind.before space start extent offset size behind.step rising
                  maximal window.from window.to own d (omega (arith, inside some d, first)),
            )
      ]
