-- Ranges that begin in a span, one after another, and what is written for them.
use Rattle.std.proofs.Common.{◌≡◌, ℕ, zero, suc, ◌+◌, ◌<◌, ◌≤◌, cond, Option, Some, List, [], ◌∷◌}
use Rattle.std.proofs.Common.{take, length, get_or, sym, ap, subst, ◌∙◌, arith}
use Rattle.numa_mode.specs.Policy.{PolicyRecord}
use Rattle.numa_ranges.specs.Runs.{AreApart, AreMaximal}
use Rattle.numa_ranges.specs.Windows.{begins_in, starts_in, met}
use Rattle.numa_ranges.specs.declared.run.Run.{Run}
use Rattle.numa_ranges.proofs.Fewer.{count-cons}
use Rattle.numa_requests.specs.declared.command.Command.{Command}
use Rattle.numa_space.specs.Spans.{span_first, span_pages, span_end, EditsSpan}
use Rattle.numa_space.specs.Standing.{SpaceState}
use Rattle.numa_space.proofs.Moving.{begun-few}
use Rattle.numa_plan.specs.Counted.{Counted}
use Rattle.numa_plan.specs.Meaning.{PlanData}
use Rattle.numa_plan.specs.Rows.{Kept}
use Rattle.numa_plan.specs.Slots.{kept_in, policy_in}
use Rattle.numa_plan.specs.declared.slots.Slot.{Slot}
use Rattle.numa_compile.specs.Copies.{AreCopies}
use Rattle.numa_compile.specs.Follows.{IsBehind}
use Rattle.numa_compile.specs.Recompiling.{WritesBoth, WritesRules}
use Rattle.numa_compile.specs.Windows.{IsOpen}
use Rattle.numa_compile.specs.declared.recompiler.window.Window.{Window}
use Rattle.numa_compile.proofs.AddedLemmas.{copies-named, policies-kept}
use Rattle.numa_compile.proofs.SpanLemmas.{copies-met, span-rest}

module _ {T : Type 0} (first end : ℕ) where
  pub begun-take : (n : ℕ) (runs : List (Run T)) → starts_in first end (take n runs)
      ≤ starts_in first end runs
  begun-take zero runs = omega arith
  begun-take (suc n) [] = omega arith
  begun-take (suc n) (run ∷ runs) =
      omega (
        arith,
        count-cons (begins_in first end) run (take n runs),
        count-cons (begins_in first end) run runs,
        begun-take n runs,
      )

  begun-next : (n : ℕ) (runs : List (Run T)) (d : Run T) → n < length runs
      → starts_in first end (take (suc n) runs) ≡ starts_in first end (take n runs) + cond
      (begins_in first end (get_or runs n d)) 1 0
  begun-next n [] d lt = absurd (omega arith)
  begun-next zero (run ∷ runs) d lt = omega (arith, count-cons (begins_in first end) run [])
  begun-next (suc n) (run ∷ runs) d lt =
      let one : starts_in first end (take (suc (suc n)) (run ∷ runs))
      ≡ cond {A = ℕ} (begins_in first end run) 1 0 + starts_in first end (take (suc n) runs) =
      count-cons (begins_in first end) run (take (suc n) runs) in
      let two : starts_in first end (take (suc n) (run ∷ runs))
      ≡ cond {A = ℕ} (begins_in first end run) 1 0 + starts_in first end (take n runs) =
      count-cons (begins_in first end) run (take n runs) in
      let more : starts_in first end (take (suc n) runs) ≡ starts_in first end (take n runs) + cond
      {A = ℕ} (begins_in first end (get_or (run ∷ runs) (suc n) d)) 1 0 =
      begun-next n runs d (omega arith) in
      omega (arith, one, two, more)

  pub begun-more : (n : ℕ) (runs : List (Run T)) (d : Run T) → n < length runs
      → starts_in first end (take (n + 1) runs) ≡ starts_in first end (take n runs) + cond
      (begins_in first end (get_or runs n d)) 1 0
  begun-more n runs d lt =
      let same : suc n ≡ n + 1 = omega arith in
      subst (λ (m : ℕ). starts_in first end (take m runs) ≡ starts_in first end (take n runs) + cond
      (begins_in first end (get_or runs n d)) 1 0) same (begun-next n runs d lt)

-- one rule more at most, where the range begins in the span
pub begun-writes : (old next new : Counted) (first end k : ℕ)
    (ranges : List (Run (Option PolicyRecord))) (range : Run (Option PolicyRecord))
    → k < length ranges → get_or ranges k range ≡ range
    → WritesRules (starts_in first end (take k ranges)) old next
    → WritesRules (cond (begins_in first end range) 1 0) next new
    → WritesRules (starts_in first end (take (k + 1) ranges)) old new
begun-writes old next new first end k ranges range lt there one two =
    let more : starts_in first end (take (k + 1) ranges) ≡ starts_in first end (take k ranges)
    + cond {A = ℕ} (begins_in first end (get_or ranges k range)) 1 0 =
    begun-more first end k ranges range lt in
    let same : cond {A = ℕ} (begins_in first end (get_or ranges k range)) 1 0
    ≡ cond {A = ℕ} (begins_in first end range) 1 0 =
    ap (λ (run : Run (Option PolicyRecord)). cond {A = ℕ} (begins_in first end run) 1 0)
    there in
    record {
      compares = omega (arith, one.compares, two.compares);
      runs = two.runs ∙ one.runs;
      rules = omega (arith, one.rules, two.rules, more, same);
      rules_rise = omega (arith, one.rules_rise, two.rules_rise);
    }

-- copies stay where what the slots keep is kept
pub copies-grown : (old new : List Slot) (ranges : List (Run (Option PolicyRecord)))
    (runs : List (Run (Option ℕ)))
    → ((number : ℕ) (kept : Kept) → kept_in old number ≡ Some kept → kept_in new number ≡ Some kept)
    → AreCopies (policy_in old) ranges runs → AreCopies (policy_in new) ranges runs
copies-grown old new ranges runs kept copies = copies-named (policy_in old) (policy_in new) ranges
    runs (λ place r named is. policies-kept old new place r (kept place) is) copies

-- the plan has the machine's nodes
pub open-nodes : (space : SpaceState) (plan : PlanData) (window : Window) → IsOpen space plan window
    → plan.nodes ≡ space.machine.nodes
open-nodes space plan window of = of.behind.follows.nodes
    ∙ sym
    (ap (λ machine. machine.nodes)
    (span-rest of.behind.before space of.command of.of_span of.behind.step.next).machine)

-- at most as many ranges begin in the span as runs met it
pub open-begun : (space : SpaceState) (plan : PlanData) (window : Window) (command : Command)
    → IsBehind space command plan → EditsSpan command → AreApart 0 space.ranges
    → AreMaximal space.ranges → 0 < span_pages command
    → window.first ≡ span_first command → window.end ≡ span_end command
    → starts_in window.first window.end space.ranges ≤ met (span_first command) (span_end command)
    plan.runs
open-begun space plan window command behind edits rising maximal some first end =
    let same : starts_in window.first window.end space.ranges ≡ starts_in (span_first command)
    (span_end command) space.ranges = λ i. starts_in (first i) (end i) space.ranges in
    omega (
      arith,
      same,
      begun-few behind.before space command behind.step edits rising maximal some,
      copies-met (policy_in plan.slots) (span_first command) (span_end command)
          behind.before.ranges plan.runs behind.follows.copies,
    )

pub writes-both : (old next new : Counted) (runs rules few_runs few_rules : ℕ)
    → WritesRules 0 old next → WritesBoth runs rules next new → runs ≤ few_runs → rules ≤ few_rules
    → WritesBoth few_runs few_rules old new
writes-both old next new runs rules few_runs few_rules one two le le' = record {
  compares = omega (arith, one.compares, two.compares);
  runs = omega (arith, one.runs, two.runs);
  runs_rise = omega (arith, one.runs, two.runs_rise);
  rules = omega (arith, one.rules, two.rules);
  rules_rise = omega (arith, one.rules_rise, two.rules_rise);
}

pub writes-less : (old new : Counted) (rules few : ℕ) → WritesRules rules old new → rules ≤ few
    → WritesRules few old new
writes-less old new rules few writes le = record {
  compares = writes.compares;
  runs = writes.runs;
  rules = omega (arith, writes.rules, le);
  rules_rise = writes.rules_rise;
}
