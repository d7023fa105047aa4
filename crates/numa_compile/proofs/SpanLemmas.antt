-- A plan behind its space by a command of a span: what stays, and what is written anew.
use Rattle.std.proofs.Common.{◌≡◌, ℕ, zero, suc, ◌+◌, ◌-◌, ◌<◌, ◌≤◌, Bool, cond, Option, Some, None}
use Rattle.std.proofs.Common.{List, [], ◌∷◌, length, length-drop, drop, take, get_or, get_or-drop}
use Rattle.std.proofs.Common.{◌++◌, refl, sym, ap, subst, ◌∙◌, arith, ne_eqb}
use Rattle.std.proofs.lemmas.Option.{same_Some}
use Rattle.std.specs.List.{slice_range, splice}
use Rattle.std.specs.Option.{option_map}
use Rattle.numa_machine.specs.Weights.{weight_at}
use Rattle.numa_mode.specs.Policy.{PolicyRecord}
use Rattle.numa_ranges.specs.Runs.{page_at, AreApart, AreMaximal}
use Rattle.numa_ranges.specs.Windows.{begins_in, meets, met, IsWindow}
use Rattle.numa_ranges.specs.declared.run.Run.{Run}
use Rattle.numa_ranges.proofs.Fewer.{count-cons}
use Rattle.numa_ranges.proofs.Found.{window-carried}
use Rattle.numa_ranges.proofs.Moves.{moved-splice}
use Rattle.numa_requests.specs.declared.command.Command.{Command}
use Rattle.numa_requests.specs.declared.command.Command.TheVariants.{Map, Unmap, Mbind, SetTask}
use Rattle.numa_requests.specs.declared.command.Command.TheVariants.{Inherit, SetHome, SetWeight}
use Rattle.numa_requests.specs.declared.command.Command.TheVariants.{SetMems}
use Rattle.numa_space.specs.Policies.{where_live}
use Rattle.numa_space.specs.Spans.{span_first, span_pages, span_end, StaysInSpan, EditsSpan}
use Rattle.numa_space.specs.Standing.{SpaceState, record_of}
use Rattle.numa_space.specs.Steps.{IsNext}
use Rattle.numa_space.proofs.Moving.{changed-few, kept-value, none-changed, span-moves}
use Rattle.numa_plan.specs.Counted.{Counted}
use Rattle.numa_plan.specs.Meaning.{PlanData, number_of}
use Rattle.numa_plan.specs.Slots.{policy_in}
use Rattle.numa_compile.specs.Copies.{IsNumber, IsCopy, AreCopies}
use Rattle.numa_compile.specs.Follows.{Follows, IsBehind}
use Rattle.numa_compile.specs.Recompiling.{WritesRules, WritesBoth}
use Rattle.numa_compile.specs.Windows.{IsOfSpan, IsOpen, KeepsOutside}
use Rattle.numa_compile.specs.declared.recompiler.window.Window.{Window}
use Rattle.numa_compile.proofs.CopyLemmas.{copies-length, copies-next, copies-related}
use Rattle.numa_compile.proofs.StepLemmas.{local-same, serving-same}
use Rattle.numa_compile.proofs.WindowLemmas.{copies-splice, copies-at}

-- ---- what a command of a span leaves as it was

pub record KeepsRest (old new : SpaceState) : Type 0 where
  pub machine : new.machine ≡ old.machine
  pub allowed : new.allowed ≡ old.allowed
  pub weights : (node : ℕ) → weight_at new.weights node ≡ weight_at old.weights node
  pub tasks : (task : ℕ) → record_of new.tasks task ≡ record_of old.tasks task

pub span-rest : (old new : SpaceState) (command : Command) → IsOfSpan command
    → IsNext old command new → KeepsRest old new
span-rest old new (Map start bytes offset size) of_span next =
    record {
      machine = next.machine;
      allowed = next.allowed;
      weights = next.weights;
      tasks =
          next.tasks;
    }
span-rest old new (Unmap start bytes) of_span next =
    record {
      machine = next.machine;
      allowed = next.allowed;
      weights = next.weights;
      tasks =
          next.tasks;
    }
span-rest old new (Mbind start bytes spec) of_span next =
    record {
      machine = next.machine;
      allowed = next.allowed;
      weights = next.weights;
      tasks =
          next.tasks;
    }
span-rest old new (SetTask task spec) of_span next = absurd of_span
span-rest old new (Inherit heir from) of_span next = absurd of_span
span-rest old new (SetHome start bytes node) of_span next =
    record {
      machine = next.machine;
      allowed = next.allowed;
      weights = next.weights;
      tasks =
          next.tasks;
    }
span-rest old new (SetWeight node weight) of_span next = absurd of_span
span-rest old new (SetMems mask) of_span next = absurd of_span

pub span-stays : (command : Command) → IsOfSpan command → StaysInSpan command
span-stays (Map start bytes offset size) of_span = tt
span-stays (Unmap start bytes) of_span = tt
span-stays (Mbind start bytes spec) of_span = tt
span-stays (SetTask task spec) of_span = absurd of_span
span-stays (Inherit heir from) of_span = absurd of_span
span-stays (SetHome start bytes node) of_span = tt
span-stays (SetWeight node weight) of_span = absurd of_span
span-stays (SetMems mask) of_span = absurd of_span

pub edits-of_span : (command : Command) → EditsSpan command → IsOfSpan command
edits-of_span (Map start bytes offset size) edits = absurd edits
edits-of_span (Unmap start bytes) edits = tt
edits-of_span (Mbind start bytes spec) edits = tt
edits-of_span (SetTask task spec) edits = absurd edits
edits-of_span (Inherit heir from) edits = absurd edits
edits-of_span (SetHome start bytes node) edits = tt
edits-of_span (SetWeight node weight) edits = absurd edits
edits-of_span (SetMems mask) edits = absurd edits

-- ---- runs that copy ranges

module _ (at : ℕ → Option PolicyRecord) where
  pub copies-first : (ranges : List (Run (Option PolicyRecord))) (runs : List (Run (Option ℕ)))
      (k : ℕ) (d : Run (Option PolicyRecord)) (e : Run (Option ℕ)) → AreCopies at ranges runs
      → k < length ranges → IsCopy at (get_or ranges k d) (get_or runs k e)
  copies-first [] runs k d e copies lt = absurd (omega arith)
  copies-first (range ∷ ranges) [] k d e copies lt = absurd copies
  copies-first (range ∷ ranges) (run ∷ runs) zero d e copies lt = copies.0
  copies-first (range ∷ ranges) (run ∷ runs) (suc k) d e copies lt =
      copies-first ranges runs k d e copies.1 (omega arith)

  -- as many of them meet a span
  pub copies-met : (first end : ℕ) (ranges : List (Run (Option PolicyRecord)))
      (runs : List (Run (Option ℕ))) → AreCopies at ranges runs
      → met first end runs ≡ met first end ranges
  copies-met first end [] [] copies = refl
  copies-met first end [] (run ∷ runs) copies = absurd copies
  copies-met first end (range ∷ ranges) [] copies = absurd copies
  copies-met first end (range ∷ ranges) (run ∷ runs) copies =
      let same : meets first end run ≡ meets first end range =
      λ i.
      meets first end
      (record {
        first = copies.0.first i;
        pages = copies.0.pages i;
        index = 0;
        value =
            tt {0};
      }) in
      omega (
        arith,
        count-cons (meets first end) run runs,
        count-cons (meets first end) range ranges,
        ap (λ (b : Bool). cond {A = ℕ} b 1 0) same,
        copies-met first end ranges runs copies.1,
      )

  -- a window of the runs is one of the ranges
  pub copies-window : (ranges : List (Run (Option PolicyRecord))) (runs : List (Run (Option ℕ)))
      (first end from to : ℕ) → AreCopies at ranges runs → IsWindow runs first end from to
      → IsWindow ranges first end from to
  copies-window ranges runs first end from to copies window =
      window-carried runs ranges (sym (copies-length at ranges runs copies))
      (λ k e d lt.
      sym (copies-first ranges runs k d e copies
      (omega (arith, copies-length at ranges runs copies))).first)
      (λ k e d lt. let copy = copies-first ranges runs k d e copies
      (omega (arith, copies-length at ranges runs copies)) in
      omega (arith, copy.first, copy.pages))
      first end from to window

  -- a page of a range has a run, with the number of the range's policy
  pub copies-found : (ranges : List (Run (Option PolicyRecord))) (runs : List (Run (Option ℕ)))
      (page index : ℕ) (policy : Option PolicyRecord) → AreCopies at ranges runs
      → page_at ranges page ≡ Some (index, policy)
      → (number : Option ℕ) × (option_map (λ part. part.1) (page_at runs page) ≡ Some number)
      × IsNumber at (where_live policy) number
  copies-found ranges runs page index policy copies there =
      found (page_at runs page) refl
      (copies-related (λ place number. place) (λ place policy. place) at
      (λ policy number place is. refl) ranges runs page copies
      ∙ ap (λ (o : Option (ℕ × Option PolicyRecord)).
      option_map (λ (part : ℕ × Option PolicyRecord). part.0) o) there)
    where
      found : (o : Option (ℕ × Option ℕ)) → page_at runs page ≡ o
          → option_map (λ part. part.0) (page_at runs page) ≡ Some index → (number : Option ℕ)
          × (option_map (λ part. part.1) (page_at runs page) ≡ Some number)
          × IsNumber at (where_live policy) number
      found None is some =
          absurd (let odd : ◌≡◌ {A = Option ℕ} None (Some index) =
          sym (ap (λ (o : Option (ℕ × Option ℕ)). option_map (λ (part : ℕ × Option ℕ). part.0) o)
          is) ∙ some in cc)
      found (Some p) is some =
          let same : p.0 ≡ index =
          same_Some p.0 index
          (sym (ap (λ (o : Option (ℕ × Option ℕ)). option_map (λ (part : ℕ × Option ℕ). part.0)
          o) is) ∙ some) in (
            p.1,
            ap (λ (o : Option (ℕ × Option ℕ)). option_map (λ (part : ℕ × Option ℕ). part.1) o) is,
            copies-at at ranges runs page index p.1 policy copies
                (is ∙ ap (λ (place : ℕ). Some (place, p.1)) same) there,
          )

-- ---- the window

-- the window that was found is one that the command left
pub open-found : (space : SpaceState) (plan : PlanData) (window : Window) (command : Command)
    → IsBehind space command plan → IsOfSpan command → AreApart 0 space.ranges
    → AreMaximal space.ranges
    → window.first ≡ span_first command → window.end ≡ span_end command
    → window.to_now ≡ length space.ranges - (length plan.runs - window.to)
    → IsWindow plan.runs window.first window.end window.from window.to → IsOpen space plan window
open-found space plan window command behind of_span rising maximal first end place is =
    let own : IsWindow plan.runs (span_first command) (span_end command) window.from window.to =
    subst (λ (n : ℕ). IsWindow plan.runs (span_first command) n window.from window.to) end
    (subst (λ (n : ℕ). IsWindow plan.runs n window.end window.from window.to) first is) in
    record {
      command = command;
      behind = behind;
      of_span = of_span;
      begins = sym first;
      ends = sym end;
      rises = is.rises;
      within = is.within;
      place = place ∙ ap (λ (n : ℕ). length space.ranges - (n - window.to))
          (copies-length (policy_in plan.slots) behind.before.ranges plan.runs
          behind.follows.copies);
      moves = span-moves behind.before space command behind.step (span-stays command of_span) rising
          maximal window.from window.to
          (copies-window (policy_in plan.slots) behind.before.ranges plan.runs (span_first command)
          (span_end command) window.from window.to behind.follows.copies own);
    }

-- ranges that begin outside the span have their numbers in the plan
pub open-numbered : (space : SpaceState) (plan : PlanData) (window : Window)
    → IsOpen space plan window → AreApart 0 space.ranges → AreMaximal space.ranges
    → KeepsOutside space plan window
open-numbered space plan window of rising maximal k d lt out =
    let run : Run (Option PolicyRecord) = get_or space.ranges k d in
    let there = kept-value of.behind.before space of.command of.behind.step
    (span-stays of.command of.of_span) rising maximal k d lt
    ((λ i. begins_in (of.begins i) (of.ends i) run) ∙ out) in
    let found = copies-found (policy_in plan.slots) of.behind.before.ranges plan.runs run.first
    run.index run.value of.behind.follows.copies there in
    record { number = found.0; found = found.1; is = found.2 }

-- with copies of the window's ranges in the place of its runs, the plan follows the space
pub open-spliced : (space : SpaceState) (plan : PlanData) (window : Window)
    (runs : List (Run (Option ℕ))) → IsOpen space plan window
    → AreCopies (policy_in plan.slots) (slice_range space.ranges window.from window.to_now) runs
    → Follows space
    (record plan { version = space.version; runs = splice plan.runs window.from window.to runs })
open-spliced space plan window runs of copies =
    let before = of.behind.before in
    let f = of.behind.follows in
    let rest = span-rest before space of.command of.of_span of.behind.step.next in
    let moved : space.ranges ≡ splice before.ranges window.from window.to
    (slice_range space.ranges window.from window.to_now) =
    moved-splice before.ranges space.ranges window.from window.to of.moves
    ∙ ap
    (λ (n : ℕ). splice before.ranges window.from window.to
    (slice_range space.ranges window.from n)) (sym of.place) in
    record {
      version = refl;
      nodes = f.nodes ∙ sym (ap (λ machine. machine.nodes) rest.machine);
      local = local-same before space rest.machine rest.allowed rest.weights plan.local f.local;
      rules = serving-same before space rest.machine rest.allowed rest.weights plan.slots f.rules;
      copies =
          subst (λ (ranges : List (Run (Option PolicyRecord))). AreCopies (policy_in plan.slots)
          ranges (splice plan.runs window.from window.to runs)) (sym moved)
          (copies-splice (policy_in plan.slots) before.ranges
          (slice_range space.ranges window.from window.to_now) plan.runs runs window.from
          window.to f.copies copies);
      tasks =
          λ task.
          subst (λ (policy : Option PolicyRecord). IsNumber (policy_in plan.slots)
          (where_live policy) (number_of plan.tasks task)) (sym (rest.tasks task)) (f.tasks task);
    }

-- a command without pages leaves all but the version
pub none-follows : (space : SpaceState) (plan : PlanData) (command : Command)
    → IsBehind space command plan → IsOfSpan command → AreApart 0 space.ranges
    → AreMaximal space.ranges → span_pages command ≡ 0
    → Follows space (record plan { version = space.version })
none-follows space plan command behind of_span rising maximal none =
    let before = behind.before in
    let f = behind.follows in
    let rest = span-rest before space command of_span behind.step.next in
    let same : space.ranges ≡ before.ranges = none-changed before space command behind.step
    (span-stays command of_span) rising maximal none in
    record {
      version = refl;
      nodes = f.nodes ∙ sym (ap (λ machine. machine.nodes) rest.machine);
      local = local-same before space rest.machine rest.allowed rest.weights plan.local f.local;
      rules = serving-same before space rest.machine rest.allowed rest.weights plan.slots f.rules;
      copies =
          subst (λ (ranges : List (Run (Option PolicyRecord))). AreCopies (policy_in plan.slots)
          ranges plan.runs) (sym same) f.copies;
      tasks =
          λ task.
          subst (λ (policy : Option PolicyRecord). IsNumber (policy_in plan.slots)
          (where_live policy) (number_of plan.tasks task)) (sym (rest.tasks task)) (f.tasks task);
    }

-- one range more of a window, and its run
pub gathered-next : (at : ℕ → Option PolicyRecord) (ranges : List (Run (Option PolicyRecord)))
    (runs : List (Run (Option ℕ))) (from k : ℕ) (range : Run (Option PolicyRecord))
    (value : Option ℕ) → from ≤ k → k < length ranges → get_or ranges k range ≡ range
    → IsNumber at (where_live range.value) value → AreCopies at (slice_range ranges from k) runs
    → AreCopies at (slice_range ranges from (k + 1))
    (runs ++ record { first = range.first; pages = range.pages; index = range.index; value = value }
    ∷ [])
gathered-next at ranges runs from k range value le lt there number copies =
    let run : Run (Option ℕ) =
    record { first = range.first; pages = range.pages; index = range.index; value = value } in
    let place : from + (k - from) ≡ k = omega arith in
    let more : (k - from) + 1 ≡ (k + 1) - from = omega arith in
    let own : get_or (drop from ranges) (k - from) range ≡ range =
    get_or-drop from ranges (k - from) range ∙ ap (λ (n : ℕ). get_or ranges n range) place
    ∙ there in
    let copy : IsCopy at range run =
    record { first = refl; pages = refl; index = refl; value = number } in
    subst (λ (n : ℕ). AreCopies at (take n (drop from ranges)) (runs ++ run ∷ [])) more
    (copies-next at (drop from ranges) runs (k - from) range run
    (omega (arith, length-drop from ranges)) copies
    (subst (λ (one : Run (Option PolicyRecord)). IsCopy at one run) (sym own) copy))

-- ---- how much is written

-- the window of a command that maps nothing holds at most two ranges more than runs met its span
pub open-few : (space : SpaceState) (plan : PlanData) (window : Window) (command : Command)
    → IsBehind space command plan → EditsSpan command → AreApart 0 space.ranges
    → AreMaximal space.ranges → 0 < span_pages command
    → window.first ≡ span_first command → window.end ≡ span_end command
    → window.to_now ≡ length space.ranges - (length plan.runs - window.to)
    → IsWindow plan.runs window.first window.end window.from window.to
    → window.to_now - window.from ≤ met (span_first command) (span_end command) plan.runs + 2
open-few space plan window command behind edits rising maximal some first end place is =
    let own : IsWindow plan.runs (span_first command) (span_end command) window.from window.to =
    subst (λ (n : ℕ). IsWindow plan.runs (span_first command) n window.from window.to) end
    (subst (λ (n : ℕ). IsWindow plan.runs n window.end window.from window.to) first is) in
    let at = policy_in plan.slots in
    let few = changed-few behind.before space command behind.step edits rising maximal some
    window.from window.to (copies-window at behind.before.ranges plan.runs (span_first command)
    (span_end command) window.from window.to behind.follows.copies own) in
    omega (
      arith,
      few,
      place,
      copies-length at behind.before.ranges plan.runs behind.follows.copies,
      copies-met at (span_first command) (span_end command) behind.before.ranges plan.runs
          behind.follows.copies,
    )

pub writes-none : (steps : Counted) → WritesRules 0 steps steps
writes-none steps = record {
  compares = omega arith;
  runs = refl;
  rules = omega arith;
  rules_rise =
      omega arith;
}

pub writes-few : (old next new : Counted) (rules runs few : ℕ) → WritesRules rules old next
    → WritesBoth runs 0 next new → runs ≤ few → WritesBoth few rules old new
writes-few old next new rules runs few one two le = record {
  compares = omega (arith, one.compares, two.compares);
  runs = omega (arith, one.runs, two.runs);
  runs_rise = omega (arith, one.runs, two.runs_rise);
  rules = omega (arith, one.rules, two.rules);
  rules_rise = omega (arith, one.rules_rise, two.rules_rise);
}
