-- The moves of spans, node by node and span by span.
use Rattle.std.proofs.Common.{◌≡◌, ℕ, zero, suc, ◌+◌, ◌<◌, ◌≤◌, ◌++◌, ◌∙◌, ◌⊎◌, List, [], ◌∷◌, length}
use Rattle.std.proofs.Common.{get_or, refl, sym, ap, arith, inl, inr, append_assoc, map}
use Rattle.std.proofs.Common.{◌&&◌, true, subst}
use Rattle.numa_machine.specs.Machine.{Hardware}
use Rattle.numa_plan.specs.Meaning.{PlanData, RefusesSpan, is_number, planned_first}
use Rattle.numa_plan.proofs.CountLemmas.{shift}
use Rattle.numa_space.specs.Pages.{is_mapped}
use Rattle.numa_space.specs.Standing.{SpaceState, StandsFor}
use Rattle.numa_requests.specs.declared.command.Command.{Command}
use Rattle.numa_compile.specs.Standing.{PlanStandsFor}
use Rattle.numa_reports.specs.Common.{AreCommon, AreRising, has_page, span_end}
use Rattle.numa_reports.specs.Differences.{EitherLacks, RefusesSome, move_by, moved_between}
use Rattle.numa_reports.specs.Differences.{moves_from, moves_over, moves_within}
use Rattle.numa_reports.specs.Failing.{FailsBy, RefusesEither}
use Rattle.numa_reports.specs.Mapped.{span_of}
use Rattle.numa_reports.specs.Moved.{goes_to, planned_moves}
use Rattle.numa_reports.specs.declared.differences.SpanMove.{SpanMove}
use Rattle.numa_reports.specs.declared.fault.ReportError.{ReportError}
use Rattle.numa_reports.specs.declared.fault.ReportError.TheVariants.{Memory, Refused}
use Rattle.numa_reports.specs.declared.outlook.PageSpan.{PageSpan}
use Rattle.numa_reports.proofs.Moving.{number-meant}
use Rattle.numa_reports.proofs.Refusing.{both-true, item-page, mapped-refuses, range-mapped}
use Rattle.numa_reports.proofs.Refusing.{spans-pages}

-- ---- one node, or one span, more

pub from-next : (count : ℕ → ℕ → ℕ) (span : PageSpan) (from to : ℕ)
    → moves_from count span from (to + 1) ≡ moves_from count span from to
    ++ move_by span from to (count from to)
from-next count span from to =
    let next : suc to ≡ to + 1 = omega arith in
    sym (ap (λ (n : ℕ). moves_from count span from n) next)

pub within-next : (count : ℕ → ℕ → ℕ) (span : PageSpan) (from nodes : ℕ)
    → moves_within count span (from + 1) nodes ≡ moves_within count span from nodes
    ++ moves_from count span from nodes
within-next count span from nodes =
    let next : suc from ≡ from + 1 = omega arith in
    sym (ap (λ (n : ℕ). moves_within count span n nodes) next)

-- what is appended twice
pub more-moves : (start before after l r all : List SpanMove) → before ≡ start ++ l
    → after ≡ before ++ r → all ≡ l ++ r
    → after ≡ start ++ all
more-moves start before after l r all was is both = is ∙ ap (λ m. m ++ r) was
    ∙ append_assoc start l r ∙ ap (λ m. start ++ m) (sym both)

-- what was appended for a span, and is left
pub span-moves : (count : PageSpan → ℕ → ℕ → ℕ) (n m : ℕ) (left rest all : List PageSpan)
    (span : PageSpan) (before after : List SpanMove) → left ≡ span ∷ rest
    → after ≡ before ++ moves_within (count span) span n m
    → before ++ moves_over count n m left ≡ moves_over count n m all
    → after ++ moves_over count n m rest ≡ moves_over count n m all
span-moves count n m left rest all span before after is added whole =
    ap (λ l. l ++ moves_over count n m rest) added
    ∙ append_assoc before (moves_within (count span) span n m) (moves_over count n m rest)
    ∙ ap (λ (l : List PageSpan). before ++ moves_over count n m l) (sym is) ∙ whole

-- ---- as many by another count

from-same : (f g : ℕ → ℕ → ℕ) (span : PageSpan) (from nodes : ℕ) → nodes ≤ 256
    → ((to : ℕ) → to < 256 → f from to ≡ g from to)
    → moves_from f span from nodes ≡ moves_from g span from nodes
from-same f g span from zero few same = refl
from-same f g span from (suc to) few same =
    ap (λ l. l ++ move_by span from to (f from to))
    (from-same f g span from to (omega (arith, few)) same)
    ∙ ap (λ k. moves_from g span from to ++ move_by span from to k) (same to (omega (arith, few)))

pub within-same : (f g : ℕ → ℕ → ℕ) (span : PageSpan) (n m : ℕ) → n ≤ 256 → m ≤ 256
    → ((from to : ℕ) → from < 256 → to < 256 → f from to ≡ g from to)
    → moves_within f span n m ≡ moves_within g span n m
within-same f g span zero m few few' same = refl
within-same f g span (suc from) m few few' same =
    ap (λ l. l ++ moves_from f span from m)
    (within-same f g span from m (omega (arith, few)) few' same)
    ∙ ap (λ l. moves_within g span from m ++ l)
    (from-same f g span from m few' (λ to t. same from to (omega (arith, few)) t))

pub over-same : (f g : PageSpan → ℕ → ℕ → ℕ) (n m : ℕ) (spans : List PageSpan) → n ≤ 256 → m ≤ 256
    → ((span : PageSpan) (from to : ℕ) → f span from to ≡ g span from to)
    → moves_over f n m spans ≡ moves_over g n m spans
over-same f g n m [] few few' same = refl
over-same f g n m (span ∷ spans) few few' same =
    ap (λ l. l ++ moves_over f n m spans)
    (within-same (f span) (g span) span n m few few' (λ from to a b. same span from to))
    ∙ ap (λ l. moves_within (g span) span n m ++ l) (over-same f g n m spans few few' same)

-- ---- by the histories

module _ (machine machine' : Hardware) (before after : PlanData) (old new : List Command)
    (was : PlanStandsFor machine before old) (is : PlanStandsFor machine' after new) where
  pub counts-meant : (task cpu : ℕ) → cpu < machine.nodes → cpu < machine'.nodes
      → (span : PageSpan) (from to : ℕ)
      → planned_moves before after task span.first span.pages cpu from to
      ≡ moved_between machine old machine' new task cpu span from to
  counts-meant task cpu lt lt' span from to =
      shift (λ page. is_number from (planned_first before task page cpu)
      && is_number to (planned_first after task page cpu))
      (λ page. goes_to machine old task cpu from page && goes_to machine' new task cpu to page)
      span.first span.first span.pages
      (λ k short i. number-meant machine before old was task (span.first + k) cpu from lt i
      && number-meant machine' after new is task (span.first + k) cpu to lt' i)

-- pages of spans that two lists of ranges have in common are mapped in both
common-pages : (space space' : SpaceState) (old new : List Command) (spans : List PageSpan) (k : ℕ)
    (d : PageSpan) (page : ℕ) → StandsFor space old → StandsFor space' new
    → AreCommon (map span_of space.ranges) (map span_of space'.ranges) spans
    → k < length spans → (get_or spans k d).first ≤ page → page < span_end (get_or spans k d)
    → (is_mapped old page ≡ true) × (is_mapped new page ≡ true)
common-pages space space' old new spans k d page stands stands' common lt low high =
    let both = both-true (has_page (map span_of space.ranges) page)
    (has_page (map span_of space'.ranges) page)
    (sym (common.pages page) ∙ item-page spans k d page lt low high) in (
      sym (spans-pages space.ranges page ∙ range-mapped space old page stands) ∙ both.0,
      sym (spans-pages space'.ranges page ∙ range-mapped space' new page stands') ∙ both.1,
    )

pub common-refused : (space space' : SpaceState) (before after : PlanData) (old new : List Command)
    (spans : List PageSpan) (cpu : ℕ) (fault : ReportError) → StandsFor space old
    → PlanStandsFor space.machine before old
    → StandsFor space' new
    → PlanStandsFor space'.machine after new
    → AreCommon (map span_of space.ranges) (map span_of space'.ranges) spans
    → FailsBy (RefusesSome before after spans cpu) fault
    → FailsBy (EitherLacks space.machine.nodes space'.machine.nodes cpu) fault
common-refused space space' before after old new spans cpu Memory stands was stands' is common why =
    tt
common-refused space space' before after old new spans cpu (Refused refusal) stands was stands' is
    common (k, d, lt, either) = go either
  where
    go : RefusesSpan before (get_or spans k d).first (get_or spans k d).pages cpu refusal
        ⊎ RefusesSpan after (get_or spans k d).first (get_or spans k d).pages cpu refusal
        → EitherLacks space.machine.nodes space'.machine.nodes cpu refusal
    go (inl one) = inl (mapped-refuses space.machine before old was (get_or spans k d).first
        (get_or spans k d).pages cpu refusal
        (λ page low high. (common-pages space space' old new spans k d page stands stands' common lt
        low high).0) one)
    go (inr one) = inr (mapped-refuses space'.machine after new is (get_or spans k d).first
        (get_or spans k d).pages cpu refusal
        (λ page low high. (common-pages space space' old new spans k d page stands stands' common lt
        low high).1) one)

-- a refusal of one span is one of all
pub some-fails : (before after : PlanData) (spans : List PageSpan) (k : ℕ) (d : PageSpan) (cpu : ℕ)
    (fault : ReportError) → k < length spans
    → FailsBy (RefusesEither before after (get_or spans k d).first (get_or spans k d).pages cpu)
    fault
    → FailsBy (RefusesSome before after spans cpu) fault
some-fails before after spans k d cpu Memory lt fails = tt
some-fails before after spans k d cpu (Refused refusal) lt fails = (k, d, lt, fails)

-- the spans of two spaces, read as slices
pub space-common : (ones others found spans ones_told others_told ones_there others_there
    : List PageSpan) → ones ≡ ones_told → others ≡ others_told → spans ≡ found
    → ones_told ≡ ones_there → others_told ≡ others_there
    → AreRising 0 ones_told → AreRising 0 others_told
    → (AreRising 0 ones → AreRising 0 others → AreCommon ones others found)
    → AreCommon ones_there others_there spans
space-common ones others found spans ones_told others_told ones_there others_there one other all
    is is' rising rising' common =
    subst (λ (l : List PageSpan). AreCommon ones_there others_there l) (sym all)
    (subst (λ (l : List PageSpan). AreCommon ones_there l found) (other ∙ is')
    (subst (λ (l : List PageSpan). AreCommon l others found) (one ∙ is)
    (common (subst (AreRising 0) (sym one) rising) (subst (AreRising 0) (sym other) rising'))))

-- what was told by plans is what the histories mean
pub moves-told : (machine machine' : Hardware) (before after : PlanData) (old new : List Command)
    (task cpu n m : ℕ) (spans : List PageSpan) (moves : List SpanMove)
    → PlanStandsFor machine before old
    → PlanStandsFor machine' after new → cpu < machine.nodes → cpu < machine'.nodes
    → n ≡ machine.nodes → m ≡ machine'.nodes → n ≤ 256 → m ≤ 256
    → moves ≡ moves_over
    (λ span. planned_moves before after task span.first span.pages cpu) n m spans
    → moves ≡ moves_over (moved_between machine old machine' new task cpu) machine.nodes
    machine'.nodes spans
moves-told machine machine' before after old new task cpu n m spans moves was is lt lt' all all' few
    few' told =
    let meant : PageSpan → ℕ → ℕ → ℕ = moved_between machine old machine' new task cpu in
    told ∙ over-same (λ span. planned_moves before after task span.first span.pages cpu) meant n m
    spans few few' (counts-meant machine machine' before after old new was is task cpu lt lt')
    ∙ ap (λ (k : ℕ). moves_over meant k m spans) all
    ∙ ap (λ (k : ℕ). moves_over meant machine.nodes k spans) all'
