-- Why reports are refused.
use Rattle.std.proofs.Common.{◌≡◌, ℕ, zero, suc, ◌+◌, ◌-◌, ◌<◌, ◌≤◌, ◌^◌, ◌&&◌, Bool, true, false}
use Rattle.std.proofs.Common.{◌||◌, Option, Some, None, is_some, List, [], ◌∷◌, length, get_or, map}
use Rattle.std.proofs.Common.{refl, sym, ap, subst, ◌∙◌, ◌⊎◌, arith, inl, inr}
use Rattle.std.specs.Prelude.{nat_le, option_and_then, if◌then◌else◌}
use Rattle.std.proofs.lemmas.Bool.{cases_lt, le-leb, lt-leb}
use Rattle.numa_machine.specs.Machine.{Hardware}
use Rattle.numa_mode.specs.Policy.{PolicyRecord}
use Rattle.numa_ranges.specs.Runs.{AreApart, end_of, in_pages, page_at}
use Rattle.numa_ranges.specs.declared.run.Run.{Run}
use Rattle.numa_ranges.proofs.Apart.{apart-top, in_pages-above, in_pages-true}
use Rattle.numa_space.specs.Pages.{index_of, is_mapped, range_record}
use Rattle.numa_space.specs.Standing.{SpaceState, StandsFor}
use Rattle.numa_requests.specs.declared.command.Command.{Command}
use Rattle.numa_machine.specs.declared.refusal.PlaceRefusal.{PlaceRefusal}
use Rattle.numa_machine.specs.declared.refusal.PlaceRefusal.TheVariants.{BadCpu, Unmapped}
use Rattle.numa_plan.specs.Meaning.{PlanData, RefusesSpan, place_refusal}
use Rattle.numa_compile.proofs.Replies.{run-mapped, span-meant}
use Rattle.numa_compile.specs.Spans.{SpanIsRefused}
use Rattle.numa_compile.specs.Standing.{PlanStandsFor}
use Rattle.numa_reports.specs.Common.{AreCommon, AreRising, has_page, span_end}
use Rattle.numa_reports.specs.Failing.{FailsBy, MayFail, MayRefuse, MovesMayFail}
use Rattle.numa_reports.specs.Mapped.{IsOutlook, span_of}
use Rattle.numa_reports.specs.Turns.{HasPages}
use Rattle.numa_reports.specs.declared.fault.ReportError.{ReportError}
use Rattle.numa_reports.specs.declared.fault.ReportError.TheVariants.{Memory, Refused}
use Rattle.numa_reports.specs.declared.outlook.Outlook.{Outlook}
use Rattle.numa_reports.specs.declared.outlook.PageSpan.{PageSpan}

-- ---- refusals of spans by a plan

module _ (plan : PlanData) where
  -- a page that is refused refuses each span that has it
  pub page-refused : (first pages page cpu : ℕ) (refusal : PlaceRefusal)
      → place_refusal plan page cpu ≡ Some refusal → first ≤ page → page < first + pages
      → RefusesSpan plan first pages cpu refusal
  page-refused first pages page cpu refusal is low high =
      elim (cases_lt cpu plan.nodes) [
        | inl lt ↦
            let near : nat_le plan.nodes cpu ≡ false = lt-leb plan.nodes cpu lt in
            miss (page_at plan.runs page) refl refusal
            (sym (ap
            (λ (b : Bool). if b then Some BadCpu else if is_some (page_at plan.runs page)
            then None else Some Unmapped) near) ∙ is) lt
        | inr le ↦
            let far : nat_le plan.nodes cpu ≡ true = le-leb plan.nodes cpu le in
            bad refusal
            (sym (ap
            (λ (b : Bool). if b then Some BadCpu else if is_some (page_at plan.runs page)
            then None else Some Unmapped) far) ∙ is) le
      ]
    where
      bad : (r : PlaceRefusal) → ◌≡◌ {A = Option PlaceRefusal} (Some BadCpu) (Some r)
          → plan.nodes ≤ cpu → RefusesSpan plan first pages cpu r
      bad BadCpu e le = le
      bad Unmapped e le = absurd (let odd = e in cc)

      miss : (o : Option (ℕ × Option ℕ)) → page_at plan.runs page ≡ o → (r : PlaceRefusal)
          → ◌≡◌ {A = Option PlaceRefusal} (if is_some o then None else Some Unmapped) (Some r)
          → cpu < plan.nodes → RefusesSpan plan first pages cpu r
      miss None none BadCpu e lt = absurd (let odd = e in cc)
      miss None none Unmapped e lt = (lt, (page, low, high, none))
      miss (Some at) there r e lt = absurd (let odd = e in cc)

  -- a refusal of a part of a span is one of the span
  pub part-refused : (first pages from n cpu : ℕ) (refusal : PlaceRefusal) → first ≤ from
      → from + n ≤ first + pages → RefusesSpan plan from n cpu refusal
      → RefusesSpan plan first pages cpu refusal
  part-refused first pages from n cpu BadCpu low high refused = refused
  part-refused first pages from n cpu Unmapped low high refused = (
    refused.0,
    (
      refused.1.0,
      omega (arith, refused.1.1),
      omega (arith, refused.1.2),
      refused.1.3,
    ),
  )

  -- a span of no pages is refused for its node alone
  pub none-refused : (first cpu : ℕ) (refusal : PlaceRefusal) → RefusesSpan plan first 0 cpu refusal
      → plan.nodes ≤ cpu
  none-refused first cpu BadCpu refused = refused
  none-refused first cpu Unmapped refused = absurd (omega (arith, refused.1.1, refused.1.2))

  -- where the plan lacks the node, there is no other refusal
  pub bad-refused : (first pages cpu : ℕ) (refusal : PlaceRefusal) → plan.nodes ≤ cpu
      → RefusesSpan plan first pages cpu refusal → refusal ≡ BadCpu
  bad-refused first pages cpu BadCpu far refused = refl
  bad-refused first pages cpu Unmapped far refused = absurd (omega (arith, far, refused.0))

  pub top-free : (from : ℕ) (runs : List (Run (Option ℕ))) (page : ℕ) → AreApart from runs
      → 2 ^ 35 ≤ page → page_at runs page ≡ None
  top-free from [] page apart high = refl
  top-free from (run ∷ runs) page apart high =
      rw (in_pages-above run.first run.pages page
      (omega (arith, apart-top (end_of run) runs apart.3)))
      (top-free (end_of run) runs page apart.3 high)

  -- a span that ends behind all words has a page without a run
  pub far-refused : (first pages cpu : ℕ) → AreApart 0 plan.runs → cpu < plan.nodes → first < 2 ^ 64
      → 2 ^ 64 ≤ first + pages → RefusesSpan plan first pages cpu Unmapped
  far-refused first pages cpu apart lt word far = (
    lt,
    (
      2 ^ 64 - 1,
      omega arith,
      omega arith,
      top-free 0 plan.runs (2 ^ 64 - 1) apart
          (omega arith),
    ),
  )

-- ---- ranges that are left to tell of

-- ranges of those of a space, apart
pub record AreLeft (left all : List (Run (Option PolicyRecord))) : Type 0 where
  pub from : ℕ
  pub apart : AreApart from left
  pub pages : (page : ℕ) → is_some (page_at left page) ≡ true → is_some (page_at all page) ≡ true
  pub same : (page : ℕ) → from ≤ page → page_at left page ≡ page_at all page

pub left-all : (left all : List (Run (Option PolicyRecord))) → left ≡ all → AreApart 0 all
    → AreLeft left all
left-all left all same apart = subst (λ l. AreLeft l all) (sym same)
    (record { from = 0; apart = apart; pages = λ page there. there; same = λ page low. refl })

pub left-next : (left all rest : List (Run (Option PolicyRecord)))
    (range : Run (Option PolicyRecord)) → AreLeft left all → left ≡ range ∷ rest → AreLeft rest all
left-next left all rest range has is =
    let own : AreLeft (range ∷ rest) all = subst (λ l. AreLeft l all) is has in
    record {
      from = end_of range;
      apart = own.apart.3;
      pages = λ page there. own.pages page (go page there (in_pages range.first range.pages page));
      same = λ page low.
          let over : page_at (range ∷ rest) page ≡ page_at rest page =
          rw (in_pages-above range.first range.pages page low) refl in
          sym over ∙ own.same page (omega (arith, low, own.apart.0));
    }
  where
    go : (page : ℕ) → is_some (page_at rest page) ≡ true → (b : Bool)
        → is_some {T = ℕ × Option PolicyRecord}
        (if b then Some (range.index + (page - range.first), range.value) else page_at rest page)
        ≡ true
    go page there true = refl
    go page there false = there

pub left-end : (left all rest : List (Run (Option PolicyRecord)))
    (range : Run (Option PolicyRecord)) → AreLeft left all → left ≡ range ∷ rest
    → end_of range ≤ 2 ^ 35
left-end left all rest range has is =
    let own : AreLeft (range ∷ rest) all = subst (λ l. AreLeft l all) is has in
    apart-top (end_of range) rest own.apart.3

-- the next range's value is what the ranges say of its first page
pub left-value : (left all rest : List (Run (Option PolicyRecord)))
    (range : Run (Option PolicyRecord)) → AreLeft left all → left ≡ range ∷ rest
    → option_and_then (λ at. at.1) (page_at all range.first) ≡ range.value
left-value left all rest range has is =
    let own : AreLeft (range ∷ rest) all = subst (λ l. AreLeft l all) is has in
    let here : page_at (range ∷ rest) range.first ≡ Some (
      range.index + (range.first - range.first),
      range.value,
    ) =
    rw (in_pages-true range.first range.pages range.first (omega arith)
    (omega (arith, own.apart.1))) refl in
    ap (λ (o : Option (ℕ × Option PolicyRecord)). option_and_then (λ at. at.1) o)
    (sym (own.same range.first own.apart.0) ∙ here)

-- what the ranges say of each page of the next range
pub left-pages : (left all rest : List (Run (Option PolicyRecord)))
    (range : Run (Option PolicyRecord)) → AreLeft left all → left ≡ range ∷ rest
    → HasPages all range
left-pages left all rest range has is page low high =
    let own : AreLeft (range ∷ rest) all = subst (λ l. AreLeft l all) is has in
    let here : page_at (range ∷ rest) page
    ≡ Some (range.index + (page - range.first), range.value) =
    rw (in_pages-true range.first range.pages page low high) refl in
    sym (own.same page (omega (arith, low, own.apart.0))) ∙ here

-- each page of the next range is one of a range
pub left-page : (left all rest : List (Run (Option PolicyRecord)))
    (range : Run (Option PolicyRecord)) (page : ℕ) → AreLeft left all → left ≡ range ∷ rest
    → range.first ≤ page → page < end_of range → is_some (page_at all page) ≡ true
left-page left all rest range page has is low high =
    let own : AreLeft (range ∷ rest) all = subst (λ l. AreLeft l all) is has in
    own.pages page (rw (in_pages-true range.first range.pages page low high) refl)

-- ---- by the history

-- the pages of the ranges are mapped
pub range-mapped : (space : SpaceState) (history : List Command) (page : ℕ)
    → StandsFor space history → is_some (page_at space.ranges page) ≡ is_mapped history page
range-mapped space history page stands = ap (λ (o : Option (ℕ × Option PolicyRecord)). is_some o)
    (stands.pages page) ∙ go (is_mapped history page)
  where
    go : (b : Bool)
        → is_some {T = ℕ × Option PolicyRecord}
        (if b then Some (index_of history page, range_record space.machine history page) else None)
        ≡ b
    go true = refl
    go false = refl

module _ (machine : Hardware) (plan : PlanData) (history : List Command)
    (planned : PlanStandsFor machine plan history) where
  -- where the pages of a span are mapped, it is refused for its node alone
  pub mapped-refuses : (first pages cpu : ℕ) (refusal : PlaceRefusal)
      → ((page : ℕ) → first ≤ page → page < first + pages → is_mapped history page ≡ true)
      → RefusesSpan plan first pages cpu refusal → MayRefuse machine.nodes cpu refusal
  mapped-refuses first pages cpu BadCpu mapped refused = omega (arith, planned.nodes, refused)
  mapped-refuses first pages cpu Unmapped mapped refused =
      let hole = refused.1 in
      let there : is_some (page_at plan.runs hole.0) ≡ true =
      run-mapped machine plan history planned hole.0 cpu refused.0
      ∙ mapped hole.0 hole.1 hole.2 in
      let none : is_some (page_at plan.runs hole.0) ≡ false =
      ap (λ (o : Option (ℕ × Option ℕ)). is_some o) hole.3 in
      cc

  pub mapped-fails : (first pages cpu : ℕ) (fault : ReportError)
      → ((page : ℕ) → first ≤ page → page < first + pages → is_mapped history page ≡ true)
      → FailsBy (RefusesSpan plan first pages cpu) fault → MayFail machine.nodes cpu fault
  mapped-fails first pages cpu (Refused refusal) mapped fails =
      mapped-refuses first pages cpu refusal mapped fails
  mapped-fails first pages cpu Memory mapped fails = tt

-- a report on the next range fails only for its node, or for memory
pub range-fails : (space : SpaceState) (plan : PlanData) (history : List Command)
    (left rest : List (Run (Option PolicyRecord))) (range : Run (Option PolicyRecord)) (cpu : ℕ)
    (fault : ReportError) → StandsFor space history → PlanStandsFor space.machine plan history
    → AreLeft left space.ranges → left ≡ range ∷ rest
    → FailsBy (RefusesSpan plan range.first range.pages cpu) fault
    → MayFail space.machine.nodes cpu fault
range-fails space plan history left rest range cpu fault stands planned has is =
    mapped-fails space.machine plan history planned range.first range.pages cpu fault
    (λ page low high. sym (range-mapped space history page stands)
    ∙ left-page left space.ranges rest range page has is low high)

-- ---- two plans

pub both-part : (before after : PlanData) (first pages from n cpu : ℕ) (refusal : PlaceRefusal)
    → first ≤ from → from + n ≤ first + pages → RefusesSpan before from n cpu refusal
    ⊎ RefusesSpan after from n cpu refusal
    → RefusesSpan before first pages cpu refusal ⊎ RefusesSpan after first pages cpu refusal
both-part before after first pages from n cpu refusal low high (inl one) =
    inl (part-refused before first pages from n cpu refusal low high one)
both-part before after first pages from n cpu refusal low high (inr one) =
    inr (part-refused after first pages from n cpu refusal low high one)

pub both-meant : (machine : Hardware) (before after : PlanData) (old new : List Command)
    (first pages cpu : ℕ) (refusal : PlaceRefusal) → PlanStandsFor machine before old
    → PlanStandsFor machine after new → RefusesSpan before first pages cpu refusal
    ⊎ RefusesSpan after first pages cpu refusal
    → SpanIsRefused machine old first pages cpu refusal ⊎ SpanIsRefused machine new first pages cpu
    refusal
both-meant machine before after old new first pages cpu refusal was is (inl one) =
    inl ((span-meant machine before old was first pages cpu refusal).0 one)
both-meant machine before after old new first pages cpu refusal was is (inr one) =
    inr ((span-meant machine after new is first pages cpu refusal).0 one)

-- where the pages of a span are mapped before and after, how they move is refused for the node
-- alone
pub moves-refused : (machine : Hardware) (old new : List Command) (first pages cpu : ℕ)
    (refusal : PlaceRefusal)
    → ((page : ℕ) → first ≤ page → page < first + pages → (is_mapped old page ≡ true)
    × (is_mapped new page ≡ true))
    → SpanIsRefused machine old first pages cpu refusal ⊎ SpanIsRefused machine new first pages cpu
    refusal → MayRefuse machine.nodes cpu refusal
moves-refused machine old new first pages cpu BadCpu mapped (inl one) = one
moves-refused machine old new first pages cpu BadCpu mapped (inr one) = one
moves-refused machine old new first pages cpu Unmapped mapped (inl one) =
    let there = (mapped one.1.0 one.1.1 one.1.2).0 in
    let none = one.1.3 in
    cc
moves-refused machine old new first pages cpu Unmapped mapped (inr one) =
    let there = (mapped one.1.0 one.1.1 one.1.2).1 in
    let none = one.1.3 in
    cc

pub moves-fail : (machine : Hardware) (old new : List Command) (first pages cpu : ℕ)
    (fault : ReportError)
    → ((page : ℕ) → first ≤ page → page < first + pages → (is_mapped old page ≡ true)
    × (is_mapped new page ≡ true))
    → MovesMayFail machine old new first pages cpu fault → MayFail machine.nodes cpu fault
moves-fail machine old new first pages cpu (Refused refusal) mapped fails =
    moves-refused machine old new first pages cpu refusal mapped fails
moves-fail machine old new first pages cpu Memory mapped fails = tt

-- ---- spans of ranges

-- the spans of ranges have their pages
pub spans-pages : (ranges : List (Run (Option PolicyRecord))) (page : ℕ)
    → has_page (map span_of ranges) page ≡ is_some (page_at ranges page)
spans-pages [] page = refl
spans-pages (range ∷ ranges) page = ap (λ (b : Bool). in_pages range.first range.pages page || b)
    (spans-pages ranges page) ∙ go (in_pages range.first range.pages page)
  where
    go : (b : Bool) → (b || is_some (page_at ranges page)) ≡ is_some {T = ℕ × Option PolicyRecord}
        (if b then Some (range.index + (page - range.first), range.value) else page_at ranges page)
    go true = refl
    go false = refl

-- a page of a span is one of its list
pub item-page : (spans : List PageSpan) (k : ℕ) (d : PageSpan) (page : ℕ) → k < length spans
    → (get_or spans k d).first ≤ page → page < span_end (get_or spans k d)
    → has_page spans page ≡ true
item-page [] k d page lt low high = absurd (omega arith)
item-page (span ∷ spans) zero d page lt low high =
    rw (in_pages-true span.first span.pages page low high) refl
item-page (span ∷ spans) (suc k) d page lt low high =
    rw (item-page spans k d page (omega arith) low high) (go (in_pages span.first span.pages page))
  where
    go : (b : Bool) → (b || true) ≡ true
    go true = refl
    go false = refl

pub both-true : (a b : Bool) → (a && b) ≡ true → (a ≡ true) × (b ≡ true)
both-true true true e = (refl, refl)
both-true true false e = absurd (let odd = e in cc)
both-true false b e = absurd (let odd = e in cc)

-- the pages of the spans that two outlooks have in common are mapped in both
pub common-mapped : (machine : Hardware) (old new : List Command) (before after : Outlook)
    (spans : List PageSpan) (k : ℕ) (d : PageSpan) (page : ℕ) → IsOutlook machine old before
    → IsOutlook machine new after → AreCommon before.spans.items after.spans.items spans
    → k < length spans → (get_or spans k d).first ≤ page → page < span_end (get_or spans k d)
    → (is_mapped old page ≡ true) × (is_mapped new page ≡ true)
common-mapped machine old new before after spans k d page was is common lt low high =
    let both = both-true (has_page before.spans.items page) (has_page after.spans.items page)
    (sym (common.pages page) ∙ item-page spans k d page lt low high) in
    (sym (was.pages page) ∙ both.0, sym (is.pages page) ∙ both.1)

-- what was found of two outlooks' spans, read as slices
pub shown-common : (before after : Outlook) (ones others found items : List PageSpan)
    → ones ≡ before.spans.items → others ≡ after.spans.items → items ≡ found
    → AreRising 0 before.spans.items → AreRising 0 after.spans.items
    → (AreRising 0 ones → AreRising 0 others → AreCommon ones others found)
    → AreCommon before.spans.items after.spans.items items
shown-common before after ones others found items one other all rising rising' common =
    subst (λ l. AreCommon before.spans.items after.spans.items l) (sym all)
    (subst (λ l. AreCommon before.spans.items l found) other
    (subst (λ l. AreCommon l others found) one
    (common (subst (AreRising 0) (sym one) rising) (subst (AreRising 0) (sym other) rising'))))
