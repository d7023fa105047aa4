-- Two rising lists of spans, walked side by side.
use Rattle.std.proofs.Common.{◌≡◌, ℕ, zero, suc, ◌+◌, ◌-◌, ◌<◌, ◌≤◌, ◌^◌, max, min, Bool, true}
use Rattle.std.proofs.Common.{false, ◌&&◌, ◌||◌, List, [], ◌∷◌, ◌++◌, length, drop, get_or, map}
use Rattle.std.proofs.Common.{Option, refl, sym, ap, subst, ◌∙◌, arith, inl, inr, append_assoc}
use Rattle.std.proofs.lemmas.Bool.{cases_lt, lt-ltb, le-ltb}
use Rattle.std.proofs.lemmas.List.{append-nil, drop_more, drop_all}
use Rattle.numa_mode.specs.Policy.{PolicyRecord}
use Rattle.numa_ranges.specs.Runs.{in_pages, AreApart, end_of}
use Rattle.numa_ranges.specs.declared.run.Run.{Run}
use Rattle.numa_ranges.proofs.Apart.{in_pages-true, in_pages-below, in_pages-above, apart-top}
use Rattle.numa_reports.specs.declared.outlook.PageSpan.{PageSpan}
use Rattle.numa_reports.specs.Mapped.{span_of}
use Rattle.numa_reports.specs.Common.{span_end, has_page, AreRising, AreInside, AreCommon}
use Rattle.numa_reports.specs.Common.{span_between, common_of}

-- the spans of ranges that are apart rise
pub spans-rise : (from : ℕ) (runs : List (Run (Option PolicyRecord))) → AreApart from runs
    → AreRising from (map span_of runs)
spans-rise from [] apart = tt
spans-rise from (run ∷ runs) apart = (
  apart.0,
  apart.1,
  omega (arith, apart-top (end_of run) runs apart.3),
  spans-rise (end_of run) runs apart.3,
)

rising-from : (low from : ℕ) (spans : List PageSpan) → low ≤ from → AreRising from spans
    → AreRising low spans
rising-from low from [] le rises = tt
rising-from low from (span ∷ spans) le rises = (omega (arith, rises.0), rises.1, rises.2, rises.3)

page-before : (from : ℕ) (spans : List PageSpan) (page : ℕ) → AreRising from spans → page < from
    → has_page spans page ≡ false
page-before from [] page rises low = refl
page-before from (span ∷ spans) page rises low =
    rw (in_pages-below span.first span.pages page (omega (arith, rises.0)))
    (page-before (span_end span) spans page rises.3 (omega (arith, rises.0)))

inside-more : (span : PageSpan) (spans inner : List PageSpan) → AreInside spans inner
    → AreInside (span ∷ spans) inner
inside-more span spans [] all = tt
inside-more span spans (x ∷ inner) all = (inr all.0, inside-more span spans inner all.1)

between-some : (first end : ℕ) → first < end
    → span_between first end ≡ record { first = first; pages = end - first } ∷ []
between-some first end lt = rw (lt-ltb first end lt) refl

between-none : (first end : ℕ) → end ≤ first → span_between first end ≡ []
between-none first end le = rw (le-ltb first end le) refl

-- a span between has the pages that are in both
between-page : (f p g q page : ℕ) → max f g < min (f + p) (g + q)
    → in_pages (max f g) (min (f + p) (g + q) - max f g) page
    ≡ (in_pages f p page && in_pages g q page)
between-page f p g q page lt = elim (cases_lt page f) [
  | inl below ↦
      rw (
        in_pages-below f p page below,
        in_pages-below (max f g) (min (f + p) (g + q) - max f g)
            page (omega arith),
      ) refl
  | inr from ↦ elim (cases_lt page (f + p)) [
    | inr behind ↦
        rw (
          in_pages-above f p page behind,
          in_pages-above (max f g) (min (f + p) (g + q) - max f g)
              page (omega arith),
        ) refl
    | inl within ↦ elim (cases_lt page g) [
      | inl below ↦ rw (
        in_pages-true f p page from within,
        in_pages-below g q page below,
        in_pages-below (max f g) (min (f + p) (g + q) - max f g) page (omega arith),
      ) refl
      | inr start ↦ elim (cases_lt page (g + q)) [
        | inr behind ↦ rw (
          in_pages-true f p page from within,
          in_pages-above g q page behind,
          in_pages-above (max f g) (min (f + p) (g + q) - max f g) page (omega arith),
        ) refl
        | inl inner ↦ rw (
          in_pages-true f p page from within,
          in_pages-true g q page start inner,
          in_pages-true (max f g) (min (f + p) (g + q) - max f g) page (omega arith)
              (omega arith),
        ) refl
      ]
    ]
  ]
]

-- where there is none between, no page is in both
apart-page : (f p g q page : ℕ) → min (f + p) (g + q) ≤ max f g
    → (in_pages f p page && in_pages g q page) ≡ false
apart-page f p g q page le = elim (cases_lt page f) [
  | inl below ↦ rw (in_pages-below f p page below) refl
  | inr from ↦ elim (cases_lt page (f + p)) [
    | inr behind ↦ rw (in_pages-above f p page behind) refl
    | inl within ↦ elim (cases_lt page g) [
      | inl below ↦ rw (in_pages-true f p page from within, in_pages-below g q page below) refl
      | inr start ↦ rw (in_pages-true f p page from within, in_pages-above g q page (omega arith))
          refl
    ]
  ]
]

-- what the spans have in common has the pages that both have
common-page : (one other : PageSpan) (more : List PageSpan) (page : ℕ)
    → has_page (common_of one other ++ more) page
    ≡ ((in_pages one.first one.pages page && in_pages other.first other.pages page)
    || has_page more page)
common-page one other more page =
    let first = max one.first other.first in
    let end = min (span_end one) (span_end other) in
    elim (cases_lt first end) [
      | inl lt ↦ ap (λ (l : List PageSpan). has_page (l ++ more) page) (between-some first end lt)
          ∙ ap (λ b. b || has_page more page)
          (between-page one.first one.pages other.first other.pages page lt)
      | inr le ↦ ap (λ (l : List PageSpan). has_page (l ++ more) page) (between-none first end le)
          ∙ ap (λ b. b || has_page more page)
          (sym (apart-page one.first one.pages other.first other.pages page le))
    ]

-- spans in common that rise from an end in either list
pub record AreShared (low high : ℕ) (ones others spans : List PageSpan) : Type 0 where
  pub above_ones : AreRising low spans
  pub above_others : AreRising high spans
  pub pages : (page : ℕ) → has_page spans page ≡ (has_page ones page && has_page others page)
  pub inside_ones : AreInside ones spans
  pub inside_others : AreInside others spans

and-swap : (a b : Bool) → (a && b) ≡ (b && a)
and-swap true true = refl
and-swap true false = refl
and-swap false true = refl
and-swap false false = refl

shared-swap : (low high : ℕ) (ones others spans : List PageSpan)
    → AreShared low high ones others spans → AreShared high low others ones spans
shared-swap low high ones others spans has = record {
  above_ones = has.above_others;
  above_others = has.above_ones;
  pages = λ page. has.pages page ∙ and-swap (has_page ones page) (has_page others page);
  inside_ones = has.inside_others;
  inside_others = has.inside_ones;
}

common-swap : (one other : PageSpan) → common_of one other ≡ common_of other one
common-swap one other =
    let low : max one.first other.first ≡ max other.first one.first = omega arith in
    let high : min (span_end one) (span_end other) ≡ min (span_end other) (span_end one) =
    omega arith in
    ap (λ a. span_between a (min (span_end one) (span_end other))) low
    ∙ ap (span_between (max other.first one.first)) high

-- what a list has at a place in it does not hang on what is said past its end
any_default : (spans : List PageSpan) (i : ℕ) (d e : PageSpan) → i < length spans
    → get_or spans i d ≡ get_or spans i e
any_default [] i d e l = absurd (omega arith)
any_default (span ∷ spans) zero d e l = refl
any_default (span ∷ spans) (suc i) d e l = any_default spans i d e (omega arith)

-- the pages of one more span, whose end both rests lie behind
more-pages : (low high : ℕ) (one other : PageSpan) (ones others more : List PageSpan) (page : ℕ)
    → AreRising low (one ∷ ones) → AreRising high (other ∷ others) → span_end one ≤ span_end other
    → has_page more page ≡ (has_page ones page && has_page (other ∷ others) page)
    → ((in_pages one.first one.pages page && in_pages other.first other.pages page)
    || has_page more page) ≡ (has_page (one ∷ ones) page && has_page (other ∷ others) page)
more-pages low high one other ones others more page rises climbs le so =
    elim (cases_lt page one.first) [
      | inl below ↦ rw (in_pages-below one.first one.pages page below) so
      | inr from ↦ elim (cases_lt page (span_end one)) [
        | inr behind ↦ rw (in_pages-above one.first one.pages page behind) so
        | inl within ↦
            let out : has_page ones page ≡ false = page-before (span_end one) ones page rises.3
            within in
            let far : has_page others page ≡ false = page-before (span_end other) others page
            climbs.3
            (omega arith) in
            let none : has_page more page ≡ false = so
            ∙ ap (λ b. b && has_page (other ∷ others) page)
            out in
            rw (in_pages-true one.first one.pages page from within, none, far) refl
      ]
    ]

-- what is in common behind a step over one, with what it has in common in front
take-one : (low high : ℕ) (one other : PageSpan) (ones others more : List PageSpan)
    → AreRising low (one ∷ ones) → AreRising high (other ∷ others) → span_end one ≤ span_end other
    → AreShared (span_end one) high ones (other ∷ others) more
    → AreShared low high (one ∷ ones) (other ∷ others) (common_of one other ++ more)
take-one low high one other ones others more rises climbs le has =
    let first = max one.first other.first in
    let end = min (span_end one) (span_end other) in
    let pages : (page : ℕ) → has_page (common_of one other ++ more) page
    ≡ (has_page (one ∷ ones) page && has_page (other ∷ others) page) =
    λ page. common-page one other more page ∙ more-pages low high one other ones others more page
    rises climbs le (has.pages page) in
    elim (cases_lt first end) [
      | inl lt ↦
          let is = between-some first end lt in
          let behind : AreRising (first + (end - first)) more =
          rising-from (first + (end - first)) (span_end one) more (omega arith)
          has.above_ones in
          record {
            above_ones = subst (λ (l : List PageSpan). AreRising low (l ++ more)) (sym is)
                (omega (arith, rises.0), omega arith, omega (arith, rises.2), behind);
            above_others = subst (λ (l : List PageSpan). AreRising high (l ++ more)) (sym is)
                (omega (arith, climbs.0), omega arith, omega (arith, rises.2), behind);
            pages = pages;
            inside_ones = subst (λ (l : List PageSpan). AreInside (one ∷ ones) (l ++ more)) (sym is)
                (inl (omega arith, omega arith), inside-more one ones more has.inside_ones);
            inside_others = subst (λ (l : List PageSpan). AreInside (other ∷ others) (l ++ more))
                (sym is) (inl (omega arith, omega arith), has.inside_others);
          }
      | inr ge ↦
          let is = between-none first end ge in
          record {
            above_ones = subst (λ (l : List PageSpan). AreRising low (l ++ more)) (sym is)
                (rising-from low (span_end one) more (omega (arith, rises.0)) has.above_ones);
            above_others = subst (λ (l : List PageSpan). AreRising high (l ++ more)) (sym is)
                has.above_others;
            pages = pages;
            inside_ones = subst (λ (l : List PageSpan). AreInside (one ∷ ones) (l ++ more)) (sym is)
                (inside-more one ones more has.inside_ones);
            inside_others = subst (λ (l : List PageSpan). AreInside (other ∷ others) (l ++ more))
                (sym is) has.inside_others;
          }
    ]

take-other : (low high : ℕ) (one other : PageSpan) (ones others more : List PageSpan)
    → AreRising low (one ∷ ones) → AreRising high (other ∷ others) → span_end other ≤ span_end one
    → AreShared low (span_end other) (one ∷ ones) others more
    → AreShared low high (one ∷ ones) (other ∷ others) (common_of one other ++ more)
take-other low high one other ones others more rises climbs le has =
    subst (λ (l : List PageSpan). AreShared low high (one ∷ ones) (other ∷ others) (l ++ more))
    (common-swap other one)
    (shared-swap high low (other ∷ others) (one ∷ ones) (common_of other one ++ more)
    (take-one high low other one others ones more climbs rises le
    (shared-swap low (span_end other) (one ∷ ones) others more has)))

-- what is found, with what is left in common, is what the lists have in common
pub record IsGathered (ones others found ones_left others_left : List PageSpan) : Type 0 where
  pub low : ℕ
  pub high : ℕ
  pub ones_rise : AreRising low ones_left
  pub others_rise : AreRising high others_left
  pub all : (more : List PageSpan) → AreShared low high ones_left others_left more
      → AreShared 0 0 ones others (found ++ more)

pub gathered-none : (ones others : List PageSpan) → AreRising 0 ones → AreRising 0 others
    → IsGathered ones others [] ones others
gathered-none ones others rises climbs = record {
  low = 0;
  high = 0;
  ones_rise = rises;
  others_rise = climbs;
  all = λ more has. has;
}

pub gathered-one : (ones others found : List PageSpan) (i j : ℕ) (one other : PageSpan)
    → i < length ones → j < length others → one ≡ get_or ones i one → other ≡ get_or others j other
    → span_end one ≤ span_end other
    → IsGathered ones others found (drop i ones) (drop j others)
    → IsGathered ones others (found ++ common_of one other) (drop (i + 1) ones) (drop j others)
gathered-one ones others found i j one other l m is so le has =
    let front : drop i ones ≡ one ∷ drop (i + 1) ones = drop_more ones i one l
    ∙ ap (λ (x : PageSpan). x ∷ drop (i + 1) ones) (sym is) in
    let facing : drop j others ≡ other ∷ drop (j + 1) others = drop_more others j other m
    ∙ ap (λ (x : PageSpan). x ∷ drop (j + 1) others) (sym so) in
    let rises = subst (AreRising has.low) front has.ones_rise in
    let climbs = subst (AreRising has.high) facing has.others_rise in
    record {
      low = span_end one;
      high = has.high;
      ones_rise = rises.3;
      others_rise = has.others_rise;
      all = λ more rest. subst (AreShared 0 0 ones others)
          (sym (append_assoc found (common_of one other) more))
          (has.all (common_of one other ++ more)
          (subst (λ l. AreShared has.low has.high l (drop j others)
          (common_of one other ++ more)) (sym front)
          (subst (λ l. AreShared has.low has.high (one ∷ drop (i + 1) ones) l
          (common_of one other ++ more)) (sym facing)
          (take-one has.low has.high one other (drop (i + 1) ones) (drop (j + 1) others) more rises
          climbs le
          (subst (λ l. AreShared (span_end one) has.high (drop (i + 1) ones) l more) facing
          rest)))));
    }

pub gathered-other : (ones others found : List PageSpan) (i j : ℕ) (one other : PageSpan)
    → i < length ones → j < length others → one ≡ get_or ones i one → other ≡ get_or others j other
    → span_end other ≤ span_end one
    → IsGathered ones others found (drop i ones) (drop j others)
    → IsGathered ones others (found ++ common_of one other) (drop i ones) (drop (j + 1) others)
gathered-other ones others found i j one other l m is so le has =
    let front : drop i ones ≡ one ∷ drop (i + 1) ones = drop_more ones i one l
    ∙ ap (λ (x : PageSpan). x ∷ drop (i + 1) ones) (sym is) in
    let facing : drop j others ≡ other ∷ drop (j + 1) others = drop_more others j other m
    ∙ ap (λ (x : PageSpan). x ∷ drop (j + 1) others) (sym so) in
    let rises = subst (AreRising has.low) front has.ones_rise in
    let climbs = subst (AreRising has.high) facing has.others_rise in
    record {
      low = has.low;
      high = span_end other;
      ones_rise = has.ones_rise;
      others_rise = climbs.3;
      all = λ more rest. subst (AreShared 0 0 ones others)
          (sym (append_assoc found (common_of one other) more))
          (has.all (common_of one other ++ more)
          (subst (λ l. AreShared has.low has.high l (drop j others)
          (common_of one other ++ more)) (sym front)
          (subst (λ l. AreShared has.low has.high (one ∷ drop (i + 1) ones) l
          (common_of one other ++ more)) (sym facing)
          (take-other has.low has.high one other (drop (i + 1) ones) (drop (j + 1) others) more
          rises climbs le
          (subst (λ l. AreShared has.low (span_end other) l (drop (j + 1) others) more) front
          rest)))));
    }

and-none : (a : Bool) → (a && false) ≡ false
and-none true = refl
and-none false = refl

-- where nothing is left of one list, what is found is all
pub gathered-all : (ones others found ones_left others_left : List PageSpan)
    → IsGathered ones others found ones_left others_left
    → ((page : ℕ) → (has_page ones_left page && has_page others_left page) ≡ false)
    → AreCommon ones others found
gathered-all ones others found ones_left others_left has none =
    let shared : AreShared 0 0 ones others (found ++ []) = has.all [] (record {
      above_ones = tt;
      above_others = tt;
      pages = λ page. sym (none page);
      inside_ones = tt;
      inside_others = tt;
    }) in
    let made : AreShared 0 0 ones others found =
    subst (AreShared 0 0 ones others) (append-nil found) shared in
    record {
      rising = made.above_ones;
      pages = made.pages;
      inside_ones = made.inside_ones;
      inside_others = made.inside_others;
    }

-- behind the last of one list
pub gathered-end : (ones others found : List PageSpan) (i j : ℕ)
    → (i < length ones → j < length others → ⊥) → IsGathered ones others found (drop i ones)
    (drop j others) → AreCommon ones others found
gathered-end ones others found i j past has =
    gathered-all ones others found (drop i ones) (drop j others) has
    (λ page. elim (cases_lt i (length ones)) [
      | inl l ↦ elim (cases_lt j (length others)) [
        | inl m ↦ absurd (past l m)
        | inr m ↦ ap (λ (l : List PageSpan). has_page (drop i ones) page && has_page l page)
            (drop_all j others m) ∙ and-none (has_page (drop i ones) page)
      ]
      | inr l ↦ ap (λ (l : List PageSpan). has_page l page && has_page (drop j others) page)
          (drop_all i ones l)
    ])

-- the body's step over a span of the first list: what it adds, and the ends that it compares
pub stepped-one : (ones others found made : List PageSpan) (i j end stop : ℕ) (d e : PageSpan)
    → i < length ones → j < length others
    → (span_end (get_or ones i d) < 2 ^ 64 → span_end (get_or others j e) < 2 ^ 64 → made ≡ found
    ++ common_of (get_or ones i d) (get_or others j e))
    → (span_end (get_or ones i d) < 2 ^ 64 → end ≡ span_end (get_or ones i d))
    → (span_end (get_or others j e) < 2 ^ 64 → stop ≡ span_end (get_or others j e)) → end ≤ stop
    → IsGathered ones others found (drop i ones) (drop j others)
    → IsGathered ones others made (drop (i + 1) ones) (drop j others)
stepped-one ones others found made i j end stop d e l m adds ends stops le has =
    let fits = (subst (AreRising has.low) (drop_more ones i d l) has.ones_rise).2 in
    let holds = (subst (AreRising has.high) (drop_more others j e m) has.others_rise).2 in
    subst (λ (x : List PageSpan). IsGathered ones others x (drop (i + 1) ones) (drop j others))
    (sym (adds fits holds))
    (gathered-one ones others found i j (get_or ones i d) (get_or others j e) l m
    (any_default ones i d (get_or ones i d) l) (any_default others j e (get_or others j e) m)
    (omega (arith, ends fits, stops holds)) has)

pub stepped-other : (ones others found made : List PageSpan) (i j end stop : ℕ) (d e : PageSpan)
    → i < length ones → j < length others
    → (span_end (get_or ones i d) < 2 ^ 64 → span_end (get_or others j e) < 2 ^ 64 → made ≡ found
    ++ common_of (get_or ones i d) (get_or others j e))
    → (span_end (get_or ones i d) < 2 ^ 64 → end ≡ span_end (get_or ones i d))
    → (span_end (get_or others j e) < 2 ^ 64 → stop ≡ span_end (get_or others j e)) → stop ≤ end
    → IsGathered ones others found (drop i ones) (drop j others)
    → IsGathered ones others made (drop i ones) (drop (j + 1) others)
stepped-other ones others found made i j end stop d e l m adds ends stops le has =
    let fits = (subst (AreRising has.low) (drop_more ones i d l) has.ones_rise).2 in
    let holds = (subst (AreRising has.high) (drop_more others j e m) has.others_rise).2 in
    subst (λ (x : List PageSpan). IsGathered ones others x (drop i ones) (drop (j + 1) others))
    (sym (adds fits holds))
    (gathered-other ones others found i j (get_or ones i d) (get_or others j e) l m
    (any_default ones i d (get_or ones i d) l) (any_default others j e (get_or others j e) m)
    (omega (arith, ends fits, stops holds)) has)
