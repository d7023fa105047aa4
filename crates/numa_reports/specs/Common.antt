-- What two rising lists of spans of pages have in common.
use Rattle.std.specs.Prelude.{◌≡◌, ◌⊎◌, ℕ, ◌+◌, ◌-◌, ◌<◌, ◌≤◌, ◌^◌, ◌&&◌, ◌||◌, Bool, false}
use Rattle.std.specs.Prelude.{List, [], ◌∷◌, nat_lt, max, min, if◌then◌else◌}
use Rattle.numa_ranges.specs.Runs.{in_pages}
use Rattle.numa_reports.specs.declared.outlook.PageSpan.{PageSpan}

-- the page after a span's last
abbrev pub span_end : PageSpan → ℕ
span_end span = span.first + span.pages

-- some span of the list has the page
abbrev pub has_page : List PageSpan → ℕ → Bool
has_page [] page = false
has_page (span ∷ spans) page = in_pages span.first span.pages page || has_page spans page

-- each span begins at `from` or later and has a page, its end is a word, and the rest begins at
-- its end or later
abbrev pub AreRising : ℕ → List PageSpan → Type 0
AreRising from [] = Unit {0}
AreRising from (span ∷ spans) = (from ≤ span.first) × (0 < span.pages) × (span_end span < 2 ^ 64)
    × AreRising (span_end span) spans

-- one span of the list begins at another's first page or before it, and ends at its end or later
abbrev pub IsInside : List PageSpan → PageSpan → Type 0
IsInside [] inner = ⊥
IsInside (span ∷ spans) inner =
    ((span.first ≤ inner.first) × (span_end inner ≤ span_end span)) ⊎ IsInside spans inner

-- each of the inner spans is inside one span of the list
abbrev pub AreInside : List PageSpan → List PageSpan → Type 0
AreInside spans [] = Unit {0}
AreInside spans (inner ∷ rest) = IsInside spans inner × AreInside spans rest

-- rising spans with each page that both lists have and no other, each inside one span of either
pub record AreCommon (ones others spans : List PageSpan) : Type 0 where
  pub rising : AreRising 0 spans
  pub pages : (page : ℕ) → has_page spans page ≡ (has_page ones page && has_page others page)
  pub inside_ones : AreInside ones spans
  pub inside_others : AreInside others spans

-- the span from a page up to an end, if it has a page
abbrev pub span_between : ℕ → ℕ → List PageSpan
span_between first end =
    if nat_lt first end then record { first = first; pages = end - first } ∷ [] else []

-- the span that two spans have in common, if they have a page
abbrev pub common_of : PageSpan → PageSpan → List PageSpan
common_of one other =
    span_between (max one.first other.first) (min (span_end one) (span_end other))
