-- A cut below which so many pages of a node are, by halving.
use Rattle.std.proofs.Common.{◌≡◌, ℕ, ◌+◌, ◌-◌, ◌<◌, ◌≤◌, Bool, sym, ap, ◌∙◌, arith}
use Rattle.std.proofs.Common.{inl, inr}
use Rattle.std.proofs.lemmas.Bool.{cases_lt, le-ltb, lt-ltb}
use Rattle.numa_ranges.specs.Counts.{count_pages}
use Rattle.numa_ranges.proofs.Counted.{count-split}
use Rattle.numa_placed.specs.Cuts.{IsPart}
use Rattle.numa_placed.specs.Shifts.{is_stated, stated_below}
use Rattle.numa_placed.specs.Spots.{is_on, pages_within}
use Rattle.numa_placed.specs.Standing.{IsCut}
use Rattle.numa_placed.specs.declared.cut.Part.{Part}
use Rattle.numa_placed.specs.declared.spot.Spot.{Spot}
use Rattle.numa_placed.proofs.Going.{below-less}
use Rattle.numa_placed.proofs.Shared.{count-le}

-- the pages from one on up to a third are those up to a second and those behind it
pub count-seam : (test : ℕ → Bool) (from seam to : ℕ) → from ≤ seam → seam ≤ to
    → count_pages test from (to - from)
    ≡ count_pages test from (seam - from) + count_pages test seam (to - seam)
count-seam test from seam to low high =
    let front = seam - from in
    let rest = to - seam in
    let cut = count-split test from front rest (to - from) (omega (arith, low, high)) in
    let at : from + front ≡ seam = omega (arith, low) in
    cut ∙ ap (λ (p : ℕ). count_pages test from front + count_pages test p rest) at

-- the pages below one are those below another and those from it on
pub count-up : (test : ℕ → Bool) (seam to : ℕ) → seam ≤ to
    → count_pages test 0 to ≡ count_pages test 0 seam + count_pages test seam (to - seam)
count-up test seam to high =
    let at : 0 + seam ≡ seam = omega arith in
    count-split test 0 seam (to - seam) to (omega (arith, high))
    ∙ ap (λ (p : ℕ). count_pages test 0 seam + count_pages test p (to - seam)) at

module _ (spots : ℕ → Spot) (node first end pages : ℕ) where
  abbrev on : ℕ → Bool
  on page = is_on node (spots page)

  -- a cut so far below a page
  pub part-begins : first ≤ end → pages ≤ pages_within (is_on node) spots first (end - first)
      → IsPart spots node first end pages (record { low = first; high = end; left = pages })
  part-begins rises few =
      let none : count_pages on first (first - first) ≡ 0 =
      let le = count-le on first (first - first) in omega (arith, le) in
      record {
        low = omega arith;
        rises = rises;
        high = omega arith;
        below = omega (arith, none);
        few = few;
      }

  module _ (part : Part) (is : IsPart spots node first end pages part) (middle here : ℕ)
      (low : part.low ≤ middle) (high : middle ≤ part.high)
      (counts : here ≡ pages_within (is_on node) spots part.low (middle - part.low)) where
    pub part-behind : here ≤ part.left → IsPart spots node first end pages
        (record { low = middle; high = part.high; left = part.left - here })
    part-behind less =
        let all = count-seam on part.low middle part.high low high in
        let start = count-seam on first part.low middle is.low low in
        record {
          low = omega (arith, is.low, low);
          rises = high;
          high = is.high;
          below = omega (arith, is.below, start, counts, less);
          few = omega (arith, is.few, all, counts);
        }

    pub part-below : part.left < here → IsPart spots node first end pages
        (record { low = part.low; high = middle; left = part.left })
    part-below more = record {
      low = is.low;
      rises = low;
      high = omega (arith, is.high, high);
      below = is.below;
      few = omega (arith, counts, more);
    }

  -- of a part of one page at most
  pub part-ends-low : (part : Part) → IsPart spots node first end pages part → part.left ≡ 0
      → pages_within (is_on node) spots first (part.low - first) ≡ pages
  part-ends-low part is none = omega (arith, is.below, none)

  pub part-ends-high : (part : Part) → IsPart spots node first end pages part
      → part.high - part.low ≤ 1 → 0 < part.left
      → pages_within (is_on node) spots first (part.high - first) ≡ pages
  part-ends-high part is short some =
      let le = count-le on part.low (part.high - part.low) in
      let all = count-seam on first part.low part.high is.low is.rises in
      omega (arith, is.below, is.few, le, all, short, some)

-- a page below which so many pages of a node are is the cut
pub exact-cut : (spots : ℕ → Spot) (node pages cut : ℕ) → stated_below spots cut node ≡ pages
    → IsCut spots node pages cut
exact-cut spots node pages cut exact page is = elim (cases_lt page cut) [
  | inl l ↦
      let less = below-less spots page cut node l is in
      lt-ltb (stated_below spots page node) pages (omega (arith, less, exact))
      ∙ sym (lt-ltb page cut l)
  | inr g ↦
      let all = count-split (λ p. is_stated node (spots p)) 0 cut (page - cut) page
      (omega (arith, g)) in
      le-ltb (stated_below spots page node) pages (omega (arith, all, exact))
      ∙ sym (le-ltb page cut g)
]
