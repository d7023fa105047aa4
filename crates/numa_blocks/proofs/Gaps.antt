-- Nobody touched a page of a block that lies in the area exactly where the block lies in the gap
-- around the page.
use Rattle.std.proofs.Common.{◌≡◌, ℕ, ◌+◌, ◌-◌, ◌^◌, ◌<◌, ◌≤◌, ◌&&◌, Bool}
use Rattle.std.proofs.Common.{not, cond, nat_le, List, [], ◌∷◌, ◌++◌, filter, refl, ap, arith, inl}
use Rattle.std.proofs.Common.{inr}
use Rattle.std.proofs.lemmas.Bool.{and_parts, cases_Bool, cases_lt, le-leb, lt-leb, leb-true}
use Rattle.numa_ranges.specs.Maps.{any_page}
use Rattle.numa_ranges.proofs.Pages.{any_page-true, any_page-false}
use Rattle.numa_blocks.specs.Blocks.{IsGap, block_end, block_of, fits, large_orders, may_serve}
use Rattle.numa_blocks.specs.Blocks.{is_wanted, orders_for}
use Rattle.numa_blocks.specs.declared.area.Area.{Area}
use Rattle.numa_blocks.specs.declared.gap.Gap.{Gap}
use Rattle.numa_blocks.specs.declared.settings.BlockSettings.{BlockSettings}

module _ (area : Area) (touched : ℕ → Bool) (page : ℕ) (gap : Gap)
    (is : IsGap area touched page gap) where
  -- a block of so many pages, which has the page
  module _ (block size : ℕ) (low : block ≤ page) (high : page < block + size) where
    gap-same : area.first ≤ block → block + size ≤ area.first + area.pages
        → (nat_le gap.first block && nat_le (block + size) gap.end)
        ≡ not (any_page touched block size)
    gap-same from to =
        elim (cases_lt block gap.first) [
          | inl before ↦
              rw (
                lt-leb gap.first block before,
                any_page-true touched block size (gap.first - 1)
                    (omega (arith, before)) (omega (arith, before, is.first, high))
                    (is.before (omega (arith, from, before))),
              )
              refl
          | inr starts ↦
              elim (cases_lt gap.end (block + size)) [
                | inl behind ↦
                    rw (
                      le-leb gap.first block starts,
                      lt-leb (block + size) gap.end behind,
                      any_page-true touched block size gap.end (omega (arith, low, is.end)) behind
                          (is.behind (omega (arith, behind, to))),
                    )
                    refl
                | inr ends ↦
                    rw (
                      le-leb gap.first block starts,
                      le-leb (block + size) gap.end ends,
                      any_page-false touched block size (λ other l h. is.untouched other
                          (omega (arith, starts, l)) (omega (arith, h, ends))),
                    )
                    refl
              ]
        ]

    block-same : ((nat_le area.first block && nat_le (block + size) (area.first + area.pages))
        && (nat_le gap.first block && nat_le (block + size) gap.end))
        ≡ ((nat_le area.first block && nat_le (block + size) (area.first + area.pages))
        && not (any_page touched block size))
    block-same =
        let in_area : Bool =
        nat_le area.first block && nat_le (block + size) (area.first + area.pages) in
        elim (cases_Bool in_area) [
          | inl e ↦
              let both = and_parts (nat_le area.first block)
              (nat_le (block + size) (area.first + area.pages)) e in
              ap (λ b. in_area && b) (gap-same (leb-true area.first block both.0)
              (leb-true (block + size) (area.first + area.pages) both.1))
          | inr e ↦ rw e refl
        ]

  -- a block of an order
  serves-same : (settings : BlockSettings) (order : ℕ) → block_of order page ≤ page
      → page < block_end order page
      → fits settings area gap page order ≡ may_serve settings area touched page order
  serves-same settings order low high = ap (λ b. is_wanted settings area order && b)
      (block-same (block_of order page) (2 ^ order) low high)

-- ---- the orders of a list

abbrev Agree : (ℕ → Bool) → (ℕ → Bool) → List ℕ → Type 0
Agree f g [] = Unit {0}
Agree f g (x ∷ xs) = (f x ≡ g x) × Agree f g xs

filter-same : (f g : ℕ → Bool) (xs : List ℕ) → Agree f g xs → filter f xs ≡ filter g xs
filter-same f g [] agree = refl
filter-same f g (x ∷ xs) agree =
    let rest = filter-same f g xs agree.1 in
    λ i. cond (agree.0 i) (x ∷ rest i) (rest i)

pub orders_same : (settings : BlockSettings) (area : Area) (touched : ℕ → Bool) (page : ℕ)
    (gap : Gap) → IsGap area touched page gap
    → filter (fits settings area gap page) large_orders ++ 0 ∷ []
    ≡ orders_for settings area touched page
orders_same settings area touched page gap is =
    let same = serves-same area touched page gap is settings in
    ap (λ orders. orders ++ 0 ∷ []) (filter-same (fits settings area gap page)
    (may_serve settings area touched page) large_orders (
      same 9 (omega arith) (omega arith),
      (
        same 8 (omega arith) (omega arith),
        (
          same 7 (omega arith) (omega arith),
          (
            same 6 (omega arith) (omega arith),
            (
              same 5 (omega arith) (omega arith),
              (
                same 4 (omega arith) (omega arith),
                (
                  same 3 (omega arith) (omega arith),
                  (same 2 (omega arith) (omega arith), tt),
                ),
              ),
            ),
          ),
        ),
      ),
    ))
