-- Where no page was stated to lie anywhere, `maps` counts the pages that are placed, of 4 KiB each.
use Rattle.std.proofs.Common.{◌≡◌, ℕ, zero, suc, ◌+◌, Bool, cond, false, Option, List, [], ◌∷◌}
use Rattle.std.proofs.Common.{◌++◌, codes, refl, sym, ap, ◌∙◌, arith}
use Rattle.std.specs.Prelude.{length, ⊤}
use Rattle.numa_machine.specs.Machine.{Hardware}
use Rattle.numa_machine.specs.Sizes.{is_part}
use Rattle.numa_mode.specs.Policy.{PolicyRecord}
use Rattle.numa_ranges.proofs.Counted.{count-none}
use Rattle.numa_ranges.specs.declared.run.Run.{Run}
use Rattle.numa_space.specs.Pages.{resolved_policy}
use Rattle.numa_maps.specs.Listing.{address_text, listing, lowest_from, pages_on, placed_in}
use Rattle.numa_maps.specs.Listing.{placed_text, policy_or_default, range_line}
use Rattle.numa_maps.specs.Residents.{Kept}
use Rattle.numa_placed.specs.Shifts.{sum_below}
use Rattle.numa_placed.specs.declared.spot.Spot.{Spot}
use Rattle.numa_placed.specs.declared.spot.Spot.TheVariants.{Nowhere}
use Rattle.numa_run.specs.Listings.{stated_in, there_line, there_lines, there_listing}
use Rattle.numa_run.specs.Ranges.{listing_of, ranges_of}
use Rattle.numa_run.specs.States.{LieNowhere, State, process_on}
use Rattle.numa_run.proofs.There.{line-same}

none-here : (range : Run (Option PolicyRecord)) (node : ℕ)
    → stated_in (λ page. Nowhere) range node ≡ 0
none-here range node = count-none (λ page. false) range.first range.pages (λ page low high. refl)

sum-nothing : (n : ℕ) (f : ℕ → ℕ) → ((node : ℕ) → f node ≡ 0) → sum_below n f ≡ 0
unfolding sum_below
sum-nothing zero f none = refl
sum-nothing (suc n) f none = omega (arith, sum-nothing n f none, none n)

-- without a page of 2 MiB
abbrev pub AreOf4KiB : List (Run (Option PolicyRecord)) → Type 0
AreOf4KiB [] = ⊤
AreOf4KiB (range ∷ rest) = (is_part range.index ≡ false) × AreOf4KiB rest

line-alone : (policy : Option PolicyRecord) (kept : Kept) (range : Run (Option PolicyRecord))
    → is_part range.index ≡ false
    → there_line policy kept (λ page. Nowhere) range ≡ range_line policy kept range
line-alone policy kept range small =
    let sum = sum-nothing 256 (stated_in (λ page. Nowhere) range) (none-here range) in
    line-same policy range.first
    (length (placed_in kept range) + sum_below 256 (stated_in (λ page. Nowhere) range))
    (length (placed_in kept range))
    (λ node. pages_on (placed_in kept range) node + stated_in (λ page. Nowhere) range node)
    (pages_on (placed_in kept range)) (omega (arith, sum))
    (λ node below. omega (arith, none-here range node))
    ∙ ap (λ (huge : Bool). address_text range.first ++ codes " " ++ policy_or_default policy
    ++ placed_text huge (cond huge (lowest_from 0 (placed_in kept range)) (placed_in kept range))
    ++ codes "\n") (sym small)

lines-alone : (policy_at : ℕ → Option PolicyRecord) (kept : Kept)
    (ranges : List (Run (Option PolicyRecord))) → AreOf4KiB ranges
    → there_lines policy_at kept (λ page. Nowhere) ranges ≡ listing policy_at kept ranges
lines-alone policy_at kept [] small = refl
lines-alone policy_at kept (range ∷ rest) small =
    λ i. line-alone (policy_at range.first) kept range small.0 i
    ++ lines-alone policy_at kept rest small.1 i

pub listing-alone : (machine : Hardware) (state : State) (task : ℕ) → LieNowhere state
    → AreOf4KiB (ranges_of machine state.world.history)
    → there_listing (process_on machine state) state.lying.spots task
    ≡ listing_of machine state.world.history task state.resident
listing-alone machine state task nowhere small =
    let alike : state.lying.spots ≡ (λ (page : ℕ). Nowhere) = λ i page. nowhere page i in
    ap (λ (spots : ℕ → Spot). there_listing (process_on machine state) spots task) alike
    ∙ lines-alone (resolved_policy machine state.world.history task) state.resident
    (ranges_of machine state.world.history) small
