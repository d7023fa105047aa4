-- Which pages go: all, or the lowest of each node.
use Rattle.std.proofs.Common.{◌≡◌, ℕ, ◌+◌, ◌-◌, ◌<◌, ◌≤◌, ◌^◌, Bool, true, false, refl, sym}
use Rattle.std.proofs.Common.{ap, ◌∙◌}
use Rattle.std.proofs.Common.{arith, inl, inr, List, slice_index, subst}
use Rattle.std.specs.Prelude.{nat_lt, if◌then◌else◌}
use Rattle.std.proofs.lemmas.Bool.{and_cases, cases_Bool, cases_eq, eq-eqb, le-ltb}
use Rattle.std.proofs.lemmas.Bool.{lt-ltb, ltb-false, ltb-true, ne_eqb}
use Rattle.numa_ranges.specs.Counts.{count_pages}
use Rattle.numa_ranges.proofs.Counted.{count-split}
use Rattle.numa_ranges.proofs.Joined.{and_split}
use Rattle.numa_placed.specs.Moves.{moved_spot}
use Rattle.numa_placed.specs.Shifts.{ArePages, is_stated, shifted_spot, shifted_spots, stated_below}
use Rattle.numa_placed.specs.Shifts.{stated_on, stay_on}
use Rattle.numa_placed.specs.Spots.{pages_if}
use Rattle.numa_placed.specs.Standing.{AreOnNodes, IsCut, is_split, target_from}
use Rattle.numa_placed.specs.declared.spot.Spot.{Spot}
use Rattle.numa_placed.specs.declared.spot.Spot.TheVariants.{Nowhere, Stated}
use Rattle.numa_placed.proofs.Shared.{count-more}
use Rattle.numa_placed.proofs.ShiftRows.{same-target}
use Rattle.numa_placed.proofs.Sources.{same-split}

-- ---- where all find room

-- fewer pages of a node are below one that lies there than below a later page
pub below-less : (spots : ℕ → Spot) (page low node : ℕ) → page < low → spots page ≡ Stated node
    → stated_below spots page node < stated_below spots low node
below-less spots page low node lt is =
    let here : ℕ → Bool = λ p. is_stated node (spots p) in
    let passes : here page ≡ true = ap (is_stated node) is ∙ eq-eqb node node refl in
    let one : count_pages here 0 (page + 1) ≡ count_pages here 0 page + 1 =
    count-more here 0 page page (omega arith)
    ∙ ap (λ b. count_pages here 0 page + pages_if b 1) passes in
    let cut = count-split here 0 (page + 1) (low - (page + 1)) low (omega (arith, lt)) in
    omega (arith, one, cut)

module _ (go gone : ℕ → ℕ) (spots : ℕ → Spot) (nodes : AreOnNodes spots)
    (near : (page node : ℕ) → spots page ≡ Stated node → page < 2 ^ 35)
    (none : (node : ℕ) → node < 256 → stay_on go (stated_on spots) gone node ≡ 0) where
  goes-as : (page : ℕ) (spot : Spot) → spots page ≡ spot
      → shifted_spot go gone (stated_below spots page) spot ≡ moved_spot go spot
  goes-as page Nowhere is = refl
  goes-as page (Stated node) is =
      elim (cases_eq (go node) node) [
        | inl same ↦ same-target go gone (stated_below spots page) node same ∙ ap Stated (sym same)
        | inr other ↦
            let left : stated_on spots node - gone node ≡ 0 =
            ap (λ b. if b then 0 else stated_on spots node - gone node)
            (sym (ne_eqb (go node) node other)) ∙ none node (nodes page node is) in
            let below = below-less spots page (2 ^ 35) node (near page node is) is in
            rw (lt-ltb (stated_below spots page node) (gone node) (omega (arith, left, below))) refl
      ]

  -- where no page stays that has another node to go to, all go
  pub all-go : (page : ℕ) → shifted_spots go gone spots page ≡ moved_spot go (spots page)
  all-go page = goes-as page (spots page) refl

-- ---- where none goes

-- where no page of a node goes, each stays
pub none-gone : (go gone : ℕ → ℕ) (spots : ℕ → Spot) → AreOnNodes spots
    → ((node : ℕ) → node < 256 → gone node ≡ 0) → (page : ℕ)
    → spots page ≡ shifted_spots go gone spots page
none-gone go gone spots on none page = by (spots page) refl
  where
    by : (spot : Spot) → spots page ≡ spot
        → spot ≡ shifted_spot go gone (stated_below spots page) spot
    by Nowhere is = refl
    by (Stated node) is =
        rw (le-ltb (stated_below spots page node) (gone node)
        (omega (arith, none node (on page node is)))) refl

-- ---- where the pages of some nodes find room

either-way : (first : Bool) (one other node : ℕ) → one ≡ node → other ≡ node
    → Stated (if first then one else other) ≡ Stated node
either-way true one other node is is' = ap Stated is
either-way false one other node is is' = ap Stated is'

either-moved : (first : Bool) (one other : ℕ → ℕ) (spot : Spot)
    → (if first then moved_spot one spot else moved_spot other spot)
    ≡ moved_spot (λ node. if first then one node else other node) spot
either-moved true one other Nowhere = refl
either-moved true one other (Stated node) = refl
either-moved false one other Nowhere = refl
either-moved false one other (Stated node) = refl

module _ (go gone : ℕ → ℕ) (spots : ℕ → Spot) (cut : ℕ)
    (nodes : (page node : ℕ) → page < 2 ^ 35 → spots page ≡ Stated node → node < 256)
    (near : (page node : ℕ) → spots page ≡ Stated node → page < 2 ^ 35)
    (cuts : (node : ℕ) → node < 256 → is_split (stated_on spots) gone node ≡ true
    → IsCut spots node (gone node) cut) where
  abbrev below : ℕ → ℕ
  below = target_from go (λ node. 1) gone

  abbrev behind : ℕ → ℕ
  behind = target_from go (stated_on spots) gone

  -- a page of a node of which some pages go and some stay
  goes-split : (page node : ℕ) → spots page ≡ Stated node
      → is_split (stated_on spots) gone node ≡ true
      → Stated (if nat_lt page cut then below node else behind node)
      ≡ shifted_spot go gone (stated_below spots page) (Stated node)
  goes-split page node is split =
      let ends = and_split (nat_lt 0 (gone node)) (nat_lt (gone node) (stated_on spots node))
      split in
      let some : nat_lt (gone node) 1 ≡ false =
      le-ltb (gone node) 1 (omega (arith, ltb-true 0 (gone node) ends.0)) in
      let same = cuts node (nodes page node (near page node is) is) split page is in
      elim (cases_Bool (nat_lt page cut)) [
        | inl t ↦ rw (same, t, some) refl
        | inr e ↦ rw (same, e, ends.1) refl
      ]

  -- a page of a node of which none goes, or all
  goes-whole : (page node : ℕ) → spots page ≡ Stated node
      → is_split (stated_on spots) gone node ≡ false
      → Stated (if nat_lt page cut then below node else behind node)
      ≡ shifted_spot go gone (stated_below spots page) (Stated node)
  goes-whole page node is whole =
      let less = below-less spots page (2 ^ 35) node (near page node is) is in
      elim (and_cases (nat_lt 0 (gone node)) (nat_lt (gone node) (stated_on spots node)) whole) [
        | inl none ↦
            let zero = ltb-false 0 (gone node) none in
            either-way (nat_lt page cut) (below node) (behind node) node
            (rw (lt-ltb (gone node) 1 (omega (arith, zero))) refl)
            (rw (lt-ltb (gone node) (stated_on spots node) (omega (arith, zero, less))) refl)
            ∙ sym (rw (le-ltb (stated_below spots page node) (gone node) (omega (arith, zero)))
            refl)
        | inr all ↦
            let enough = ltb-false (gone node) (stated_on spots node) all in
            either-way (nat_lt page cut) (below node) (behind node) (go node)
            (rw (le-ltb (gone node) 1 (omega (arith, enough, less))) refl) (rw all refl)
            ∙ sym (rw (lt-ltb (stated_below spots page node) (gone node)
            (omega (arith, enough, less))) refl)
      ]

  goes-where : (page : ℕ) (spot : Spot) → spots page ≡ spot
      → moved_spot (λ node. if nat_lt page cut then below node else behind node) spot
      ≡ shifted_spot go gone (stated_below spots page) spot
  goes-where page Nowhere is = refl
  goes-where page (Stated node) is =
      elim (cases_Bool (is_split (stated_on spots) gone node)) [
        | inl t ↦ goes-split page node is t
        | inr e ↦ goes-whole page node is e
      ]

  -- the pages below the cut go as far as any of their node go, the others where all go
  pub sent-apart : cut ≤ 2 ^ 35 → (page : ℕ)
      → (if nat_lt page cut then moved_spot below (spots page) else moved_spot behind (spots page))
      ≡ shifted_spots go gone spots page
  sent-apart within page = either-moved (nat_lt page cut) below behind (spots page)
      ∙ goes-where page (spots page) refl

-- where the pages of a node go, by lists
pub target-same : (go go' least least' gone gone' : ℕ → ℕ) (node : ℕ) → go node ≡ go' node
    → least node ≡ least' node → gone node ≡ gone' node
    → target_from go least gone node ≡ target_from go' least' gone' node
target-same go go' least least' gone gone' node same same' same'' = rw (same, same', same'') refl

-- a cut by lists of how many pages lie on each node and how many went
pub listed-cut : (spots : ℕ → Spot) (cut : ℕ) (counts many : List ℕ) (gone : ℕ → ℕ)
    → ArePages counts (stated_on spots) → ArePages many gone
    → ((node : ℕ) → node < 256 → is_split (slice_index counts) (slice_index many) node ≡ true
    → IsCut spots node (slice_index many node) cut) → (node : ℕ) → node < 256
    → is_split (stated_on spots) gone node ≡ true → IsCut spots node (gone node) cut
listed-cut spots cut counts many gone are went cuts node small split =
    subst (λ (pages : ℕ). IsCut spots node pages cut) (went node small)
    (cuts node small (same-split (slice_index counts) (stated_on spots) (slice_index many) gone node
    (are node small) (went node small) ∙ split))
