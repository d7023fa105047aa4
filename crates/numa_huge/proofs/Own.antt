-- Each page that is kept has itself as its index and lies on one of 256 nodes, whatever is done.
use Rattle.std.proofs.Common.{◌≡◌, ℕ, ◌+◌, ◌-◌, ◌<◌, ◌≤◌, ◌∙◌, Bool, true, false, Option, Some}
use Rattle.std.proofs.Common.{None, List, refl, sym, ap, subst, arith, inl, inr}
use Rattle.std.specs.Option.{option_map}
use Rattle.std.specs.Prelude.{if◌then◌else◌, is_some, nat_lt, not}
use Rattle.std.proofs.lemmas.Bool.{cases_Bool, cases_lt, le-ltb}
use Rattle.numa_ranges.specs.Counts.{range_count}
use Rattle.numa_ranges.specs.Maps.{IsRefusal, Shows, any_page, changed_page, changed_span}
use Rattle.numa_ranges.specs.Maps.{count_refusal, map_refusal, set_refusal, without_span}
use Rattle.numa_ranges.specs.Maps.{with_span as mapped_span}
use Rattle.numa_ranges.specs.Runs.{in_pages, page_at}
use Rattle.numa_ranges.specs.declared.fault.RangeError.{RangeError}
use Rattle.numa_ranges.specs.declared.fault.RangeError.TheVariants.{Hole, Overlap, TooManyRanges}
use Rattle.numa_ranges.specs.declared.run.Run.{Run}
use Rattle.numa_ranges.proofs.Apart.{in_pages-above, in_pages-below, in_pages-true}
use Rattle.numa_ranges.proofs.Pages.{any_page-false}
use Rattle.numa_placed.specs.Spots.{most_runs}
use Rattle.numa_huge.specs.Huge.{has_huge, huge_at, kept_page, most_pages, same_huge, spot_in}
use Rattle.numa_huge.specs.Huge.{too_many, with_span}
use Rattle.numa_huge.specs.Kept.{AreOwn, HasNode, IsOwn}
use Rattle.numa_huge.specs.Tallies.{IsLackFor, lack_of}
use Rattle.numa_huge.specs.contracts.spot.HugeSpotPartialEq.TheImpl as spot_test
use Rattle.numa_huge.specs.declared.spot.HugeSpot.{HugeSpot}
use Rattle.numa_huge.specs.declared.spot.HugeSpot.TheVariants.{Bare, Reserved, On}

-- ---- a page

own-near : (page : ℕ) (p : Option (ℕ × HugeSpot)) (spot : HugeSpot) → IsOwn page p
    → spot_in p ≡ Some spot → page < most_pages
own-near page None spot own is = absurd (cc)
own-near page (Some p) spot own is = own.1

near-some : (page : ℕ) (p : Option (ℕ × HugeSpot)) → IsOwn page p → is_some (spot_in p) ≡ true
    → page < most_pages
near-some page None own some = absurd (cc)
near-some page (Some p) own some = own.1

-- a page that is mapped is below address 2^47
pub own-some : (runs : List (Run HugeSpot)) (page : ℕ) → AreOwn runs
    → is_some (huge_at runs page) ≡ true → page < most_pages
own-some runs page own some = near-some page (page_at runs page) (own page) some

pub own-page : (runs : List (Run HugeSpot)) (page : ℕ) (spot : HugeSpot) → AreOwn runs
    → huge_at runs page ≡ Some spot → page < most_pages
own-page runs page spot own is = own-near page (page_at runs page) spot (own page) is

on-near : (page node : ℕ) (p : Option (ℕ × HugeSpot)) → IsOwn page p → spot_in p ≡ Some (On node)
    → node < 256
on-near page node None own is = absurd (cc)
on-near page node (Some (at, On other)) own is =
    let same : other ≡ node = cc in omega (arith, own.2, same)
on-near page node (Some (at, Bare)) own is = absurd (cc)
on-near page node (Some (at, Reserved)) own is = absurd (cc)

pub own-node : (runs : List (Run HugeSpot)) (page node : ℕ) → AreOwn runs
    → huge_at runs page ≡ Some (On node) → node < 256
own-node runs page node own is = on-near page node (page_at runs page) (own page) is

-- ---- what calls make of runs

-- something is so of a page in a span, and of each other
by-place : (P : Bool → Type 0) (first n page : ℕ)
    → (first ≤ page → page < first + n → P true) → P false → P (in_pages first n page)
by-place P first n page here other = elim (cases_lt page first) [
  | inl l ↦ rw (in_pages-below first n page l) other
  | inr low ↦ elim (cases_lt page (first + n)) [
    | inl high ↦ rw (in_pages-true first n page low high) (here low high)
    | inr over ↦ rw (in_pages-above first n page over) other
  ]
]

pub own-mapped : (runs new : List (Run HugeSpot)) (first n : ℕ) (spot : HugeSpot)
    → first + n ≤ most_pages → HasNode spot → AreOwn runs
    → Shows new (mapped_span first n first spot (page_at runs)) → AreOwn new
own-mapped runs new first n spot within node own shows page =
    subst (IsOwn page) (sym (shows page))
    (by-place (λ b. IsOwn page (if b then Some (first + (page - first), spot)
    else page_at runs page)) first n page
    (λ low high. (omega (arith, low), omega (arith, high, within), node)) (own page))

pub spots-mapped : (runs new : List (Run HugeSpot)) (first n : ℕ) (spot : HugeSpot)
    → Shows new (mapped_span first n first spot (page_at runs)) → (page : ℕ)
    → huge_at new page ≡ with_span first n (Some spot) (huge_at runs) page
spots-mapped runs new first n spot shows page =
    ap spot_in (shows page) ∙ by-case (in_pages first n page)
  where
    by-case : (b : Bool)
        → spot_in (if b then Some (first + (page - first), spot) else page_at runs page)
        ≡ (if b then Some spot else huge_at runs page)
    by-case true = refl
    by-case false = refl

pub own-without : (runs new : List (Run HugeSpot)) (first n : ℕ) → AreOwn runs
    → Shows new (without_span first n (page_at runs)) → AreOwn new
own-without runs new first n own shows page =
    subst (IsOwn page) (sym (shows page))
    (by-place (λ b. IsOwn page (if b then None else page_at runs page)) first n page
    (λ low high. tt) (own page))

pub spots-without : (runs new : List (Run HugeSpot)) (first n : ℕ)
    → Shows new (without_span first n (page_at runs)) → (page : ℕ)
    → huge_at new page ≡ with_span first n None (huge_at runs) page
spots-without runs new first n shows page =
    ap spot_in (shows page) ∙ by-case (in_pages first n page)
  where
    by-case : (b : Bool) → spot_in (if b then None else page_at runs page)
        ≡ (if b then None else huge_at runs page)
    by-case true = refl
    by-case false = refl

set-near : (p : Option (ℕ × HugeSpot)) (spot : HugeSpot) → is_some (spot_in p) ≡ true
    → spot_in (changed_page (λ old. spot) p) ≡ Some spot
set-near None spot some = absurd (cc)
set-near (Some p) spot some = refl

-- each page of a span is mapped
abbrev pub AreThere : List (Run HugeSpot) → ℕ → ℕ → Type 0
AreThere runs first n =
    (page : ℕ) → first ≤ page → page < first + n → is_some (huge_at runs page) ≡ true

pub there-one : (runs : List (Run HugeSpot)) (page : ℕ) → is_some (huge_at runs page) ≡ true
    → AreThere runs page 1
there-one runs page some other low high =
    let is : other ≡ page = omega (arith, low, high) in
    ap (λ (p : ℕ). is_some (huge_at runs p)) is ∙ some

pub spots-set : (runs new : List (Run HugeSpot)) (first n : ℕ) (spot : HugeSpot)
    → AreThere runs first n → Shows new (changed_span first n (λ old. spot) (page_at runs))
    → (page : ℕ) → huge_at new page ≡ with_span first n (Some spot) (huge_at runs) page
spots-set runs new first n spot there shows page =
    ap spot_in (shows page) ∙ by-place (λ b. spot_in (if b
    then changed_page (λ old. spot) (page_at runs page) else page_at runs page)
    ≡ (if b then Some spot else huge_at runs page)) first n page
    (λ low high. set-near (page_at runs page) spot (there page low high)) refl

own-changed : (page : ℕ) (p : Option (ℕ × HugeSpot)) (change : HugeSpot → HugeSpot)
    → ((spot : HugeSpot) → HasNode spot → HasNode (change spot)) → IsOwn page p
    → IsOwn page (changed_page change p)
own-changed page None change node own = tt
own-changed page (Some p) change node own = (own.0, own.1, node p.1 own.2)

pub own-set : (runs new : List (Run HugeSpot)) (first n : ℕ) (spot : HugeSpot) → HasNode spot
    → AreOwn runs → Shows new (changed_span first n (λ old. spot) (page_at runs)) → AreOwn new
own-set runs new first n spot node own shows page =
    subst (IsOwn page) (sym (shows page))
    (by-place (λ b. IsOwn page (if b then changed_page (λ old. spot) (page_at runs page)
    else page_at runs page)) first n page
    (λ low high. own-changed page (page_at runs page) (λ old. spot) (λ old so. node) (own page))
    (own page))

pub own-all : (runs new : List (Run HugeSpot)) (change : HugeSpot → HugeSpot)
    → ((spot : HugeSpot) → HasNode spot → HasNode (change spot)) → AreOwn runs
    → Shows new (λ page. changed_page change (page_at runs page)) → AreOwn new
own-all runs new change node own shows page =
    subst (IsOwn page) (sym (shows page))
    (own-changed page (page_at runs page) change node (own page))

-- ---- too many of them

kept-near : (page : ℕ) (p : Option (ℕ × HugeSpot)) → IsOwn page p
    → p ≡ kept_page (λ other. spot_in p) page
kept-near page None own = refl
kept-near page (Some p) own = ap (λ (n : ℕ). Some (n, p.1)) own.0

pub kept-same : (runs : List (Run HugeSpot)) → AreOwn runs → (page : ℕ)
    → page_at runs page ≡ kept_page (huge_at runs) page
kept-same runs own page = kept-near page (page_at runs page) (own page)

eq-same : (a b : HugeSpot) → spot_test.ghosts.eq a b ≡ same_huge a b
eq-same Bare Bare = refl
eq-same Bare Reserved = refl
eq-same Bare (On b) = refl
eq-same Reserved Bare = refl
eq-same Reserved Reserved = refl
eq-same Reserved (On b) = refl
eq-same (On a) Bare = refl
eq-same (On a) Reserved = refl
eq-same (On a) (On b) = refl

-- why a change of runs was refused
pub lack-for : (after : ℕ → Option (ℕ × HugeSpot)) (spots : ℕ → Option HugeSpot)
    (why : RangeError) → ((page : ℕ) → after page ≡ kept_page spots page)
    → IsRefusal (count_refusal spot_test.ghosts.eq most_runs after) why
    → IsLackFor spots (lack_of why)
lack-for after spots why same refused =
    let many : nat_lt most_runs (range_count spot_test.ghosts.eq after) ≡ too_many spots =
    (λ i. nat_lt most_runs (range_count (λ a b. eq-same a b i) (λ page. same page i))) in
    elim (cases_Bool (too_many spots)) [
      | inl t ↦
          let is = subst (λ (b : Bool). IsRefusal (if b then Some TooManyRanges else None) why)
          (many ∙ t) refused in
          (false, rw t (ap (λ (w : RangeError). Some (lack_of w)) (sym is)))
      | inr e ↦
          let is = subst (λ (b : Bool). IsRefusal (if b then Some TooManyRanges else None) why)
          (many ∙ e) refused in
          (true, ap (λ (w : RangeError). Some (lack_of w)) (sym is))
    ]

-- they are few where the map keeps few runs
pub count-kept : (runs : List (Run HugeSpot)) → AreOwn runs
    → range_count spot_test.ghosts.eq (page_at runs)
    ≡ range_count same_huge (kept_page (huge_at runs))
count-kept runs own =
    λ i. range_count (λ a b. eq-same a b i) (λ page. kept-same runs own page i)

pub few-kept : (runs : List (Run HugeSpot)) (count : ℕ) → AreOwn runs
    → count ≡ range_count spot_test.ghosts.eq (page_at runs) → count ≤ most_runs
    → too_many (huge_at runs) ≡ false
few-kept runs count own is few =
    ap (λ (n : ℕ). nat_lt most_runs n) (sym (is ∙ count-kept runs own))
    ∙ le-ltb most_runs count few

-- ---- refusals of each call

some-same : (p : Option (ℕ × HugeSpot)) → is_some (spot_in p) ≡ is_some p
some-same None = refl
some-same (Some p) = refl

changed-near : (page : ℕ) (p : Option (ℕ × HugeSpot)) (spot : HugeSpot) → IsOwn page p
    → is_some (spot_in p) ≡ true → changed_page (λ old. spot) p ≡ Some (page, spot)
changed-near page None spot own some = absurd (cc)
changed-near page (Some p) spot own some = ap (λ (n : ℕ). Some (n, spot)) own.0

not-hole : (p : Option (ℕ × HugeSpot)) → is_some (spot_in p) ≡ true → not (is_some p) ≡ false
not-hole None some = absurd (cc)
not-hole (Some p) some = refl

module _ (runs : List (Run HugeSpot)) (first n limit : ℕ) (why : RangeError) (own : AreOwn runs)
    (is : limit ≡ most_runs) where
  pub lack-set : (spot : HugeSpot) → AreThere runs first n
      → IsRefusal (set_refusal spot_test.ghosts.eq limit (page_at runs) first n spot) why
      → IsLackFor (with_span first n (Some spot) (huge_at runs)) (lack_of why)
  lack-set spot there refused =
      let after : ℕ → Option (ℕ × HugeSpot) = changed_span first n (λ old. spot) (page_at runs) in
      let whole : any_page (λ page. not (is_some (page_at runs page))) first n ≡ false =
      any_page-false (λ page. not (is_some (page_at runs page))) first n
      (λ page low high. not-hole (page_at runs page) (there page low high)) in
      lack-for after (with_span first n (Some spot) (huge_at runs)) why
      (λ page. by-place (λ b. (if b then changed_page (λ old. spot) (page_at runs page)
      else page_at runs page) ≡ option_map (λ s. (page, s)) (if b then Some spot
      else huge_at runs page)) first n page
      (λ low high. changed-near page (page_at runs page) spot (own page) (there page low high))
      (kept-same runs own page))
      (subst (λ (most : ℕ). IsRefusal (count_refusal spot_test.ghosts.eq most after) why) is
      (subst (λ (b : Bool). IsRefusal (if b then Some Hole
      else count_refusal spot_test.ghosts.eq limit after) why) whole refused))

  pub lack-map : (spot : HugeSpot) → has_huge (huge_at runs) first n ≡ false
      → IsRefusal (map_refusal spot_test.ghosts.eq limit (page_at runs) first n first spot) why
      → IsLackFor (with_span first n (Some spot) (huge_at runs)) (lack_of why)
  lack-map spot none refused =
      let after : ℕ → Option (ℕ × HugeSpot) = mapped_span first n first spot (page_at runs) in
      let free : any_page (λ page. is_some (page_at runs page)) first n ≡ false =
      sym (λ i. any_page (λ page. some-same (page_at runs page) i) first n) ∙ none in
      lack-for after (with_span first n (Some spot) (huge_at runs)) why
      (λ page. by-place (λ b. (if b then Some (first + (page - first), spot)
      else page_at runs page) ≡ option_map (λ s. (page, s)) (if b then Some spot
      else huge_at runs page)) first n page
      (λ low high.
      let at : first + (page - first) ≡ page = omega (arith, low) in
      ap (λ (k : ℕ). Some (k, spot)) at)
      (kept-same runs own page))
      (subst (λ (most : ℕ). IsRefusal (count_refusal spot_test.ghosts.eq most after) why) is
      (subst (λ (b : Bool). IsRefusal (if b then Some Overlap
      else count_refusal spot_test.ghosts.eq limit after) why) free refused))

  pub lack-unmap : IsRefusal (count_refusal spot_test.ghosts.eq limit
      (without_span first n (page_at runs))) why
      → IsLackFor (with_span first n None (huge_at runs)) (lack_of why)
  lack-unmap refused =
      let after : ℕ → Option (ℕ × HugeSpot) = without_span first n (page_at runs) in
      lack-for after (with_span first n None (huge_at runs)) why
      (λ page. by-place (λ b. (if b then None else page_at runs page)
      ≡ option_map (λ s. (page, s)) (if b then None else huge_at runs page)) first n page
      (λ low high. refl) (kept-same runs own page))
      (subst (λ (most : ℕ). IsRefusal (count_refusal spot_test.ghosts.eq most after) why) is
      refused)
