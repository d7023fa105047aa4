-- First touches of the pages of a span, one after the other.
use Rattle.std.proofs.Common.{◌≡◌, ℕ, zero, suc, ◌+◌, ◌-◌, ◌<◌, ◌≤◌, ◌∙◌, Bool, true, false, Option}
use Rattle.std.proofs.Common.{Some, None, List, refl, sym, ap, subst, arith}
use Rattle.std.specs.Prelude.{◌==◌, if◌then◌else◌, is_some, slice_index}
use Rattle.numa_huge.specs.Huge.{HugeLying, HugePlaced, giver_for, huge_at, node_of, places_of}
use Rattle.numa_huge.specs.Moves.{HugeArrival, HugeTouch, given_page, is_untouched, touched_page}
use Rattle.numa_huge.specs.Moves.{touch_from, touched_pages, with_given}
use Rattle.numa_huge.specs.Tallies.{AreFew, HasArrived, IsTouch}
use Rattle.numa_huge.specs.declared.arrived.HugeArrived.{HugeArrived}
use Rattle.numa_huge.specs.declared.spot.HugeSpot.{HugeSpot}
use Rattle.numa_huge.specs.declared.spot.HugeSpot.TheVariants.{Bare, Reserved, On}

-- ---- one page

pub untouched-is : (spot : Option HugeSpot) → is_untouched spot ≡ true
    → (is_some spot ≡ true) × (node_of spot ≡ None)
untouched-is None is = absurd (cc)
untouched-is (Some Bare) is = (refl, refl)
untouched-is (Some Reserved) is = (refl, refl)
untouched-is (Some (On node)) is = absurd (cc)

module _ (nodes : ℕ → List ℕ) (page : ℕ) (touch : HugeTouch) where
  -- it isn't mapped, or lies on a node
  pub touched-same : is_untouched (touch.huge.spots page) ≡ false
      → touched_page nodes page touch ≡ touch
  touched-same is = rw is refl

  -- it lies nowhere
  pub touched-given : (given : Option ℕ) → is_untouched (touch.huge.spots page) ≡ true
      → given ≡ giver_for touch.huge page (nodes page)
      → touched_page nodes page touch ≡ given_page given page touch
  touched-given given is gives =
      rw is (ap (λ (g : Option ℕ). given_page g page touch) (sym gives))

-- nothing changed
pub touch-same : (touch done : HugeTouch) (huge : HugePlaced) (arrived : HugeArrived)
    → done ≡ touch → places_of huge ≡ touch.huge → HasArrived arrived touch.arrived
    → IsTouch done huge arrived
touch-same touch done huge arrived same pages has =
    subst (λ (t : HugeTouch). IsTouch t huge arrived) (sym same)
    (record { pages = pages; arrived_is = has })

-- ---- the numbers stay small

pub few-more : (arrived : HugeArrived) (most more : ℕ) → most ≤ more → AreFew arrived most
    → AreFew arrived more
few-more arrived most more le few = record {
  placed = omega (arith, le, few.placed);
  exhausted = omega (arith, le, few.exhausted);
  on = λ node small. omega (arith, le, few.on node small);
}

pub few-next : (arrived : HugeArrived) (page : ℕ) → AreFew arrived page
    → AreFew arrived (page + 1)
few-next arrived page few = few-more arrived page (page + 1) (omega arith) few

pub few-none : (arrived : HugeArrived) (most : ℕ) (huge : HugeLying)
    → HasArrived arrived (touch_from huge).arrived → AreFew arrived most
few-none arrived most huge has = record {
  placed = omega (arith, has.placed);
  exhausted = omega (arith, has.exhausted);
  on = λ node small. omega (arith, has.on node small);
}

-- as it is told
abbrev told_of : HugeArrived → HugeArrival
told_of arrived = record {
  placed = arrived.placed;
  exhausted = arrived.exhausted;
  on = slice_index arrived.on;
}

pub told-of : (arrived : HugeArrived) → HasArrived arrived (told_of arrived)
told-of arrived = record { placed = refl; exhausted = refl; on = λ node small. refl }

one-more : (b : Bool) → (if b then 1 else 0) ≤ 1
one-more true = omega arith
one-more false = omega arith

few-by : (arrived after : HugeArrived) (given : Option ℕ) (page : ℕ) → AreFew arrived page
    → HasArrived after (with_given given (told_of arrived)) → AreFew after (page + 1)
few-by arrived after None page few has = record {
  placed = omega (arith, few.placed, has.placed);
  exhausted = omega (arith, few.exhausted, has.exhausted);
  on = λ node small. omega (arith, few.on node small, has.on node small);
}
few-by arrived after (Some node) page few has = record {
  placed = omega (arith, few.placed, has.placed);
  exhausted = omega (arith, few.exhausted, has.exhausted);
  on = λ other small. omega (
    arith,
    few.on other small,
    has.on other small,
    one-more (other == node),
  );
}

pub few-given : (arrived after : HugeArrived) (given : Option ℕ) (page : ℕ) → AreFew arrived page
    → ((told : HugeArrival) → HasArrived arrived told → HasArrived after (with_given given told))
    → AreFew after (page + 1)
few-given arrived after given page few counts =
    few-by arrived after given page few (counts (told_of arrived) (told-of arrived))

-- ---- page by page

pub touched-end : (nodes : ℕ → List ℕ) (first : ℕ) (touch : HugeTouch)
    → touched_pages nodes first 0 touch ≡ touch
unfolding touched_pages
touched-end nodes first touch = refl

pub touched-next : (nodes : ℕ → List ℕ) (first m n : ℕ) (touch : HugeTouch) → n ≡ suc m
    → touched_pages nodes first n touch
    ≡ touched_pages nodes (first + 1) m (touched_page nodes first touch)
unfolding touched_pages
touched-next nodes first m n touch is = rw is refl

-- pages that aren't mapped are passed over
pub touched-passed : (nodes : ℕ → List ℕ) (a b n page : ℕ) (touch : HugeTouch) → n ≡ a + b
    → ((other : ℕ) → page ≤ other → other < page + a → touch.huge.spots other ≡ None)
    → touched_pages nodes page n touch ≡ touched_pages nodes (page + a) b touch
touched-passed nodes zero b n page touch is none =
    let same : n ≡ b = omega (arith, is) in
    let here : page ≡ page + 0 = omega arith in
    λ i. touched_pages nodes (here i) (same i) touch
touched-passed nodes (suc a) b n page touch is none =
    let here : touched_page nodes page touch ≡ touch =
    touched-same nodes page touch
    (ap (λ (s : Option HugeSpot). is_untouched s) (none page (omega arith) (omega arith))) in
    let seam : page + 1 + a ≡ page + suc a = omega arith in
    touched-next nodes page (a + b) n touch (omega (arith, is))
    ∙ ap (λ (t : HugeTouch). touched_pages nodes (page + 1) (a + b) t) here
    ∙ touched-passed nodes a b (a + b) (page + 1) touch refl
    (λ other low high. none other (omega (arith, low)) (omega (arith, high)))
    ∙ ap (λ (p : ℕ). touched_pages nodes p b touch) seam

-- how far a call is that touches pages from one on, of which so many are left
abbrev pub touch_at : HugePlaced → HugeArrival → HugeTouch
touch_at huge told = record { huge = places_of huge; arrived = told }

pub record IsTouching (nodes : ℕ → List ℕ) (all : HugeTouch) (page n : ℕ) (huge : HugePlaced)
    (arrived : HugeArrived) : Type 0 where
  pub told : HugeArrival
  pub has : HasArrived arrived told
  pub all_is : touched_pages nodes page n (touch_at huge told) ≡ all

pub touching-next : (nodes : ℕ → List ℕ) (all : HugeTouch) (page m n : ℕ) (huge after : HugePlaced)
    (arrived next : HugeArrived) → n ≡ suc m → (so : IsTouching nodes all page n huge arrived)
    → IsTouch (touched_page nodes page (touch_at huge so.told)) after next
    → IsTouching nodes all (page + 1) m after next
touching-next nodes all page m n huge after arrived next is so step =
    let done : HugeTouch = touched_page nodes page (touch_at huge so.told) in
    let same : touch_at after done.arrived ≡ done = λ i.
    record { huge = step.pages i; arrived = done.arrived } in
    record {
      told = done.arrived;
      has = step.arrived_is;
      all_is = ap (λ (t : HugeTouch). touched_pages nodes (page + 1) m t) same
          ∙ sym (touched-next nodes page m n (touch_at huge so.told) is) ∙ so.all_is;
    }

pub touching-passed : (nodes : ℕ → List ℕ) (all : HugeTouch) (page next m n : ℕ)
    (huge : HugePlaced) (arrived : HugeArrived) → page ≤ next → next + m ≡ page + n
    → ((other : ℕ) → page ≤ other → other < next → huge_at huge.runs other ≡ None)
    → IsTouching nodes all page n huge arrived → IsTouching nodes all next m huge arrived
touching-passed nodes all page next m n huge arrived rises is none so =
    let touch : HugeTouch = touch_at huge so.told in
    let a : ℕ = next - page in
    let at : page + a ≡ next = omega (arith, rises) in
    record {
      told = so.told;
      has = so.has;
      all_is = ap (λ (p : ℕ). touched_pages nodes p m touch) (sym at)
          ∙ sym (touched-passed nodes a m n page touch (omega (arith, is, rises))
          (λ other low high. none other low (omega (arith, high, at)))) ∙ so.all_is;
    }

pub touching-end : (nodes : ℕ → List ℕ) (all : HugeTouch) (page n : ℕ) (huge : HugePlaced)
    (arrived : HugeArrived) → n ≡ 0 → IsTouching nodes all page n huge arrived
    → IsTouch all huge arrived
touching-end nodes all page n huge arrived is so =
    let none : touched_pages nodes page n (touch_at huge so.told) ≡ touch_at huge so.told =
    ap (λ (k : ℕ). touched_pages nodes page k (touch_at huge so.told)) is
    ∙ touched-end nodes page (touch_at huge so.told) in
    touch-same (touch_at huge so.told) all huge arrived (sym so.all_is ∙ none) refl so.has

pub touching-start : (nodes : ℕ → List ℕ) (first pages n : ℕ) (huge from : HugePlaced)
    (arrived : HugeArrived) → n ≡ pages → huge ≡ from
    → HasArrived arrived (touch_from (places_of from)).arrived → IsTouching nodes
    (touched_pages nodes first pages (touch_from (places_of from))) first n huge arrived
touching-start nodes first pages n huge from arrived is same has = record {
  told = (touch_from (places_of from)).arrived;
  has = has;
  all_is = λ i. touched_pages nodes first (is i) (touch_from (places_of (same i)));
}
