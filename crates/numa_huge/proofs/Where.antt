-- What is done with a page, by the node that it lies on.
use Rattle.std.proofs.Common.{◌≡◌, ℕ, suc, ◌+◌, ◌∙◌, Bool, true, false, Option, Some, None}
use Rattle.std.proofs.Common.{List, refl, sym, ap}
use Rattle.std.specs.Prelude.{unwrap_or}
use Rattle.numa_mask.specs.NodeSet.{has}
use Rattle.numa_huge.specs.Huge.{HugeLying, HugePlaced, node_of, places_of}
use Rattle.numa_huge.specs.Moves.{HugeTold, HugeWalk, goal, is_astray, moved_to, sending, sent_page}
use Rattle.numa_huge.specs.Moves.{passing, sent_pages, sent_where, stayed, told_moving, walk_from}
use Rattle.numa_huge.specs.Moves.{with_moved}
use Rattle.numa_huge.specs.Tallies.{HasTold, IsWalk}
use Rattle.numa_huge.specs.declared.last.Flows.{Flows}
use Rattle.numa_huge.specs.declared.last.HugeLast.TheVariants.{Pages}
use Rattle.numa_huge.specs.declared.spot.HugeSpot.{HugeSpot}
use Rattle.numa_huge.specs.declared.spot.HugeSpot.TheVariants.{Bare, Reserved, On}

-- the page lies there
pub on-of : (spot : Option HugeSpot) (node : ℕ) → node_of spot ≡ Some node → spot ≡ Some (On node)
on-of None node is = absurd (cc)
on-of (Some Bare) node is = absurd (cc)
on-of (Some Reserved) node is = absurd (cc)
on-of (Some (On other)) node is =
    ap (λ (o : Option ℕ). Some (On (unwrap_or o 0))) is

-- ---- one page goes

module _ (spot : Option HugeSpot) (nowhere : node_of spot ≡ None) where
  pub moved-nowhere : (page node : ℕ) (huge : HugeLying) → moved_to spot page node huge ≡ huge
  moved-nowhere page node huge = by spot nowhere
    where
      by : (s : Option HugeSpot) → node_of s ≡ None → moved_to s page node huge ≡ huge
      by None is = refl
      by (Some Bare) is = refl
      by (Some Reserved) is = refl
      by (Some (On other)) is = absurd (cc)

  pub told-nowhere : (node : ℕ) → told_moving spot node ≡ stayed
  told-nowhere node = by spot nowhere
    where
      by : (s : Option HugeSpot) → node_of s ≡ None → told_moving s node ≡ stayed
      by None is = refl
      by (Some Bare) is = refl
      by (Some Reserved) is = refl
      by (Some (On other)) is = absurd (cc)

  pub sent-nowhere : (astray : Bool) (page : ℕ) (nodes : List ℕ) (walk : HugeWalk)
      → sent_where astray spot page nodes walk ≡ walk
  sent-nowhere astray page nodes walk = by spot nowhere
    where
      by : (s : Option HugeSpot) → node_of s ≡ None → sent_where astray s page nodes walk ≡ walk
      by None is = refl
      by (Some Bare) is = refl
      by (Some Reserved) is = refl
      by (Some (On other)) is = absurd (cc)

module _ (spot : Option HugeSpot) (from : ℕ) (is : spot ≡ Some (On from)) where
  pub moved-on : (page node : ℕ) (huge : HugeLying)
      → moved_to spot page node huge ≡ passing page from node huge
  moved-on page node huge = ap (λ (s : Option HugeSpot). moved_to s page node huge) is

  pub told-on : (node : ℕ) → told_moving spot node ≡ with_moved from node stayed
  told-on node = ap (λ (s : Option HugeSpot). told_moving s node) is

  -- a page on a node of the list, and on another
  pub sent-kept : (list page : ℕ) (nodes : List ℕ) (walk : HugeWalk) → has list from ≡ true
      → sent_where (is_astray list spot) spot page nodes walk ≡ walk
  sent-kept list page nodes walk there = rw (is, there) refl

  pub sent-astray : (list page : ℕ) (nodes : List ℕ) (walk : HugeWalk) → has list from ≡ false
      → sent_where (is_astray list spot) spot page nodes walk
      ≡ sending page from (goal walk.huge.pools nodes) walk
  sent-astray list page nodes walk out = rw (is, out) refl

-- ---- page by page

pub sent-end : (list : ℕ) (nodes : ℕ → List ℕ) (first : ℕ) (walk : HugeWalk)
    → sent_pages list nodes first 0 walk ≡ walk
unfolding sent_pages
sent-end list nodes first walk = refl

pub sent-next : (list : ℕ) (nodes : ℕ → List ℕ) (first m n : ℕ) (walk : HugeWalk) → n ≡ suc m
    → sent_pages list nodes first n walk
    ≡ sent_pages list nodes (first + 1) m (sent_page list nodes first walk)
unfolding sent_pages
sent-next list nodes first m n walk is = rw is refl

-- how far a call is that sends pages from one on, of which so many are left
pub record IsSending (list : ℕ) (nodes : ℕ → List ℕ) (all : HugeWalk) (page n : ℕ)
    (huge : HugePlaced) (flows : Flows) : Type 0 where
  pub told : HugeTold
  pub has : HasTold (Pages flows) told
  pub all_is : sent_pages list nodes page n (record { huge = places_of huge; told = told }) ≡ all

module _ (list : ℕ) (nodes : ℕ → List ℕ) where
  pub sending-start : (first pages n : ℕ) (huge from : HugePlaced) (flows : Flows) → n ≡ pages
      → huge ≡ from → HasTold (Pages flows) stayed
      → IsSending list nodes (sent_pages list nodes first pages (walk_from (places_of from)))
      first n huge flows
  sending-start first pages n huge from flows size same has = record {
    told = stayed;
    has = has;
    all_is = λ i. sent_pages list nodes first (size i) (walk_from (places_of (same i)));
  }

  module _ (all : HugeWalk) (page : ℕ) where
    pub sending-next : (m n : ℕ) (huge after : HugePlaced) (flows later : Flows) → n ≡ suc m
        → (so : IsSending list nodes all page n huge flows)
        → IsWalk (sent_page list nodes page (record { huge = places_of huge; told = so.told }))
        after later → IsSending list nodes all (page + 1) m after later
    sending-next m n huge after flows later size so step =
        let before : HugeWalk = record { huge = places_of huge; told = so.told } in
        let done : HugeWalk = sent_page list nodes page before in
        let same : ◌≡◌ {A = HugeWalk} (record { huge = places_of after; told = done.told }) done =
        λ i. record { huge = step.pages i; told = done.told } in
        record {
          told = done.told;
          has = step.told;
          all_is = ap (λ (w : HugeWalk). sent_pages list nodes (page + 1) m w) same
              ∙ sym (sent-next list nodes page m n before size) ∙ so.all_is;
        }

    pub sending-end : (n : ℕ) (huge : HugePlaced) (flows : Flows) → n ≡ 0
        → IsSending list nodes all page n huge flows → IsWalk all huge flows
    sending-end n huge flows size so =
        let here : HugeWalk = record { huge = places_of huge; told = so.told } in
        let is : here ≡ all =
        sym (ap (λ (k : ℕ). sent_pages list nodes page k here) size ∙ sent-end list nodes page here)
        ∙ so.all_is in
        record {
          pages = ap (λ (w : HugeWalk). w.huge) is;
          told = rw (← is) so.has;
        }
