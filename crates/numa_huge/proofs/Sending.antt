-- A call that sends pages passes over those that don't lie astray.
use Rattle.std.proofs.Common.{◌≡◌, ℕ, zero, suc, ◌+◌, ◌-◌, ◌<◌, ◌≤◌, ◌∙◌, Bool, true, false}
use Rattle.std.proofs.Common.{Option, Some, None, List, [], ◌∷◌, refl, sym, ap, subst, arith, inl}
use Rattle.std.proofs.Common.{inr, max, min}
use Rattle.std.specs.Prelude.{◌==◌, if◌then◌else◌}
use Rattle.std.proofs.lemmas.Bool.{cases_Bool}
use Rattle.numa_ranges.specs.Runs.{AreApart, end_of}
use Rattle.numa_ranges.specs.declared.run.Run.{Run}
use Rattle.numa_ranges.proofs.Apart.{in_pages-above, in_pages-true, page_at-before}
use Rattle.numa_placed.proofs.Stating.{AreLeft}
use Rattle.numa_pools.specs.Pools.{moving_one, renewing}
use Rattle.numa_huge.specs.Huge.{HugeLying, HugePlaced, huge_at, places_of, spot_in, with_span}
use Rattle.numa_huge.specs.Moves.{HugeTold, HugeWalk, goal, is_astray, passing, replacing, sending}
use Rattle.numa_huge.specs.Moves.{sent_page, sent_pages, sent_where}
use Rattle.numa_huge.specs.Tallies.{IsWalk}
use Rattle.numa_huge.specs.declared.last.Flows.{Flows}
use Rattle.numa_huge.specs.declared.spot.HugeSpot.{HugeSpot}
use Rattle.numa_huge.specs.declared.spot.HugeSpot.TheVariants.{Bare, Reserved, On}
use Rattle.numa_huge.proofs.Where.{IsSending, sending-end, sent-next}

-- ---- pages that stay

where-stay : (spot : Option HugeSpot) (page : ℕ) (nodes : List ℕ) (walk : HugeWalk)
    → sent_where false spot page nodes walk ≡ walk
where-stay None page nodes walk = refl
where-stay (Some Bare) page nodes walk = refl
where-stay (Some Reserved) page nodes walk = refl
where-stay (Some (On from)) page nodes walk = refl

module _ (list : ℕ) (nodes : ℕ → List ℕ) where
  sent-stay : (n first : ℕ) (walk : HugeWalk)
      → ((p : ℕ) → first ≤ p → p < first + n → is_astray list (walk.huge.spots p) ≡ false)
      → sent_pages list nodes first n walk ≡ walk
  unfolding sent_pages
  sent-stay zero first walk stay = refl
  sent-stay (suc n) first walk stay =
      let spot : Option HugeSpot = walk.huge.spots first in
      let here : sent_page list nodes first walk ≡ walk =
      ap (λ (b : Bool). sent_where b spot first (nodes first) walk)
      (stay first (omega arith) (omega arith)) ∙ where-stay spot first (nodes first) walk in
      ap (λ (w : HugeWalk). sent_pages list nodes (first + 1) n w) here
      ∙ sent-stay n (first + 1) walk
      (λ p low high. stay p (omega (arith, low)) (omega (arith, high)))

  -- some pages, and then others
  sent-split : (m n k first : ℕ) (walk : HugeWalk) → k ≡ m + n
      → sent_pages list nodes first k walk
      ≡ sent_pages list nodes (first + m) n (sent_pages list nodes first m walk)
  unfolding sent_pages
  sent-split zero n k first walk size =
      let same : k ≡ n = omega (arith, size) in
      let place : first ≡ first + 0 = omega arith in
      λ i. sent_pages list nodes (place i) (same i) walk
  sent-split (suc m) n k first walk size =
      let place : first + 1 + m ≡ first + suc m = omega arith in
      sent-next list nodes first (m + n) k walk (omega (arith, size))
      ∙ sent-split m n (m + n) (first + 1) (sent_page list nodes first walk) refl
      ∙ ap (λ (p : ℕ). sent_pages list nodes p n
      (sent_pages list nodes (first + 1) m (sent_page list nodes first walk))) place

-- ---- pages behind

passing-ahead : (first from to p : ℕ) (huge : HugeLying) → first < p
    → (passing first from to huge).spots p ≡ huge.spots p
passing-ahead first from to p huge l = by (from == to)
  where
    by : (b : Bool) → (if b then huge else record {
      pools = moving_one huge.pools from to;
      spots = with_span first 1 (Some (On to)) huge.spots;
    }).spots p ≡ huge.spots p
    by true = refl
    by false = ap (λ (b : Bool). if b then Some (On to) else huge.spots p)
        (in_pages-above first 1 p (omega (arith, l)))

replacing-ahead : (first from to p : ℕ) (huge : HugeLying) → first < p
    → (replacing first from to huge).spots p ≡ huge.spots p
replacing-ahead first from to p huge l = by (from == to)
  where
    by : (b : Bool) → (if b then (record huge { pools = renewing huge.pools from })
        else passing first from to huge).spots p ≡ huge.spots p
    by true = refl
    by false = passing-ahead first from to p huge l

sending-ahead : (to : Option ℕ) (first from p : ℕ) (walk : HugeWalk) → first < p
    → (sending first from to walk).huge.spots p ≡ walk.huge.spots p
sending-ahead None first from p walk l = refl
sending-ahead (Some to) first from p walk l = replacing-ahead first from to p walk.huge l

where-ahead : (b : Bool) (spot : Option HugeSpot) (first p : ℕ) (nodes : List ℕ) (walk : HugeWalk)
    → first < p → (sent_where b spot first nodes walk).huge.spots p ≡ walk.huge.spots p
where-ahead b None first p nodes walk l = refl
where-ahead b (Some Bare) first p nodes walk l = refl
where-ahead b (Some Reserved) first p nodes walk l = refl
where-ahead true (Some (On from)) first p nodes walk l =
    sending-ahead (goal walk.huge.pools nodes) first from p walk l
where-ahead false (Some (On from)) first p nodes walk l = refl

sent-ahead : (list : ℕ) (nodes : ℕ → List ℕ) (n first p : ℕ) (walk : HugeWalk) → first + n ≤ p
    → (sent_pages list nodes first n walk).huge.spots p ≡ walk.huge.spots p
unfolding sent_pages
sent-ahead list nodes zero first p walk far = refl
sent-ahead list nodes (suc n) first p walk far =
    sent-ahead list nodes n (first + 1) p (sent_page list nodes first walk) (omega (arith, far))
    ∙ where-ahead (is_astray list (walk.huge.spots first)) (walk.huge.spots first) first p
    (nodes first) walk (omega (arith, far))

-- ---- how far a call is

module _ (list : ℕ) (nodes : ℕ → List ℕ) (all : HugeWalk) (page to end : ℕ) (rises : page ≤ to)
    (high : to ≤ end) where
  seam : page + (to - page) ≡ to
  seam = omega (arith, rises)

  split : (walk : HugeWalk) → sent_pages list nodes page (end - page) walk
      ≡ sent_pages list nodes (page + (to - page)) (end - to)
      (sent_pages list nodes page (to - page) walk)
  split walk = sent-split list nodes (to - page) (end - to) (end - page) page walk
      (omega (arith, rises, high))

  -- pages that don't lie astray stay
  pub sending-skip : (huge : HugePlaced) (flows : Flows)
      → ((p : ℕ) → page ≤ p → p < to → is_astray list (huge_at huge.runs p) ≡ false)
      → IsSending list nodes all page (end - page) huge flows
      → IsSending list nodes all to (end - to) huge flows
  sending-skip huge flows stay so =
      let here : HugeWalk = record { huge = places_of huge; told = so.told } in
      let stays : sent_pages list nodes page (to - page) here ≡ here =
      sent-stay list nodes (to - page) page here
      (λ p low far. stay p low (omega (arith, far, rises))) in
      record {
        told = so.told;
        has = so.has;
        all_is = (λ i. sent_pages list nodes (sym seam i) (end - to) (sym stays i))
            ∙ sym (split here) ∙ so.all_is;
      }

  -- others go
  pub sending-part : (huge after : HugePlaced) (flows later : Flows)
      → (so : IsSending list nodes all page (end - page) huge flows)
      → IsWalk (sent_pages list nodes page (to - page)
      (record { huge = places_of huge; told = so.told })) after later
      → IsSending list nodes all to (end - to) after later
  sending-part huge after flows later so part =
      let here : HugeWalk = record { huge = places_of huge; told = so.told } in
      let done : HugeWalk = sent_pages list nodes page (to - page) here in
      let same : ◌≡◌ {A = HugeWalk} (record { huge = places_of after; told = done.told }) done =
      λ i. record { huge = part.pages i; told = done.told } in
      record {
        told = done.told;
        has = part.told;
        all_is = (λ i. sent_pages list nodes (sym seam i) (end - to) (same i))
            ∙ sym (split here) ∙ so.all_is;
      }

  -- those behind lie as they lay
  part-ahead : (huge after : HugePlaced) (told : HugeTold) (later : Flows)
      → IsWalk (sent_pages list nodes page (to - page)
      (record { huge = places_of huge; told = told })) after later → (p : ℕ) → to ≤ p
      → huge_at after.runs p ≡ huge_at huge.runs p
  part-ahead huge after told later part p far =
      ap (λ (h : HugeLying). h.spots p) part.pages
      ∙ sent-ahead list nodes (to - page) page p (record { huge = places_of huge; told = told })
      (omega (arith, far, rises))

-- ---- run by run

-- up to a page all went; those behind lie as the runs say that are left
pub record IsReached (list : ℕ) (nodes : ℕ → List ℕ) (all : HugeWalk) (end page : ℕ)
    (runs : List (Run HugeSpot)) (huge : HugePlaced) (flows : Flows) : Type 0 where
  pub sent : IsSending list nodes all page (end - page) huge flows
  pub ahead : (p : ℕ) → page ≤ p → p < end → huge_at huge.runs p ≡ huge_at runs p
  pub high : page ≤ end

-- up to its end if its pages lie astray, else none of it goes
abbrev pub part_end : Bool → ℕ → ℕ → ℕ
part_end astray from to = if astray then to else from

pub part-within : (b : Bool) (from to part : ℕ) → from ≤ to → part ≡ part_end b from to
    → (from ≤ part) × (part ≤ to)
part-within true from to part rises is = (omega (arith, rises, is), omega (arith, is))
part-within false from to part rises is = (omega (arith, is), omega (arith, rises, is))

module _ (list : ℕ) (nodes : ℕ → List ℕ) (all : HugeWalk) (end page : ℕ) (huge : HugePlaced)
    (flows : Flows) where
  pub reached-end : (runs : List (Run HugeSpot)) → runs ≡ []
      → IsReached list nodes all end page runs huge flows → IsWalk all huge flows
  reached-end runs none so =
      sending-end list nodes all end (end - end) huge flows (omega arith)
      (sending-skip list nodes all page end end so.high (omega arith) huge flows
      (λ p low far. ap (is_astray list) (so.ahead p low far
      ∙ ap (λ (r : List (Run HugeSpot)). huge_at r p) none)) so.sent)

  module _ (before rest : List (Run HugeSpot)) (run : Run HugeSpot) (left : AreLeft before)
      (steps : before ≡ run ∷ rest) (so : IsReached list nodes all end page before huge flows)
    where
      at-run : (p : ℕ) → huge_at before p ≡ huge_at (run ∷ rest) p
      at-run p = ap (λ (r : List (Run HugeSpot)). huge_at r p) steps

      -- pages that no run has yet
      before-run : (p : ℕ) → page ≤ p → p < end → p < run.first
          → is_astray list (huge_at huge.runs p) ≡ false
      before-run p low high l =
          let apart = subst (AreApart left.low) steps left.apart in
          ap (is_astray list) (so.ahead p low high ∙ at-run p
          ∙ ap spot_in (page_at-before run.first (run ∷ rest) p
          (omega arith, apart.1, apart.2, apart.3) l))

      pub reached-over : end ≤ run.first → IsWalk all huge flows
      reached-over over =
          sending-end list nodes all end (end - end) huge flows (omega arith)
          (sending-skip list nodes all page end end so.high (omega arith) huge flows
          (λ p low far. before-run p low far (omega (arith, far, over))) so.sent)

      pub reached-from : (from : ℕ) → from ≡ max run.first page → run.first < end
          → IsSending list nodes all from (end - from) huge flows
      reached-from from is begins =
          sending-skip list nodes all page from end (omega (arith, is))
          (omega (arith, is, begins, so.high)) huge flows
          (λ p low far. before-run p low (omega (arith, far, is, begins, so.high))
          (omega (arith, far, is, low))) so.sent

      module _ (from part to : ℕ) (from_is : from ≡ max run.first page) (begins : run.first < end)
          (to_is : to ≡ max (min (end_of run) end) from)
          (part_is : part ≡ part_end (is_astray list (Some run.value)) from to) where
        within : (from ≤ part) × (part ≤ to)
        within = part-within (is_astray list (Some run.value)) from to part (omega (arith, to_is))
            part_is

        near : to ≤ end
        near = omega (arith, from_is, to_is, begins, so.high)

        pub reached-next : (after : HugePlaced) (later : Flows)
            → (at : IsSending list nodes all from (end - from) huge flows)
            → IsWalk (sent_pages list nodes from (part - from)
            (record { huge = places_of huge; told = at.told })) after later
            → IsReached list nodes all end to rest after later
        reached-next after later at went =
            let behind : (p : ℕ) → part ≤ p → p < end → huge_at after.runs p ≡ huge_at before p =
            λ p low far. part-ahead list nodes all from part end within.0
            (omega (arith, within.1, near)) huge after at.told later went p low
            ∙ so.ahead p (omega (arith, low, within.0, from_is)) far in
            record {
              sent = sending-skip list nodes all part to end within.1 near after later
                  (λ p low far. elim (cases_Bool (is_astray list (Some run.value))) [
                    | inl t ↦
                        let same : part ≡ to =
                        part_is ∙ ap (λ (b : Bool). part_end b from to) t in
                        absurd (omega (arith, same, low, far))
                    | inr e ↦
                        let here : huge_at (run ∷ rest) p ≡ Some run.value =
                        rw (in_pages-true run.first run.pages p
                        (omega (arith, low, within.0, from_is))
                        (omega (arith, low, within.0, far, to_is))) refl in
                        ap (is_astray list) (behind p low (omega (arith, far, near)) ∙ at-run p
                        ∙ here) ∙ e
                  ])
                  (sending-part list nodes all from part end within.0
                  (omega (arith, within.1, near)) huge after flows later at went);
              ahead = λ p low far. behind p (omega (arith, low, within.1)) far ∙ at-run p
                  ∙ rw (in_pages-above run.first run.pages p (omega (arith, low, far, to_is))) refl;
              high = near;
            }
