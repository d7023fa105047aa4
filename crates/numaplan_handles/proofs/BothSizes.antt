-- Where pages of both sizes of a host's process lie, and how many came and went.
use Rattle.std.proofs.Common.{◌≡◌, ℕ, ◌+◌, ◌*◌, ◌<◌, Option, Some, None, List, sym, ap}
use Rattle.std.proofs.Common.{◌∙◌, Bor, subst}
use Rattle.std.specs.Prelude.{◌/◌, IfOk, IsSomeAnd, MatchOption, Result, slice_index}
use Rattle.numa_machine.specs.declared.no_memory.NoMemory.{NoMemory}
use Rattle.numa_ranges.specs.declared.run.Run.{Run}
use Rattle.numa_placed.specs.Spots.{is_on, node_of, pages_where}
use Rattle.numa_placed.specs.declared.spot.Spot.{Spot}
use Rattle.numa_placed.specs.declared.spot.Spot.TheVariants.{Nowhere}
use Rattle.numa_huge.specs.Huge.{HugePlaced, huge_at, node_of as huge_node, on_node, pages_of}
use Rattle.numa_huge.specs.Huge.{places_of}
use Rattle.numa_huge.specs.Moves.{HugeArrival, HugeMemory}
use Rattle.numa_huge.specs.Tallies.{HasTold, HaveArrived, flow_of, left_of, moved_of}
use Rattle.numa_huge.specs.declared.arrived.HugeArrived.{HugeArrived}
use Rattle.numa_huge.specs.declared.last.HugeLast.{HugeLast}
use Rattle.numa_huge.specs.declared.pages.HugePages.{HugePages}
use Rattle.numa_huge.specs.declared.spot.HugeSpot.{HugeSpot}
use Rattle.numa_host_pages.specs.Summed.{both_pages}
use Rattle.numa_page_state.specs.Lying.{Arrival, Sent}
use Rattle.numa_page_state.specs.Standing.{ArrivedAs}
use Rattle.numa_page_state.specs.declared.arrived.Arrived.{Arrived}
use Rattle.numa_pages.specs.Sizes.{both_spots, part_spot}
use Rattle.numa_pages.proofs.Parts.{part-node, whole-node}
use Rattle.numa_host_script.specs.Acting.{TellsHuge}
use Rattle.numaplan_handles.specs.Hosted.{CameWith, TellsSent, arrival_of, on_with}
use Rattle.numaplan_handles.specs.Hosted.{sent_with, spots_with}
use Rattle.numaplan_handles.specs.declared.flows.LastFlows.{LastFlows}

-- ---- where they lie

module _ (spots : ℕ → Spot) (page : ℕ) (runs : List (Run HugeSpot)) where
  -- a part of a page of 2 MiB
  pub large-node : (memory : Option HugeMemory) (spot : HugeSpot)
      → IsSomeAnd memory (λ memory. huge_at runs ≡ memory.pages.spots)
      → Some spot ≡ huge_at runs (page / 512)
      → huge_node (Some spot) ≡ node_of (spots_with memory spots page)
  large-node None spot has is = absurd has
  large-node (Some memory) spot has is = part-node memory.pages spots page spot
      (is ∙ ap (λ (f : ℕ → Option HugeSpot). f (page / 512)) has)

  -- or one of 4 KiB
  pub lone-node : (memory : Option HugeMemory)
      → IsSomeAnd memory (λ memory. huge_at runs ≡ memory.pages.spots)
      → None ≡ huge_at runs (page / 512)
      → node_of (spots page) ≡ node_of (spots_with memory spots page)
  lone-node None has is = absurd has
  lone-node (Some memory) has is = whole-node memory.pages spots page
      (is ∙ ap (λ (f : ℕ → Option HugeSpot). f (page / 512)) has)

-- where there are none of 2 MiB
pub same-node : (spots : ℕ → Spot) (page : ℕ) (memory : Option HugeMemory) → memory ≡ None
    → node_of (spots page) ≡ node_of (spots_with memory spots page)
same-node spots page memory none =
    ap (λ (m : Option HugeMemory). node_of (spots_with m spots page)) (sym none)

-- how many lie on a node
pub counted-with : (memory : Option HugeMemory) (spots : ℕ → Spot) (runs : List (Run HugeSpot))
    (node small all : ℕ) → IsSomeAnd memory (λ memory. huge_at runs ≡ memory.pages.spots)
    → small ≡ pages_where (is_on node) spots
    → all ≡ 512 * pages_of (on_node node) (huge_at runs) + small
    → all ≡ on_with memory spots node
counted-with None spots runs node small all has are is = absurd has
counted-with (Some memory) spots runs node small all has are is =
    is ∙ (λ i. 512 * pages_of (on_node node) (has i) + are i)

pub counted-alone : (memory : Option HugeMemory) (spots : ℕ → Spot) (node all : ℕ)
    → memory ≡ None → all ≡ pages_where (is_on node) spots → all ≡ on_with memory spots node
counted-alone memory spots node all none is =
    is ∙ ap (λ (m : Option HugeMemory). on_with m spots node) (sym none)

-- ---- runs

pub sizes-alike : (huge : Option (Bor HugePlaced)) (memory : Option HugeMemory)
    (spots lies : ℕ → Spot) → ((page : ℕ) → lies page ≡ spots page)
    → MatchOption huge (memory ≡ None) (λ it. IsSomeAnd memory
    (λ memory. huge_at it.now.runs ≡ memory.pages.spots))
    → MatchOption huge ((page : ℕ) → spots_with memory spots page ≡ lies page)
    (λ it. (page : ℕ) → spots_with memory spots page ≡ both_spots (places_of it.now) lies page)
sizes-alike None memory spots lies same none = λ page.
    ap (λ (m : Option HugeMemory). spots_with m spots page) none ∙ sym (same page)
sizes-alike (Some it) None spots lies same has = absurd has
sizes-alike (Some it) (Some memory) spots lies same has = λ page i.
    part_spot (sym has i (page / 512)) (sym (same page) i)

pub none-with : (memory : Option HugeMemory) (spots : ℕ → Spot) (page : ℕ) → memory ≡ None
    → spots page ≡ Nowhere → spots_with memory spots page ≡ Nowhere
none-with memory spots page none is =
    ap (λ (m : Option HugeMemory). spots_with m spots page) none ∙ is

-- ---- a move

module _ (memory : HugeMemory) (huge : HugeLast) (told : HasTold huge memory.told) (sent : Sent)
  where
    pub both-moved : (small all : ℕ) → small ≡ sent.moved → all ≡ both_pages small (moved_of huge)
        → all ≡ (sent_with (Some memory) sent).moved
    both-moved small all are is = is ∙ (λ i. both_pages (are i) (told.moved i))

    pub both-left : (small all : ℕ) → small ≡ sent.left → all ≡ both_pages small (left_of huge)
        → all ≡ (sent_with (Some memory) sent).left
    both-left small all are is = is ∙ (λ i. both_pages (are i) (told.left i))

    pub both-went : (from to small large all : ℕ) → from < 256 → to < 256
        → small ≡ sent.flow from to → large ≡ flow_of huge from to → all ≡ both_pages small large
        → all ≡ (sent_with (Some memory) sent).flow from to
    both-went from to small large all low near are has is =
        is ∙ (λ i. both_pages (are i) ((has ∙ told.flow from to low near) i))

pub flows-both : (memory : Option HugeMemory) (huge : HugeLast) (sent : Sent)
    (found : Result LastFlows NoMemory) → IsSomeAnd memory (λ memory. HasTold huge memory.told)
    → ((memory : HugeMemory) → HasTold huge memory.told
    → IfOk found (TellsSent (sent_with (Some memory) sent)))
    → IfOk found (TellsSent (sent_with memory sent))
flows-both None huge sent found told tells = absurd told
flows-both (Some memory) huge sent found told tells = tells memory told

-- what is kept of a process's pages of 2 MiB, part by part
module _ (memory : Option HugeMemory) where
  pub kept-places : (kept : HugePages) → IsSomeAnd memory (TellsHuge kept)
      → IsSomeAnd memory (λ memory. huge_at kept.places.runs ≡ memory.pages.spots)
  kept-places kept has = by memory has
    where
      by : (m : Option HugeMemory) → IsSomeAnd m (TellsHuge kept)
          → IsSomeAnd m (λ memory. huge_at kept.places.runs ≡ memory.pages.spots)
      by None has' = absurd has'
      by (Some memory') has' = has'.spots

  pub kept-last : (kept : HugePages) → IsSomeAnd memory (TellsHuge kept)
      → IsSomeAnd memory (λ memory. HasTold kept.last memory.told)
  kept-last kept has = by memory has
    where
      by : (m : Option HugeMemory) → IsSomeAnd m (TellsHuge kept)
          → IsSomeAnd m (λ memory. HasTold kept.last memory.told)
      by None has' = absurd has'
      by (Some memory') has' = has'.told

-- ---- first touches

pub kept-arrived : (memory : Option HugeMemory) (kept : HugePages)
    → IsSomeAnd memory (TellsHuge kept) → HaveArrived kept.arrived (arrival_of memory)
kept-arrived None kept has = absurd has
kept-arrived (Some memory) kept has = has.arrived

pub came-both : (told : Option HugeArrival) (small all : Arrived) (huge : HugeArrived)
    (kept : Option HugeArrived) (arrival : Arrival) → kept ≡ Some huge → HaveArrived kept told
    → ArrivedAs small arrival → all.placed ≡ both_pages small.placed huge.placed
    → all.exhausted ≡ both_pages small.exhausted huge.exhausted
    → ((node : ℕ) → node < 256 → slice_index all.on node
    ≡ both_pages (slice_index small.on node) (slice_index huge.on node))
    → CameWith told all arrival
came-both told small all huge kept arrival is have so placed exhausted on =
    by told (subst (λ (k : Option HugeArrived). HaveArrived k told) is have)
  where
    by : (t : Option HugeArrival) → HaveArrived (Some huge) t → CameWith t all arrival
    by None has = absurd has
    by (Some it) has = record {
      placed = placed ∙ (λ i. both_pages (so.placed i) (has.placed i));
      exhausted = exhausted ∙ (λ i. both_pages (so.exhausted i) (has.exhausted i));
      on = λ node near. on node near
          ∙ (λ i. both_pages (so.on node near i) (has.on node near i));
    }

pub came-alone : (told : Option HugeArrival) (small : Arrived) (kept : Option HugeArrived)
    (arrival : Arrival) → kept ≡ None → HaveArrived kept told → ArrivedAs small arrival
    → CameWith told small arrival
came-alone told small kept arrival is have so =
    by told (subst (λ (k : Option HugeArrived). HaveArrived k told) is have)
  where
    by : (t : Option HugeArrival) → HaveArrived None t → CameWith t small arrival
    by None has = so
    by (Some it) has = absurd has

pub came-small : (memory : Option HugeMemory) (small : Arrived) (arrival : Arrival)
    → memory ≡ None → ArrivedAs small arrival → CameWith (arrival_of memory) small arrival
came-small memory small arrival none so =
    subst (λ (m : Option HugeMemory). CameWith (arrival_of m) small arrival) (sym none) so
