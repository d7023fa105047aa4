-- What the host stands for once a process acted.
use Rattle.std.proofs.Common.{◌≡◌, ℕ, ◌∙◌, Option, Some, None, List, [], ◌∷◌, ◌++◌, get_or}
use Rattle.std.proofs.Common.{Result, refl, sym, ap, subst}
use Rattle.numa_pools.specs.Pools.{PoolCounts}
use Rattle.numa_huge.specs.Huge.{HugeLying}
use Rattle.numa_huge.specs.Moves.{HugeMemory}
use Rattle.numa_huge.specs.Tallies.{IsMemory}
use Rattle.numa_page_state.specs.Huge.{HugeMoves, huge_fault, huge_move, huge_page}
use Rattle.numa_page_state.specs.Lying.{ground_in}
use Rattle.numa_page_state.specs.Outcomes.{Lack}
use Rattle.numa_requests.specs.declared.page_refusal.MoveRefusal.{MoveRefusal}
use Rattle.numa_requests.specs.declared.page_refusal.PlacedRefusal.{PlacedRefusal}
use Rattle.numa_space.specs.Standing.{SpaceState}
use Rattle.numa_host_huge.specs.Kept.{HugeKept, IsChangedAt}
use Rattle.numa_host_huge.specs.Sharing.{HugeHome, Sharing, begun, begun_in, given_back, given_if}
use Rattle.numa_host_huge.specs.Sharing.{home_of, kept_of, lent, memory_in}
use Rattle.numa_host_huge.specs.Standing.{Becomes, Changes, FaultsIn, HugeLies, IsHome}
use Rattle.numa_host_huge.specs.Standing.{LiesApart, MovesIn}
use Rattle.numa_host_huge.specs.declared.sharer.Sharer.{Sharer}
use Rattle.numa_host_huge.proofs.Changed.{homes-begun, homes-changed}
use Rattle.numa_host_huge.proofs.Places.{IsAt, IsNowhere, at-home, at-id, nowhere-home}

-- the pages of a process find the pools of the host
pub lent-is : (kept : Sharer) (home : HugeHome) (pools : PoolCounts) → IsHome kept home
    → kept.pages.value.places.pools ≡ pools → IsMemory kept.pages.value (lent pools home)
lent-is kept home pools is same = record {
  pages = λ i. record { pools = same i; spots = (is.pages.1.pages i).spots };
  told = is.pages.1.told;
  arrived = is.pages.1.arrived;
}

module _ (old new : HugeKept) (process place : ℕ) (d : Sharer)
    (at : IsAt old.sharers process place) (changed : IsChangedAt place old.sharers new.sharers)
    (pools : new.pools ≡ (get_or new.sharers place d).pages.value.places.pools) where
  -- the process at a place has these pages
  pub given-at : (there : Sharing) (home : HugeHome) (memory : HugeMemory)
      → HugeLies old there → IsHome (get_or old.sharers place d) home
      → IsMemory (get_or new.sharers place d).pages.value memory
      → HugeLies new (given_back process memory there)
  given-at there home memory lies stands is = record {
    pools = pools ∙ ap (λ (p : HugeLying). p.pools) is.pages;
    homes = homes-changed old.sharers new.sharers there.homes process place d memory changed at
        lies.homes (record {
          id = changed.id d ∙ at-id old.sharers process place d at;
          pages = (memory.pages.pools, is);
        });
  }

  pub changes-at : (change : HugeMemory → HugeMemory)
      → ((home : HugeHome) → IsHome (get_or old.sharers place d) home
      → IsMemory (get_or new.sharers place d).pages.value (change (lent old.pools home)))
      → Changes process old new change
  changes-at change does there lies =
      let has = at-home old.sharers there.homes process place d lies.homes at in
      let memory : IsMemory (get_or new.sharers place d).pages.value
      (change (lent there.pools has.home)) =
      subst (λ (p : PoolCounts). IsMemory (get_or new.sharers place d).pages.value
      (change (lent p has.home))) lies.pools (does has.home has.stands) in
      rw has.is (given-at there has.home (change (lent there.pools has.home)) lies has.stands
      memory)

  pub becomes-at : (change : HugeMemory → HugeMemory)
      → ((home : HugeHome) → IsHome (get_or old.sharers place d) home
      → IsMemory (get_or new.sharers place d).pages.value (change (lent old.pools home)))
      → Becomes process old new change
  becomes-at change does there lies =
      let has = at-home old.sharers there.homes process place d lies.homes at in
      let memory : IsMemory (get_or new.sharers place d).pages.value
      (change (lent there.pools has.home)) =
      subst (λ (p : PoolCounts). IsMemory (get_or new.sharers place d).pages.value
      (change (lent p has.home))) lies.pools (does has.home has.stands) in
      rw has.is (given-at there has.home (change (lent there.pools has.home)) lies has.stands
      memory)

module _ (old new : HugeKept) (process place : ℕ) (d : Sharer)
    (at : IsAt old.sharers process place) (changed : IsChangedAt place old.sharers new.sharers)
    (pools : new.pools ≡ (get_or new.sharers place d).pages.value.places.pools) where
  -- a page was touched
  pub faults-at : (result : Result (Option ℕ) PlacedRefusal) (page : ℕ) (nodes : List ℕ)
      → ((home : HugeHome) → IsHome (get_or old.sharers place d) home → (lack : Lack)
      × ((huge_fault lack page nodes (lent old.pools home).pages).0 ≡ result)
      × IsMemory (get_or new.sharers place d).pages.value (record (lent old.pools home) {
        pages = (huge_fault lack page nodes (lent old.pools home).pages).1;
      })) → FaultsIn process old result new page nodes
  faults-at result page nodes does there lies =
      let has = at-home old.sharers there.homes process place d lies.homes at in
      let done = subst (λ (p : PoolCounts). (lack : Lack)
      × ((huge_fault lack page nodes (lent p has.home).pages).0 ≡ result)
      × IsMemory (get_or new.sharers place d).pages.value (record (lent p has.home) {
        pages = (huge_fault lack page nodes (lent p has.home).pages).1;
      })) lies.pools (does has.home has.stands) in
      rw has.is (
        done.0,
        done.1,
        given-at old new process place d at changed pools there has.home
            (record (lent there.pools has.home) {
              pages = (huge_fault done.0 page nodes (lent there.pools has.home).pages).1;
            }) lies has.stands done.2,
      )

  -- or moved
  pub moves-at : (result : Result (Unit {0}) MoveRefusal) (space : SpaceState) (address node : ℕ)
      → ((home : HugeHome) → IsHome (get_or old.sharers place d) home
      → HugeMoves (lent old.pools home) result (get_or new.sharers place d).pages.value
      (ground_in space []) (huge_page address) node)
      → MovesIn process old result new space address node
  moves-at result space address node does there lies =
      let has = at-home old.sharers there.homes process place d lies.homes at in
      let done = subst (λ (p : PoolCounts). HugeMoves (lent p has.home) result
      (get_or new.sharers place d).pages.value (ground_in space []) (huge_page address) node)
      lies.pools (does has.home has.stands) in
      rw has.is (
        done.0,
        done.1,
        given-at old new process place d at changed pools there has.home
            (huge_move done.0 (ground_in space []) (huge_page address) node
            (lent there.pools has.home)).1 lies has.stands done.2,
      )

-- what is told of it changes, and no page
pub tells-at : (pools : PoolCounts) (xs ys : List Sharer) (process place : ℕ) (d : Sharer)
    → IsAt xs process place → IsChangedAt place xs ys → (change : HugeMemory → HugeMemory)
    → ((q : PoolCounts) (home : HugeHome) → IsHome (get_or xs place d) home
    → LiesApart (get_or ys place d).pages.value (kept_of process (change (lent q home))))
    → ((q : PoolCounts) (home : HugeHome) → (change (lent q home)).pages.pools ≡ q)
    → Changes process (record { pools = pools; sharers = xs })
    (record { pools = pools; sharers = ys }) change
tells-at pools xs ys process place d at changed change does same there lies =
    let has = at-home xs there.homes process place d lies.homes at in
    rw has.is (record {
      pools = lies.pools ∙ sym (same there.pools has.home);
      homes = homes-changed xs ys there.homes process place d
          (change (lent there.pools has.home)) changed at lies.homes (record {
            id = changed.id d ∙ at-id xs process place d at;
            pages = does there.pools has.home has.stands;
          });
    })

-- a process without pages stays without
pub changes-nowhere : (kept : HugeKept) (process : ℕ) (change : HugeMemory → HugeMemory)
    → IsNowhere kept.sharers process → Changes process kept kept change
changes-nowhere kept process change absent there lies =
    rw (nowhere-home kept.sharers there.homes process lies.homes absent) lies

-- or begins with these
pub becomes-behind : (old new : HugeKept) (process : ℕ) (y : Sharer)
    (change : HugeMemory → HugeMemory) → IsNowhere old.sharers process
    → new.sharers ≡ old.sharers ++ y ∷ [] → new.pools ≡ y.pages.value.places.pools
    → y.id ≡ process
    → ((pools : PoolCounts) → IsMemory y.pages.value (change (begun pools None)))
    → Becomes process old new change
becomes-behind old new process y change absent sharers pools id is there lies =
    let memory = change (begun there.pools None) in
    let has = is there.pools in
    rw (nowhere-home old.sharers there.homes process lies.homes absent) (record {
      pools = pools ∙ ap (λ (p : HugeLying). p.pools) has.pages;
      homes = rw sharers (homes-begun old.sharers there.homes process y memory absent lies.homes
          (record { id = id; pages = (memory.pages.pools, has) }));
    })
