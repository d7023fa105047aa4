-- Pages that are made for a child.
use Rattle.std.proofs.Common.{◌≡◌, ℕ, ◌+◌, ◌<◌, ◌≤◌, ◌∙◌, Bool, false, Option, Some, None, Box}
use Rattle.std.proofs.Common.{Result, Ok, Err, IfOk, List, [], ◌∷◌, ◌++◌, length, refl, sym, ap}
use Rattle.std.proofs.Common.{append-nil, arith, inl, inr, subst}
use Rattle.std.specs.Prelude.{◌==◌}
use Rattle.std.proofs.lemmas.Bool.{cases_Bool}
use Rattle.std.specs.Global.{Global}
use Rattle.numa_machine.specs.declared.no_memory.NoMemory.{NoMemory}
use Rattle.numa_ranges.proofs.Counted.{count-none}
use Rattle.numa_pools.specs.Pools.{PoolCounts}
use Rattle.numa_huge.specs.Huge.{HugePlaced, bare_spot, has_reserved, huge_at, most_pages, node_of}
use Rattle.numa_huge.specs.Huge.{on_node, places_of}
use Rattle.numa_huge.specs.Kept.{ArePooled}
use Rattle.numa_huge.specs.Moves.{stayed}
use Rattle.numa_huge.specs.Tallies.{IsMemory}
use Rattle.numa_huge.specs.declared.pages.HugePages.{HugePages}
use Rattle.numa_huge.specs.declared.spot.HugeSpot.{HugeSpot}
use Rattle.numa_huge.specs.declared.spot.HugeSpot.TheVariants.{Bare, Reserved, On}
use Rattle.numa_host_huge.specs.Kept.{AreShared, AreUntouched, HugeKept, spots_of}
use Rattle.numa_host_huge.specs.Sharing.{HugeHome, Sharing, child_of, children, ended, forked}
use Rattle.numa_host_huge.specs.Sharing.{home_of, others_of}
use Rattle.numa_host_huge.specs.Standing.{AreHomes, HugeLies, IsChildOf, LiesApart}
use Rattle.numa_host_huge.specs.declared.sharer.Sharer.{Sharer}
use Rattle.numa_host_huge.proofs.Changed.{homes-behind}
use Rattle.numa_host_huge.proofs.Sums.{pooled-all, shared-behind}

-- nothing of them was touched, and nothing is reserved
bare-nowhere : (spot : Option HugeSpot) → node_of (bare_spot spot) ≡ None
bare-nowhere None = refl
bare-nowhere (Some spot) = refl

bare-free : (spot : Option HugeSpot) → has_reserved (bare_spot spot) ≡ false
bare-free None = refl
bare-free (Some spot) = refl

pub bare-untouched : (parent made : ℕ → Option HugeSpot)
    → ((page : ℕ) → made page ≡ bare_spot (parent page)) → AreUntouched made
bare-untouched parent made is = record {
  nowhere = λ page. ap node_of (is page) ∙ bare-nowhere (parent page);
  free = λ page. ap has_reserved (is page) ∙ bare-free (parent page);
}

pub child-lies : (parent made : HugePages) (places : HugePlaced) (child : ℕ) (home : HugeHome)
    → LiesApart parent home → IsMemory made (record {
      pages = places_of places;
      told = stayed;
      arrived = None;
    }) → ((page : ℕ) → huge_at places.runs page ≡ bare_spot (huge_at parent.places.runs page))
    → LiesApart made (child_of child home)
child-lies parent made places child home lies memory is =
    let spots : (page : ℕ) → huge_at places.runs page ≡ bare_spot (home.spots page) =
    λ page. is page ∙ ap (λ (s : ℕ → Option HugeSpot). bare_spot (s page))
    (λ i. (lies.1.pages i).spots) in (
      places.pools,
      record {
        pages = memory.pages ∙ (λ i. record {
          pools = places.pools;
          spots = λ page. spots page i;
        });
        told = memory.told;
        arrived = memory.arrived;
      },
    )

pub if-made : (made : Result (Box HugePages Global) NoMemory) (pages : HugePages)
    (P : HugePages → Type 0) → IfOk made (λ kept. kept.value ≡ pages) → P pages
    → IfOk made (λ kept. P kept.value)
if-made (Ok kept) pages P is holds = subst P (sym is) holds
if-made (Err why) pages P is holds = tt

-- ---- it comes behind all others

spot-nowhere : (spot : Option HugeSpot) (node : ℕ) → node_of spot ≡ None
    → on_node node spot ≡ false
spot-nowhere None node none = refl
spot-nowhere (Some Bare) node none = refl
spot-nowhere (Some Reserved) node none = refl
spot-nowhere (Some (On other)) node none = absurd (cc)

pub born-shared : (pools : PoolCounts) (xs : List Sharer) (y : Sharer) → AreShared pools xs
    → AreUntouched (spots_of y) → length xs < 4096 → AreShared pools (xs ++ y ∷ [])
born-shared pools xs y shared bare few =
    let all = pooled-all pools xs shared in
    shared-behind pools pools xs y shared few (record {
      used = λ node small. omega (
        arith,
        all.used node small,
        count-none (λ page. on_node node None) 0 most_pages (λ page low high. refl),
        count-none (λ page. on_node node (spots_of y page)) 0 most_pages
            (λ page low high. spot-nowhere (spots_of y page) node (bare.nowhere page)),
      );
      reserved = omega (
        arith,
        all.reserved,
        count-none (λ page. has_reserved None) 0 most_pages (λ page low high. refl),
        count-none (λ page. has_reserved (spots_of y page)) 0 most_pages
            (λ page low high. bare.free page),
      );
    })

children-none : (child : ℕ) (parent : Option HugeHome) → IsChildOf child None parent
    → children child parent ≡ []
children-none child None is = refl
children-none child (Some parent) is = absurd is

children-some : (child : ℕ) (parent : Option HugeHome) (pages : Box HugePages Global)
    → IsChildOf child (Some pages) parent
    → (home : HugeHome) × (parent ≡ Some home) × LiesApart pages.value (child_of child home)
children-some child None pages is = absurd is
children-some child (Some home) pages is = (home, refl, is)

pub born-none : (kept : HugeKept) (there : Sharing) (parent child : ℕ) → HugeLies kept there
    → IsChildOf child None (home_of parent there.homes)
    → HugeLies kept (forked parent child there)
born-none kept there parent child lies is = record {
  pools = lies.pools;
  homes = subst (AreHomes kept.sharers) (sym (ap (λ (hs : List HugeHome). there.homes ++ hs)
      (children-none child (home_of parent there.homes) is) ∙ append-nil there.homes)) lies.homes;
}

pub born-some : (pools : PoolCounts) (xs : List Sharer) (there : Sharing) (parent child : ℕ)
    (y : Sharer) → y.id ≡ child → HugeLies (record { pools = pools; sharers = xs }) there
    → IsChildOf child (Some y.pages) (home_of parent there.homes)
    → HugeLies (record { pools = pools; sharers = xs ++ y ∷ [] }) (forked parent child there)
born-some pools xs there parent child y id lies is =
    let has = children-some child (home_of parent there.homes) y.pages is in
    rw has.1 (record {
      pools = lies.pools;
      homes = homes-behind xs there.homes y (child_of child has.0) lies.homes
          (record { id = id; pages = has.2 });
    })

-- ---- one without pages ends

others-same : (homes : List HugeHome) (process : ℕ) → home_of process homes ≡ None
    → others_of process homes ≡ homes
others-same [] process none = refl
others-same (home ∷ homes) process none =
    elim (cases_Bool (home.id == process)) [
      | inl e ↦ let here : Some home ≡ None = rw e at none in absurd (cc)
      | inr e ↦
          let later : home_of process homes ≡ None = rw e at none in
          rw e (ap (λ (hs : List HugeHome). home ∷ hs) (others-same homes process later))
    ]

pub ended-none : (kept : HugeKept) (there : Sharing) (process : ℕ) → HugeLies kept there
    → home_of process there.homes ≡ None → HugeLies kept (ended process there)
ended-none kept there process lies none = record {
  pools = lies.pools ∙ sym (rw none refl);
  homes = subst (AreHomes kept.sharers) (sym (others-same there.homes process none)) lies.homes;
}
