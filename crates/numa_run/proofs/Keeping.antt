-- The pages of 2 MiB that a running machine keeps, and those of the states that it stands for.
use Rattle.std.proofs.Common.{◌≡◌, ℕ, Bool, false, List, Option, Some, None, is_some}
use Rattle.std.proofs.Common.{refl, sym, ap, subst, ◌∙◌}
use Rattle.std.specs.Prelude.{slice_index}
use Rattle.numa_ranges.specs.declared.run.Run.{Run}
use Rattle.numa_space.specs.Policies.{allowed_nodes}
use Rattle.numa_pools.specs.Pools.{PoolCounts}
use Rattle.numa_huge.specs.Huge.{HugeLying, places_of}
use Rattle.numa_huge.specs.Moves.{HugeArrival, HugeMemory, HugeTold, memory_or}
use Rattle.numa_huge.specs.Tallies.{HaveArrived, IsMemory, StandsForHuge, flow_of, left_of}
use Rattle.numa_huge.specs.Tallies.{moved_of}
use Rattle.numa_huge.specs.declared.arrived.HugeArrived.{HugeArrived}
use Rattle.numa_huge.specs.declared.last.HugeLast.{HugeLast}
use Rattle.numa_huge.specs.declared.pages.HugePages.{HugePages}
use Rattle.numa_huge.specs.declared.spot.HugeSpot.{HugeSpot}
use Rattle.numa_run.specs.HugeLines.{memory_on, pools_on, with_pages, with_pools}
use Rattle.numa_run.specs.Standing.{RunsAs}
use Rattle.numa_run.specs.States.{State}
use Rattle.numa_run.specs.declared.running.Running.{Running}

-- ---- what is kept stands for something

abbrev told_of : HugeLast → HugeTold
told_of last = record { moved = moved_of last; left = left_of last; flow = flow_of last }

abbrev arrived_of : Option HugeArrived → Option HugeArrival
arrived_of None = None
arrived_of (Some arrived) = Some (record {
  placed = arrived.placed;
  exhausted = arrived.exhausted;
  on = slice_index arrived.on;
})

abbrev pub remembered : HugePages → HugeMemory
remembered kept = record {
  pages = places_of kept.places;
  told = told_of kept.last;
  arrived = arrived_of kept.arrived;
}

have-arrived : (arrived : Option HugeArrived) → HaveArrived arrived (arrived_of arrived)
have-arrived None = tt
have-arrived (Some arrived) = record {
  placed = refl;
  exhausted = refl;
  on = λ node small. refl;
}

pub is-remembered : (kept : HugePages) → IsMemory kept (remembered kept)
is-remembered kept = record {
  pages = refl;
  told = record { moved = refl; left = refl; flow = λ from to low high. refl };
  arrived = have-arrived kept.arrived;
}

-- what holds of all that it can stand for holds of that
pub kept-test : (test : Option HugeMemory → Bool) (wanted : Bool) (huge : Option HugePages)
    (kept : HugePages) → huge ≡ Some kept
    → ((memory : Option HugeMemory) → StandsForHuge huge memory → test memory ≡ wanted)
    → test (Some (remembered kept)) ≡ wanted
kept-test test wanted huge kept is all =
    all (Some (remembered kept)) (subst (λ (h : Option HugePages). StandsForHuge h
    (Some (remembered kept))) (sym is) (is-remembered kept))

pub none-test : (test : Option HugeMemory → Bool) (wanted : Bool) (huge : Option HugePages)
    → huge ≡ None
    → ((memory : Option HugeMemory) → StandsForHuge huge memory → test memory ≡ wanted)
    → test None ≡ wanted
none-test test wanted huge is all =
    all None (subst (λ (h : Option HugePages). StandsForHuge h None) (sym is) tt)

-- ---- of a state

is-memory : (kept : HugePages) (nodes : ℕ) (memory : Option HugeMemory)
    → StandsForHuge (Some kept) memory → IsMemory kept (memory_or nodes memory)
is-memory kept nodes (Some memory) stands = stands
is-memory kept nodes None stands = absurd stands

pub is-some : (kept : HugePages) (nodes : ℕ) (memory : Option HugeMemory)
    → StandsForHuge (Some kept) memory → memory ≡ Some (memory_or nodes memory)
is-some kept nodes (Some memory) stands = refl
is-some kept nodes None stands = absurd stands

pub none-of : (huge : Option HugePages) → is_some huge ≡ false → huge ≡ None
none-of None none = refl
none-of (Some kept) none = cc

-- what is kept is one thing
pub same-kept : (huge : Option HugePages) (one other : HugePages) → huge ≡ Some one
    → huge ≡ Some other → one ≡ other
same-kept huge one other is so = cc

-- where no line spoke of pages of 2 MiB, none is known
pub none-huge : (kept : Option HugePages) (memory : Option HugeMemory) → kept ≡ None
    → StandsForHuge kept memory → memory ≡ None
none-huge None None none stands = refl
none-huge None (Some memory) none stands = absurd stands
none-huge (Some kept) memory none stands = cc

-- with other pages of 2 MiB
pub huge-so : (old : Running) (huge : Option HugePages) (memory : Option HugeMemory)
    (state : State) → RunsAs old state → StandsForHuge huge memory
    → RunsAs (record old { huge = huge }) (record state { huge = memory })
huge-so old huge memory state stands kept = record {
  core = record {
    bounds = stands.core.bounds;
    machine = stands.core.machine;
    workers = stands.core.workers;
    world = stands.core.world;
  };
  resident = stands.resident;
  lies = stands.lies;
  huge = kept;
}

module _ (old : Running) (kept : HugePages) (is : old.huge ≡ Some kept) (state : State)
    (stands : RunsAs old state) where
  stands-some : StandsForHuge (Some kept) state.huge
  stands-some = subst (λ (h : Option HugePages). StandsForHuge h state.huge) is stands.huge

  pub kept-memory : IsMemory kept (memory_on old.core.space.machine state)
  kept-memory = is-memory kept old.core.space.machine.memory state.huge stands-some

  pub kept-some : state.huge ≡ Some (memory_on old.core.space.machine state)
  kept-some = is-some kept old.core.space.machine.memory state.huge stands-some

  -- pages lie so
  pub places-so : (kept_then : HugePages) (pages : HugeLying)
      → kept_then ≡ record kept { places = kept_then.places }
      → places_of kept_then.places ≡ pages
      → RunsAs (record old { huge = Some kept_then })
      (with_pages pages old.core.space.machine state)
  places-so kept_then pages rest so =
      let memory : HugeMemory =
      record (memory_on old.core.space.machine state) { pages = pages } in
      let settled : IsMemory (record kept { places = kept_then.places }) memory =
      record { pages = so; told = kept-memory.told; arrived = kept-memory.arrived } in
      huge-so old (Some kept_then) (Some memory) state stands
      (subst (λ (k : HugePages). IsMemory k memory) (sym rest) settled)

  -- the pools changed
  pub pools-so : (kept_then : HugePages) (change : ℕ → PoolCounts → PoolCounts) (allowed : ℕ)
      → allowed ≡ old.core.space.allowed
      → kept_then ≡ record kept { places = kept_then.places }
      → kept_then.places.pools ≡ change allowed kept.places.pools
      → kept_then.places.runs ≡ kept.places.runs
      → RunsAs (record old { huge = Some kept_then })
      (with_pools (change (allowed_nodes old.core.space.machine state.world.history)
      (pools_on old.core.space.machine state)) old.core.space.machine state)
  pools-so kept_then change allowed from rest pools runs =
      let pages : HugeLying = (memory_on old.core.space.machine state).pages in
      let nodes : ℕ = allowed_nodes old.core.space.machine state.world.history in
      let by : allowed ≡ nodes = from ∙ stands.core.world.space.allowed in
      let here : kept.places.pools ≡ pages.pools =
      ap (λ (p : HugeLying). p.pools) kept-memory.pages in
      let pools_then : kept_then.places.pools ≡ change nodes pages.pools =
      pools ∙ (λ i. change (by i) (here i)) in
      let spots : (places_of kept_then.places).spots ≡ pages.spots =
      ap (λ (r : List (Run HugeSpot)). (places_of (record kept.places { runs = r })).spots) runs
      ∙ ap (λ (p : HugeLying). p.spots) kept-memory.pages in
      places-so kept_then (record pages { pools = change nodes pages.pools }) rest
      (λ i. record { pools = pools_then i; spots = spots i })
