use Rattle.std.proofs.Common.{◌≡◌, ℕ, ◌≤◌, ◌∙◌, ap, subst, sym}
use Rattle.std.specs.Prelude.{if◌then◌else◌}
use Rattle.numa_ranges.specs.Ranges.{Ranges}
use Rattle.numa_pools.specs.Pools.{PoolCounts, reserving, unreserved}
use Rattle.numa_huge.specs.Huge.{HugePlaced, huge_at, mapped_by}
use Rattle.numa_huge.specs.Kept.{AreKept, ArePooled, Others}
use Rattle.numa_huge.specs.declared.spot.HugeSpot.{HugeSpot}
use Rattle.numa_huge.proofs.places.HugePlaces.map_by.Goals as goal

then-kept : (others : Others) (pools one : PoolCounts) (map other : Ranges HugeSpot)
    → pools ≡ one → map ≡ other → AreKept others one other.runs → AreKept others pools map.runs
then-kept others pools one map other same alike kept =
    subst (λ (p : PoolCounts). AreKept others p map.runs) (sym same)
    (subst (λ (m : Ranges HugeSpot). AreKept others one m.runs) (sym alike) kept)

-- they are as they were to be
then-is : (pools one : PoolCounts) (map other : Ranges HugeSpot) → pools ≡ one → map ≡ other
    → ◌≡◌ {A = HugePlaced} (record { pools = pools; runs = map.runs })
    (record { pools = one; runs = other.runs })
then-is pools one map other same alike = λ i. record {
  pools = same i;
  runs = (alike i).runs;
}

pub reserve_if-requires : goal.reserve_if-requires
reserve_if-requires c asked =
    subst (λ (p : HugePlaced). c.args.pages ≤ unreserved p.pools) (sym c.self.view_is)
    (c.requires.room asked)

pub invariant_of-self : goal.invariant_of-self
invariant_of-self c = (
  c.self.invariant.0,
  then-kept c.self.invariant.0 c.reserve_if.new.pools (if c.args.reserves
      then reserving c.args.self.now.pools c.args.pages else c.args.self.now.pools)
      c.replace.new.dest c.args.map
      (c.reserve_if.ensures ∙ ap (λ (p : HugePlaced). if c.args.reserves
      then reserving p.pools c.args.pages else p.pools) c.self.view_is)
      c.replace.ensures.after
      (c.requires.may.kept c.self.invariant.0 (subst (λ (p : HugePlaced).
      AreKept c.self.invariant.0 p.pools p.runs) c.self.view_is c.self.invariant.1)),
  ap (λ (m : Ranges HugeSpot). m.max_ranges) c.replace.ensures.after ∙ c.requires.may.most,
)

pub returns-clause-is : goal.returns-clause-is
returns-clause-is c =
    then-is c.reserve_if.new.pools (if c.args.reserves
    then reserving c.args.self.now.pools c.args.pages else c.args.self.now.pools)
    c.replace.new.dest c.args.map
    (c.reserve_if.ensures ∙ ap (λ (p : HugePlaced). if c.args.reserves
    then reserving p.pools c.args.pages else p.pools) c.self.view_is)
    c.replace.ensures.after

pub returns-clause-keeps : goal.returns-clause-keeps
returns-clause-keeps c others pooled =
    let own = (subst (λ (p : HugePlaced). AreKept c.self.invariant.0 p.pools p.runs)
    c.self.view_is c.self.invariant.1).own in
    subst (λ (p : HugePlaced). ArePooled others p.pools (huge_at p.runs))
    (sym (then-is c.reserve_if.new.pools (if c.args.reserves
    then reserving c.args.self.now.pools c.args.pages else c.args.self.now.pools)
    c.replace.new.dest c.args.map
    (c.reserve_if.ensures ∙ ap (λ (p : HugePlaced). if c.args.reserves
    then reserving p.pools c.args.pages else p.pools) c.self.view_is)
    c.replace.ensures.after))
    (c.requires.may.kept others (record { own = own; pooled = pooled })).pooled
