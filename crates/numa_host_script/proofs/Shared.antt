-- What is kept of pages of 2 MiB of a host's processes, as its lines go by it.
use Rattle.std.proofs.Common.{◌≡◌, ℕ, Bool, true, false, Option, Some, None, List, [], ◌∷◌}
use Rattle.std.proofs.Common.{refl, sym, ap, ◌∙◌}
use Rattle.std.proofs.lemmas.Bool.{both_ways, eqb-true, ne_eqb}
use Rattle.std.specs.Option.{option_map}
use Rattle.std.specs.Prelude.{◌==◌, if◌then◌else◌, is_some}
use Rattle.numa_pools.specs.Pools.{PoolCounts}
use Rattle.numa_huge.specs.Huge.{HugeLying}
use Rattle.numa_huge.specs.Moves.{HugeMemory}
use Rattle.numa_host_huge.specs.Kept.{HugeKept, lying_of, spots_in, spots_of}
use Rattle.numa_host_huge.specs.Sharing.{HugeHome, Sharing, begun, begun_in, home_of, kept_of}
use Rattle.numa_host_huge.specs.Sharing.{lent, with_kept}
use Rattle.numa_host_huge.specs.Standing.{AreHomes, HugeLies}
use Rattle.numa_host_huge.specs.declared.sharer.Sharer.{Sharer}
use Rattle.numa_host_script.specs.Hosts.{Hosting}
use Rattle.numa_host_script.specs.Paging.{memory_at}
use Rattle.numa_host_script.specs.Standing.{RunsAs}
use Rattle.numa_host_script.specs.declared.running.RunningHost.{RunningHost}

not-same : (process other : ℕ) → (other ≡ process → ⊥) → (process == other) ≡ false
not-same process other far = ne_eqb process other (λ is. far (sym is))

-- no page of a process is kept
pub gone : (memory : Option HugeMemory) → is_some memory ≡ false → memory ≡ None
gone None is = refl
gone (Some memory) is = absurd (both_ways (is_some (Some memory)) is refl)

pub none-there : (process : ℕ) (at : Hosting) (found : Bool)
    → found ≡ is_some (memory_at at process) → found ≡ false → memory_at at process ≡ None
none-there process at found is none = gone (memory_at at process) (sym is ∙ none)

-- ---- the pages of a process while it acts

spots-begun : (process : ℕ) (pools : PoolCounts) (xs : List Sharer) (homes : List HugeHome)
    → AreHomes xs homes → spots_in process xs
    ≡ (begun pools (option_map (lent pools) (home_of process homes))).pages.spots
spots-begun process pools [] [] are = refl
spots-begun process pools [] (home ∷ homes) are = absurd are
spots-begun process pools (x ∷ xs) [] are = absurd are
spots-begun process pools (x ∷ xs) (home ∷ homes) are =
    ap (λ (n : ℕ). if n == process then spots_of x else spots_in process xs) are.0.id
    ∙ by_id (home.id == process) (spots-begun process pools xs homes are.1)
  where
    by_id : (same : Bool) → spots_in process xs
        ≡ (begun pools (option_map (lent pools) (home_of process homes))).pages.spots
        → (if same then spots_of x else spots_in process xs) ≡ (begun pools (option_map
        (lent pools) (if same then Some home else home_of process homes))).pages.spots
    by_id true rest = ap (λ (p : HugeLying). p.spots) are.0.pages.1.pages
    by_id false rest = rest

pub begun-spots : (kept : HugeKept) (process : ℕ) (at : Sharing) → HugeLies kept at
    → spots_in process kept.sharers ≡ (begun_in process at).pages.spots
begun-spots kept process at lies =
    spots-begun process at.pools kept.sharers at.homes lies.homes

begun-pools : (pools : PoolCounts) (home : Option HugeHome)
    → (begun pools (option_map (lent pools) home)).pages.pools ≡ pools
begun-pools pools None = refl
begun-pools pools (Some home) = refl

-- with the pools of the host
pub begun-lying : (kept : HugeKept) (process : ℕ) (at : Sharing) → HugeLies kept at
    → lying_of process kept ≡ (begun_in process at).pages
begun-lying kept process at lies = λ i. record {
  pools = (lies.pools ∙ sym (begun-pools at.pools (home_of process at.homes))) i;
  spots = begun-spots kept process at lies i;
}

-- ---- a host once its pages of 2 MiB are so

abbrev pub with_shared : RunningHost → HugeKept → RunningHost
with_shared running huge =
    record { host = running.host; pages = record running.pages { huge = huge } }

pub shared-runs : (running : RunningHost) (at : Hosting) (huge : HugeKept) (shared : Sharing)
    → RunsAs running at → HugeLies huge shared
    → RunsAs (with_shared running huge) (record at { lying = record at.lying { huge = shared } })
shared-runs running at huge shared stands lies = record {
  machine = stands.machine;
  bounds = stands.bounds;
  stands = stands.stands;
  lies = record {
    room = stands.lies.room;
    follows = stands.lies.follows;
    homes = stands.lies.homes;
    huge = lies;
    places = stands.lies.places;
  };
  are = record { order = stands.are.order; same = stands.are.same };
}

-- ---- those of other processes

-- what a process does leaves the pages of 2 MiB of another as they are
pub other-home : (process other : ℕ) (memory : HugeMemory) (homes : List HugeHome)
    → (other ≡ process → ⊥)
    → home_of other (with_kept process memory homes) ≡ home_of other homes
other-home process other memory [] far =
    ap (λ (b : Bool). if b then Some (kept_of process memory) else None)
    (not-same process other far)
other-home process other memory (home ∷ homes) far =
    by_id (home.id == process) refl (other-home process other memory homes far)
  where
    by_id : (same : Bool) → (home.id == process) ≡ same
        → home_of other (with_kept process memory homes) ≡ home_of other homes
        → home_of other (if same then kept_of process memory ∷ homes
        else home ∷ with_kept process memory homes) ≡ home_of other (home ∷ homes)
    by_id true is rest =
        ap (λ (b : Bool). if b then Some (kept_of process memory) else home_of other homes)
        (not-same process other far)
        ∙ sym (ap (λ (b : Bool). if b then Some home else home_of other homes)
        (ap (λ (n : ℕ). n == other) (eqb-true home.id process is) ∙ not-same process other far))
    by_id false is rest =
        ap (λ (o : Option HugeHome). if home.id == other then Some home else o) rest
