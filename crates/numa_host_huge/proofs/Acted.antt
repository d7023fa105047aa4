-- What the host keeps once a process acted.
use Rattle.std.proofs.Common.{◌≡◌, ◌≢◌, ℕ, ◌<◌, ◌∙◌, Option, None, List, [], ◌∷◌, ◌++◌, length}
use Rattle.std.proofs.Common.{get_or, set, sym, ap, arith, subst}
use Rattle.std.proofs.lemmas.List.{get_or-set_same, get_or_read}
use Rattle.numa_pools.specs.Pools.{PoolCounts}
use Rattle.numa_huge.specs.Huge.{HugePlaced, huge_at, places_of}
use Rattle.numa_huge.specs.Kept.{ArePooled, Keeps, Others}
use Rattle.numa_huge.specs.declared.pages.HugePages.{HugePages}
use Rattle.numa_huge.specs.declared.spot.HugeSpot.{HugeSpot}
use Rattle.numa_host_huge.specs.Kept.{AreShared, HugeKept, IsAfter, IsChanged, IsChangedAt}
use Rattle.numa_host_huge.specs.Kept.{spots_in, spots_of, with_lent}
use Rattle.numa_host_huge.specs.declared.sharer.Sharer.{Sharer}
use Rattle.numa_host_huge.proofs.Lent.{lent-pools, lent-spots}
use Rattle.numa_host_huge.proofs.Places.{IsAt, IsNowhere, at-inside, at-spots, nowhere-spots}
use Rattle.numa_host_huge.proofs.Sums.{all_of, others_at, pooled-all, pooled-at, shared-behind}
use Rattle.numa_host_huge.proofs.Sums.{shared-changed}

-- one change after the other
pub changed-then : (place : ℕ) (xs ys zs : List Sharer) → IsChangedAt place xs ys
    → IsChangedAt place ys zs → IsChangedAt place xs zs
changed-then place xs ys zs one other = record {
  length = other.length ∙ one.length;
  others = λ k d ne. other.others k d ne ∙ one.others k d ne;
  id = λ d. other.id d ∙ one.id d;
}

pub changed-both : (place : ℕ) (xs ys zs : List Sharer) (f g : HugePages → HugePages)
    → IsChanged place xs ys f → IsChanged place ys zs g
    → IsChanged place xs zs (λ old. g (f old))
changed-both place xs ys zs f g one other = record {
  at = changed-then place xs ys zs one.at other.at;
  pages = λ d. other.pages d ∙ ap g (one.pages d);
}

-- what a change of the process at a place keeps
pub keeps-at : (xs : List Sharer) (place : ℕ) (one other : Sharer) → place < length xs
    → one ≡ get_or xs place one
    → Keeps (places_of one.pages.value.places) (places_of other.pages.value.places) → (d : Sharer)
    → Keeps (places_of (get_or xs place d).pages.value.places)
    (places_of (get_or (set xs place other) place d).pages.value.places)
keeps-at xs place one other inside read keeps d =
    subst (λ (s : Sharer). Keeps (places_of s.pages.value.places)
    (places_of (get_or (set xs place other) place d).pages.value.places))
    (get_or_read xs place one inside read d)
    (subst (λ (s : Sharer). Keeps (places_of one.pages.value.places)
    (places_of s.pages.value.places)) (sym (get_or-set_same xs place other d inside)) keeps)

-- the pools were lent to the pages of a process, and these changed
pub acted-shared : (pools after : PoolCounts) (xs ys zs : List Sharer) (place : ℕ) (d : Sharer)
    → AreShared pools xs → place < length xs → IsChanged place xs ys (with_lent pools)
    → IsChangedAt place ys zs
    → Keeps (places_of (get_or ys place d).pages.value.places)
    (places_of (get_or zs place d).pages.value.places)
    → after ≡ (get_or zs place d).pages.value.places.pools → AreShared after zs
acted-shared pools after xs ys zs place d shared inside lent acted keeps is =
    let others = others_at xs place shared.few in
    let before : ArePooled others pools (spots_of (get_or ys place d)) =
    subst (λ (s : ℕ → Option HugeSpot). ArePooled others pools s)
    (sym (lent-spots pools xs ys place d lent)) (pooled-at pools xs place d shared inside) in
    let told : ArePooled others (get_or ys place d).pages.value.places.pools
    (spots_of (get_or ys place d)) =
    subst (λ (p : PoolCounts). ArePooled others p (spots_of (get_or ys place d)))
    (sym (lent-pools pools xs ys place d lent)) before in
    let later = changed-then place xs ys zs lent.at acted in
    shared-changed pools after xs zs place d shared inside later.length
    (λ k ne. later.others k d ne)
    (subst (λ (p : PoolCounts). ArePooled others p (spots_of (get_or zs place d))) (sym is)
    (keeps others told))

-- pages lie as they did
pub told-shared : (pools : PoolCounts) (xs ys : List Sharer) (place : ℕ) (d : Sharer)
    → AreShared pools xs → place < length xs → IsChangedAt place xs ys
    → (get_or ys place d).pages.value.places ≡ (get_or xs place d).pages.value.places
    → AreShared pools ys
told-shared pools xs ys place d shared inside changed same =
    shared-changed pools pools xs ys place d shared inside changed.length
    (λ k ne. changed.others k d ne)
    (subst (λ (p : HugePlaced). ArePooled (others_at xs place shared.few) pools (huge_at p.runs))
    (sym same) (pooled-at pools xs place d shared inside))

-- pages that were prepared are those of a process now
pub settled-shared : (pools : PoolCounts) (xs ys : List Sharer) (process place : ℕ) (d : Sharer)
    (after : HugePlaced) → AreShared pools xs → IsAt xs process place
    → IsAfter process (record { pools = pools; sharers = xs }) after → IsChangedAt place xs ys
    → (get_or ys place d).pages.value.places ≡ after → AreShared after.pools ys
settled-shared pools xs ys process place d after shared at keeps changed is =
    let inside = at-inside xs process place at in
    let others = others_at xs place shared.few in
    let before : ArePooled others pools (spots_in process xs) =
    subst (λ (s : ℕ → Option HugeSpot). ArePooled others pools s)
    (sym (at-spots xs process place d at)) (pooled-at pools xs place d shared inside) in
    shared-changed pools after.pools xs ys place d shared inside changed.length
    (λ k ne. changed.others k d ne)
    (subst (λ (p : HugePlaced). ArePooled others after.pools (huge_at p.runs)) (sym is)
    (keeps others before))

-- or of one that begins
pub begun-shared : (pools : PoolCounts) (xs : List Sharer) (process : ℕ) (y : Sharer)
    (after : HugePlaced) → AreShared pools xs → IsNowhere xs process → length xs < 4096
    → IsAfter process (record { pools = pools; sharers = xs }) after
    → y.pages.value.places ≡ after → AreShared after.pools (xs ++ y ∷ [])
begun-shared pools xs process y after shared absent few keeps is =
    let others = all_of xs shared.few in
    let before : ArePooled others pools (spots_in process xs) =
    subst (λ (s : ℕ → Option HugeSpot). ArePooled others pools s)
    (sym (nowhere-spots xs process absent)) (pooled-all pools xs shared) in
    shared-behind pools after.pools xs y shared few
    (subst (λ (p : HugePlaced). ArePooled others after.pools (huge_at p.runs)) (sym is)
    (keeps others before))
