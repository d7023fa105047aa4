-- What is prepared for a process that has pages.
use Rattle.std.proofs.Common.{◌≡◌, ℕ, ◌∙◌, Option, Some, None, List, get_or, sym, ap, subst, true}
use Rattle.std.proofs.Common.{is_some, refl}
use Rattle.std.specs.Prelude.{IfSome}
use Rattle.numa_pools.specs.Pools.{PoolCounts}
use Rattle.numa_huge.specs.Huge.{HugeLying, HugePlaced, places_of}
use Rattle.numa_huge.specs.Kept.{HavePages, Keeps}
use Rattle.numa_huge.specs.Moves.{HugeMemory}
use Rattle.numa_huge.specs.Tallies.{IsMemory}
use Rattle.numa_host_huge.specs.Kept.{AreShared, HugeKept, IsChanged, lying_of, spots_of}
use Rattle.numa_host_huge.specs.Kept.{with_lent}
use Rattle.numa_host_huge.specs.Sharing.{HugeHome, lent}
use Rattle.numa_host_huge.specs.Standing.{CanBe, IsHome}
use Rattle.numa_host_huge.specs.declared.sharer.Sharer.{Sharer}
use Rattle.numa_host_huge.proofs.Ended.{at-changed}
use Rattle.numa_host_huge.proofs.Given.{lent-is}
use Rattle.numa_host_huge.proofs.Lent.{lent-home, lent-pools, lent-spots}
use Rattle.numa_host_huge.proofs.Places.{IsAt, at-inside, at-some, at-spots}
use Rattle.numa_host_huge.proofs.Sums.{others_at, pooled-at}

pub some-weaker : {A : Type 0} (o : Option A) (P Q : A → Type 0) → ((a : A) → P a → Q a)
    → IfSome o P → IfSome o Q
some-weaker None P Q f is = tt
some-weaker (Some a) P Q f is = f a is

-- the pools of the host have the pages of a process
pub have-pages : (pools : PoolCounts) (xs : List Sharer) (process place : ℕ) (d : Sharer)
    → AreShared pools xs → IsAt xs process place
    → HavePages pools (spots_of (get_or xs place d))
have-pages pools xs process place d shared at = (
  others_at xs place shared.few,
  pooled-at pools xs place d shared (at-inside xs process place at),
)

module _ (pools : PoolCounts) (xs ys : List Sharer) (process place : ℕ) (d : Sharer)
    (at : IsAt xs process place) (lends : IsChanged place xs ys (with_lent pools)) where
  pub lying-old : places_of (get_or ys place d).pages.value.places
      ≡ lying_of process (record { pools = pools; sharers = xs })
  lying-old = λ i. record {
    pools = lent-pools pools xs ys place d lends i;
    spots = (lent-spots pools xs ys place d lends ∙ sym (at-spots xs process place d at)) i;
  }

  pub lying-new : places_of (get_or ys place d).pages.value.places
      ≡ lying_of process (record { pools = pools; sharers = ys })
  lying-new = λ i. record {
    pools = lent-pools pools xs ys place d lends i;
    spots = sym (at-spots ys process place d (at-changed xs ys process place d lends.at at)) i;
  }

  pub can-be : (after : HugePlaced)
      → Keeps (places_of (get_or ys place d).pages.value.places) (places_of after)
      → CanBe process (record { pools = pools; sharers = ys }) after
  can-be after keeps = record {
    keeps = subst (λ (l : HugeLying). Keeps l (places_of after)) lying-new keeps;
    place = rw (at-some ys process place (at-changed xs ys process place d lends.at at)) refl;
  }

  -- and they are those of the process while it acts
  pub lent-memory : (home : HugeHome) → IsHome (get_or xs place d) home
      → IsMemory (get_or ys place d).pages.value (lent pools home)
  lent-memory home is = lent-is (get_or ys place d) home pools
      (lent-home pools xs ys place d lends home is) (lent-pools pools xs ys place d lends)
