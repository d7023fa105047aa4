-- The processes and what they stand for, once the pages of one changed.
use Rattle.std.proofs.Common.{◌≡◌, ◌≢◌, ℕ, zero, suc, ◌+◌, ◌<◌, ◌∙◌, List, [], ◌∷◌, ◌++◌}
use Rattle.std.proofs.Common.{length, get_or, sym, ap, arith, subst}
use Rattle.std.specs.Prelude.{◌==◌}
use Rattle.numa_huge.specs.Moves.{HugeMemory}
use Rattle.numa_host_huge.specs.Kept.{IsChangedAt}
use Rattle.numa_host_huge.specs.Sharing.{HugeHome, kept_of, with_kept}
use Rattle.numa_host_huge.specs.Standing.{AreHomes, IsHome}
use Rattle.numa_host_huge.specs.declared.sharer.Sharer.{Sharer}
use Rattle.numa_host_huge.proofs.Places.{IsAt, IsNowhere}

-- processes that are alike at each place
alike : (xs ys : List Sharer) (homes : List HugeHome) (d : Sharer) → length ys ≡ length xs
    → ((k : ℕ) → get_or ys k d ≡ get_or xs k d) → AreHomes xs homes → AreHomes ys homes
alike [] [] [] d same each are = tt
alike [] [] (home ∷ homes) d same each are = absurd are
alike [] (y ∷ ys) homes d same each are = absurd (omega (arith, same))
alike (x ∷ xs) [] homes d same each are = absurd (omega (arith, same))
alike (x ∷ xs) (y ∷ ys) [] d same each are = absurd are
alike (x ∷ xs) (y ∷ ys) (home ∷ homes) d same each are = (
  subst (λ (s : Sharer). IsHome s home) (sym (each 0)) are.0,
  alike xs ys homes d (omega (arith, same)) (λ k. each (suc k)) are.1,
)

-- the process at a place stands for something else now
pub homes-changed : (xs ys : List Sharer) (homes : List HugeHome) (process place : ℕ) (d : Sharer)
    (memory : HugeMemory) → IsChangedAt place xs ys → IsAt xs process place → AreHomes xs homes
    → IsHome (get_or ys place d) (kept_of process memory)
    → AreHomes ys (with_kept process memory homes)
homes-changed [] ys homes process place d memory changed at are is = absurd at
homes-changed (x ∷ xs) [] homes process place d memory changed at are is =
    absurd (omega (arith, changed.length))
homes-changed (x ∷ xs) (y ∷ ys) [] process place d memory changed at are is = absurd are
homes-changed (x ∷ xs) (y ∷ ys) (home ∷ homes) process zero d memory changed at are is =
    rw (ap (λ (n : ℕ). n == process) (sym are.0.id) ∙ at) (
      is,
      alike xs ys homes d (omega (arith, changed.length))
          (λ k. changed.others (suc k) d (λ e. absurd (omega (arith, e)))) are.1,
    )
homes-changed (x ∷ xs) (y ∷ ys) (home ∷ homes) process (suc place) d memory changed at are is =
    rw (ap (λ (n : ℕ). n == process) (sym are.0.id) ∙ at.0) (
      subst (λ (s : Sharer). IsHome s home)
          (sym (changed.others 0 d (λ e. absurd (omega (arith, e))))) are.0,
      homes-changed xs ys homes process place d memory (record {
        length = omega (arith, changed.length);
        others = λ k e ne. changed.others (suc k) e (λ s. ne (omega (arith, s)));
        id = changed.id;
      }) at.1 are.1 is,
    )

-- or for the same
pub homes-kept : (xs ys : List Sharer) (homes : List HugeHome) (place : ℕ) (d : Sharer)
    → IsChangedAt place xs ys → AreHomes xs homes
    → ((home : HugeHome) → IsHome (get_or xs place d) home → IsHome (get_or ys place d) home)
    → AreHomes ys homes
homes-kept [] [] homes place d changed are keeps = are
homes-kept [] (y ∷ ys) homes place d changed are keeps = absurd (omega (arith, changed.length))
homes-kept (x ∷ xs) [] homes place d changed are keeps = absurd (omega (arith, changed.length))
homes-kept (x ∷ xs) (y ∷ ys) [] place d changed are keeps = absurd are
homes-kept (x ∷ xs) (y ∷ ys) (home ∷ homes) zero d changed are keeps = (
  keeps home are.0,
  alike xs ys homes d (omega (arith, changed.length))
      (λ k. changed.others (suc k) d (λ e. absurd (omega (arith, e)))) are.1,
)
homes-kept (x ∷ xs) (y ∷ ys) (home ∷ homes) (suc place) d changed are keeps = (
  subst (λ (s : Sharer). IsHome s home)
      (sym (changed.others 0 d (λ e. absurd (omega (arith, e))))) are.0,
  homes-kept xs ys homes place d (record {
    length = omega (arith, changed.length);
    others = λ k e ne. changed.others (suc k) e (λ s. ne (omega (arith, s)));
    id = changed.id;
  }) are.1 keeps,
)

-- one comes behind all others
pub homes-behind : (xs : List Sharer) (homes : List HugeHome) (y : Sharer) (home : HugeHome)
    → AreHomes xs homes → IsHome y home → AreHomes (xs ++ y ∷ []) (homes ++ home ∷ [])
homes-behind [] [] y home are is = (is, tt)
homes-behind [] (other ∷ homes) y home are is = absurd are
homes-behind (x ∷ xs) [] y home are is = absurd are
homes-behind (x ∷ xs) (other ∷ homes) y home are is =
    (are.0, homes-behind xs homes y home are.1 is)

-- where it had none
pub homes-begun : (xs : List Sharer) (homes : List HugeHome) (process : ℕ) (y : Sharer)
    (memory : HugeMemory) → IsNowhere xs process → AreHomes xs homes
    → IsHome y (kept_of process memory) → AreHomes (xs ++ y ∷ []) (with_kept process memory homes)
homes-begun [] [] process y memory absent are is = (is, tt)
homes-begun [] (home ∷ homes) process y memory absent are is = absurd are
homes-begun (x ∷ xs) [] process y memory absent are is = absurd are
homes-begun (x ∷ xs) (home ∷ homes) process y memory absent are is =
    rw (ap (λ (n : ℕ). n == process) (sym are.0.id) ∙ absent.0)
    (are.0, homes-begun xs homes process y memory absent.1 are.1 is)
