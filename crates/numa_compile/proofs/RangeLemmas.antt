-- The policies of a sound space's ranges.
use Rattle.std.proofs.Common.{◌≡◌, ℕ, zero, suc, ◌+◌, ◌-◌, ◌<◌, Option, Some, List, [], ◌∷◌, get_or}
use Rattle.std.proofs.Common.{length, refl, arith}
use Rattle.std.specs.Option.{ForSome}
use Rattle.numa_mode.specs.Policy.{PolicyRecord}
use Rattle.numa_ranges.specs.Runs.{page_at, AreApart, end_of}
use Rattle.numa_ranges.specs.declared.run.Run.{Run}
use Rattle.numa_ranges.proofs.Apart.{in_pages-true, in_pages-above, apart-from}
use Rattle.numa_space.specs.Standing.{SpaceState, IsInForce, IsSound}

-- the first page of a run is that run's
pub page_at-first : {T : Type 0} (from : ℕ) (runs : List (Run T)) (i : ℕ) (d : Run T)
    → AreApart from runs → i < length runs → page_at runs (get_or runs i d).first
    ≡ Some (
      (get_or runs i d).index + ((get_or runs i d).first - (get_or runs i d).first),
      (get_or runs i d).value,
    )
page_at-first from [] i d apart lt = absurd (omega arith)
page_at-first from (run ∷ runs) zero d apart lt =
    rw (in_pages-true run.first run.pages run.first (omega arith) (omega (arith, apart.1))) refl
page_at-first from (run ∷ runs) (suc i) d apart lt =
    rw (in_pages-above run.first run.pages (get_or runs i d).first
    (apart-from (end_of run) runs i d apart.3 (omega arith)))
    (page_at-first (end_of run) runs i d apart.3 (omega arith))

-- the policy of a range is in force
pub range-in_force : (space : SpaceState) (i : ℕ) (d : Run (Option PolicyRecord))
    → i < length space.ranges → AreApart 0 space.ranges → IsSound space
    → ForSome (get_or space.ranges i d).value (IsInForce space.machine space.allowed)
range-in_force space i d lt apart sound =
    let range : Run (Option PolicyRecord) = get_or space.ranges i d in
    sound.pages range.first (range.index + (range.first - range.first), range.value)
    (page_at-first 0 space.ranges i d apart lt)
