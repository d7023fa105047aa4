-- A range of a space, by its place.
use Rattle.std.proofs.Common.{◌≡◌, ℕ, zero, suc, ◌≤◌, ◌^◌, Option, Some, None, List, [], ◌∷◌, sym}
use Rattle.std.proofs.Common.{subst}
use Rattle.std.proofs.lemmas.Option.{same_Some}
use Rattle.std.specs.Prelude.{IfSome, slice_get}
use Rattle.numa_mode.specs.Policy.{PolicyRecord}
use Rattle.numa_ranges.specs.Runs.{AreApart, end_of}
use Rattle.numa_ranges.specs.declared.run.Run.{Run}
use Rattle.numa_ranges.proofs.Apart.{apart-top}

end-at : (from : ℕ) (ranges : List (Run (Option PolicyRecord))) (place : ℕ)
    (range : Run (Option PolicyRecord)) → AreApart from ranges → slice_get ranges place ≡ Some range
    → end_of range ≤ 2 ^ 35
end-at from [] place range apart at =
    absurd (let odd : ◌≡◌ {A = Option (Run (Option PolicyRecord))} None (Some range) = at in cc)
end-at from (lowest ∷ rest) zero range apart at =
    subst (λ (it : Run (Option PolicyRecord)). end_of it ≤ 2 ^ 35) (same_Some lowest range at)
    (apart-top (end_of lowest) rest apart.3)
end-at from (lowest ∷ rest) (suc place) range apart at = end-at (end_of lowest) rest place range
    apart.3 at

-- it ends where addresses end, or before
pub range-end : (ranges : List (Run (Option PolicyRecord))) (place : ℕ)
    (found : Option (Run (Option PolicyRecord))) → AreApart 0 ranges
    → found ≡ slice_get ranges place
    → IfSome found (λ range. end_of range ≤ 2 ^ 35)
range-end ranges place None apart is = tt
range-end ranges place (Some range) apart is = end-at 0 ranges place range apart (sym is)
