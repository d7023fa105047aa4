-- Accesses that are so far away, and their mean.
use Rattle.std.proofs.Common.{◌≡◌, ◌≢◌, ℕ, ◌≤◌, ◌<◌, ◌+◌, ◌*◌, ◌/◌, ◌^◌, List, sum, arith, subst}
use Rattle.std.proofs.Common.{mul-le-mul_right, sym, ◌∙◌}
use Rattle.std.proofs.Math.Nat.{div-mul-le_self, lt-div-mul-add}
use Rattle.std.proofs.lemmas.Nat.{div_below}
use Rattle.numa_traces.specs.Means.{IsMean, all_far}

pub near_by : (distance count : ℕ) → distance < 256 → distance * count ≤ 255 * count
near_by distance count below = mul-le-mul_right count (omega arith)

pub mean_below : (all accesses : ℕ) → accesses ≢ 0 → all ≤ 255 * accesses
    → (2000 * all + accesses) / (2 * accesses) < 2 ^ 64
mean_below all accesses some near =
    let below : (2000 * all + accesses) / (2 * accesses) < 255002 =
    div_below (2000 * all + accesses) (2 * accesses) 255002 (omega (arith, some))
    (omega (arith, some, near)) in omega (arith, below)

mean_of_sums : (counts : List ℕ) → sum counts ≢ 0
    → IsMean counts ((2000 * all_far counts + sum counts) / (2 * sum counts))
mean_of_sums counts some =
    let n = 2000 * all_far counts + sum counts in
    let positive : 0 < 2 * sum counts = omega (arith, some) in
    record {
      least = div-mul-le_self n (2 * sum counts);
      most = lt-div-mul-add {a = n} {b = 2 * sum counts} positive;
    }

pub mean_is : (counts : List ℕ) (all accesses : ℕ) → accesses ≡ sum counts → all ≡ all_far counts
    → accesses ≢ 0 → IsMean counts ((2000 * all + accesses) / (2 * accesses))
mean_is counts all accesses number far some =
    subst (λ (a : ℕ). IsMean counts ((2000 * all + a) / (2 * a))) (sym number)
    (subst (λ (w : ℕ). IsMean counts ((2000 * w + sum counts) / (2 * sum counts))) (sym far)
    (mean_of_sums counts (λ none. some (number ∙ none))))
