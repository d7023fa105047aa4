-- A sum of at most `rounds` and a hit of at most 1 fit a byte, and add up lane by lane.
use Rattle.std.proofs.Common.{◌≤◌, ◌+◌, ◌∙◌, sym, arith, w8, Fits}
use Rattle.std.proofs.lemmas.Simd.{sum-zip2, Each2-of, Each1-zip2, length-zip2}
use Rattle.numa_lanes.proofs.lanes.add_lanes.Goals as goal

pub overflow_add-result : goal.overflow_add-result
overflow_add-result c = Each2-of (λ sum. sum ≤ c.args.rounds) (λ hit. hit ≤ 1)
    (λ sum hit. Fits w8 (sum + hit))
    (λ sum hit few one. record { fits = omega arith }) c.args.sums c.args.hits c.requires.sums_most
    c.requires.hits_most

pub returns-clause-sum : goal.returns-clause-sum
returns-clause-sum c =
    sum-zip2 c.args.sums c.args.hits (c.requires.sums_long ∙ sym c.requires.hits_long)

pub returns-clause-most : goal.returns-clause-most
returns-clause-most c = Each1-zip2 (λ sum hit. sum + hit) (λ sum. sum ≤ c.args.rounds + 1)
    c.args.sums c.args.hits
    (Each2-of (λ sum. sum ≤ c.args.rounds) (λ hit. hit ≤ 1)
    (λ sum hit. sum + hit ≤ c.args.rounds + 1)
    (λ sum hit few one. omega arith) c.args.sums c.args.hits c.requires.sums_most
    c.requires.hits_most)

pub returns-clause-long : goal.returns-clause-long
returns-clause-long c = length-zip2 (λ sum hit. sum + hit) c.args.sums c.args.hits
    (c.requires.sums_long ∙ sym c.requires.hits_long) ∙ c.requires.sums_long
