use Rattle.std.proofs.Common.{◌≡◌, ◌^◌, ℕ, None, Option, ap, ◌∙◌, arith}
use Rattle.numa_mode.specs.Policy.{PolicyRecord}
use Rattle.numa_ranges.specs.Ranges.{Ranges}
use Rattle.numa_ranges.specs.Runs.{page_at}
use Rattle.numa_objects.specs.Changes.{with_policy}
use Rattle.numa_objects.proofs.Changed.{first-ranges}
use Rattle.numa_objects.proofs.object.Object.new.Goals as goal

pub returns-clause-ranges : goal.returns-clause-ranges
returns-clause-ranges c =
    let empty : page_at c.new-policies.result.runs ≡ (λ other. None) =
    ap (λ (m : Ranges PolicyRecord). page_at m.runs) c.new-policies.ensures in
    first-ranges (2 ^ 35) c.args.policy.now c.put.new.policies.runs (omega arith) (omega arith)
    c.iter.ensures.alone
    (λ place. c.in_ok-put.ensures place
    ∙ ap (λ (m : ℕ → Option (ℕ × PolicyRecord)). with_policy 0 (2 ^ 35) c.args.policy.now m place)
    empty)
