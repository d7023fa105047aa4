use Rattle.std.proofs.Common.{◌≡◌, ℕ, ◌*◌, ◌-◌, ◌/◌, ◌≤◌, ◌∙◌, List, ap, arith, length, sym}
use Rattle.std.proofs.Common.{div-mul-le_self, mul-le-mul_right}
use Rattle.numa_reports.specs.Lying.{asked_nodes}
use Rattle.numa_reports.proofs.Repeating.{all-last, all-take, behind-long, repeats-part}
use Rattle.numa_reports.proofs.filling.fill_periods.Goals as goal

pub returns-clause-free : goal.returns-clause-free
returns-clause-free c repeats =
    let times = c.all_times_left-times.result in
    let after = c.fill_pages.new.free in
    let first = c.args.span.first in
    let pages = c.args.span.pages in
    let part = c.period_within-part.result in
    let nodes = asked_nodes c.args.asked in
    let again = repeats-part nodes first pages c.args.period first pages part (omega arith)
    (omega arith) c.period_within-part.ensures.is repeats in
    let long : length c.args.free.now ≡ 256 =
    sym (behind-long nodes c.args.free.now first part)
    ∙ sym (ap (λ (f : List ℕ). length f) c.in_ok-fill_pages.ensures.free)
    ∙ c.fill_pages.array_long in
    let share : (pages - part) / part * part ≤ pages - part = div-mul-le_self (pages - part) part in
    let few : times * part ≤ (pages - part) / part * part =
    mul-le-mul_right part c.all_times_left-times.ensures.few in
    all-take nodes c.args.free.now after first part times pages c.in_ok-fill_pages.ensures.free
    (all-last c.args.free.now after times long c.all_times_left-times.ensures.last)
    (omega (arith, share, few, c.period_within-part.ensures.few))
    again c.all_left_behind.result c.all_left_behind.ensures.sized long
    c.all_left_behind.ensures.left
