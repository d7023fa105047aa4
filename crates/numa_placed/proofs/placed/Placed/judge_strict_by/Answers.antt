use Rattle.std.proofs.Common.{◌≡◌, ℕ, None, ap, subst, ◌∙◌}
use Rattle.numa_machine.specs.Machine.{Hardware}
use Rattle.numa_machine.specs.declared.rules.Rules.{Rules}
use Rattle.numa_ranges.specs.Runs.{page_at}
use Rattle.numa_placed.specs.Astray.{astray_cause, judged_pages, strict_span_cause}
use Rattle.numa_placed.specs.Spots.{spot_at}
use Rattle.numa_placed.specs.Turns.{spots_of}
use Rattle.numa_placed.proofs.Fits.{strict-told}
use Rattle.numa_placed.proofs.placed.Placed.judge_strict_by.Goals as goal

pub returns : goal.returns
returns c =
    let span = c.in_ok-first.ensures.span in
    let rules = c.args.space.now.machine.rules in
    let map = page_at c.args.space.now.ranges in
    strict-told c.judge_places.result (strict_span_cause rules c.args.start c.args.length) _ _
    (subst (λ (r : Rules). strict_span_cause r c.args.start c.args.length ≡ None)
    (c.rules.ensures ∙ ap (λ (m : Hardware). m.rules) c.machine.ensures) span.0)
    (ap (λ (n : ℕ). astray_cause (spots_of c.self.inside.places) c.in_ok-first.first n
    c.args.list.now) c.judged_pages-judged.ensures.judged
    ∙ (λ i. astray_cause (spot_at (c.self.view_is i)) (span.1 i)
    (judged_pages rules map (span.1 i) (span.2 i)) c.args.list.now))
    c.judge_places.ensures
