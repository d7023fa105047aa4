-- One more task has its policy.
use Rattle.std.proofs.Common.{◌≡◌, ◌++◌, ◌∷◌, ℕ, List, [], None, Some, slice_get, sym, ap, ◌∙◌}
use Rattle.numa_mode.specs.Policy.{PolicyRecord}
use Rattle.numa_space.specs.Standing.{record_of}
use Rattle.numa_space.proofs.Shared.{record-first, more-taken}
use Rattle.numa_space.proofs.task_policies.Tasks.renumbered.Goals as goal

pub loop-k-preserved : goal.loop-k-preserved
loop-k-preserved c =
    let at : slice_get c.args.self.now c.loop-k.k ≡ Some c.in-Some.held = sym c.in-Some.ensures.at
    in
    let none : record_of c.loop-k.fresh c.in-Some.held.0 ≡ None =
    ap (λ (l : List (ℕ × PolicyRecord)). record_of l c.in-Some.held.0) c.loop-k.invariant
    ∙ record-first c.args.self.now c.loop-k.k c.in-Some.held c.len-k-end.ensures.each_once at in
    c.in-Ok.ensures.last none
    ∙ ap (λ (l : List (ℕ × PolicyRecord)). l ++ c.in-Some.held ∷ []) c.loop-k.invariant
    ∙ more-taken c.args.self.now c.loop-k.k c.in-Some.held at
