use Rattle.std.proofs.Common.{ap, sym, ◌∙◌}
use Rattle.numa_publish.specs.Batches.{history_of}
use Rattle.numa_publish.proofs.Desks.{whole}
use Rattle.numa_publish.proofs.publishing.next_shown.Goals as goal

pub invariant_of-first : goal.invariant_of-first
invariant_of-first c = record {
  whole = ap (λ s. history_of s.log) c.again.ensures
      ∙ (ap history_of c.if-not-add.ensures.added
      ∙ (whole c.args.log.now.seen.log c.args.pending.now.items
      ∙ sym c.in-Ok.ensures.issue.history_is));
}
