use Rattle.std.proofs.Common.{subst}
use Rattle.numa_core.specs.Published.{IsBehindBy}
use Rattle.numa_core.specs.declared.unpublished.Unpublished.{Unpublished}
use Rattle.numa_core.proofs.unpublished.Unpublished.note.Goals as goal

-- the plan followed the space before this change
pub returns-in_default-change : goal.returns-in_default-change
returns-in_default-change c before after command plan behind step told = record {
  command = command;
  behind = record {
    before = before;
    step = step;
    follows = subst (λ (u : Unpublished). IsBehindBy u before plan) c.in-Nothing.is behind;
  };
  told = told;
}
