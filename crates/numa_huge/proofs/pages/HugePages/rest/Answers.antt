use Rattle.numa_huge.proofs.pages.HugePages.rest.Goals as goal

pub returns-clause-memory : goal.returns-clause-memory
returns-clause-memory c memory is = record {
  pages = is.pages;
  told = c.still.ensures;
  arrived = is.arrived;
}
