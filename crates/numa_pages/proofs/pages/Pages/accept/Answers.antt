use Rattle.numa_pages.proofs.pages.Pages.accept.Goals as goal

pub returns-in-Unmap : goal.returns-in-Unmap
returns-in-Unmap c = rw c.in-Unmap.is c.unmap.ensures
