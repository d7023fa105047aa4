use Rattle.numa_maps.proofs.ByPage.{on_node-by_page, placed-by_page}
use Rattle.numa_maps.proofs.laws.counts_are_of_pages.Goals as goal

pub returns-clause-placed : goal.returns-clause-placed
returns-clause-placed c = placed-by_page

pub returns-clause-on_node : goal.returns-clause-on_node
returns-clause-on_node c = on_node-by_page
