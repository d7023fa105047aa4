use Rattle.numa_placed.proofs.Edits.{pages-kept, runs-kept}
use Rattle.numa_placed.proofs.laws.moves_keep_pages.Goals as goal

pub returns-clause-pages : goal.returns-clause-pages
returns-clause-pages c = pages-kept

pub returns-clause-runs : goal.returns-clause-runs
returns-clause-runs c = runs-kept
