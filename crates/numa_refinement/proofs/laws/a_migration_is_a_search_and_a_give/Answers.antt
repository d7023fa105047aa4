use Rattle.numa_refinement.proofs.Migrating.{exhausts, refused, wins}
use Rattle.numa_refinement.proofs.laws.a_migration_is_a_search_and_a_give.Goals as goal

pub returns-clause-exhausted : goal.returns-clause-exhausted
returns-clause-exhausted c s w version node first before after turns placement back falls migrates =
    exhausts s w version node first before after turns falls migrates.2

pub returns-clause-moved : goal.returns-clause-moved
returns-clause-moved c s w version node first before after turns placement moved falls migrates =
    wins s w version node first before after turns falls placement moved migrates

pub returns-clause-refused : goal.returns-clause-refused
returns-clause-refused c s w version node first before after placement back low idle migrates =
    refused s w version node first low idle migrates.0
