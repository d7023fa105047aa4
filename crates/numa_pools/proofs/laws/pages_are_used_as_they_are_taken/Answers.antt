use Rattle.numa_pools.proofs.Using.{freeing-used, giving-used, refusing-used, resize-used}
use Rattle.numa_pools.proofs.Using.{taking-used}
use Rattle.numa_pools.proofs.laws.pages_are_used_as_they_are_taken.Goals as goal

pub returns : goal.returns
returns c = record {
  resized = resize-used;
  given_back = giving-used;
  refused = refusing-used;
  taken = taking-used;
  freed = freeing-used;
}
