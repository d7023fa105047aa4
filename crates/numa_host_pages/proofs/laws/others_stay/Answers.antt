use Rattle.std.proofs.Common.{Some}
use Rattle.numa_host_pages.proofs.Alone.{other-pages}
use Rattle.numa_host_pages.proofs.laws.others_stay.Goals as goal

pub returns : goal.returns
returns c = λ process other done at far. other-pages process other (Some done) at.homes far
