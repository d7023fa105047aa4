use Rattle.std.proofs.Common.{refl}
use Rattle.numaplan_handles.proofs.host_pages.let_follow.Goals as goal

pub returns : goal.returns
returns c = record { host = refl; pages = c.set_follows.ensures }
