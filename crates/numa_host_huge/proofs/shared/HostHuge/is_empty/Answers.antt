use Rattle.std.proofs.Common.{◌≡◌, ℕ, length, List, sym, subst, ap, arith}
use Rattle.std.specs.Prelude.{◌==◌}
use Rattle.numa_host_huge.specs.Kept.{HugeKept}
use Rattle.numa_host_huge.specs.Standing.{HugeLies}
use Rattle.numa_host_huge.proofs.Places.{homes-length}
use Rattle.numa_host_huge.proofs.shared.HostHuge.is_empty.Goals as goal

pub returns : goal.returns
returns c = λ at lies.
    let inside = subst (λ (k : HugeKept). HugeLies k at) (sym c.self.view_is) lies in
    let same : c.len.result ≡ length at.homes = omega (
      arith,
      c.len.ensures,
      c.self.inside.sharers.ok.0,
      homes-length c.self.inside.sharers.items at.homes inside.homes,
    ) in
    ap (λ (n : ℕ). n == 0) same
