use Rattle.std.proofs.Common.{ℕ, ap, refl, ◌∙◌}
use Rattle.numa_page_state.specs.Outcomes.{Enough}
use Rattle.numa_pools.specs.Pools.{PoolCounts}
use Rattle.numa_pools.specs.Resize.{resized}
use Rattle.numa_space.specs.Standing.{SpaceState}
use Rattle.numa_run.proofs.Keeping.{pools-so}
use Rattle.numa_run.proofs.running.Running.resize.Goals as goal

pub returns : goal.returns
returns c = λ state stands. (
  Enough,
  refl,
  pools-so c.args.self.now c.in-Some.kept c.in-Some.is state stands c.resize_kept.new.kept
      (λ (allowed : ℕ) (pools : PoolCounts). resized c.args.nodes.now allowed c.args.pages pools)
      c.allowed-allowed.result
      (c.allowed-allowed.ensures.allowed ∙ ap (λ (s : SpaceState). s.allowed)
      c.space.ensures.space)
      c.resize_kept.ensures.rest c.resize_kept.ensures.pools c.resize_kept.ensures.runs,
)
