use Rattle.std.proofs.Common.{◌≡◌, ◌∙◌, ℕ, ap}
use Rattle.numa_mode.specs.Policy.{PolicyRecord}
use Rattle.numa_ranges.specs.Maps.{without_span}
use Rattle.numa_ranges.specs.Ranges.{Ranges}
use Rattle.numa_ranges.specs.Runs.{page_at}
use Rattle.numa_objects.specs.Objects.{IsObject}
use Rattle.numa_objects.proofs.Changed.{put-place}
use Rattle.numa_objects.proofs.object.Object.bound.Goals as goal

pub invariant_of-result : goal.invariant_of-result
invariant_of-result c =
    let cut : (place : ℕ) → page_at c.unmap_span.new.self.runs place
    ≡ without_span c.args.first c.args.pages (page_at c.self.inside.policies.runs) place =
    λ place. c.in-Ok.ensures.ok place
    ∙ ap (λ (m : Ranges PolicyRecord). without_span c.args.first c.args.pages (page_at m.runs) place)
    c.in_ok-policies.ensures in
    record {
      inode = c.self.invariant.inode;
      places = put-place c.args.first c.args.pages c.args.policy.now
          (page_at c.self.inside.policies.runs) (page_at c.unmap_span.new.self.runs)
          (page_at c.put.new.policies.runs) cut c.in_ok-put.ensures c.self.invariant.places;
    }

pub returns-clause-kept : goal.returns-clause-kept
returns-clause-kept c =
    let cut : (place : ℕ) → page_at c.unmap_span.new.self.runs place
    ≡ without_span c.args.first c.args.pages (page_at c.self.inside.policies.runs) place =
    λ place. c.in-Ok.ensures.ok place
    ∙ ap (λ (m : Ranges PolicyRecord). without_span c.args.first c.args.pages (page_at m.runs) place)
    c.in_ok-policies.ensures in
    record {
      inode = c.self.invariant.inode;
      places = put-place c.args.first c.args.pages c.args.policy.now
          (page_at c.self.inside.policies.runs) (page_at c.unmap_span.new.self.runs)
          (page_at c.put.new.policies.runs) cut c.in_ok-put.ensures c.self.invariant.places;
    }
