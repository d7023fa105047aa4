-- The desk that a handle keeps, before and after a publish.
use Rattle.std.proofs.Common.{◌≡◌, []}
use Rattle.numa_publish.specs.Shown.{DeskState, accepted_commands, versions_after}
use Rattle.numaplan_handles.specs.Desks.{all_published}

-- all that it had accepted is published
pub published_all : (before after : DeskState) → after.published ≡ accepted_commands before
    → after.pending ≡ [] → after.versions ≡ versions_after before → after.desk ≡ before.desk
    → after.bounds ≡ before.bounds → after ≡ all_published before
published_all before after published pending versions desk bounds = λ i. record {
  desk = desk i;
  bounds = bounds i;
  published = published i;
  versions = versions i;
  pending = pending i;
}
