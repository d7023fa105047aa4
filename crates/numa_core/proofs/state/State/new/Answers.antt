use Rattle.std.proofs.Common.{◌≡◌, [], length, map, arith, sym, ap, subst, ◌∙◌}
use Rattle.std.proofs.lemmas.List.{length-map}
use Rattle.numa_core.specs.Seats.{busy_of}
use Rattle.numa_machine.specs.Machine.{Hardware}
use Rattle.numa_space.specs.Standing.{SpaceState, StandsFor}
use Rattle.numa_compile.specs.Follows.{Follows}
use Rattle.numa_compile.specs.Standing.{PlanStandsFor}
use Rattle.numa_core.proofs.CoreSteps.{opened}
use Rattle.numa_core.proofs.state.State.new.Goals as goal

pub returns-clause-kept : goal.returns-clause-kept
returns-clause-kept c = record {
  places = c.in-Ok-idle_parts.ensures.places ∙ ap (λ (m : Hardware). m.frames) (c.machine.ensures
      ∙ ap (λ (s : SpaceState). s.machine) c.space-2.ensures);
  seats = λ w seat at. (c.in-Ok-idle_parts.ensures.idle w seat at).1;
  owners = c.in-Ok-idle_parts.ensures.len;
  few = omega (arith, c.in-Ok-idle_parts.ensures.count, c.requires.few);
  taken = c.in-Ok-idle_parts.ensures.taken c.in-Ok-idle_parts.parts.2.items;
  behind = subst (λ (s : SpaceState). Follows s c.in-Ok.plan) c.space.ensures
      c.in-Ok.ensures.follows;
}

pub returns-clause-opens : goal.returns-clause-opens
returns-clause-opens c =
    let stands = subst (λ (s : SpaceState). StandsFor s []) (sym c.space.ensures)
    c.new-space.ensures.stands in
    let plan = subst (λ (s : SpaceState). PlanStandsFor s.machine c.in-Ok.plan [])
    c.space.ensures (c.in-Ok.ensures.stands [] stands) in
    opened c.new-space.result c.in-Ok.plan c.in-Ok-idle_parts.parts.1.items
    c.in-Ok-idle_parts.parts.2.items c.new-space.ensures.stands plan
    (λ w seat at. (c.in-Ok-idle_parts.ensures.idle w seat at).0) c.in-Ok-idle_parts.ensures.owners

pub returns-clause-setup : goal.returns-clause-setup
returns-clause-setup c =
    let seats = c.in-Ok-idle_parts.parts.1.items in
    let count : length (map busy_of seats) ≡ c.args.workers =
    omega (
      arith,
      length-map seats busy_of,
      c.in-Ok-idle_parts.parts.1.ok.0,
      c.in-Ok-idle_parts.ensures.count,
    ) in
    λ i. record {
      machine = c.new-space.ensures.machine i;
      bounds = c.new-space.ensures.bounds i;
      workers = count i;
    }
