use Rattle.std.proofs.Common.{arith, ap, refl, sym, ◌∙◌}
use Rattle.std.proofs.lemmas.List.Elements.{length_all_zip}
use Rattle.numa_space.specs.Standing.{SpaceState}
use Rattle.numa_core.specs.Seats.{IsSeatCopy}
use Rattle.numa_core.proofs.Copied.{copies-busy, kept-copy}
use Rattle.numa_core.proofs.state.State.copy.Goals as goal

pub returns-clause-kept : goal.returns-clause-kept
returns-clause-kept c =
    let parts = c.in-Ok-part_copies.ensures in
    kept-copy c.args.self.now _ c.in-Ok.ensures
    (parts.places ∙ ap (λ (s : SpaceState). s.machine.frames) (sym c.in-Ok.ensures))
    parts.seats (omega (
      arith,
      c.in-Ok-part_copies.parts.1.ok,
      c.args.self.now.seats.ok,
      length_all_zip IsSeatCopy c.args.self.now.seats.items c.in-Ok-part_copies.parts.1.items
          parts.seats,
    ))
    parts.owners.0 parts.owners.1 parts.taken.0 parts.taken.1 parts.taken.2 refl
    c.in-Ok-copy.ensures c.requires.kept

pub returns-clause-shown : goal.returns-clause-shown
returns-clause-shown c = λ i. record {
  space = c.in-Ok.ensures i;
  plan = c.in-Ok-copy.ensures i;
  workers = copies-busy c.args.self.now.seats.items c.in-Ok-part_copies.parts.1.items
      c.in-Ok-part_copies.ensures.seats i;
  owners = c.in-Ok-part_copies.ensures.owners.0 i;
}
