use Rattle.std.proofs.Common.{◌≡◌, List, refl, inl, sym, add-one, reverse, ap, ◌∙◌, ◌++◌, ◌∷◌, []}
use Rattle.std.proofs.lemmas.List.{reverse-append}
use Rattle.numa_space.specs.Standing.{SpaceState}
use Rattle.numa_requests.specs.declared.command.Command.{Command}
use Rattle.numa_publish.specs.Shown.{DeskIdentity, DeskState}
use Rattle.numa_publish.proofs.Desks.{answered, accepted_kept, with_pending}
use Rattle.numa_publish.proofs.desk.Desk.accept.Goals as goal

pub invariant_of-self : goal.invariant_of-self
invariant_of-self c = rw c.reserve.ensures.items c.self.invariant

pub returns-in_default : goal.returns-in_default
returns-in_default c = record {
  allowed = tt;
  version = tt;
  added = tt;
  err = inl refl;
  unchanged = rw c.reserve.ensures.items c.self.view_is;
  desk = (
    ap (λ (d : DeskState). d.desk) c.self.view_is,
    ap (λ (d : DeskState). d.bounds) c.self.view_is,
  );
  published = (
    ap (λ (d : DeskState). d.published) c.self.view_is,
    ap (λ (d : DeskState). d.versions) c.self.view_is,
  );
}

pub invariant_of-self-in-Err : goal.invariant_of-self-in-Err
invariant_of-self-in-Err c = rw (c.in-Err.ensures.applied.unchanged, c.reserve.ensures.items)
    c.self.invariant

pub returns-in-Err : goal.returns-in-Err
returns-in-Err c = record {
  allowed = tt;
  version = tt;
  added = tt;
  err = rw (← c.self.view_is) (answered _ _
      (c.in-Err.ensures.applied.err _ c.self.invariant.0.stands));
  unchanged = rw (c.in-Err.ensures.applied.unchanged, c.reserve.ensures.items) c.self.view_is;
  desk = rw c.in-Err.ensures.applied.unchanged (
    ap (λ (d : DeskState). d.desk) c.self.view_is,
    ap (λ (d : DeskState). d.bounds) c.self.view_is,
  );
  published = (
    ap (λ (d : DeskState). d.published) c.self.view_is,
    ap (λ (d : DeskState). d.versions) c.self.view_is,
  );
}

pub invariant_of-self-2 : goal.invariant_of-self-2
invariant_of-self-2 c = (
  accepted_kept _ _ _ _ _ c.self.inside.pending.items c.args.command.now _
      c.self.invariant.0 (c.push_reserved.ensures.items ∙ ap (λ w. w ++ c.args.command.now ∷ [])
      c.reserve.ensures.items) (c.in_default-apply.ensures.applied.ok _ c.self.invariant.0.stands).1
      c.in_default-apply.ensures.applied.machine,
  c.self.invariant.1,
  c.self.invariant.2,
)

pub returns : goal.returns
returns c =
    let done = c.in_default-apply.ensures.applied.ok _ c.self.invariant.0.stands in
    let desk : ◌≡◌ {A = DeskIdentity}
    (record { book = c.self.inside.log.seen.book; machine = c.apply.new.self.machine })
    (record { book = c.self.inside.log.seen.book; machine = c.self.inside.space.machine }) =
    λ i.
    record {
      book = c.self.inside.log.seen.book;
      machine =
          c.in_default-apply.ensures.applied.machine i;
    } in
    record {
      allowed = rw (← c.self.view_is) done.0;
      version =
          rw (← c.self.view_is)
          (c.version.ensures.version ∙ (ap (λ (s : SpaceState). s.version) c.space.ensures
          ∙ (done.1.version ∙ sym (add-one _))));
      added =
          with_pending _ _ c.args.self.now c.args.command.now c.self.view_is desk
          c.in_default-apply.ensures.applied.bounds refl refl
          (ap (λ (w : List Command). reverse w) (c.push_reserved.ensures.items
          ∙ ap (λ w. w ++ c.args.command.now ∷ []) c.reserve.ensures.items)
          ∙ reverse-append c.self.inside.pending.items (c.args.command.now ∷ []));
      err = tt;
      unchanged = tt;
      desk = (
        desk ∙ ap (λ (d : DeskState). d.desk) c.self.view_is,
        c.in_default-apply.ensures.applied.bounds
            ∙ ap (λ (d : DeskState). d.bounds) c.self.view_is,
      );
      published = (
        ap (λ (d : DeskState). d.published) c.self.view_is,
        ap (λ (d : DeskState). d.versions) c.self.view_is,
      );
    }
