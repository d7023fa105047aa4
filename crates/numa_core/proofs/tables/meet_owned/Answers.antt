use Rattle.std.proofs.Common.{arith, ap, refl, sym, ◌∙◌, is_some, subst}
use Rattle.numa_core.proofs.InARow.{MeetsOwned, stretch-none, stretch-more, owner_read}
use Rattle.numa_core.proofs.tables.meet_owned.Goals as goal

pub loop-place-init : goal.loop-place-init
loop-place-init c =
    record {
      met = stretch-none c.args.start c.args.owners.now.items c.args.met.now.items;
      len =
          refl;
    }

pub loop-place-preserved : goal.loop-place-preserved
loop-place-preserved c = record {
  met = stretch-more c.args.start c.loop-place.place c.args.owners.now.items c.args.met.now.items
      c.loop-place.met.items c.meet_if.new.met.items c.is_some.result c.loop-place.auto.place
      (c.is_some.ensures ∙ ap is_some
      (sym (owner_read c.args.owners.now.items c.loop-place.place c.index.result.now
      (omega (arith, c.requires.owners, c.loop-place-test.true, c.args.owners.now.ok.0))
      c.index.ensures)))
      c.loop-place.invariant.met c.meet_if.ensures.met;
  len = c.meet_if.ensures.len ∙ c.loop-place.invariant.len;
}

pub returns-clause-met : goal.returns-clause-met
returns-clause-met c =
    subst (λ end. MeetsOwned c.args.start end c.args.owners.now.items c.args.met.now.items
    c.loop-place.met.items) (omega (
      arith,
      c.loop-place.auto.place-end c.requires.order,
      c.loop-place-test.false,
    )) c.loop-place.invariant.met
