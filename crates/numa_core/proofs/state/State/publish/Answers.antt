use Rattle.std.proofs.Common.{◌∙◌, ap, rules}
use Rattle.numa_plan.specs.Meaning.{PlanData}
use Rattle.numa_core.proofs.CoreSteps.{publish-follows, published-all}
use Rattle.numa_core.proofs.state.State.publish.Goals as goal

pub returns-then-is_newest : goal.returns-then-is_newest
returns-then-is_newest c = record {
  kept = search rules;
  follows = λ world stands.
      publish-follows c.args.self.now.space c.args.self.now.plan c.args.self.now.plan
      c.args.self.now.seats.items c.args.self.now.owners.items world c.version.result stands
      (published-all c.args.self.now.space c.args.self.now.plan c.args.self.now.seats.items
      c.args.self.now.owners.items world stands (c.is_newest.ensures c.if-is_newest.true))
      c.version.ensures;
  unchanged = search rules;
  setup = search rules;
}

pub returns-then-catch_up : goal.returns-then-catch_up
returns-then-catch_up c = record {
  kept = record {
    places = c.requires.kept.places;
    seats = c.requires.kept.seats;
    owners = c.requires.kept.owners;
    few = c.requires.kept.few;
    taken = c.requires.kept.taken;
    behind = c.if-catch_up.ensures.follows;
  };
  follows = λ world stands.
      publish-follows c.args.self.now.space c.args.self.now.plan c.catch_up.new.plan
      c.args.self.now.seats.items c.args.self.now.owners.items world
      c.version-then-catch_up.result stands
      (c.if-catch_up.ensures.stands world.history stands.space)
      c.version-then-catch_up.ensures;
  unchanged = search rules;
  setup = search rules;
}

pub returns : goal.returns
returns c = record {
  kept = rw (c.plan_copy.ensures.same, c.replace.ensures.after) (record {
    places = c.requires.kept.places;
    seats = c.requires.kept.seats;
    owners = c.requires.kept.owners;
    few = c.requires.kept.few;
    taken = c.requires.kept.taken;
    behind = c.in-Ok.ensures.follows;
  });
  follows = λ world stands. rw (c.plan_copy.ensures.same, c.replace.ensures.after)
      (publish-follows c.args.self.now.space c.args.self.now.plan c.in-Ok.plan
      c.args.self.now.seats.items c.args.self.now.owners.items world c.version-2.result stands
      (c.in-Ok.ensures.stands world.history stands.space)
      (c.version-2.ensures ∙ ap (λ (plan : PlanData). plan.version) c.replace.ensures.after));
  unchanged = search rules;
  setup = search rules;
}
