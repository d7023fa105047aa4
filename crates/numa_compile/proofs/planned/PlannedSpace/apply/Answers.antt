use Rattle.std.proofs.Common.{◌≡◌, OnErr, OnOk, Result, subst}
use Rattle.std.proofs.lemmas.Result.{IfOk-at_ok}
use Rattle.numa_space.specs.Changed.{IsChange}
use Rattle.numa_space.specs.declared.change.Change.{Change}
use Rattle.numa_requests.specs.declared.refusal.Refusal.{Refusal}
use Rattle.numa_space.specs.Steps.{IsStep}
use Rattle.numa_compile.specs.Follows.{Follows}
use Rattle.numa_compile.proofs.planned.PlannedSpace.apply.Goals as goal

pub follow-requires : goal.follow-requires
follow-requires c x is = record {
  command = c.args.command.now;
  behind = record {
    before = c.self.inside.space;
    step = subst (λ (r : Result Change Refusal). OnOk r (IsStep c.self.inside.space
        c.args.command.now c.apply-answer.new.self)) c.in-Ok.is c.apply-answer.ensures.applied.step;
    follows = c.self.invariant x is;
  };
  told = IfOk-at_ok (IsChange c.self.inside.space c.args.command.now) c.in-Ok.is
      c.apply-answer.ensures.change;
}

pub invariant_of-self-in_default : goal.invariant_of-self-in_default
invariant_of-self-in_default c =
    let same : c.apply-answer.new.self ≡ c.self.inside.space =
    subst (λ (r : Result Change Refusal). OnErr r (c.apply-answer.new.self ≡ c.self.inside.space))
    c.in_default.is c.apply-answer.ensures.applied.unchanged in
    rw same c.self.invariant
