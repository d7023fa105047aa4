use Rattle.std.proofs.Common.{sym, subst, ◌∙◌}
use Rattle.numa_mode.specs.Within.{IsAtMostOne}
use Rattle.numa_mode.proofs.Local.{effect_when_set-local}
use Rattle.numa_mode.proofs.Single.{effect_when_set-at_most_one}
use Rattle.numa_mode.proofs.records.Record.set.Goals as goal

pub invariant_of-record : goal.invariant_of-record
invariant_of-record c = record {
  policy = c.requires.policy;
  preferred = λ is_preferred_here. subst IsAtMostOne (sym c.effect.ensures.effect)
      (effect_when_set-at_most_one c.args.spec c.args.allowed.now is_preferred_here);
  local = λ is_local_here. c.effect.ensures.effect ∙ effect_when_set-local c.args.spec
      c.args.allowed.now is_local_here;
  home = λ none. cc;
}
