use Rattle.std.proofs.Common.{inl, inr}
use Rattle.std.specs.Prelude.{IfOk, Result}
use Rattle.numa_machine.specs.declared.no_memory.NoMemory.{NoMemory}
use Rattle.numa_words.specs.Touching.{IsFrom}
use Rattle.numa_words.specs.declared.touching.Touched.{Touched}
use Rattle.std.proofs.Common.{subst}
use Rattle.numa_words.proofs.first_touches.from_pools.Goals as goal

pub returns-in_default : goal.returns-in_default
returns-in_default c = λ session stands. inl (c.in_default.ensures session stands)

pub returns-then-are_none : goal.returns-then-are_none
returns-then-are_none c = λ session stands.
    inr (
      c.in-Ok.touched,
      subst (λ (done : Result Touched NoMemory). IfOk done
          (IsFrom session c.args.process c.args.touch c.args.there.now)) c.in-Ok.is
          (c.in-Some.ensures session stands),
      c.are_none.ensures.none c.if-are_none.true,
    )

pub returns : goal.returns
returns c = λ session stands. (
  subst (λ (done : Result Touched NoMemory). IfOk done
      (IsFrom session c.args.process c.args.touch c.args.there.now)) c.in-Ok.is
      (c.in-Some.ensures session stands),
  c.are_none.ensures.some c.if-are_none.false,
)
