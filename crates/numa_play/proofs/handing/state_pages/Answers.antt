use Rattle.std.proofs.Common.{◌*◌, ◌∙◌, ℕ, List, refl, subst, sym}
use Rattle.numa_play.specs.Deeds.{StatesPages}
use Rattle.numa_play.proofs.handing.state_pages.Goals as goal

pub loop-page-init : goal.loop-page-init
loop-page-init c session stands = (
  session,
  stands,
  λ end is. subst (λ (left : List (ℕ × ℕ)). StatesPages c.args.process left session end)
      (c.into_iter-page-iterator.ensures.into_iter_gives ∙ c.pages-page-items.ensures) is,
)

pub loop-page-preserved : goal.loop-page-preserved
loop-page-preserved c session stands =
    let at = c.loop-page.invariant session stands in
    let done = c.in_default.ensures at.0 at.1 in (
      done.0,
      done.1,
      λ end more. at.2 end
          (subst (λ (left : List (ℕ × ℕ)). StatesPages c.args.process left at.0 end)
          (sym c.in-Some.ensures.steps) (done.0, done.2, more)),
    )

pub returns : goal.returns
returns c session stands =
    let at = c.loop-page.invariant session stands in (
      at.0,
      at.1,
      at.2 at.0 (subst (λ (left : List (ℕ × ℕ)). StatesPages c.args.process left at.0 at.0)
          (sym c.in-None.ensures.steps.0) refl),
    )
