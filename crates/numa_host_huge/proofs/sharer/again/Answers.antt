use Rattle.std.proofs.Common.{ap, subst, sym, ◌∙◌}
use Rattle.numa_huge.specs.Huge.{HugePlaced, huge_at}
use Rattle.numa_huge.specs.Tallies.{IsMemory}
use Rattle.numa_huge.specs.declared.pages.HugePages.{HugePages}
use Rattle.numa_host_huge.specs.Sharing.{lent}
use Rattle.numa_host_huge.specs.Standing.{LiesApart}
use Rattle.numa_host_huge.proofs.sharer.again.Goals as goal

pub returns-in-Ok-boxed-clause-spots : goal.returns-in-Ok-boxed-clause-spots
returns-in-Ok-boxed-clause-spots c =
    ap (λ (p : HugePages). huge_at p.places.runs) c.in-Ok-boxed.ensures
    ∙ ap (λ (p : HugePlaced). huge_at p.runs) c.in-Ok.ensures.places
    ∙ ap (λ (p : HugePages). huge_at p.places.runs) c.deref.ensures

pub returns-in-Ok-boxed-clause-home : goal.returns-in-Ok-boxed-clause-home
returns-in-Ok-boxed-clause-home c = λ home is. record {
  id = is.id;
  pages = subst (λ (p : HugePages). LiesApart p home) (sym c.in-Ok-boxed.ensures) (
    is.pages.0,
    c.in-Ok.ensures.memory (lent is.pages.0 home)
        (subst (λ (p : HugePages). IsMemory p (lent is.pages.0 home)) (sym c.deref.ensures)
        is.pages.1),
  );
}
