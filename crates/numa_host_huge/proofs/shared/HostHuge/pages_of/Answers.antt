use Rattle.std.proofs.Common.{◌≡◌, ◌<◌, ℕ, None, Some, List, Option, length, sym, subst, ap, arith}
use Rattle.std.proofs.Common.{◌∙◌, get_or}
use Rattle.numa_huge.specs.Huge.{huge_at}
use Rattle.numa_huge.specs.declared.pages.HugePages.{HugePages}
use Rattle.numa_host_huge.specs.Kept.{HugeKept, place_in, spots_in}
use Rattle.numa_host_huge.specs.Standing.{HugeLies, LiesApart}
use Rattle.numa_host_huge.specs.declared.sharer.Sharer.{Sharer}
use Rattle.numa_host_huge.proofs.Places.{IsAt, IsNowhere, at-home, at-inside, at-spots}
use Rattle.numa_host_huge.proofs.Places.{nowhere-home, nowhere-spots, place-none, place-some}
use Rattle.numa_host_huge.proofs.Places.{some-sharer}
use Rattle.numa_host_huge.proofs.shared.HostHuge.pages_of.Goals as goal

pub returns-in_err-at-clause-spots : goal.returns-in_err-at-clause-spots
returns-in_err-at-clause-spots c =
    let xs : List Sharer = c.self.inside.sharers.items in
    let absent : IsNowhere xs c.args.process = place-none xs c.args.process
    (ap (λ (s : List Sharer). place_in c.args.process s) (sym c.deref.ensures.value)
    ∙ sym c.in_err-at.ensures) in
    rw c.from_residual.ensures
    (ap (λ (k : HugeKept). spots_in c.args.process k.sharers) (sym c.self.view_is)
    ∙ nowhere-spots xs c.args.process absent)

pub returns-in_err-at-clause-home : goal.returns-in_err-at-clause-home
returns-in_err-at-clause-home c = λ at lies.
    let xs : List Sharer = c.self.inside.sharers.items in
    let absent : IsNowhere xs c.args.process = place-none xs c.args.process
    (ap (λ (s : List Sharer). place_in c.args.process s) (sym c.deref.ensures.value)
    ∙ sym c.in_err-at.ensures) in
    let inside = subst (λ (k : HugeKept). HugeLies k at) (sym c.self.view_is) lies in
    rw c.from_residual.ensures (nowhere-home xs at.homes c.args.process inside.homes absent)

pub at_place-requires : goal.at_place-requires
at_place-requires c =
    let xs : List Sharer = c.self.inside.sharers.items in
    let there : IsAt xs c.args.process c.in_ok-at.at = place-some xs c.args.process c.in_ok-at.at
    (ap (λ (s : List Sharer). place_in c.args.process s) (sym c.deref.ensures.value)
    ∙ sym c.in_ok-at.ensures) in
    subst (λ (s : List Sharer). c.in_ok-at.at < length s) (sym c.deref-2.ensures.value)
    (at-inside xs c.args.process c.in_ok-at.at there)

pub returns-clause-spots : goal.returns-clause-spots
returns-clause-spots c =
    let xs : List Sharer = c.self.inside.sharers.items in
    let there : IsAt xs c.args.process c.in_ok-at.at = place-some xs c.args.process c.in_ok-at.at
    (ap (λ (s : List Sharer). place_in c.args.process s) (sym c.deref.ensures.value)
    ∙ sym c.in_ok-at.ensures) in
    let d : Sharer = some-sharer xs c.in_ok-at.at (at-inside xs c.args.process c.in_ok-at.at
    there) in
    ap (λ (k : HugeKept). spots_in c.args.process k.sharers) (sym c.self.view_is)
    ∙ at-spots xs c.args.process c.in_ok-at.at d there
    ∙ ap (λ (p : HugePages). huge_at p.places.runs)
    (sym (c.at_place.ensures d
    ∙ ap (λ (s : List Sharer). (get_or s c.in_ok-at.at d).pages.value) c.deref-2.ensures.value))

pub returns-clause-home : goal.returns-clause-home
returns-clause-home c = λ at lies.
    let xs : List Sharer = c.self.inside.sharers.items in
    let there : IsAt xs c.args.process c.in_ok-at.at = place-some xs c.args.process c.in_ok-at.at
    (ap (λ (s : List Sharer). place_in c.args.process s) (sym c.deref.ensures.value)
    ∙ sym c.in_ok-at.ensures) in
    let d : Sharer = some-sharer xs c.in_ok-at.at (at-inside xs c.args.process c.in_ok-at.at
    there) in
    let inside = subst (λ (k : HugeKept). HugeLies k at) (sym c.self.view_is) lies in
    let has = at-home xs at.homes c.args.process c.in_ok-at.at d inside.homes there in (
      has.home,
      has.is,
      subst (λ (p : HugePages). LiesApart p has.home)
          (sym (c.at_place.ensures d
          ∙ ap (λ (s : List Sharer). (get_or s c.in_ok-at.at d).pages.value)
          c.deref-2.ensures.value)) has.stands.pages,
    )
