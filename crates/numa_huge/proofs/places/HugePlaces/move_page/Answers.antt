use Rattle.std.proofs.Common.{◌∙◌, ℕ, Option, ap, refl, subst, sym}
use Rattle.std.specs.Prelude.{unwrap_or}
use Rattle.numa_huge.specs.Huge.{huge_at, places_of}
use Rattle.numa_huge.specs.Moves.{HugeTold}
use Rattle.numa_huge.specs.Tallies.{HasTold}
use Rattle.numa_huge.specs.declared.last.HugeLast.TheVariants.{Nodes}
use Rattle.numa_huge.proofs.Keeping.{keeps-same}
use Rattle.numa_huge.proofs.Where.{moved-nowhere, moved-on, on-of, told-nowhere, told-on}
use Rattle.numa_huge.proofs.places.HugePlaces.move_page.Goals as goal

pub returns-in_default-clause-pages : goal.returns-in_default-clause-pages
returns-in_default-clause-pages c =
    sym (moved-nowhere (huge_at c.args.self.now.runs c.args.page)
    (sym c.node_at.ensures ∙ c.in_default.is) c.args.page c.args.node (places_of c.args.self.now))

pub returns-in_default-clause-told : goal.returns-in_default-clause-told
returns-in_default-clause-told c =
    subst (λ (t : HugeTold). HasTold (Nodes c.still.result) t)
    (sym (told-nowhere (huge_at c.args.self.now.runs c.args.page)
    (sym c.node_at.ensures ∙ c.in_default.is) c.args.node)) c.still.ensures

pub pass-requires : goal.pass-requires
pass-requires c =
    on-of (huge_at c.args.self.now.runs c.args.page) c.in-Some.from
    (sym c.node_at.ensures ∙ c.in-Some.is)

pub returns-clause-pages : goal.returns-clause-pages
returns-clause-pages c =
    let is = on-of (huge_at c.args.self.now.runs c.args.page) c.in-Some.from
    (sym c.node_at.ensures ∙ c.in-Some.is) in
    c.in_default-pass.ensures.pages
    ∙ sym (moved-on (huge_at c.args.self.now.runs c.args.page) c.in-Some.from is c.args.page
    c.args.node (places_of c.args.self.now))

pub returns-clause-told : goal.returns-clause-told
returns-clause-told c =
    let is = on-of (huge_at c.args.self.now.runs c.args.page) c.in-Some.from
    (sym c.node_at.ensures ∙ c.in-Some.is) in
    subst (λ (t : HugeTold). HasTold (Nodes c.one_moved.result) t)
    (sym (told-on (huge_at c.args.self.now.runs c.args.page) c.in-Some.from is c.args.node))
    c.one_moved.ensures

pub returns-in-Err-clause-other : goal.returns-in-Err-clause-other
returns-in-Err-clause-other c same =
    c.in-Err.ensures.other (ap (λ (o : Option ℕ). unwrap_or o 0)
    (sym c.in-Some.is ∙ c.node_at.ensures ∙ same))

pub returns-in_default-clause-keeps : goal.returns-in_default-clause-keeps
returns-in_default-clause-keeps c = keeps-same c.args.self.now c.args.self.now refl

pub returns-in-Err-clause-keeps : goal.returns-in-Err-clause-keeps
returns-in-Err-clause-keeps c = c.pass.ensures.keeps

pub returns-clause-keeps : goal.returns-clause-keeps
returns-clause-keeps c = c.pass.ensures.keeps
