use Rattle.std.proofs.Common.{◌≡◌, ℕ, ◌∙◌, ap, arith, refl, subst, sym, true, Some}
use Rattle.std.specs.Prelude.{is_some}
use Rattle.std.proofs.lemmas.Bool.{eq-eqb, ne_eqb}
use Rattle.numa_ranges.specs.Ranges.{Ranges}
use Rattle.numa_pools.specs.Pools.{moving_one}
use Rattle.numa_huge.specs.Huge.{HugePlaced, huge_at, with_span}
use Rattle.numa_huge.specs.Kept.{AreKept}
use Rattle.numa_huge.specs.Tallies.{IsLackFor}
use Rattle.numa_huge.specs.declared.spot.HugeSpot.{HugeSpot}
use Rattle.numa_huge.specs.declared.spot.HugeSpot.TheVariants.{On}
use Rattle.numa_huge.proofs.Keeping.{keeps-same, keeps-shown, kept-passed, lying-is}
use Rattle.numa_huge.proofs.Own.{own-node, own-page}
use Rattle.numa_huge.proofs.Passing.{pass-used}
use Rattle.numa_huge.proofs.places.HugePlaces.pass.Goals as goal

lies-in : (inside shown : HugePlaced) (page from : ℕ) → inside ≡ shown
    → huge_at shown.runs page ≡ Some (On from) → huge_at inside.runs page ≡ Some (On from)
lies-in inside shown page from is lies =
    ap (λ (p : HugePlaced). huge_at p.runs page) is ∙ lies

pub returns-then-from-node-clause-pages : goal.returns-then-from-node-clause-pages
returns-then-from-node-clause-pages c =
    rw (eq-eqb c.args.from c.args.node c.if-from-node.true)
    refl

pub put-requires-clause-page : goal.put-requires-clause-page
put-requires-clause-page c =
    own-page c.self.inside.map.runs c.args.page (On c.args.from) c.self.invariant.1.own
    (ap (λ (p : HugePlaced). huge_at p.runs c.args.page) c.self.view_is ∙ c.requires)

pub put-requires-clause-some : goal.put-requires-clause-some
put-requires-clause-some c =
    ap (λ s. is_some s)
    (ap (λ (p : HugePlaced). huge_at p.runs c.args.page) c.self.view_is ∙ c.requires)

pub put-requires-clause-own : goal.put-requires-clause-own
put-requires-clause-own c = c.self.invariant.1.own

pub put-requires-clause-most : goal.put-requires-clause-most
put-requires-clause-most c = c.self.invariant.2

pub invariant_of-self : goal.invariant_of-self
invariant_of-self c = (
  c.self.invariant.0,
  subst (λ (m : Ranges HugeSpot). AreKept c.self.invariant.0 c.self.inside.pools m.runs)
      (sym c.in-Err.ensures.unchanged) c.self.invariant.1,
  ap (λ (m : Ranges HugeSpot). m.max_ranges) c.in-Err.ensures.unchanged ∙ c.self.invariant.2,
)

pub returns-in-Err-clause-unchanged : goal.returns-in-Err-clause-unchanged
returns-in-Err-clause-unchanged c =
    ap (λ (m : Ranges HugeSpot). record { pools = c.self.inside.pools; runs = m.runs })
    c.in-Err.ensures.unchanged ∙ c.self.view_is

pub returns-in-Err-clause-err : goal.returns-in-Err-clause-err
returns-in-Err-clause-err c =
    subst (λ (p : HugePlaced). IsLackFor (with_span c.args.page 1 (Some (On c.args.node))
    (huge_at p.runs)) c.in-Err.why) c.self.view_is c.in-Err.ensures.err

pub move_page-requires-clause-used : goal.move_page-requires-clause-used
move_page-requires-clause-used c =
    let runs = c.self.inside.map.runs in
    let lies = ap (λ (p : HugePlaced). huge_at p.runs c.args.page) c.self.view_is
    ∙ c.requires in
    pass-used (huge_at runs) c.args.page c.args.from
    (own-page runs c.args.page (On c.args.from) c.self.invariant.1.own lies) lies
    c.self.invariant.0 c.self.inside.pools
    (own-node runs c.args.page c.args.from c.self.invariant.1.own lies)
    c.self.invariant.1.pooled

pub invariant_of-self-2 : goal.invariant_of-self-2
invariant_of-self-2 c =
    let runs = c.self.inside.map.runs in
    let lies = ap (λ (p : HugePlaced). huge_at p.runs c.args.page) c.self.view_is
    ∙ c.requires in (
      c.self.invariant.0,
      kept-passed c.self.invariant.0 c.self.inside.pools c.move_page.new.self runs
          c.put.new.map.runs c.args.page c.args.from c.args.node lies (omega arith)
          c.if-from-node.false c.keep.ensures c.keep-2.ensures c.self.invariant.1
          c.in_default.ensures.own c.in_default.ensures.ok c.move_page.ensures,
      c.put.ensures.max_ranges ∙ c.self.invariant.2,
    )

pub returns-clause-pages : goal.returns-clause-pages
returns-clause-pages c =
    let page = c.args.page in
    let from = c.args.from in
    let node = c.args.node in
    rw (ne_eqb from node c.if-from-node.false)
    (lying-is c.move_page.new.self (moving_one c.args.self.now.pools from node)
    (huge_at c.put.new.map.runs)
    (with_span page 1 (Some (On node)) (huge_at c.args.self.now.runs))
    (c.move_page.ensures
    ∙ ap (λ (p : HugePlaced). moving_one p.pools from node) c.self.view_is)
    (λ other. c.in_default.ensures.ok other
    ∙ ap (λ (p : HugePlaced). with_span page 1 (Some (On node)) (huge_at p.runs) other)
    c.self.view_is))

pub returns-then-from-node-clause-keeps : goal.returns-then-from-node-clause-keeps
returns-then-from-node-clause-keeps c = keeps-same c.args.self.now c.args.self.now refl

pub returns-in-Err-clause-keeps : goal.returns-in-Err-clause-keeps
returns-in-Err-clause-keeps c = keeps-same c.args.self.now
    (record { pools = c.self.inside.pools; runs = c.put.new.map.runs })
    (ap (λ (m : Ranges HugeSpot). record { pools = c.self.inside.pools; runs = m.runs })
    c.in-Err.ensures.unchanged ∙ c.self.view_is)

pub returns-clause-keeps : goal.returns-clause-keeps
returns-clause-keeps c =
    let runs = c.self.inside.map.runs in
    let lies = ap (λ (p : HugePlaced). huge_at p.runs c.args.page) c.self.view_is
    ∙ c.requires in
    keeps-shown (record { pools = c.self.inside.pools; runs = runs }) c.args.self.now
    (record { pools = c.move_page.new.self; runs = c.put.new.map.runs }) c.self.view_is
    (λ others pooled. (kept-passed others c.self.inside.pools c.move_page.new.self runs
    c.put.new.map.runs c.args.page c.args.from c.args.node lies (omega arith)
    c.if-from-node.false c.keep.ensures c.keep-2.ensures
    (record { own = c.self.invariant.1.own; pooled = pooled }) c.in_default.ensures.own
    c.in_default.ensures.ok c.move_page.ensures).pooled)
