use Rattle.std.proofs.Common.{◌≡◌, ◌∙◌, ◌==◌, ℕ, List, [], ap, drop, get_or, refl, sym}
use Rattle.std.specs.Prelude.{if◌then◌else◌}
use Rattle.std.proofs.lemmas.List.{drop_all, drop_more}
use Rattle.numa_sheets.specs.declared.asked.FreePages.{FreePages}
use Rattle.numa_moves.specs.Held.{limited_by}
use Rattle.numa_moves.proofs.holding.limit_all.Goals as goal

pub loop-one-init : goal.loop-one-init
loop-one-init c room are = (room, are, refl)

pub loop-one-preserved : goal.loop-one-preserved
loop-one-preserved c room are =
    let d : FreePages = record { node = 0; pages = 0 } in
    let k = c.loop-one.one-index in
    let free : List FreePages = c.args.free.now in
    let one : FreePages = get_or free k d in
    let so = c.loop-one.invariant room are in (
      λ node. if node == one.node then one.pages else so.0 node,
      c.limit.ensures so.0 so.1,
      ap (λ (l : List FreePages). limited_by l so.0)
          (sym (drop_more free k d c.loop-one-test.true)) ∙ so.2,
    )

pub returns : goal.returns
returns c room are node small =
    let k = c.loop-one.one-index in
    let free : List FreePages = c.args.free.now in
    let so = c.loop-one.invariant room are in
    let none : drop k free ≡ [] = drop_all k free c.loop-one-test.false in
    so.1 node small ∙ ap (λ (f : ℕ → ℕ). f node)
    (ap (λ (l : List FreePages). limited_by l so.0) (sym none) ∙ so.2)
