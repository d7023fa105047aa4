-- The rows stand among the others.
use Rattle.std.proofs.Common.{◌≡◌, ◌+◌, ◌-◌, ◌∙◌, subst, sym, drop, length, arith}
use Rattle.numa_rows.proofs.Blocks.{put-kept, paste-self}
use lib.Seq.{paste}
use Rattle.numa_rows.proofs.put.put_among.Goals as goal
use Rattle.numa_rows.proofs.put.put_among.Goals.{then-to-from, else-to-from}

pub returns-clause-rows : goal.returns-clause-rows
returns-clause-rows g c =
    let xs = c.args.items.now in
    let rows = c.args.rows.now in
    let moved : c.if-to-from.items ≡ paste xs (c.args.from + length rows) (drop c.args.to xs)
    (c.args.len - c.args.to) =
    elim c.if-to-from.branch [
      | then-to-from w ↦ w.items-is ∙ w.copy_within.ensures.after
      | else-to-from w ↦ w.items-is
          ∙ subst (λ at. xs ≡ paste xs at (drop c.args.to xs) (c.args.len - c.args.to))
          {x = c.args.to} {y = c.args.from + length rows} (omega (arith, w.if-to-from.false))
          (sym (paste-self xs c.args.to (c.args.len - c.args.to)))
    ] in
    put-kept xs c.if-to-from.items c.copy_from_slice.new.self rows c.args.len c.args.from c.args.to
    c.requires.rises c.requires.within c.requires.inside c.requires.fits moved
    c.copy_from_slice.ensures.after
