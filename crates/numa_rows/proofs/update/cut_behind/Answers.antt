-- The parts before the row's stay as they were, and the front of its own.
use Rattle.std.proofs.Common.{◌≡◌, ◌+◌, [], List, length, set, get_or, ap, ◌∙◌, refl, arith}
use Rattle.std.proofs.lemmas.List.{get_or-take}
use Rattle.numa_rows.proofs.InParts.{part-within}
use Rattle.numa_rows.proofs.Cutting.{most-at, kept-parts, kept-rows, kept-table}
use Rattle.numa_rows.proofs.update.cut_behind.Goals as goal

pub overflow_add-kept : goal.overflow_add-kept
overflow_add-kept g c =
    let most = most-at 6144 c.args.chunks.now.items c.args.place.chunk [] c.requires.has.within
    c.requires.table.filled in
    omega (arith, most, c.requires.has.to [])

pub returns-clause-rows : goal.returns-clause-rows
returns-clause-rows g c =
    let parts = c.args.chunks.now.items in
    let part = c.args.place.chunk in
    let chunk = c.index_mut-chunk.result.now in
    let is : chunk ≡ get_or parts part chunk = c.index_mut-chunk.ensures.value
    ∙ (ap (λ (l : List (List g.row.T.Denot)). get_or l part chunk) c.truncate.ensures.items
    ∙ get_or-take (part + 1) parts part chunk (omega arith)) in
    let left = kept-parts parts c.truncate.new.self.items
    (set c.truncate.new.self.items part c.truncate-3.new.self) part c.truncate-3.new.self
    c.requires.has.within c.truncate.ensures.items refl in
    kept-rows parts (set c.truncate.new.self.items part c.truncate-3.new.self) part
    c.args.place.start c.args.rank chunk c.truncate-3.new.self c.requires.has is
    c.truncate-3.ensures left

pub returns-clause-table : goal.returns-clause-table
returns-clause-table g c =
    let parts = c.args.chunks.now.items in
    let part = c.args.place.chunk in
    let chunk = c.index_mut-chunk.result.now in
    let is : chunk ≡ get_or parts part chunk = c.index_mut-chunk.ensures.value
    ∙ (ap (λ (l : List (List g.row.T.Denot)). get_or l part chunk) c.truncate.ensures.items
    ∙ get_or-take (part + 1) parts part chunk (omega arith)) in
    let new = set c.truncate.new.self.items part c.truncate-3.new.self in
    let left = kept-parts parts c.truncate.new.self.items new part c.truncate-3.new.self
    c.requires.has.within c.truncate.ensures.items refl in
    let rows = kept-rows parts new part c.args.place.start c.args.rank chunk c.truncate-3.new.self
    c.requires.has is c.truncate-3.ensures left in
    kept-table 6144 parts new c.args.starts.now.items c.truncate-2.new.self.items c.args._len part
    c.args.place.start c.args.rank chunk c.truncate-3.new.self c.requires.table c.requires.has
    is c.truncate-3.ensures left c.truncate-2.ensures.items
    (let all = part-within parts part c.args.place.start c.args.rank chunk c.requires.has is in
    omega (
      arith,
      all,
      ap length is,
      c.requires.has.to chunk,
      c.requires.has.from,
      c.requires.table.count,
    )) rows
