use Rattle.std.proofs.Common.{List, subst, sym}
use Rattle.numa_moves.specs.Sums.{AddsEach}
use Rattle.numa_moves.specs.declared.moving.ShareMove.{ShareMove}
use Rattle.numa_moves.proofs.Summing.{each-none, each-one}
use Rattle.numa_moves.proofs.Reading.{read-none, read-some}
use Rattle.numa_moves.proofs.sheet.Sheet.put_at.Goals as goal

pub add-requires : goal.add-requires
add-requires c = record { whole = c.requires.whole }

pub returns-in_default : goal.returns-in_default
returns-in_default c =
    subst (λ (l : List (List ShareMove)). AddsEach c.args.all.now l c.args.all.now)
    (sym (read-none c.args.told.now c.args.place c.get.result c.get.ensures.lookup
    c.in_default.is))
    (each-none c.args.all.now c.requires.whole)

pub returns : goal.returns
returns c =
    subst (λ (l : List (List ShareMove)). AddsEach c.args.all.now l c.add.new.self)
    (sym (read-some c.args.told.now c.args.place c.get.result c.in-Some.one c.get.ensures.lookup
    c.in-Some.is))
    (each-one c.in-Some.one.now.moves.items c.put_process.new.self.total c.args.all.now
    c.add.new.self c.put_process.ensures c.add.ensures)
