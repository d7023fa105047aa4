use Rattle.std.proofs.Common.{rules, Ok, Err, List, Vec, Global, refl, subst}
use Rattle.numa_reports.specs.declared.differences.SpanMove.{SpanMove}
use Rattle.numaplan_reports.specs.Compared.{IsCompared}
use Rattle.numaplan_c.specs.Compared.{IsListed}
use Rattle.numaplan_c.proofs.differences.np_core_diff.Goals as goal

pub returns-in-Some-Ok : goal.returns-in-Some-Ok
returns-in-Some-Ok c = (
  search rules,
  search rules,
  search rules,
  search rules,
  λ one other is is'. (
    Ok c.in-Some-Ok.moves.items,
    λ a b at bt. subst (IsCompared (λ (moves : Vec SpanMove Global). moves.items) a.space b.space
        c.args.task c.args.cpu) c.in-Some-Ok.field-0-is (c.in-Some-Ok.ensures.4 a b at bt),
    subst (λ (moves : List SpanMove). IsListed moves c.write_items-code.result c.args.room.now
        c.write_items-code.new.room c.write_items-code.new.count) c.as_slice.ensures.value
        c.write_items-code.ensures,
  ),
)

pub returns-in-Some-Err : goal.returns-in-Some-Err
returns-in-Some-Err c = (
  search rules,
  search rules,
  search rules,
  search rules,
  λ one other is is'. (
    Err c.in-Some-Err.why,
    λ a b at bt. subst (IsCompared (λ (moves : Vec SpanMove Global). moves.items) a.space b.space
        c.args.task c.args.cpu) c.in-Some-Err.field-0-is (c.in-Some-Err.ensures.4 a b at bt),
    (search rules, refl, refl),
  ),
)
