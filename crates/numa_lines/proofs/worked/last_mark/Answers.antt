use Rattle.std.proofs.Common.{◌∙◌, ◌+◌, ◌-◌, sym, arith}
use Rattle.numa_lines.proofs.Marks.{LacksFrom, none_at_all, is_last, lacks_behind, lacks_more}
use Rattle.numa_lines.proofs.Marks.{lacks_there, still_within}
use Rattle.numa_lines.proofs.worked.last_mark.Goals as goal

pub loop-place-init : goal.loop-place-init
loop-place-init c = (omega arith, lacks_behind c.args.text.now)

pub loop-place-preserved : goal.loop-place-preserved
loop-place-preserved c =
    let text = c.args.text.now in
    let place = c.in-Some.place in
    let end = c.loop-place.end in
    let within = c.loop-place.invariant.0 in
    let lacks = c.loop-place.invariant.1 in
    let behind : LacksFrom text (place + 1) =
    lacks_more text (place + 1) end within lacks c.in-Some.ensures.0.after in (
      still_within text place end within c.in-Some.ensures.0.high,
      lacks_there text place (omega arith) behind
          (sym c.begins_mark.ensures.value ∙ c.if-begins_mark.false),
    )

pub returns-then-place-lt2-clause-value : goal.returns-then-place-lt2-clause-value
returns-then-place-lt2-clause-value c =
    let text = c.args.text.now in
    let place = c.in-Some.place in
    let end = c.loop-place.end in
    let within = c.loop-place.invariant.0 in
    let lacks = c.loop-place.invariant.1 in
    let behind : LacksFrom text (place + 1) =
    lacks_more text (place + 1) end within lacks c.in-Some.ensures.0.after in
    sym (none_at_all text (λ later. behind later (omega arith)))

pub returns-then-begins_mark-clause-value : goal.returns-then-begins_mark-clause-value
returns-then-begins_mark-clause-value c =
    let text = c.args.text.now in
    let place = c.in-Some.place in
    let end = c.loop-place.end in
    let within = c.loop-place.invariant.0 in
    let lacks = c.loop-place.invariant.1 in
    let behind : LacksFrom text (place + 1) =
    lacks_more text (place + 1) end within lacks c.in-Some.ensures.0.after in
    sym (is_last (place - 2) text (sym c.begins_mark.ensures.value ∙ c.if-begins_mark.true)
    (λ later low. behind later (omega (arith, low))))

pub returns-clause-value : goal.returns-clause-value
returns-clause-value c =
    let text = c.args.text.now in
    let within = c.loop-place.invariant.0 in
    let lacks = c.loop-place.invariant.1 in
    sym (none_at_all text (λ later. lacks_more text 0 c.loop-place.end within lacks
    c.in_default.ensures later (omega arith)))
