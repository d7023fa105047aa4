use Rattle.std.proofs.Common.{ap, ◌∙◌}
use Rattle.numa_space.specs.History.{page_of}
use Rattle.numa_huge.specs.Huge.{huge_at}
use Rattle.numa_page_state.specs.Huge.{huge_count}
use Rattle.numa_page_state.specs.Lying.{ground_in}
use Rattle.numa_page_state.proofs.PartsTouched.{touched-none, touched-so}
use Rattle.numa_page_state.proofs.beside.touch_beside.Goals as goal

pub returns : goal.returns
returns c =
    touched-so c.args.placed.now c.args.rooms.now c.touch.new.rooms
    (ground_in c.args.space.now c.args.resident.now) (huge_at c.args.huge.now.runs) c.args.start
    c.args.length c.args.task c.args.cpu c.mark_parts.new.placed c.touch.new.placed
    c.clear_parts.new.placed c.huge_span-span.result.first c.huge_span-span.result.pages
    c.in-Ok-touch.arrived (
      c.huge_span-span.ensures.first,
      c.huge_span-span.ensures.pages
          ∙ ap (huge_count (page_of c.args.start)) c.page_count.ensures.pages,
      c.in-Ok.ensures,
    )
    c.in-Ok-touch.ensures c.in-Ok-clear_parts.ensures

pub returns-in-Err : goal.returns-in-Err
returns-in-Err c =
    touched-none c.args.placed.now c.args.rooms.now c.touch.new.rooms
    (ground_in c.args.space.now c.args.resident.now) (huge_at c.args.huge.now.runs) c.args.start
    c.args.length c.args.task c.args.cpu c.mark_parts.new.placed c.touch.new.placed
    c.huge_span-span.result.first c.huge_span-span.result.pages c.in-Err.why (
      c.huge_span-span.ensures.first,
      c.huge_span-span.ensures.pages
          ∙ ap (huge_count (page_of c.args.start)) c.page_count.ensures.pages,
      c.in-Ok.ensures,
    )
    c.in-Err.ensures
