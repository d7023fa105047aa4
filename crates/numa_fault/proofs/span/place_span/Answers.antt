use Rattle.std.proofs.Common.{◌≡◌, ℕ, length, subst, ◌∙◌}
use Rattle.numa_compile.specs.Spans.{SpanIsRefused}
use Rattle.numa_fault.proofs.Spanning.{not-refused}
use Rattle.numa_fault.proofs.span.place_span.Goals as goal

pub unreachable-requires : goal.unreachable-requires
unreachable-requires c =
    let wide : length c.as_mut_slice.result.now ≡ c.args.span.pages = c.as_mut_slice.ensures.len
    ∙ c.in-Ok-from_elem.ensures.len in
    not-refused c.args.view.now.desk.machine c.args.view.now.history c.args.span.cpu
    c.args.span.first c.args.span.pages c.in-Ok.ensures.stands c.in_default-fill.field-0
    (subst (λ (n : ℕ). SpanIsRefused c.args.view.now.desk.machine c.args.view.now.history
    c.args.span.first n c.args.span.cpu c.in_default-fill.field-0) wide
    c.in_default-fill.ensures.err)
