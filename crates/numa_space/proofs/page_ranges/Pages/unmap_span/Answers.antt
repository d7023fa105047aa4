use Rattle.numa_space.specs.contracts.range_record.RangeRecordPartialEq.TheImpl as range_test
use Rattle.numa_space.proofs.SameTest.{range_test-same}
use Rattle.numa_ranges.specs.Maps.{without_span}
use Rattle.numa_space.proofs.Editing.{count-edit}
use Rattle.numa_space.proofs.page_ranges.Pages.unmap_span.Goals as goal

pub returns-clause-edit : goal.returns-clause-edit
returns-clause-edit c =
    count-edit range_test.ghosts.eq range_test-same c.self.inside.map c.unmap_span.new.self
    c.args.self.now c.self.view_is c.args.first c.args.pages c.unmap_span.result
    c.answered.result c.answered.ensures c.unmap_span.ensures.unchanged
    (without_span c.args.first c.args.pages) c.unmap_span.ensures.ok c.unmap_span.ensures.accepted
    c.unmap_span.ensures.err
