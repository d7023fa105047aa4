use Rattle.numa_space.specs.contracts.range_record.RangeRecordPartialEq.TheImpl as range_test
use Rattle.numa_space.proofs.SameTest.{range_test-same}
use Rattle.numa_space.proofs.Editing.{map-edit}
use Rattle.numa_space.proofs.page_ranges.Pages.map_span.Goals as goal

pub returns-clause-edit : goal.returns-clause-edit
returns-clause-edit c =
    map-edit range_test.ghosts.eq range_test-same c.self.inside.map c.map_span.new.self
    c.args.self.now c.self.view_is c.args.first c.args.pages c.map_span.result c.answered.result
    c.answered.ensures c.map_span.ensures.unchanged
    c.args.index c.of-none.result _ c.of-none.ensures c.map_span.ensures.ok
    c.map_span.ensures.accepted c.map_span.ensures.err
