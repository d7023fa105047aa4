use Rattle.numa_placed.specs.Moves.{moved_node}
use Rattle.numa_placed.proofs.leaving.departures.Goals as goal

pub returns-clause-gone : goal.returns-clause-gone
returns-clause-gone c count room pages rooms =
    (c.course_of-course.ensures (moved_node c.args.old.now c.args.new.now) count room
    c.targets-to.ensures pages rooms).gone

pub returns-clause-rooms : goal.returns-clause-rooms
returns-clause-rooms c count room pages rooms =
    (c.course_of-course.ensures (moved_node c.args.old.now c.args.new.now) count room
    c.targets-to.ensures pages rooms).room
