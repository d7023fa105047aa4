use Rattle.std.proofs.Common.{None}
use Rattle.numa_objects.proofs.Bound.{piece-same}
use Rattle.numa_objects.proofs.objects.Objects.piece_at.Goals as goal

pub returns-clause-same : goal.returns-clause-same
returns-clause-same c =
    piece-same c.args.self.now c.items-items.result.now c.args.index c.args.pages c.slot_of.result
    c.turn_of.result c.inode.result None c.requires.object c.index-items-slot_of.result
    c.object-object.result.now c.items-items.ensures.items c.slot_of.ensures c.requires.there
    c.index-items-slot_of.is c.object-object.ensures c.turn_of.ensures.turn
    c.inode.ensures.inode c.piece_at.result.1 c.piece_at.result.0 c.requires.shared
    c.requires.from c.requires.to c.inode.ensures.few c.piece_at.ensures.few
    c.piece_at.ensures.same
