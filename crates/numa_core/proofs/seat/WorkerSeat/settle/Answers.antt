use Rattle.std.proofs.Common.{◌∙◌, subst}
use Rattle.numa_core.specs.Seats.{busy_at, IsCursor, IsAllMet}
use Rattle.numa_core.proofs.Cursors.{settled, ended}
use Rattle.numa_core.proofs.seat.WorkerSeat.settle.Goals as goal

pub returns-in_default-clause-reply : goal.returns-in_default-clause-reply
returns-in_default-clause-reply c s same = c.over_by.ensures ∙
    (ended s c.args.places.now
    (busy_at c.args.job c.args.self.now.nodes.items c.args.self.now.met.items) same
    (subst (λ ns. IsAllMet c.args.places.now ns c.args.self.now.met.items) c.as_slice.ensures.value
    c.in_default.ensures)).0

pub returns-in_default-clause-frame_search : goal.returns-in_default-clause-frame_search
returns-in_default-clause-frame_search c s same =
    (ended s c.args.places.now
    (busy_at c.args.job c.args.self.now.nodes.items c.args.self.now.met.items) same
    (subst (λ ns. IsAllMet c.args.places.now ns c.args.self.now.met.items) c.as_slice.ensures.value
    c.in_default.ensures)).1

pub returns-clause-reply : goal.returns-clause-reply
returns-clause-reply c s same =
    (settled s c.args.places.now
    (busy_at c.args.job c.args.self.now.nodes.items c.args.self.now.met.items) c.in-Some.at.rank
    c.in-Some.at.next same
    (subst (λ ns. IsCursor c.args.places.now ns c.args.self.now.met.items c.in-Some.at.rank
    c.in-Some.at.next) c.as_slice.ensures.value c.in-Some.ensures)).0

pub returns-clause-frame_search : goal.returns-clause-frame_search
returns-clause-frame_search c s same =
    (settled s c.args.places.now
    (busy_at c.args.job c.args.self.now.nodes.items c.args.self.now.met.items) c.in-Some.at.rank
    c.in-Some.at.next same
    (subst (λ ns. IsCursor c.args.places.now ns c.args.self.now.met.items c.in-Some.at.rank
    c.in-Some.at.next) c.as_slice.ensures.value c.in-Some.ensures)).1
