use Rattle.std.proofs.Common.{◌≡◌, ◌==◌, ◌||◌, ℕ, Some, None, ap, ◌∙◌, sym, subst, false, refl}
use Rattle.numa_core.specs.World.{is_frame}
use Rattle.numa_core.specs.Standing.{is_met, met_at}
use Rattle.numa_core.proofs.InARow.{place-some, met-more}
use Rattle.numa_core.proofs.Seating.{cursor-of, passed-keeps, or_met, next-true, next-other}
use Rattle.numa_core.proofs.Seating.{tries-bad, tries-owned, tries-free}
use Rattle.numa_core.proofs.seat.WorkerSeat.attempt.Goals as goal

pub returns-then-node-frame-clause-tries : goal.returns-then-node-frame-clause-tries
returns-then-node-frame-clause-tries c s same = tries-bad s c.args.places.now c.args.owned
    c.args.frame c.args.self.now c.args.self.now c.in_ok-job.job c.in_ok-job.node same
    c.in_ok-job.ensures.busy.0
    (cursor-of c.args.places.now c.args.self.now.job c.in_ok-job.job c.args.self.now.nodes.items
    c.args.self.now.met.items c.in_ok-job.ensures.busy.0 c.requires.fits.cursor)
    c.in_ok-job.ensures.busy.1
    (next-other c.args.places.now c.args.self.now.met.items c.in_ok-job.node c.args.frame
    c.if-node-frame.true)

pub settle-requires-clause-passed : goal.settle-requires-clause-passed
settle-requires-clause-passed c =
    let there = place-some c.args.places.now c.args.frame.node c.args.frame.number c.args.place
    c.requires.place in
    let each = met-more c.args.places.now c.args.self.now.met.items c.meet.new.met.items
    c.args.frame.node c.args.frame.number there.0
    (subst (λ q. (p : ℕ) → is_met c.meet.new.met.items (Some p)
    ≡ ((p == q) || is_met c.args.self.now.met.items (Some p))) there.1 c.meet.ensures.met) in
    let cursor = cursor-of c.args.places.now c.args.self.now.job c.in_ok-job.job
    c.args.self.now.nodes.items c.args.self.now.met.items c.in_ok-job.ensures.busy.0
    c.requires.fits.cursor in
    passed-keeps c.args.places.now c.args.self.now.nodes.items c.args.self.now.met.items
    c.meet.new.met.items c.in_ok-job.job.at.rank c.in_ok-job.job.at.next
    (λ n k was. or_met _ (is_frame c.args.frame n k) _ (each n k) was) cursor.passed

pub returns-then-owned-clause-tries : goal.returns-then-owned-clause-tries
returns-then-owned-clause-tries c s same =
    let there = place-some c.args.places.now c.args.frame.node c.args.frame.number c.args.place
    c.requires.place in
    let each = met-more c.args.places.now c.args.self.now.met.items c.meet.new.met.items
    c.args.frame.node c.args.frame.number there.0
    (subst (λ q. (p : ℕ) → is_met c.meet.new.met.items (Some p)
    ≡ ((p == q) || is_met c.args.self.now.met.items (Some p))) there.1 c.meet.ensures.met) in
    let unmet : met_at c.args.places.now c.args.self.now.met.items c.args.frame.node
    c.args.frame.number ≡ false = ap (is_met c.args.self.now.met.items) c.requires.place
    ∙ sym c.is_met.ensures ∙ c.if-is_met.false in
    tries-owned s c.args.places.now c.args.owned c.args.frame c.args.self.now c.settle.new.self
    c.in_ok-job.job c.in_ok-job.node same c.in_ok-job.ensures.busy.0
    (cursor-of c.args.places.now c.args.self.now.job c.in_ok-job.job c.args.self.now.nodes.items
    c.args.self.now.met.items c.in_ok-job.ensures.busy.0 c.requires.fits.cursor)
    c.in_ok-job.ensures.busy.1
    c.meet.new.met.items c.settle.result
    (next-true c.args.places.now c.args.self.now.met.items c.in_ok-job.node c.args.frame
    c.if-node-frame.false there.0 unmet) c.if-owned.true each
    (c.settle.ensures.reply s same) (c.settle.ensures.frame_search s same)

pub returns-clause-tries : goal.returns-clause-tries
returns-clause-tries c s same =
    let there = place-some c.args.places.now c.args.frame.node c.args.frame.number c.args.place
    c.requires.place in
    let unmet : met_at c.args.places.now c.args.self.now.met.items c.args.frame.node
    c.args.frame.number ≡ false = ap (is_met c.args.self.now.met.items) c.requires.place
    ∙ sym c.is_met.ensures ∙ c.if-is_met.false in
    tries-free s c.args.places.now c.args.owned c.args.frame c.args.self.now
    (record { job = None; nodes = c.args.self.now.nodes; met = c.args.self.now.met })
    c.in_ok-job.job c.in_ok-job.node same c.in_ok-job.ensures.busy.0
    (cursor-of c.args.places.now c.args.self.now.job c.in_ok-job.job c.args.self.now.nodes.items
    c.args.self.now.met.items c.in_ok-job.ensures.busy.0 c.requires.fits.cursor)
    c.in_ok-job.ensures.busy.1 c.won_by.result
    (next-true c.args.places.now c.args.self.now.met.items c.in_ok-job.node c.args.frame
    c.if-node-frame.false there.0 unmet) c.if-owned.false refl c.won_by.ensures

pub current-requires : goal.current-requires
current-requires c =
    record {
      listed =
          λ job is.
          (cursor-of c.args.places.now c.args.self.now.job job c.args.self.now.nodes.items
          c.args.self.now.met.items is c.requires.fits.cursor).listed;
    }
