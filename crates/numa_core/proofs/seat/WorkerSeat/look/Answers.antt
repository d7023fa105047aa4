use Rattle.std.proofs.Common.{◌≡◌, ◌+◌, ◌*◌, ◌<◌, ◌≤◌, refl, subst, arith, slice_index}
use Rattle.std.proofs.lemmas.Result.{err_from_is_err_and}
use Rattle.numa_core.proofs.InARow.{MeetsOwned, index_within, met-word}
use Rattle.numa_core.proofs.Seating.{cursor-of, looks-past, looks-at}
use Rattle.numa_core.proofs.seat.WorkerSeat.look.Goals as goal
use Rattle.numa_core.proofs.seat.WorkerSeat.look.Goals.{then-word-ge64-via-then-word-ge64}
use Rattle.numa_core.proofs.seat.WorkerSeat.look.Goals.{then-word-ge64-via-else-word-ge64+then-word-frames}

pub returns-then-word-ge64-clause-looks : goal.returns-then-word-ge64-clause-looks
returns-then-word-ge64-clause-looks c s world same owner =
    let frames : c.frames-frames.result ≡ slice_index c.args.places.now c.in_ok-job.node =
    c.frames-frames.ensures.frames in
    let past : c.frames-frames.result ≤ 64 * c.args.word =
    elim c.then-word-ge64.branch [
      | then-word-ge64-via-then-word-ge64 w ↦
          omega (arith, c.frames-frames.ensures.at_most)
      | then-word-ge64-via-else-word-ge64+then-word-frames w ↦ omega arith
    ] in
    looks-past s world c.args.word c.args.places.now c.args.self.now c.args.self.now c.in_ok-job.job
    c.in_ok-job.node same c.in_ok-job.ensures.busy.0
    (cursor-of c.args.places.now c.args.self.now.job c.in_ok-job.job c.args.self.now.nodes.items
    c.args.self.now.met.items c.in_ok-job.ensures.busy.0 c.requires.fits.cursor)
    c.in_ok-job.ensures.busy.1 (omega (arith, frames, past))

pub returns-clause-looks : goal.returns-clause-looks
returns-clause-looks c s world same owner =
    let frames : c.frames-frames.result ≡ slice_index c.args.places.now c.in_ok-job.node =
    c.frames-frames.ensures.frames in
    let within : 64 * c.args.word < slice_index c.args.places.now c.in_ok-job.node =
    omega (arith, frames, c.if-word-frames.false) in
    let meets =
    subst (λ f. MeetsOwned (f + 64 * c.args.word) (f + c.min-end.result) c.args.owners.now.items
    c.args.self.now.met.items c.meet_owned.new.met.items) c.first-first.ensures.first
    c.meet_owned.ensures.met in
    looks-at s world c.args.word c.args.places.now c.args.self.now c.settle.new.self c.in_ok-job.job
    c.in_ok-job.node same c.in_ok-job.ensures.busy.0
    (cursor-of c.args.places.now c.args.self.now.job c.in_ok-job.job c.args.self.now.nodes.items
    c.args.self.now.met.items c.in_ok-job.ensures.busy.0 c.requires.fits.cursor)
    c.in_ok-job.ensures.busy.1
    c.args.owners.now.items c.meet_owned.new.met.items c.settle.result within owner
    (met-word c.args.places.now c.args.owners.now.items c.args.self.now.met.items
    c.meet_owned.new.met.items c.in_ok-job.node c.args.word c.min-end.result
    (omega (arith, frames, c.min-end.ensures)) (omega (arith, c.min-end.ensures))
    (λ short. omega (arith, frames, c.min-end.ensures)) meets)
    (c.settle.ensures.reply s same) (c.settle.ensures.frame_search s same)

pub current-requires : goal.current-requires
current-requires c =
    record {
      listed =
          λ job is.
          (cursor-of c.args.places.now c.args.self.now.job job c.args.self.now.nodes.items
          c.args.self.now.met.items is c.requires.fits.cursor).listed;
    }

pub returns-in_err-job-clause-looks : goal.returns-in_err-job-clause-looks
returns-in_err-job-clause-looks c s world same owner =
    let exit = err_from_is_err_and c.from_residual.result c.from_residual.ensures.1 in
    let idle = c.in_err-job.ensures.idle in
    rw (exit.1, exit.2, idle.0, idle.1) refl

pub first-first-requires : goal.first-first-requires
first-first-requires c = index_within c.args.places.now c.in_ok-job.node (64 * c.args.word)
    (omega (arith, c.frames-frames.ensures.frames, c.if-word-frames.false))

pub meet_owned-requires : goal.meet_owned-requires
meet_owned-requires c = record {
  order = omega (arith, c.min-end.ensures, c.if-word-frames.false);
  room = omega (
    arith,
    c.min-end.ensures,
    c.first-first.ensures.within,
    c.frames-frames.ensures.frames,
    c.requires.fits.room,
  );
  owners = omega (
    arith,
    c.min-end.ensures,
    c.first-first.ensures.within,
    c.frames-frames.ensures.frames,
    c.requires.owners,
  );
}

pub returns-clause-fits : goal.returns-clause-fits
returns-clause-fits c = c.settle.ensures.fits
