use Rattle.std.proofs.Common.{◌≡◌, ◌∙◌, false, subst, sym}
use Rattle.numa_huge.specs.Huge.{huge_at, too_many}
use Rattle.numa_huge.specs.declared.pages.HugePages.{HugePages}
use Rattle.numa_host_script.proofs.Fitted.{fits-lacks, fits-made, fits-plain}
use Rattle.numa_host_script.proofs.Unmapped.{answered}
use Rattle.numa_host_script.proofs.pooling.map_fitting.Goals as goal

pub mapped-requires-clause-fits : goal.mapped-requires-clause-fits
mapped-requires-clause-fits c = sym c.fits.ensures.kept ∙ c.if-not-fits.false

pub mapped-requires-clause-room : goal.mapped-requires-clause-room
mapped-requires-clause-room c = c.requires

pub map_made-requires : goal.map_made-requires
map_made-requires c = c.in-Ok.ensures.can

pub returns-then-not-fits : goal.returns-then-not-fits
returns-then-not-fits c =
    fits-plain c.args.running.now c.args.process c.args.first c.args.pages c.args.reserves
    c.args.command.now c.fits.result c.fits.ensures.fits _ c.obey_in.result c.if-not-fits.true
    (answered c.args.running.now c.obey_in.new.host c.args.process c.args.command.now
    c.obey_in.result c.obey_in.ensures)

pub returns-in-Ok : goal.returns-in-Ok
returns-in-Ok c =
    fits-made c.args.running.now c.args.process c.args.first c.args.pages c.args.reserves
    c.args.command.now c.fits.result c.fits.ensures.fits c.if-not-fits.false c.mapped.new.self
    c.mapped.ensures.same c.in-Ok.made.value.places c.in-Ok.ensures.ok
    (subst (λ (p : HugePages). too_many (huge_at p.places.runs) ≡ false) c.deref.ensures
    c.runs.ensures.few)
    c.map_made.new.running c.map_made.result c.map_made.ensures

pub returns-in-Err : goal.returns-in-Err
returns-in-Err c =
    rw c.pages_reply.ensures
    (fits-lacks c.args.running.now c.args.process c.args.first c.args.pages c.args.reserves
    c.args.command.now c.fits.result c.fits.ensures.fits c.if-not-fits.false c.mapped.new.self
    c.mapped.ensures.same c.in-Err.why c.in-Err.ensures.err)
