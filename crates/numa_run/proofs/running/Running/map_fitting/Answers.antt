use Rattle.std.proofs.Common.{◌≡◌, ◌≤◌, Option, true, subst, sym, ◌∙◌}
use Rattle.std.specs.Prelude.{IsSomeAnd}
use Rattle.numa_huge.specs.Huge.{mapped_by, places_of}
use Rattle.numa_huge.specs.Kept.{MayMapBy}
use Rattle.numa_huge.specs.Moves.{HugeMemory}
use Rattle.numa_huge.specs.Tallies.{IsMemory}
use Rattle.numa_huge.specs.declared.pages.HugePages.{HugePages}
use Rattle.numa_pools.specs.Pools.{unreserved}
use Rattle.numa_run.proofs.Fitting.{map-goes, map-lacks, map-plain, map-stays}
use Rattle.numa_run.proofs.Keeping.{same-kept}
use Rattle.numa_run.proofs.running.Running.map_fitting.Goals as goal

pub unreachable-requires : goal.unreachable-requires
unreachable-requires c =
    subst (λ (h : Option HugePages). IsSomeAnd h (λ kept. c.args.reserves ≡ true
    → c.args.pages ≤ unreserved kept.places.pools)) c.in_default.is c.requires

pub returns-then-not-fits : goal.returns-then-not-fits
returns-then-not-fits c =
    map-plain c.args.self.now c.in-Some.kept c.in-Some.is c.args.first c.args.pages
    c.args.reserves c.args.command.now c.accept.new.self c.accept.result
    (sym c.fits.ensures ∙ c.if-not-fits.true) c.accept.ensures

pub returns-in-Err : goal.returns-in-Err
returns-in-Err c =
    rw c.command_reply.ensures
    (map-lacks c.args.self.now c.in-Some.kept c.in-Some.is c.args.first c.args.pages
    c.args.reserves c.args.command.now (sym c.fits.ensures ∙ c.if-not-fits.false) c.in-Err.why
    c.in-Err.ensures.err)

pub returns-then-is_err : goal.returns-then-is_err
returns-then-is_err c =
    rw c.accept_reply.ensures
    (map-stays c.args.self.now c.in-Some.kept c.in-Some.is c.args.first c.args.pages
    c.args.reserves c.args.command.now (sym c.fits.ensures ∙ c.if-not-fits.false)
    (mapped_by c.args.pages c.args.reserves c.in-Ok.after.runs c.in-Some.kept.places)
    c.in-Ok.ensures.ok c.in-Ok.ensures.few c.accept-answer.new.self c.accept-answer.ensures.setup
    c.accept-answer.result (sym c.is_err.ensures.value ∙ c.if-is_err.true)
    c.accept-answer.ensures.answer)

pub map_by-requires-clause-room : goal.map_by-requires-clause-room
map_by-requires-clause-room c =
    subst (λ (h : Option HugePages). IsSomeAnd h (λ kept. c.args.reserves ≡ true
    → c.args.pages ≤ unreserved kept.places.pools)) c.in-Some-huge.is c.requires

pub map_by-requires-clause-may : goal.map_by-requires-clause-may
map_by-requires-clause-may c =
    subst (λ (k : HugePages). MayMapBy k.places c.args.pages c.args.reserves c.in-Ok.after)
    (same-kept c.args.self.now.huge c.in-Some.kept c.in-Some-huge.kept c.in-Some.is
    c.in-Some-huge.is) c.in-Ok.ensures.may

pub returns : goal.returns
returns c =
    rw c.accept_reply-2.ensures
    (map-goes c.args.self.now c.in-Some.kept c.in-Some.is c.args.first c.args.pages
    c.args.reserves c.args.command.now (sym c.fits.ensures ∙ c.if-not-fits.false)
    (mapped_by c.args.pages c.args.reserves c.in-Ok.after.runs c.in-Some.kept.places)
    c.in-Ok.ensures.ok c.in-Ok.ensures.few c.accept-answer.new.self c.accept-answer.ensures.setup
    c.accept-answer.result (sym c.is_err.ensures.value ∙ c.if-is_err.false)
    c.accept-answer.ensures.answer c.map_by.new.self
    (subst (λ (k : HugePages). (memory : HugeMemory) → IsMemory k memory
    → IsMemory c.map_by.new.self (record memory {
      pages = places_of
          (mapped_by c.args.pages c.args.reserves c.in-Ok.after.runs k.places);
    }))
    (same-kept c.args.self.now.huge c.in-Some-huge.kept c.in-Some.kept c.in-Some-huge.is
    c.in-Some.is) c.map_by.ensures))
