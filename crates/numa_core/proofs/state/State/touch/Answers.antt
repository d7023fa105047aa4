use Rattle.std.proofs.Common.{◌≡◌, ℕ, Some, Ok, sym, ap, subst, ◌∙◌}
use Rattle.std.proofs.lemmas.Result.{err_from_is_err_and}
use Rattle.numa_requests.specs.declared.event.CoreReply.TheVariants.{Exhausted, Won}
use Rattle.numa_core.specs.Kept.{core_state}
use Rattle.numa_core.specs.Standing.{setup_of, CoreStandsFor, owner_at, place_in}
use Rattle.numa_core.specs.Steps.{put_frame}
use Rattle.numa_core.specs.Touching.{touch_world}
use Rattle.numa_core.proofs.TouchEnds.{tables-show, refuses, exhausts, wins}
use Rattle.numa_core.proofs.state.State.touch.Goals as goal

pub returns-in_err-row-clause-touches : goal.returns-in_err-row-clause-touches
returns-in_err-row-clause-touches c world stands =
    let exit = err_from_is_err_and c.from_residual.result c.from_residual.ensures.1 in
    rw (exit.1, exit.2) (refuses (core_state c.args.self.now) c.args.worker c.args.request
    c.in_err-row.field-0.0 world stands
    (c.in_err-row.ensures.refused c.args.self.now.space c.args.self.now.owners.items))

pub returns-in_default-clause-touches : goal.returns-in_default-clause-touches
returns-in_default-clause-touches c world stands =
    let shows = tables-show c.args.self.now world c.requires.kept stands in
    let found =
    sym (c.first_free-found.ensures.first (setup_of (core_state c.args.self.now)) world shows)
    ∙ c.in_default.is in
    let ends = exhausts (core_state c.args.self.now) c.args.worker c.args.request
    c.in_ok-row.row.now world stands
    (c.in_ok-row.ensures.allowed c.args.self.now.space c.args.self.now.owners.items)
    (c.in_ok-row.ensures.listed c.args.self.now.space c.args.self.now.owners.items) found in
    (ap (λ v. Ok (Exhausted v)) c.version-newest.ensures ∙ ends.0, ends.1)

pub returns-clause-touches : goal.returns-clause-touches
returns-clause-touches c world stands =
    let shows = tables-show c.args.self.now world c.requires.kept stands in
    let spot = c.in-Some.spot in
    let found =
    sym (c.first_free-found.ensures.first (setup_of (core_state c.args.self.now)) world shows)
    ∙ c.in-Some.is in
    let each : (n k : ℕ)
    → owner_at c.own.new.self.owners.items (place_in c.args.self.now.space.machine.frames n k)
    ≡ put_frame
    (λ n k. owner_at c.args.self.now.owners.items
    (place_in c.args.self.now.space.machine.frames n k)) spot.frame (Some c.args.worker) n k =
    subst (λ frames. (n k : ℕ) → owner_at c.own.new.self.owners.items (place_in frames n k)
    ≡ put_frame (λ n k. owner_at c.args.self.now.owners.items (place_in frames n k)) spot.frame
    (Some c.args.worker) n k) c.requires.kept.places c.own.ensures.owner in
    let ends = wins (core_state c.args.self.now) c.own.new.self.owners.items c.args.worker
    c.args.request c.in_ok-row.row.now spot world stands
    (c.in_ok-row.ensures.allowed c.args.self.now.space c.args.self.now.owners.items)
    (c.in_ok-row.ensures.listed c.args.self.now.space c.args.self.now.owners.items) found
    each in (
      ap (λ v.
          Ok (Won
          (record {
            version = v;
            task = c.args.request.task;
            page = c.args.request.page;
            node =
                spot.frame.node;
            frame = spot.frame;
            rank = spot.rank;
          }))) c.version-newest.ensures
          ∙ ends.0,
      subst (λ state. CoreStandsFor (core_state state)
          (touch_world (setup_of (core_state c.args.self.now)) world c.args.worker c.args.request))
          (sym c.own.ensures.others) ends.1,
    )
