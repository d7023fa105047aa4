use Rattle.std.proofs.Common.{[], Err, ap, refl, subst, sym, true, ◌∙◌}
use Rattle.numa_placed.specs.Refusals.{move_cause}
use Rattle.numa_placed.specs.declared.spot.Spot.{Spot}
use Rattle.numa_huge.specs.Huge.{HugeLying, HugePlaced, node_of}
use Rattle.numa_huge.proofs.Keeping.{keeps-same}
use Rattle.numa_page_state.specs.Huge.{HugeMoves, huge_page, spot_of}
use Rattle.numa_page_state.specs.Lying.{ground_in}
use Rattle.numa_page_state.proofs.HugeMoved.{move-done, move-lacks, move-refused}
use Rattle.numa_page_state.proofs.huge.huge_goes.Goals as goal

pub returns-in-Err-clause-goes : goal.returns-in-Err-clause-goes
returns-in-Err-clause-goes c last arrived memory stands =
    move-refused (record { places = c.args.huge.now; last = last; arrived = arrived })
    memory (ground_in c.args.space.now []) (huge_page c.args.address) c.args.node stands c.in-Err.why
    (ap (λ (spot : Spot). move_cause c.args.space.now.machine c.args.space.now.allowed c.args.node
    true spot) (sym (c.spot_of-spot.ensures ∙ ap (λ (h : HugeLying). spot_of
    (node_of (h.spots (huge_page c.args.address)))) stands.pages)) ∙ c.in-Err.ensures.cause)

pub returns-in-Ok-clause-goes : goal.returns-in-Ok-clause-goes
returns-in-Ok-clause-goes c last arrived memory stands =
    move-done (record { places = c.args.huge.now; last = last; arrived = arrived })
    memory (ground_in c.args.space.now []) (huge_page c.args.address) c.args.node stands c.move_page.new.self c.in-Ok.told
    (ap (λ (spot : Spot). move_cause c.args.space.now.machine c.args.space.now.allowed c.args.node
    true spot) (sym (c.spot_of-spot.ensures ∙ ap (λ (h : HugeLying). spot_of
    (node_of (h.spots (huge_page c.args.address)))) stands.pages)) ∙ c.in_default.ensures.cause)
    c.in-Ok.ensures.pages c.in-Ok.ensures.told c.runs.ensures.few

pub returns-in-Err-move_page-clause-goes : goal.returns-in-Err-move_page-clause-goes
returns-in-Err-move_page-clause-goes c last arrived memory stands =
    subst (λ (places : HugePlaced). HugeMoves memory (Err c.move_lack.result) (record {
      places = places;
      last = last;
      arrived = arrived;
    }) (ground_in c.args.space.now []) (huge_page c.args.address) c.args.node)
    (sym c.in-Err-move_page.ensures.unchanged)
    (move-lacks (record { places = c.args.huge.now; last = last; arrived = arrived })
    memory (ground_in c.args.space.now []) (huge_page c.args.address) c.args.node stands c.in-Err-move_page.why c.move_lack.result
    (ap (λ (spot : Spot). move_cause c.args.space.now.machine c.args.space.now.allowed c.args.node
    true spot) (sym (c.spot_of-spot.ensures ∙ ap (λ (h : HugeLying). spot_of
    (node_of (h.spots (huge_page c.args.address)))) stands.pages)) ∙ c.in_default.ensures.cause)
    c.in-Err-move_page.ensures.err c.in-Err-move_page.ensures.other c.move_lack.ensures)

pub returns-in-Err-clause-keeps : goal.returns-in-Err-clause-keeps
returns-in-Err-clause-keeps c = keeps-same c.args.huge.now c.args.huge.now refl

pub returns-in-Ok-clause-keeps : goal.returns-in-Ok-clause-keeps
returns-in-Ok-clause-keeps c = c.move_page.ensures.keeps

pub returns-in-Err-move_page-clause-keeps : goal.returns-in-Err-move_page-clause-keeps
returns-in-Err-move_page-clause-keeps c = c.move_page.ensures.keeps
