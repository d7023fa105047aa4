use Rattle.std.proofs.Common.{ℕ, ◌∙◌, inl, inr, refl, sym}
use Rattle.std.specs.Prelude.{◌==◌}
use Rattle.std.proofs.lemmas.Bool.{cases_Bool}
use Rattle.std.proofs.lemmas.Simd.{get_or-replicate}
use Rattle.numa_placed.specs.Spots.{spot_at}
use Rattle.numa_page_state.proofs.Flows.{none-flows}
use Rattle.numa_page_state.proofs.between.flow_from.Goals as goal

pub returns-then-has_none : goal.returns-then-has_none
returns-then-has_none c to small =
    get_or-replicate {A = ℕ} 256 to 0 0 small
    ∙ sym (none-flows (spot_at c.args.before.now) (spot_at c.args.after.now) c.args.from to
    (c.has_none.ensures c.if-has_none.true))

pub returns : goal.returns
returns c to small = c.without.ensures to small ∙ elim (cases_Bool (c.args.from == to)) [
  | inl t ↦ rw t refl
  | inr e ↦ rw e (c.flow_to_others-flow.ensures to small e)
]
