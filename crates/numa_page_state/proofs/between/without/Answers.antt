use Rattle.std.proofs.Common.{inl, inr, sym, arith}
use Rattle.std.proofs.lemmas.Bool.{cases_eq, eq-eqb, ne_eqb}
use Rattle.std.proofs.lemmas.List.{get_or-set_same, get_or-set_other}
use Rattle.numa_page_state.proofs.between.without.Goals as goal

pub returns : goal.returns
returns c to small =
    elim (cases_eq c.args.node to) [
      | inl is ↦ rw (eq-eqb c.args.node to is, ← is)
          (get_or-set_same c.args.flow c.args.node 0 0 (omega arith))
      | inr ne ↦ rw (ne_eqb c.args.node to ne)
          (get_or-set_other c.args.flow c.args.node to 0 0 (λ is. ne (sym is)))
    ]
