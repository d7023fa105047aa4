use Rattle.std.proofs.Common.{ℕ, ◌+◌, ◌∙◌, ap, arith, inl, inr, refl}
use Rattle.std.specs.Prelude.{slice_index}
use Rattle.std.proofs.lemmas.Bool.{cases_eq, eq-eqb, ne_eqb}
use Rattle.std.proofs.lemmas.List.{get_or-set_other, get_or-set_same}
use Rattle.numa_huge.proofs.arrived.HugeArrived.count.Goals as goal

pub returns-in_default : goal.returns-in_default
returns-in_default c told has = rw c.in_default.is (record {
  placed = has.placed;
  exhausted = ap (λ (n : ℕ). n + 1) has.exhausted;
  on = has.on;
})

pub returns : goal.returns
returns c told has =
    let at : ℕ = c.in-Some.node in
    let more : ℕ = slice_index c.args.self.now.on at + 1 in
    rw c.in-Some.is (record {
      placed = ap (λ (n : ℕ). n + 1) has.placed;
      exhausted = has.exhausted;
      on = λ node small. elim (cases_eq node at) [
        | inl e ↦ rw (e, eq-eqb at at refl)
            (get_or-set_same c.args.self.now.on at more 0 (omega arith)
            ∙ ap (λ (n : ℕ). n + 1) (has.on at (omega arith)))
        | inr ne ↦ rw (ne_eqb node at ne) (omega (
          arith,
          get_or-set_other c.args.self.now.on at node more 0 ne,
          has.on node small,
        ))
      ];
    })
