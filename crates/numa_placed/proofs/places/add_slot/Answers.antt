use Rattle.std.proofs.Common.{◌≡◌, ◌+◌, ◌<◌, ◌∙◌, ℕ, ap, arith, get_or, inl, inr, length, set}
use Rattle.std.proofs.Common.{sym}
use Rattle.std.proofs.lemmas.Bool.{cases_eq, eq-eqb, ne_eqb}
use Rattle.std.proofs.lemmas.List.{get_or-set_same, get_or-set_other}
use Rattle.numa_placed.specs.Spots.{is_off, is_on, pages_if}
use Rattle.numa_placed.proofs.Owned.{off-node, off-none, off-turn, on-node, on-none, slot-where}
use Rattle.numa_placed.proofs.places.add_slot.Goals as goal

pub returns-in-Some-clause-counts : goal.returns-in-Some-clause-counts
returns-in-Some-clause-counts c node small =
    let counts = c.args.counts.now in
    let at = c.in-Some.node in
    let sum = get_or counts at 0 + c.args.pages in
    let here : at < length counts = omega arith in
    let all = slot-where (is_on node) c.args.nodes.now c.args.slot c.in-Lies.spot
    c.args.first c.args.pages c.in-Lies.is in
    let on = on-node c.in-Lies.spot at node (sym c.node.ensures ∙ c.in-Some.is) in
    elim (cases_eq at node) [
      | inl is ↦
          let set_so : get_or (set counts at sum) node 0 ≡ get_or counts node 0 + c.args.pages =
          ap (λ (k : ℕ). get_or (set counts at sum) k 0) (sym is)
          ∙ get_or-set_same counts at sum 0 here
          ∙ ap (λ (k : ℕ). get_or counts k 0 + c.args.pages) is in
          let passes = ap (λ b. pages_if b c.args.pages) (on ∙ eq-eqb at node is) in
          omega (arith, set_so, all, passes)
      | inr other ↦
          let set_so : get_or (set counts at sum) node 0 ≡ get_or counts node 0 =
          get_or-set_other counts at node sum 0 (λ e. other (sym e)) in
          let passes = ap (λ b. pages_if b c.args.pages) (on ∙ ne_eqb at node other) in
          omega (arith, set_so, all, passes)
    ]

pub returns-in_default-clause-counts : goal.returns-in_default-clause-counts
returns-in_default-clause-counts c node small =
    let all = slot-where (is_on node) c.args.nodes.now c.args.slot c.in-Lies.spot
    c.args.first c.args.pages c.in-Lies.is in
    let on = on-none c.in-Lies.spot node (sym c.node.ensures ∙ c.in_default.is) in
    omega (arith, all, ap (λ b. pages_if b c.args.pages) on)

pub returns-in-Some-clause-off : goal.returns-in-Some-clause-off
returns-in-Some-clause-off c =
    slot-where is_off c.args.nodes.now c.args.slot c.in-Lies.spot c.args.first c.args.pages
    c.in-Lies.is
    ∙ ap (λ b. pages_if b c.args.pages)
    (off-node c.in-Lies.spot c.in-Some.node (sym c.node.ensures ∙ c.in-Some.is) (omega arith))

pub returns-in_default-clause-off : goal.returns-in_default-clause-off
returns-in_default-clause-off c =
    slot-where is_off c.args.nodes.now c.args.slot c.in-Lies.spot c.args.first c.args.pages
    c.in-Lies.is
    ∙ ap (λ b. pages_if b c.args.pages)
    (off-none c.in-Lies.spot (sym c.node.ensures ∙ c.in_default.is))

pub returns-in-InTurn-clause-off : goal.returns-in-InTurn-clause-off
returns-in-InTurn-clause-off c =
    off-turn c.args.nodes.now c.args.slot c.in-InTurn.turn c.args.first c.args.pages c.in-InTurn.is
    c.look.ensures
