use Rattle.std.proofs.Common.{◌∙◌, ℕ, ap, arith, sym}
use Rattle.numa_placed.specs.Turns.{slot_spot}
use Rattle.numa_placed.proofs.stay.slots_until.Goals as goal

pub returns-in-Lies-clause-alike : goal.returns-in-Lies-clause-alike
returns-in-Lies-clause-alike c p low high =
    ap (slot_spot c.args.nodes.now p) c.in-Lies.is ∙ sym (c.slot_until.ensures.alike p low high)

pub returns-in-Lies-clause-ends : goal.returns-in-Lies-clause-ends
returns-in-Lies-clause-ends c is same =
    c.slot_until.ensures.ends (omega (arith, is))
    (ap (λ (p : ℕ). slot_spot c.args.others.now p c.args.other) is ∙ sym same
    ∙ ap (slot_spot c.args.nodes.now c.args.page) c.in-Lies.is)
