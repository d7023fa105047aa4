use Rattle.std.proofs.Common.{◌∙◌, sym, ap, arith, drop}
use Rattle.numa_script.specs.Causes.{width_of}
use Rattle.numa_script.proofs.Columns.{width_of_words}
use Rattle.numa_script.proofs.malformed.words_fault.Goals as goal

pub unreachable-requires : goal.unreachable-requires
unreachable-requires c =
    let none = ap width_of (sym c.words.ensures ∙ c.in_default.ensures.steps.0) in
    absurd (omega (arith, none, width_of_words c.args.line.now))

pub fault_behind-requires : goal.fault_behind-requires
fault_behind-requires c =
    let words = sym c.words.ensures ∙ c.in-Some.ensures.steps in
    let behind = ap (λ l. width_of (drop 1 l)) words in
    omega (arith, behind, ap width_of words, width_of_words c.args.line.now, c.requires)

pub in_fault-requires : goal.in_fault-requires
in_fault-requires c =
    let words = sym c.words.ensures ∙ c.in-Some.ensures.steps in
    let behind = ap (λ l. width_of (drop 1 l)) words in
    omega (arith, behind, ap width_of words, width_of_words c.args.line.now, c.requires)
