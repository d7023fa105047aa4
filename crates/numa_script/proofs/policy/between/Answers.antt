use Rattle.std.proofs.Common.{◌-◌, ℕ, ap, ◌∙◌, sym, arith, Ok}
use Rattle.numa_script.proofs.ShortLists.{span_listed, digit_listed, few}
use Rattle.numa_script.proofs.policy.between.Goals as goal

pub returns-clause-span : goal.returns-clause-span
returns-clause-span c =
    span_listed c.args.first c.args.last (omega arith) (omega arith) (omega arith)
    ∙ ap (λ set. Ok set) (sym c.from_words.ensures)

pub returns-clause-one : goal.returns-clause-one
returns-clause-one c = λ same.
    digit_listed c.args.first (omega arith) (omega (arith, same))
    ∙ ap (λ (last : ℕ). Ok (few (c.args.first - 48) (last - 48))) same
    ∙ ap (λ set. Ok set) (sym c.from_words.ensures)
