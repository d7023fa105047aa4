use Rattle.std.proofs.Common.{Some, None, drop, ◌+◌, refl, ◌∙◌}
use Rattle.std.proofs.lemmas.List.{take_rest}
use Rattle.numa_mask.specs.Lists.{numeral_of}
use Rattle.numa_mask.proofs.Reading.{ends_found, ends_alone}
use Rattle.numa_mask.proofs.list.ends.Goals as goal

pub returns-in_err-first-in-Some : goal.returns-in_err-first-in-Some
returns-in_err-first-in-Some c = c.from_residual.ensures ∙ ends_found c.args.item.now c.in-Some.dash
    None (numeral_of (drop (c.in-Some.dash + 1) c.args.item.now)) c.in-Some.ensures
    c.in_err-first-in-Some.ensures refl

pub returns-in_err-last-in-Some : goal.returns-in_err-last-in-Some
returns-in_err-last-in-Some c = c.from_residual-in_err-last-in-Some.ensures
    ∙ ends_found c.args.item.now c.in-Some.dash (Some c.in_ok-first-in-Some.first) None
    c.in-Some.ensures c.in_ok-first-in-Some.ensures (rw take_rest at c.in_err-last-in-Some.ensures)

pub returns-in_err-number-in-None : goal.returns-in_err-number-in-None
returns-in_err-number-in-None c = c.from_residual-in_err-number-in-None.ensures
    ∙ ends_alone c.args.item.now None c.in-None.ensures c.in_err-number-in-None.ensures

pub returns-in_ok-last-in-Some : goal.returns-in_ok-last-in-Some
returns-in_ok-last-in-Some c = ends_found c.args.item.now c.in-Some.dash
    (Some c.in_ok-first-in-Some.first) (Some c.in_ok-last-in-Some.last) c.in-Some.ensures
    c.in_ok-first-in-Some.ensures (rw take_rest at c.in_ok-last-in-Some.ensures)

pub returns-in_ok-number-in-None : goal.returns-in_ok-number-in-None
returns-in_ok-number-in-None c = ends_alone c.args.item.now (Some c.in_ok-number-in-None.number)
    c.in-None.ensures c.in_ok-number-in-None.ensures
