use Rattle.std.proofs.Common.{◌≡◌, ◌∷◌, [], get_or}
use Rattle.numa_script.proofs.Numerals.{alone, number_grammar, number_hex, number_decimal}
use Rattle.numa_script.proofs.number.number.Goals as goal

pub returns-in-Some-clause-grammar : goal.returns-in-Some-clause-grammar
returns-in-Some-clause-grammar c =
    rw (
      c.hexadecimal.ensures,
      ← number_hex c.args.word.now c.in-Some.digits.now
          c.in-Some.ensures.cases.0 c.in-Some.ensures.cases.1,
    ) (number_grammar c.args.word.now)

pub returns-in-None-clause-grammar : goal.returns-in-None-clause-grammar
returns-in-None-clause-grammar c =
    rw (c.decimal.ensures, ← number_decimal c.args.word.now c.in-None.ensures.cases)
    (number_grammar c.args.word.now)

pub returns-in-len1-clause-grammar : goal.returns-in-len1-clause-grammar
returns-in-len1-clause-grammar c =
    let is : c.args.word.now ≡ get_or c.args.word.now 0 0 ∷ [] =
    alone c.args.word.now c.in-len1.len_at_least c.in-len1.len_below in
    rw (c.one_digit.ensures, ← is) (number_grammar c.args.word.now)
