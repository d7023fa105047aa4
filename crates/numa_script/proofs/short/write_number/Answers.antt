use Rattle.std.proofs.Common.{◌≡◌, ◌+◌, ◌-◌, ap, length, arith}
use Rattle.std.proofs.lemmas.Fmt.{decimal_digit}
use Rattle.std.proofs.lemmas.List.{drop-set}
use Rattle.numa_script.proofs.short.write_number.Goals as goal

pub overflow_sub-bytes : goal.overflow_sub-bytes
overflow_sub-bytes c =
    omega (arith, ap length (decimal_digit c.args.number c.if-number-lt10.true), c.requires.room)

pub bounds-bytes-end : goal.bounds-bytes-end
bounds-bytes-end c =
    omega (arith, ap length (decimal_digit c.args.number c.if-number-lt10.true), c.requires.room)

pub overflow_sub-result : goal.overflow_sub-result
overflow_sub-result c =
    omega (arith, ap length (decimal_digit c.args.number c.if-number-lt10.true), c.requires.room)

pub returns-then-number-lt10-clause-start : goal.returns-then-number-lt10-clause-start
returns-then-number-lt10-clause-start c =
    omega (arith, ap length (decimal_digit c.args.number c.if-number-lt10.true), c.requires.room)

pub returns-then-number-lt10-clause-written : goal.returns-then-number-lt10-clause-written
returns-then-number-lt10-clause-written c =
    let long = ap length (decimal_digit c.args.number c.if-number-lt10.true) in
    let e : c.args.end - 1 + 1 ≡ c.args.end = omega arith in
    rw (
      drop-set c.args.bytes.now (c.args.end - 1) _ (omega arith),
      e,
      decimal_digit c.args.number c.if-number-lt10.true,
    )
