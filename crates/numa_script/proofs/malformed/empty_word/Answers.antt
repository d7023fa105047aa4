use Rattle.std.proofs.Common.{◌≡◌, ap, rules, arith}
use Rattle.numa_script.specs.Causes.{empty_word, width_of}
use Rattle.numa_script.specs.Parts.{words_of}
use Rattle.numa_script.proofs.Columns.{width_of_words}
use Rattle.numa_script.proofs.malformed.empty_word.Goals as goal

pub loop-word-init : goal.loop-word-init
loop-word-init c =
    let same : c.into_iter-word-iterator.result ≡ words_of c.args.line.now = search rules in
    (ap (empty_word 1) same, omega (arith, ap width_of same, width_of_words c.args.line.now))
