use Rattle.std.proofs.Common.{◌≡◌, ap, rules}
use Rattle.numa_script.specs.Parts.{words_of}
use Rattle.numa_script.proofs.EmptyWords.{any_empty}
use Rattle.numa_script.proofs.words.has_empty_word.Goals as goal

pub loop-word-init : goal.loop-word-init
loop-word-init c =
    let same : c.into_iter-word-iterator.result ≡ words_of c.args.line.now = search rules in
    ap any_empty same
