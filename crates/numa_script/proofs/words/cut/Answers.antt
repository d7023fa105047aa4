use Rattle.std.proofs.Common.{sym, ◌∙◌}
use Rattle.std.proofs.lemmas.List.{take_rest}
use Rattle.numa_mask.proofs.Splits.{cut_at}
use Rattle.numa_script.proofs.words.cut.Goals as goal

pub returns-clause-words : goal.returns-clause-words
returns-clause-words c =
    rw take_rest
    (cut_at 32 c.args.text.now c.in_ok-end.end (sym c.first_space.ensures ∙ c.in_ok-end.was))

pub returns-clause-kept : goal.returns-clause-kept
returns-clause-kept c = rw take_rest c.later-later.ensures
