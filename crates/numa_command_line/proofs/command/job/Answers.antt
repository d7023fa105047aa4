use Rattle.std.proofs.Common.{map, refl}
use Rattle.std.specs.String.{string_bytes}
use Rattle.clap.specs.Words.{app_of}
use Rattle.numa_command_line.specs.Grammar.{program}
use Rattle.numa_command_line.proofs.Examples.{are_choices, some_choices}
use Rattle.numa_command_line.proofs.FirstWord.{first_word}
use Rattle.numa_command_line.proofs.Judging.{job_by_stand_in}
use Rattle.numa_command_line.proofs.command.job.Goals as goal

pub returns-in_default-clause-asked : goal.returns-in_default-clause-asked
returns-in_default-clause-asked c = (program some_choices, (some_choices, are_choices, refl), tt)

pub returns-clause-asked : goal.returns-clause-asked
returns-clause-asked c =
    job_by_stand_in (app_of c.in-Ok.command) (map string_bytes c.args.words.now) c.job_by.result
    c.in-Ok.ensures.same c.job_by.ensures.asked

pub returns-clause-word : goal.returns-clause-word
returns-clause-word c =
    first_word (map string_bytes c.args.words.now) c.job_by.result
    (job_by_stand_in (app_of c.in-Ok.command) (map string_bytes c.args.words.now) c.job_by.result
    c.in-Ok.ensures.same c.job_by.ensures.asked)
