use Rattle.std.proofs.Common.{map}
use Rattle.std.specs.String.{string_bytes}
use Rattle.clap.specs.Words.{app_of, subcommand_rows_of}
use Rattle.numa_command_line.proofs.Judging.{made_is_job, simple_first, told_is_no_job}
use Rattle.numa_command_line.proofs.command.job_by.Goals as goal

pub returns-in-Ok-clause-asked : goal.returns-in-Ok-clause-asked
returns-in-Ok-clause-asked c =
    let found = c.in-Ok.ensures.matches (simple_first _ _ c.requires) in
    made_is_job (app_of c.args.command) (map string_bytes c.args.words.now)
    (subcommand_rows_of c.in-Ok.matches) c.known_job-job.result
    (c.in-Ok.ensures.kinds c.requires) found.1 c.known_job-job.ensures.asked

pub returns-in-Err-clause-asked : goal.returns-in-Err-clause-asked
returns-in-Err-clause-asked c =
    told_is_no_job (app_of c.args.command) (map string_bytes c.args.words.now) c.in-Err.error
    c.fault.result (c.in-Err.ensures.kinds c.requires) c.fault.ensures
