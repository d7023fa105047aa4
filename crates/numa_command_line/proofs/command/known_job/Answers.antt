use Rattle.std.proofs.Common.{true≢false, rules, ◌≡◌}
use Rattle.std.proofs.Common.{List, Option, Some, None, refl, subst, sym, slice_get}
use Rattle.std.specs.Prelude.{option_and_then}
use Rattle.clap.specs.Words.{Row, found_of, rows_of, subcommand_rows_of}
use Rattle.numa_command_line.specs.Asked.{doings_found, job_named, rows_behind}
use Rattle.numa_command_line.specs.Jobs.{Doings, IsMade, Text, doings_of}
use Rattle.numa_command_line.proofs.Judging.{refused_is_made}
use Rattle.numa_command_line.proofs.Naming.{behind_none, behind_some, second_is}
use Rattle.numa_command_line.proofs.command.known_job.Goals as goal

-- with this word, and these rows behind it, the words ask for this
found_is : (words : List Text) (name : Text) (found : Option (Text × List Row))
    (rows : Option (List Row))
    → slice_get words 1 ≡ Some name → rows_behind name found ≡ rows
    → option_and_then (job_named name) rows ≡ doings_found words found
found_is words name found rows word behind = rw (word, behind) refl

pub returns-in-Some-subcommand_matches-clause-asked :
    goal.returns-in-Some-subcommand_matches-clause-asked
returns-in-Some-subcommand_matches-clause-asked c =
    let got = c.in-Some.ensures.lookup in
    let word = second_is c.args.words.now c.in-Some.name.now c.as_str-name.result.now got.3.0 got.1
    c.as_str-name.ensures.value in
    let behind : rows_behind c.as_str-name.result.now (subcommand_rows_of c.args.matches.now)
    ≡ Some (rows_of (found_of c.in-Some-subcommand_matches.matches.now)) =
    behind_some _ _ _ _ _ (c.in-Some-subcommand_matches.ensures.found.0 (search rules))
    c.in-Some-subcommand_matches.ensures.rows in
    subst (λ (o : Option Doings). IsMade doings_of o c.named_job.result)
    (found_is _ _ _ _ word behind) c.named_job.ensures.asked

pub returns-in-None-clause-asked : goal.returns-in-None-clause-asked
returns-in-None-clause-asked c =
    let got = c.in-Some.ensures.lookup in
    let word = second_is c.args.words.now c.in-Some.name.now c.as_str-name.result.now got.3.0 got.1
    c.as_str-name.ensures.value in
    let behind : rows_behind c.as_str-name.result.now (subcommand_rows_of c.args.matches.now)
    ≡ None =
    behind_none _ _ _ _ (λ is. true≢false (sym (c.in-None.ensures.found.1 is))) in
    refused_is_made doings_of _ c.usage-in-None.result (sym (found_is _ _ _ _ word behind))
    c.usage-in-None.ensures
