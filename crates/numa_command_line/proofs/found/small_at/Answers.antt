use Rattle.std.proofs.Common.{◌∙◌, ap}
use Rattle.std.specs.Prelude.{option_and_then}
use Rattle.std.specs.Str.Parse.{ParsesUnsigned, ExplainsUnsignedError, HasUnsignedDigitsIfOk}
use Rattle.clap.specs.Words.{found_of, one_text}
use Rattle.clap.proofs.WalkLemmas.{one_text-rows}
use Rattle.numa_command_line.specs.Values.{small_in}
use Rattle.numa_command_line.proofs.Reading.{small_read}
use Rattle.numa_command_line.proofs.found.small_at.Goals as goal

pub returns : goal.returns
returns c =
    small_read _ (λ bs r. ParsesUnsigned 32 10 bs r × ExplainsUnsignedError 10 bs r
    × HasUnsignedDigitsIfOk bs r) (λ t r given. given.0)
    (one_text (found_of c.args.matches.now) c.args.id.now) c.get_one.result c.get_one.ensures.none
    c.get_one.ensures.value
    ∙ ap (option_and_then small_in) (one_text-rows (found_of c.args.matches.now) c.args.id.now)
