use Rattle.std.proofs.Common.{◌≡◌, Bool, List, Option, Some, ap, codes, map, subst, sym}
use Rattle.std.specs.Option.{option_map}
use Rattle.std.specs.String.{string_bytes}
use Rattle.clap.specs.Words.{found_of, rows_of}
use Rattle.numa_sheets.specs.declared.format.Format.{Format}
use Rattle.numa_command_line.specs.Asked.{asked_in, diff_by, stated_unless}
use Rattle.numa_command_line.specs.Jobs.{Asking, IsMade, Text, diff, work_of}
use Rattle.numa_command_line.specs.Values.{texts_at}
use Rattle.numa_command_line.proofs.words.diff.work.Goals as goal

pub returns : goal.returns
returns c =
    let rows = rows_of (found_of c.args.matches.now) in
    let files = map string_bytes c.in_ok-at.at.items in
    let lines = map string_bytes c.in_ok-lines.lines.items in
    let form = c.format_in-format.result in
    let stated = subst (λ (barred : Bool). stated_unless barred (texts_at (codes "at") rows)
    ≡ Some files) c.is_drawn.ensures c.in_ok-at.ensures in
    let asked = subst (λ (wanted : Option Asking). IsMade work_of (asked_in rows wanted)
    c.work.result) (sym (ap (option_map (λ at. diff at lines form)) stated)) c.work.ensures in
    subst (λ (it : Format). IsMade work_of (asked_in rows (diff_by (texts_at (codes "at") rows)
    (texts_at (codes "then") rows) it)) c.work.result) c.format_in-format.ensures
    (subst (λ (more : List Text). IsMade work_of (asked_in rows (diff_by (texts_at (codes "at") rows)
    more form)) c.work.result) c.in_ok-lines.ensures asked)
