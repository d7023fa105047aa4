use Rattle.std.proofs.Common.{◌≡◌, Bool, List, Option, Some, ap, codes, map, subst, sym}
use Rattle.std.specs.Option.{option_map}
use Rattle.std.specs.Prelude.{option_and_then}
use Rattle.std.specs.String.{string_bytes}
use Rattle.clap.specs.Words.{found_of, rows_of}
use Rattle.numa_sheets.specs.declared.asked.FreePages.{FreePages}
use Rattle.numa_sheets.specs.declared.format.Format.{Format}
use Rattle.numa_command_line.specs.Asked.{asked_in, predict_by, stated_unless}
use Rattle.numa_command_line.specs.Jobs.{Asking, IsMade, predict, work_of}
use Rattle.numa_command_line.specs.Values.{frees_in, texts_at}
use Rattle.numa_command_line.proofs.words.predict.work.Goals as goal

pub returns : goal.returns
returns c =
    let rows = rows_of (found_of c.args.matches.now) in
    let files = map string_bytes c.in_ok-at.at.items in
    let free = c.in_ok-free.free.items in
    let form = c.format_in-format.result in
    let stated = subst (λ (barred : Bool). stated_unless barred (texts_at (codes "at") rows)
    ≡ Some files) c.is_page.ensures c.in_ok-at.ensures in
    let asked = subst (λ (wanted : Option Asking). IsMade work_of (asked_in rows wanted)
    c.work.result) (sym (ap (option_map (λ at. predict at form free)) stated)) c.work.ensures in
    subst (λ (it : Format). IsMade work_of (asked_in rows (option_and_then
    (predict_by (texts_at (codes "at") rows) it) (frees_in rows))) c.work.result)
    c.format_in-format.ensures
    (subst (λ (frees : Option (List FreePages)). IsMade work_of (asked_in rows (option_and_then
    (predict_by (texts_at (codes "at") rows) form) frees)) c.work.result)
    (sym c.in_ok-free.ensures) asked)
