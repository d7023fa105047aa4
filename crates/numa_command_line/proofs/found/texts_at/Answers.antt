use Rattle.std.proofs.Common.{◌≡◌, ◌∙◌, ap, [], List, Option, None, Some, unwrap_or, map}
use Rattle.std.proofs.lemmas.Result.{IfOk-weaker}
use Rattle.clap.specs.Words.{all_of, found_of, rows_of}
use Rattle.clap.proofs.WalkLemmas.{raw_values-rows}
use Rattle.numa_command_line.specs.Jobs.{Text}
use Rattle.numa_command_line.proofs.found.texts_at.Goals as goal

pub returns-in-None : goal.returns-in-None
returns-in-None c =
    let given = c.get_strs.ensures ∙ raw_values-rows (found_of c.args.matches.now) c.args.id.now in
    let none : None ≡ all_of c.args.id.now (rows_of (found_of c.args.matches.now)) =
    rw c.in-None.is at given in
    rw (c.new.ensures.items) (ap (λ (o : Option (List Text)). unwrap_or o []) none)

pub returns-in-Some : goal.returns-in-Some
returns-in-Some c =
    let given = c.get_strs.ensures ∙ raw_values-rows (found_of c.args.matches.now) c.args.id.now in
    let some : Some (map (λ text. text.now) c.in-Some.said.now) ≡ all_of c.args.id.now
    (rows_of (found_of c.args.matches.now)) = rw c.in-Some.is at given in
    IfOk-weaker c.copies.result _ _
    (λ texts same. same ∙ ap (λ (o : Option (List Text)). unwrap_or o []) some) c.copies.ensures
