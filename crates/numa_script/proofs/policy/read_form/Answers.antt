use Rattle.std.specs.Prelude.{Some}
use Rattle.std.proofs.Common.{◌∙◌, ap, sym}
use Rattle.numa_script.proofs.PlainForms.{plain_is_form}
use Rattle.numa_script.proofs.policy.read_form.Goals as goal

pub returns-in-Some : goal.returns-in-Some
returns-in-Some c =
    ap Some c.plain_form.ensures
    ∙ sym
    (plain_is_form c.args.text.now c.in-Some.mode (sym c.read_mode.ensures ∙ c.in-Some.is))
