use Rattle.std.specs.Prelude.{◌≡◌, refl, ◌&&◌, Some}
use Rattle.std.proofs.Common.{◌∙◌, sym, ap}
use Rattle.numa_script.specs.Lines.{begun, has_empty_word, takes_texts}
use Rattle.numa_script.specs.Parts.{words_of}
use Rattle.numa_script.proofs.EmptyNumbers.{begun_empty, line_begun}
use Rattle.numa_script.proofs.line.of_words.Goals as goal

pub returns : goal.returns
returns c =
    let some : begun (words_of c.args.line.now) ≡ Some c.in-Some.begun =
    sym c.begun.ensures ∙ c.in-Some.is in
    c.script_after.ensures
    ∙ line_begun (words_of c.args.line.now) c.in-Some.begun (has_empty_word c.args.line.now) some
    refl
    (ap (λ e. takes_texts c.in-Some.begun.0 && e)
    (begun_empty (words_of c.args.line.now) c.in-Some.begun some)
    ∙ sym c.has_empty_text.ensures ∙ c.if-has_empty_text.false)
