use Rattle.std.specs.Prelude.{◌++◌, codes, decimal}
use Rattle.std.proofs.Common.{append_assoc, sym}
use Rattle.numa_lines.proofs.Adding.{said_both, said_same}
use Rattle.numa_script.proofs.tell.say_placed_words.Goals as goal

pub returns : goal.returns
returns g c =
    said_same g.W.Write.contents c.args.output.now c.say_number-2.new.output
    ((codes "placed " ++ decimal c.args.placed)
    ++ (codes " exhausted " ++ decimal c.args.exhausted)) _
    (sym (append_assoc (codes "placed " ++ decimal c.args.placed) (codes " exhausted ")
    (decimal c.args.exhausted)))
    (said_both g.W.Write.contents c.args.output.now c.say_number.new.output
    c.say_number-2.new.output (codes "placed " ++ decimal c.args.placed)
    (codes " exhausted " ++ decimal c.args.exhausted) c.say_number.ensures c.say_number-2.ensures)
