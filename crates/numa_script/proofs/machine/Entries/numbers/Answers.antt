use Rattle.std.proofs.Common.{◌∙◌, ap, map, unwrap_or}
use Rattle.std.specs.List.{flat_map}
use Rattle.std.proofs.lemmas.Iterator.Consumers.{YieldsList-from_first, YieldsList-end}
use Rattle.numa_script.specs.Machines.{distance_of}
use Rattle.numa_script.specs.Parts.{items_of, rows_of}
use Rattle.numa_script.proofs.machine.Entries.numbers.Goals as goal

pub returns : goal.returns
returns c =
    let done =
    YieldsList-end (YieldsList-from_first (λ row. row.now) (λ p. p)
    (rows_of c.self.inside.word.now) cc) c.loop-row.yielded _ c.loop-row.yielded_by _ _
    c.in-None.is c.next.ensures.steps in
    c.loop-row.invariant ∙ ap
    (λ parts. map (λ item. unwrap_or (distance_of item) 0) (flat_map items_of parts)) done.0
    ∙ c.self.view_is
