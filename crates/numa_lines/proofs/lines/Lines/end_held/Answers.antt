use Rattle.std.proofs.Common.{◌++◌, [], ◌∷◌, subst}
use Rattle.std.proofs.lemmas.Result.{on_ok_weaker}
use Rattle.numa_lines.proofs.lines.Lines.end_held.Goals as goal

pub returns-clause-ok : goal.returns-clause-ok
returns-clause-ok g c =
    on_ok_weaker c.take-taken.result
    (λ takes first begun front h.
    subst (λ l. g.T.TakeLine.has_taken first begun c.take-taken.new.self c.take-taken.new.output
    (front ++ l ∷ []))
    c.bytes.ensures (takes first begun front h)) c.take-taken.ensures.ok
