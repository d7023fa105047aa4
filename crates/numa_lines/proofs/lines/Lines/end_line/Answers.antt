use Rattle.std.proofs.Common.{◌≡◌, ◌==◌, ◌++◌, [], ◌∷◌, ◌∙◌, ap, sym, length, arith}
use Rattle.std.proofs.lemmas.Result.{on_ok_weaker}
use Rattle.numa_lines.proofs.Cuts.{cut_line}
use Rattle.numa_lines.proofs.Seeing.{none_held, seen_whole}
use Rattle.numa_lines.proofs.lines.Lines.end_line.Goals as goal

pub returns-clause-ok : goal.returns-clause-ok
returns-clause-ok g c =
    let has = g.T.TakeLine.has_taken in
    let none : c.args.self.now.line ≡ [] =
    none_held c.args.self.now.line
    (ap (λ l. length l == 0) (sym c.bytes.ensures) ∙ sym c.is_empty.ensures
    ∙ c.if-not-is_empty.false) in
    let front_of = seen_whole c.args.self.now.line c.args.bytes.now none (omega arith) in
    on_ok_weaker c.take-taken.result
    (λ takes first begun front h.
    let cut = cut_line (has first.taker begun c.args.self.now.taker c.args.output.now)
    (has first.taker begun c.take-taken.new.self c.take-taken.new.output) c.args.self.now.line
    c.args.bytes.now front c.args.bytes.now c.requires.piece front_of
    (λ lines had. takes first.taker begun lines had) h in
    (cut.0, none ∙ cut.1)) c.take-taken.ensures.ok

pub returns-then-bytes-gt-LIMIT-clause-ok : goal.returns-then-bytes-gt-LIMIT-clause-ok
returns-then-bytes-gt-LIMIT-clause-ok g c =
    let has = g.T.TakeLine.has_taken in
    rw c.end_held.ensures.line
    (on_ok_weaker c.end_held.result
    (λ takes first begun front h.
    cut_line (has first.taker begun c.args.self.now.taker c.args.output.now)
    (has first.taker begun c.end_held.new.self.taker c.end_held.new.output) c.args.self.now.line
    c.hold.new.self
    front c.args.bytes.now c.requires.piece c.hold.ensures
    (λ lines had. takes first.taker begun lines had) h) c.end_held.ensures.ok)
