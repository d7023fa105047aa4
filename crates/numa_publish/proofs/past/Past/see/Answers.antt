use Rattle.std.proofs.Common.{◌≤◌, ap, sym, subst, ◌∙◌, arith, length, List}
use mathlib.Core.List.{IsPrefix}
use Rattle.numa_requests.specs.declared.command.Command.{Command}
use Rattle.numa_publish.specs.declared.batch.Batch.{Batch}
use Rattle.numa_publish.specs.Batches.{history_of}
use Rattle.numa_publish.proofs.Logs.{shown_before}
use Rattle.numa_publish.proofs.past.Past.see.Goals as goal

pub learn-requires : goal.learn-requires
learn-requires c = c.requires.book ∙ sym (ap (λ s. s.book) c.again-both.ensures)

pub returns-clause-seen : goal.returns-clause-seen
returns-clause-seen c =
    let both = c.learn.new.self.log in
    let mine : IsPrefix c.args.self.now.front.log both =
    subst (λ (l : List Batch). IsPrefix l both) (ap (λ s. s.log) c.again-both.ensures)
    c.learn.ensures.2 in
    let less : length (history_of c.args.self.now.front.log)
    ≤ length (history_of c.args.shown.now.front.log) =
    omega (
      arith,
      c.requires.version,
      c.requires.later,
      ap (λ (h : List Command). length h) c.args.shown.now.whole,
    ) in
    rw c.again.ensures
    (shown_before c.args.self.now.front.log c.args.shown.now.front.log both mine
    c.learn.ensures.3 c.learn.ensures.4.1.is_log less).0

pub returns-clause-versions : goal.returns-clause-versions
returns-clause-versions c =
    let both = c.learn.new.self.log in
    let mine : IsPrefix c.args.self.now.front.log both =
    subst (λ (l : List Batch). IsPrefix l both) (ap (λ s. s.log) c.again-both.ensures)
    c.learn.ensures.2 in
    let less : length (history_of c.args.self.now.front.log)
    ≤ length (history_of c.args.shown.now.front.log) =
    omega (
      arith,
      c.requires.version,
      c.requires.later,
      ap (λ (h : List Command). length h) c.args.shown.now.whole,
    ) in
    rw c.again.ensures
    (shown_before c.args.self.now.front.log c.args.shown.now.front.log both mine
    c.learn.ensures.3 c.learn.ensures.4.1.is_log less).1
