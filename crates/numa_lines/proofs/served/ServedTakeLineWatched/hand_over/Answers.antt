use Rattle.std.proofs.Common.{sym, subst}
use Rattle.std.proofs.lemmas.List.{append-nil}
use Rattle.numa_lines.specs.Progress.{Progress}
use Rattle.numa_lines.proofs.Progressing.{is_handed, progress_handed}
use Rattle.numa_lines.proofs.served.ServedTakeLineWatched.hand_over.Goals as goal

pub returns-clause-takes : goal.returns-clause-takes
returns-clause-takes g c =
    λ first begun lines h start stands_first.
    let stands = g.S.Serve.stands_for c.args.self.now.server in
    subst
    (Progress g.W.Write.contents g.S.Serve.plenty g.S.Serve.answer_of g.S.Serve.after start stands
    begun c.hand_over.new.self) (sym (append-nil lines))
    (progress_handed g.W.Write.contents g.S.Serve.plenty g.S.Serve.answer_of g.S.Serve.after start
    stands begun c.args.output.now c.hand_over.new.self lines c.hand_over.ensures.says
    (h start stands_first))

pub returns-clause-handed : goal.returns-clause-handed
returns-clause-handed g c =
    is_handed c.hand_over.result c.hand_over.new.self c.hand_over.ensures.ok
    c.hand_over.ensures.empty c.hand_over.ensures.err c.hand_over.ensures.fault
