use Rattle.numa_page_state.proofs.Asking.{found-policy}
use Rattle.numa_page_state.proofs.HugeMoved.{policy-there, walk-by}
use Rattle.numa_page_state.proofs.huge.huge_sent_from.Goals as goal

pub returns-in_default-found-clause-sent : goal.returns-in_default-found-clause-sent
returns-in_default-found-clause-sent c memory history kept is stands free =
    absurd (policy-there c.args.space.now history c.args.said.now c.in-Ok.found c.in_default-found.is
    (c.in-Ok.ensures history stands) free)

pub returns-in-Ok-sent-clause-sent : goal.returns-in-Ok-sent-clause-sent
returns-in-Ok-sent-clause-sent c memory history kept is stands free =
    let has = found-policy c.args.space.now history c.args.said.now c.in-Ok.found c.in-Some.after
    c.in-Some.is (c.in-Ok.ensures history stands) in
    walk-by c.args.space.now history kept c.args.said.now c.args.toucher memory c.in-Some.after
    c.in-Ok-sent.sent.0 c.in-Ok-sent.sent.1 has (c.in-Ok-sent.ensures.sent memory is)

pub returns-in-Ok-sent-clause-keeps : goal.returns-in-Ok-sent-clause-keeps
returns-in-Ok-sent-clause-keeps c = c.in-Ok-sent.ensures.keeps
