use Rattle.numa_page_state.proofs.Asking.{found-policy, sends-err, sends-ok}
use Rattle.numa_page_state.proofs.sending.sent.Goals as goal

pub returns-in-Ok-outcome : goal.returns-in-Ok-outcome
returns-in-Ok-outcome c = λ history lying stands lies.
    let has = found-policy c.args.space.now history c.args.said.now c.in-Ok.found c.in-Some.after
    c.in-Some.is (c.in-Ok.ensures history stands) in
    sends-ok c.args.space.now history c.args.resident.now c.args.said.now c.args.toucher
    c.in-Some.after has lying c.in-Ok-outcome.sent c.below_end-part.result c.below_end-part.ensures
    (c.in-Ok-outcome.ensures.ok lying lies)

pub returns-in-Err : goal.returns-in-Err
returns-in-Err c = λ history lying stands lies.
    let has = found-policy c.args.space.now history c.args.said.now c.in-Ok.found c.in-Some.after
    c.in-Some.is (c.in-Ok.ensures history stands) in
    sends-err c.args.space.now history c.args.resident.now c.args.said.now c.args.toucher
    c.in-Some.after has lying c.in-Err.refusal c.below_end-part.result c.below_end-part.ensures
    (c.in-Err.ensures.err lying lies)
