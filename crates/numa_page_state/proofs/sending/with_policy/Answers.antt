use Rattle.std.proofs.Common.{sym, ◌∙◌}
use Rattle.numa_page_state.proofs.Asking.{has-policy, refused-policy}
use Rattle.numa_page_state.proofs.sending.with_policy.Goals as goal

pub returns-in-Ok-apply : goal.returns-in-Ok-apply
returns-in-Ok-apply c = λ history stands.
    has-policy c.args.space.now c.in-Ok.after history c.args.said.now c.in-Ok.ensures.same
    c.apply.new.self
    (c.in-Ok-apply.ensures.applied.ok history (c.in-Ok.ensures.stands history stands))
    c.in-Ok-apply.ensures.applied.machine

pub returns-else-lacks_room : goal.returns-else-lacks_room
returns-else-lacks_room c = λ history stands.
    refused-policy c.args.space.now c.in-Ok.after history c.args.said.now c.in-Ok.ensures.same
    c.in-Err.refusal
    (c.in-Err.ensures.applied.err history (c.in-Ok.ensures.stands history stands))
    (sym c.lacks_room.ensures ∙ c.if-lacks_room.false)
