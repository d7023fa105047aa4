use Rattle.numa_page_state.proofs.HeldPages.{tells-held, tells-none}
use Rattle.numa_page_state.proofs.frames.with_held.Goals as goal

pub returns-in_default : goal.returns-in_default
returns-in_default c = rw c.in_default.is (λ told kept tells none.
    tells-none c.args.moved told kept none tells)

pub returns : goal.returns
returns c = rw c.in-Some.is (λ told kept tells same.
    tells-held c.args.moved told c.in-Some.resident.now kept c.held_left-held.result same
    (c.held_left-held.ensures.left told.to tells.to) tells)
