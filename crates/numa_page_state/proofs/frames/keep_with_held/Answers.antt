use Rattle.numa_page_state.proofs.frames.keep_with_held.Goals as goal

pub returns-in-Nodes : goal.returns-in-Nodes
returns-in-Nodes c = λ told kept tells is.
    c.write_moved.ensures told kept tells
    (c.held_where-held.ensures.left told.to kept tells.to is)

pub returns-in-Pages : goal.returns-in-Pages
returns-in-Pages c = λ told kept tells is.
    c.keep_whole.ensures told kept tells
    (c.held_where-held.ensures.left told.to kept tells.to is)
