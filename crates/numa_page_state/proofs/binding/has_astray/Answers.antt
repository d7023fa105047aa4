use Rattle.numa_page_state.proofs.binding.has_astray.Goals as goal

pub returns : goal.returns
returns c = λ lying history lies stands.
    c.strays.ensures lying.spots history (c.lies_astray-stated.ensures lying lies) stands
