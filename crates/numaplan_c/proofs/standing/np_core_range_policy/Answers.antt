use Rattle.numaplan_c.proofs.standing.np_core_range_policy.Goals as goal

pub returns-in-Some-None-clause-meaning : goal.returns-in-Some-None-clause-meaning
returns-in-Some-None-clause-meaning c kept is history stands =
    (c.in-Some-None.ensures.range.1.1 kept is).1 history stands

pub returns-in-Some-Some-clause-meaning : goal.returns-in-Some-Some-clause-meaning
returns-in-Some-Some-clause-meaning c kept is history stands =
    (c.in-Some-Some.ensures.range.1.1 kept is).1 history stands
