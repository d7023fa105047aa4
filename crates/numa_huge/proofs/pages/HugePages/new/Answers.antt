use Rattle.numa_huge.proofs.pages.HugePages.new.Goals as goal

pub returns : goal.returns
returns c = record { pages = c.new.ensures; told = c.still.ensures; arrived = tt }
