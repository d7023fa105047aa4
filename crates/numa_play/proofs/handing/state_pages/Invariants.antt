use Rattle.numa_host_script.specs.Sessions.{Session}
use Rattle.numa_host_script.specs.Taking.{SessionStandsFor}
use Rattle.numa_play.specs.Deeds.{StatesPages}
use Rattle.numa_play.proofs.handing.state_pages.Given as goal

-- what is stated of the pages that are left leads on from here
abbrev pub invariant-loop-page : goal.invariant-loop-page
invariant-loop-page l = (session : Session) → SessionStandsFor l.fn.script session
    → (mid : Session) × SessionStandsFor l.script mid
    × ((end : Session) → StatesPages l.process l.page-iterator mid end
    → StatesPages l.process l.memory.pages session end)
