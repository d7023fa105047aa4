use Rattle.numa_script.specs.declared.page_line.PageLine.TheVariants as page
use Rattle.numa_run.proofs.JudgeLemmas.{last_text, moved-text, rooms-text, rooms_left}
use Rattle.numa_run.proofs.Faults.{arrived-bad, arrived-told, maps-bad, maps-told, pools-bad}
use Rattle.numa_run.proofs.Faults.{pools-told, text-bad, text-told}
use Rattle.numa_run.proofs.script.Script.text_fault.Goals as goal

pub returns-in-Some-clause-maps : goal.returns-in-Some-clause-maps
returns-in-Some-clause-maps c = λ task. rw c.in-Some.is (maps-told c.in-Some.field-0.value task)

pub returns-in-Some-clause-moved : goal.returns-in-Some-clause-moved
returns-in-Some-clause-moved c =
    rw c.in-Some.is (text-told page.Moved last_text moved-text c.in-Some.field-0.value)

pub returns-in-Some-clause-rooms : goal.returns-in-Some-clause-rooms
returns-in-Some-clause-rooms c =
    rw c.in-Some.is (text-told page.Rooms rooms_left rooms-text c.in-Some.field-0.value)

pub returns-in-Some-clause-arrived : goal.returns-in-Some-clause-arrived
returns-in-Some-clause-arrived c = rw c.in-Some.is (arrived-told c.in-Some.field-0.value)

pub returns-in-Some-clause-pools : goal.returns-in-Some-clause-pools
returns-in-Some-clause-pools c = rw c.in-Some.is (pools-told c.in-Some.field-0.value)

pub returns-in-None-clause-maps : goal.returns-in-None-clause-maps
returns-in-None-clause-maps c = λ task. rw c.in-None.is (maps-bad c.args.self.now.settings task)

pub returns-in-None-clause-moved : goal.returns-in-None-clause-moved
returns-in-None-clause-moved c =
    rw c.in-None.is (text-bad c.args.self.now.settings page.Moved)

pub returns-in-None-clause-rooms : goal.returns-in-None-clause-rooms
returns-in-None-clause-rooms c =
    rw c.in-None.is (text-bad c.args.self.now.settings page.Rooms)

pub returns-in-None-clause-arrived : goal.returns-in-None-clause-arrived
returns-in-None-clause-arrived c = rw c.in-None.is (arrived-bad c.args.self.now.settings)

pub returns-in-None-clause-pools : goal.returns-in-None-clause-pools
returns-in-None-clause-pools c = rw c.in-None.is (pools-bad c.args.self.now.settings)
