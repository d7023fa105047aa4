use Rattle.std.proofs.Common.{refl, subst}
use Rattle.numa_maps.specs.Residents.{IsRefusal}
use Rattle.numa_run.proofs.Doing.{keeps, gives-taken, gives-starved}
use Rattle.numa_run.proofs.running.Running.keep.Goals as goal

pub returns-in-Ok : goal.returns-in-Ok
returns-in-Ok c =
    rw c.of-win.ensures
    (keeps c.args.self.now (record c.args.self.now { resident = c.record.new.self })
    c.args.worker c.args.placement refl c.in-Ok.ensures.free c.in-Ok.ensures.ok (refl, refl))

pub returns-in-Err-Taken : goal.returns-in-Err-Taken
returns-in-Err-Taken c =
    let why = subst (IsRefusal c.args.self.now.resident c.args.placement) c.in-Err-Taken.field-0-is
    c.in-Err-Taken.ensures.err in
    gives-taken c.args.self.now
    (record c.args.self.now { core = c.step.new.self; resident = c.record.new.self })
    c.args.worker c.args.placement c.step.result
    c.step.ensures.answer c.step.ensures.setup c.in-Err-Taken.ensures.unchanged (refl, refl) why.1

pub returns-in-Err-NoMemory : goal.returns-in-Err-NoMemory
returns-in-Err-NoMemory c =
    let why = subst (IsRefusal c.args.self.now.resident c.args.placement)
    c.in-Err-NoMemory.field-0-is c.in-Err-NoMemory.ensures.err in
    gives-starved c.args.self.now
    (record c.args.self.now {
      core = c.step-in-Err-NoMemory.new.self;
      resident = c.record.new.self;
    })
    c.args.worker c.args.placement c.step-in-Err-NoMemory.result
    c.step-in-Err-NoMemory.ensures.answer c.step-in-Err-NoMemory.ensures.setup
    c.in-Err-NoMemory.ensures.unchanged (refl, refl) why.1
