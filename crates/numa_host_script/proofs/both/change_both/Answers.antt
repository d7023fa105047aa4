use Rattle.numa_host_script.proofs.BothActed.{other-acts}
use Rattle.numa_host_script.proofs.both.change_both.Goals as goal

pub returns-in-At-clause-runs : goal.returns-in-At-clause-runs
returns-in-At-clause-runs c = rw c.in-At.is c.state_in.ensures.runs

pub returns-in-Migrate-clause-runs : goal.returns-in-Migrate-clause-runs
returns-in-Migrate-clause-runs c = rw c.in-Migrate.is c.migrate_in.ensures.runs

pub returns-in-Move-clause-runs : goal.returns-in-Move-clause-runs
returns-in-Move-clause-runs c = rw c.in-Move.is c.move_in.ensures.runs

pub returns-in-Populate-clause-runs : goal.returns-in-Populate-clause-runs
returns-in-Populate-clause-runs c = rw c.in-Populate.is c.populate_in.ensures.runs

pub returns-in_default-clause-runs : goal.returns-in_default-clause-runs
returns-in_default-clause-runs c =
    other-acts c.args.running.now c.change_small.new.running c.change_small.result c.args.process
    c.args.line.now c.in_default.not-At c.in_default.not-Migrate c.in_default.not-Move
    c.in_default.not-Populate c.requires.moved c.change_small.ensures.runs
