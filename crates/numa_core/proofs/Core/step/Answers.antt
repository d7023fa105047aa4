use Rattle.std.proofs.Common.{Ok, Err}
use Rattle.numa_requests.specs.declared.event.Event.TheVariants.{Accept, Publish, Begin, Seek}
use Rattle.numa_requests.specs.declared.event.Event.TheVariants.{Look, Try, Give}
use Rattle.numa_requests.specs.declared.event.CoreReply.TheVariants.{Accepted}
use Rattle.numa_requests.specs.declared.event.CoreRefusal.TheVariants.{Command}
use Rattle.numa_core.specs.Kept.{core_state}
use Rattle.numa_core.proofs.CoreExecutions.{past_more}
use Rattle.numa_core.proofs.Performed.{Told, told-by, told-same}
use Rattle.numa_core.proofs.Core.step.Goals as goal

pub invariant_of-self : goal.invariant_of-self
invariant_of-self c = (
  c.publish.ensures.kept,
  past_more (core_state c.self.inside.state) (core_state c.publish.new.self)
      (Publish) c.publish.result c.publish.ensures.setup c.publish.ensures.follows
      c.self.invariant.1,
)

pub invariant_of-self-in-Begin : goal.invariant_of-self-in-Begin
invariant_of-self-in-Begin c = (
  c.begin.ensures.kept,
  past_more (core_state c.self-in-Begin.inside.state) (core_state c.begin.new.self)
      (Begin c.in-Begin.worker c.in-Begin.request) c.begin.result c.begin.ensures.setup
      c.begin.ensures.follows c.self-in-Begin.invariant.1,
)

pub invariant_of-self-in-Seek : goal.invariant_of-self-in-Seek
invariant_of-self-in-Seek c = (
  c.seek.ensures.kept,
  past_more (core_state c.self-in-Seek.inside.state) (core_state c.seek.new.self)
      (Seek c.in-Seek.worker c.in-Seek.node) c.seek.result c.seek.ensures.setup
      c.seek.ensures.follows c.self-in-Seek.invariant.1,
)

pub invariant_of-self-in-Look : goal.invariant_of-self-in-Look
invariant_of-self-in-Look c = (
  c.look.ensures.kept,
  past_more (core_state c.self-in-Look.inside.state) (core_state c.look.new.self)
      (Look c.in-Look.worker c.in-Look.word) c.look.result c.look.ensures.setup
      c.look.ensures.follows
      c.self-in-Look.invariant.1,
)

pub invariant_of-self-in-Try : goal.invariant_of-self-in-Try
invariant_of-self-in-Try c = (
  c.attempt.ensures.kept,
  past_more (core_state c.self-in-Try.inside.state) (core_state c.attempt.new.self)
      (Try c.in-Try.worker c.in-Try.frame) c.attempt.result c.attempt.ensures.setup
      c.attempt.ensures.follows c.self-in-Try.invariant.1,
)

pub invariant_of-self-in-Give : goal.invariant_of-self-in-Give
invariant_of-self-in-Give c = (
  c.give.ensures.kept,
  past_more (core_state c.self-in-Give.inside.state) (core_state c.give.new.self)
      (Give c.in-Give.worker c.in-Give.frame) c.give.result c.give.ensures.setup
      c.give.ensures.follows c.self-in-Give.invariant.1,
)

pub returns-in-Publish : goal.returns-in-Publish
returns-in-Publish c =
    let told = told-by c.args.self.now c.self.inside.state c.publish.new.self c.args.event
    Publish c.publish.result c.self.view_is c.in-Publish.is c.publish.ensures in
    record {
      answer = told.answers;
      executions = told.executions;
      unchanged = told.unchanged;
      setup = told.setup;
    }

pub returns-in-Begin : goal.returns-in-Begin
returns-in-Begin c =
    let told = told-by c.args.self.now c.self-in-Begin.inside.state c.begin.new.self c.args.event
    (Begin c.in-Begin.worker c.in-Begin.request) c.begin.result c.self-in-Begin.view_is
    c.in-Begin.is c.begin.ensures in
    record {
      answer = told.answers;
      executions = told.executions;
      unchanged = told.unchanged;
      setup = told.setup;
    }

pub returns-in-Seek : goal.returns-in-Seek
returns-in-Seek c =
    let told = told-by c.args.self.now c.self-in-Seek.inside.state c.seek.new.self c.args.event
    (Seek c.in-Seek.worker c.in-Seek.node) c.seek.result c.self-in-Seek.view_is
    c.in-Seek.is c.seek.ensures in
    record {
      answer = told.answers;
      executions = told.executions;
      unchanged = told.unchanged;
      setup = told.setup;
    }

pub returns-in-Look : goal.returns-in-Look
returns-in-Look c =
    let told = told-by c.args.self.now c.self-in-Look.inside.state c.look.new.self c.args.event
    (Look c.in-Look.worker c.in-Look.word) c.look.result c.self-in-Look.view_is
    c.in-Look.is c.look.ensures in
    record {
      answer = told.answers;
      executions = told.executions;
      unchanged = told.unchanged;
      setup = told.setup;
    }

pub returns-in-Try : goal.returns-in-Try
returns-in-Try c =
    let told = told-by c.args.self.now c.self-in-Try.inside.state c.attempt.new.self c.args.event
    (Try c.in-Try.worker c.in-Try.frame) c.attempt.result c.self-in-Try.view_is
    c.in-Try.is c.attempt.ensures in
    record {
      answer = told.answers;
      executions = told.executions;
      unchanged = told.unchanged;
      setup = told.setup;
    }

pub returns-in-Give : goal.returns-in-Give
returns-in-Give c =
    let told = told-by c.args.self.now c.self-in-Give.inside.state c.give.new.self c.args.event
    (Give c.in-Give.worker c.in-Give.frame) c.give.result c.self-in-Give.view_is
    c.in-Give.is c.give.ensures in
    record {
      answer = told.answers;
      executions = told.executions;
      unchanged = told.unchanged;
      setup = told.setup;
    }

pub returns-in-Ok : goal.returns-in-Ok
returns-in-Ok c =
    let done : Told c.args.self.now (Accept c.in-Accept.command) (Ok (Accepted c.in-Ok.acceptance.version))
    c.accept.new.self = record {
      answers = c.in-Ok.ensures.answer;
      executions = c.in-Ok.ensures.executions;
      unchanged = tt;
      setup = c.in-Ok.ensures.setup;
    } in
    let told = told-same c.args.self.now c.accept.new.self c.args.event
    (Accept c.in-Accept.command) (Ok (Accepted c.in-Ok.acceptance.version)) c.in-Accept.is done in
    record {
      answer = told.answers;
      executions = told.executions;
      unchanged = told.unchanged;
      setup = told.setup;
    }

pub returns-in-Err : goal.returns-in-Err
returns-in-Err c =
    let done : Told c.args.self.now (Accept c.in-Accept.command) (Err (Command c.in-Err.refusal))
    c.accept.new.self = record {
      answers = c.in-Err.ensures.answer;
      executions = c.in-Err.ensures.executions;
      unchanged = c.in-Err.ensures.unchanged;
      setup = c.in-Err.ensures.setup;
    } in
    let told = told-same c.args.self.now c.accept.new.self c.args.event
    (Accept c.in-Accept.command) (Err (Command c.in-Err.refusal)) c.in-Accept.is done in
    record {
      answer = told.answers;
      executions = told.executions;
      unchanged = told.unchanged;
      setup = told.setup;
    }
