use Rattle.std.proofs.Common.{refl, true}
use Rattle.numa_host_script.specs.Standing.{IsSentTo}
use Rattle.numa_host_script.proofs.Lent.{and-false, by-out, not-both}
use Rattle.numa_host_script.proofs.Moving.{first-kept, first-starved, lent-kept, sent-given}
use Rattle.numa_host_script.proofs.binding.send.Goals as goal

pub returns-in_default : goal.returns-in_default
returns-in_default c = rw c.pages_reply.ensures (λ at stands more.
    first-starved (record c.args.running.now { pages = c.lend.new.pages }) c.args.process
    c.args.said.now c.args.words.now at (record {
      machine = stands.machine;
      bounds = stands.bounds;
      stands = stands.stands;
      lies = (c.in_default.ensures.lacks at.lying stands.lies).1;
      are = stands.are;
    }))

pub returns-in-Ok-told : goal.returns-in-Ok-told
returns-in-Ok-told c = λ at stands more.
    let out = c.in-Ok.ensures.lent at.lying stands.lies in
    sent-given c.args.running.now.host c.lend.new.pages (record c.lend.new.pages {
      huge = c.send_with-told.new.huge;
    }) c.give_back.new.pages c.in-Ok.lent.state.value c.send_with-told.new.state
    c.send_with-told.new.host c.args.process c.args.said.now c.args.words.now
    c.take_along.new.self c.in-Ok-told.reply
    (rw (c.in-Ok-told.is, c.deref_mut.ensures.value) at c.send_with-told.ensures) refl
    (c.give_back.ensures.kept (rw (c.is_err.ensures.value, c.in-Ok-told.is)
    (and-false c.in-Ok.lent.first)))
    c.take_along.ensures at (record {
      machine = stands.machine;
      bounds = stands.bounds;
      stands = stands.stands;
    }) stands.are more out.1 out.2

pub returns-in-Err : goal.returns-in-Err
returns-in-Err c = λ at stands more.
    let out = c.in-Ok.ensures.lent at.lying stands.lies in
    by-out (IsSentTo c.in-Err.reply (record {
      host = c.send_with-told.new.host;
      pages = c.give_back.new.pages;
    }) at c.args.process c.args.said.now c.args.words.now)
    c.lend.new.pages c.in-Ok.lent.state.value c.in-Ok.lent.first true c.args.process at.lying out
    (λ lying is has kept.
    lent-kept c.args.running.now.host c.lend.new.pages (record c.lend.new.pages {
      huge = c.send_with-told.new.huge;
    }) c.give_back.new.pages c.in-Ok.lent.state.value c.send_with-told.new.state
    c.send_with-told.new.host c.args.process c.args.said.now c.args.words.now c.in-Err.reply
    (rw (c.in-Err.is, c.deref_mut.ensures.value) at c.send_with-told.ensures) refl
    (c.give_back.ensures.kept (rw (c.is_err.ensures.value, c.in-Err.is) kept))
    at (record {
      machine = stands.machine;
      bounds = stands.bounds;
      stands = stands.stands;
    }) stands.are more lying is has out.2)
    (λ none has serves kept. absurd (not-both true refl serves))
    (λ none has lies starves gone.
    first-kept c.args.running.now.host c.lend.new.pages (record c.lend.new.pages {
      huge = c.send_with-told.new.huge;
    }) c.give_back.new.pages c.in-Ok.lent.state.value c.send_with-told.new.state
    c.send_with-told.new.host c.args.process c.args.said.now c.args.words.now c.in-Err.reply
    (rw (c.in-Err.is, c.deref_mut.ensures.value) at c.send_with-told.ensures) refl
    (c.give_back.ensures.gone (rw (c.is_err.ensures.value, c.in-Err.is) gone))
    at (record {
      machine = stands.machine;
      bounds = stands.bounds;
      stands = stands.stands;
    }) stands.are more none has lies)
