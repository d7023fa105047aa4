use Rattle.std.proofs.Common.{◌<◌, length, ap, sym, arith, get_or, ◌≡◌, ◌∙◌, refl, ℕ}
use Rattle.numa_mask.specs.NodeSet.{both}
use Rattle.numa_host.specs.declared.process.Process.{Process}
use Rattle.numa_host.specs.Processes.{when_moved}
use Rattle.numa_host.specs.Groups.{effective_mems}
use Rattle.numa_host.specs.Following.{HasMore}
use Rattle.numa_host.proofs.Effective.{effective-some, memory-some}
use Rattle.numa_host.proofs.Following.{partly-more, partly-next}
use Rattle.numa_host.proofs.process.allow_all.Goals as goal

pub loop-process-init : goal.loop-process-init
loop-process-init c =
    record {
      count = refl;
      done = λ j d low. absurd (omega (arith, low));
      rest =
          λ j d low. refl;
    }

pub allow-requires-clause-room : goal.allow-requires-clause-room
allow-requires-clause-room c =
    let inside : c.loop-process.process-index < length {A = Process} c.args.processes.now =
    omega (arith, c.loop-process-test.true, c.loop-process.invariant.count) in
    (partly-next _ c.loop-process.process-index c.args.processes.now c.loop-process.processes
    c.process-item.result (λ p. (p.space.version < p.space.bounds.max_commands)
    × (p.space.machine.memory ≡ c.args.memory)) c.loop-process.invariant inside
    c.requires.room).0

pub allow-requires-clause-some : goal.allow-requires-clause-some
allow-requires-clause-some c =
    λ none. (effective-some c.args.memory c.args.groups.now
    (get_or c.loop-process.processes c.loop-process.process-index c.process-item.result).group
    (memory-some c.args.memory c.requires.some)).some (sym c.effective-nodes.ensures ∙ none)

pub allow-requires-clause-inside : goal.allow-requires-clause-inside
allow-requires-clause-inside c =
    let inside : c.loop-process.process-index < length {A = Process} c.args.processes.now =
    omega (arith, c.loop-process-test.true, c.loop-process.invariant.count) in
    let memory = (partly-next _ c.loop-process.process-index c.args.processes.now
    c.loop-process.processes c.process-item.result
    (λ p. (p.space.version < p.space.bounds.max_commands)
    × (p.space.machine.memory ≡ c.args.memory)) c.loop-process.invariant inside
    c.requires.room).1 in
    ap (λ m. both c.effective-nodes.result m) memory
    ∙ ap (λ s. both s c.args.memory) c.effective-nodes.ensures
    ∙ (effective-some c.args.memory c.args.groups.now
    (get_or c.loop-process.processes c.loop-process.process-index c.process-item.result).group
    (memory-some c.args.memory c.requires.some)).inside
    ∙ sym c.effective-nodes.ensures

pub loop-process-preserved : goal.loop-process-preserved
loop-process-preserved c =
    let nodes : Process → ℕ = λ p. effective_mems c.args.memory c.args.groups.now p.group in
    let became : Process → Process
    → Type 0 = λ p q. HasMore (when_moved p.space.allowed (nodes p)) (nodes p) p q in
    let inside : c.loop-process.process-index < length {A = Process} c.args.processes.now =
    omega (arith, c.loop-process-test.true, c.loop-process.invariant.count) in
    let is : c.effective-nodes.result
    ≡ nodes (get_or c.loop-process.processes c.loop-process.process-index
    c.process-item.result) = c.effective-nodes.ensures in
    let new : Process = record {
      id = (get_or c.loop-process.processes c.loop-process.process-index
          c.process-item.result).id;
      group = (get_or c.loop-process.processes c.loop-process.process-index
          c.process-item.result).group;
      space = c.allow.new.space;
    } in
    partly-more became c.loop-process.process-index c.args.processes.now c.loop-process.processes
    c.process-item.result new c.loop-process.invariant inside
    (record {
      id = refl;
      group = refl;
      machine = c.allow.ensures.machine;
      bounds = c.allow.ensures.bounds;
      allowed = c.allow.ensures.allowed ∙ is;
      stands = rw (← is) c.allow.ensures.stands;
    })
