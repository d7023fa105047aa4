use Rattle.std.proofs.Common.{ℕ, refl, sym, ap, subst, ◌∙◌}
use Rattle.numa_machine.specs.Machine.{Hardware}
use Rattle.numa_page_state.specs.Outcomes.{Enough}
use Rattle.numa_pools.specs.Resize.{node_refusal}
use Rattle.numa_script.specs.declared.huge_line.HugeLine.TheVariants as huge
use Rattle.numa_space.specs.Standing.{SpaceState}
use Rattle.numa_run.specs.HugeLines.{begins, begun_outcome, pools_on, resize_outcome, resize_unless}
use Rattle.numa_run.specs.Standing.{ComesTo}
use Rattle.numa_run.proofs.Resized.{comes-by}
use Rattle.numa_run.proofs.running.Running.huge_begun.Goals as goal

pub resize-requires : goal.resize-requires
resize-requires c = c.requires (ap begins c.in-Resize.is)

pub resize_node-requires-clause-kept : goal.resize_node-requires-clause-kept
resize_node-requires-clause-kept c = c.requires (ap begins c.in-ResizeNode.is)

pub resize_for-requires : goal.resize_for-requires
resize_for-requires c = c.requires (ap begins c.in-ResizeFor.is)

pub map_huge-requires : goal.map_huge-requires
map_huge-requires c = c.requires (ap begins c.in-Map.is)

pub returns-in-Pools : goal.returns-in-Pools
returns-in-Pools c = rw c.in-Pools.is (λ state stands. (Enough, refl, stands))

pub returns-in-Resize : goal.returns-in-Resize
returns-in-Resize c =
    rw c.in-Resize.is
    (comes-by c.args.self.now c.resize.new.self c.resize.result
    (λ lack machine state. resize_outcome machine c.memory-memory.result c.in-Resize.pages state)
    (λ lack machine state. begun_outcome lack machine state (huge.Resize c.in-Resize.pages))
    (λ state stands lack. ap (λ (n : ℕ). resize_outcome c.args.self.now.core.space.machine n
    c.in-Resize.pages state) (sym (c.memory-memory.ensures.memory
    ∙ ap (λ (m : Hardware). m.memory) c.machine.ensures
    ∙ ap (λ (s : SpaceState). s.machine.memory) c.space.ensures.space))) c.resize.ensures)

pub returns-in-ResizeNode : goal.returns-in-ResizeNode
returns-in-ResizeNode c =
    rw c.in-ResizeNode.is
    (subst (λ (n : ℕ). ComesTo c.args.self.now c.resize_node.result c.resize_node.new.self
    (λ lack machine state. resize_unless (node_refusal machine.nodes (pools_on machine state)
    c.in-ResizeNode.node n) machine c.in-ResizeNode.node n state)) c.min.ensures
    c.resize_node.ensures)

pub returns-in-ResizeFor : goal.returns-in-ResizeFor
returns-in-ResizeFor c = rw c.in-ResizeFor.is c.resize_for.ensures

pub returns-in-Map : goal.returns-in-Map
returns-in-Map c = rw c.in-Map.is c.map_huge.ensures

pub returns-in-Fault : goal.returns-in-Fault
returns-in-Fault c = rw c.in-Fault.is c.fault.ensures
