use Rattle.std.proofs.Common.{◌<◌, ℕ, List, ap, slice_index, subst, sym, ◌∙◌}
use Rattle.numa_traces.specs.Placing.{Frames}
use Rattle.numa_traces.proofs.Freed.{free-some}
use Rattle.numa_traces.proofs.memory.Memory.place.Goals as goal

pub take_room-requires : goal.take_room-requires
take_room-requires c =
    let left : 0 < slice_index c.args.self.now.free c.in-Some.node =
    free-some c.args.self.now.free c.args.nodes.now c.in-Some.node
    (sym c.first_free.ensures ∙ c.in-Some.is) in
    let P : List ℕ → Type 0 = λ free. 0 < slice_index free c.in-Some.node in
    subst P (sym (ap (λ (f : Frames). f.free) c.self.view_is)) left
