use Rattle.std.proofs.Common.{◌≡◌, ◌∙◌, ap, sym, unwrap_or}
use Rattle.numa_script.specs.Numbers.{item_of}
use Rattle.numa_script.specs.Parts.{items_of}
use Rattle.numa_script.specs.Machines.{frames_for}
use Rattle.numa_script.proofs.Eaches.{frames_of_more}
use Rattle.numa_script.proofs.machine.Frames.for_nodes.Goals as goal

pub returns-in-None : goal.returns-in-None
returns-in-None c =
    let more = frames_of_more (λ item. unwrap_or (item_of item) 0) c.args.nodes c.args.memory.now
    (items_of c.self.inside.word.now) (λ x h. c.in-None.ensures x (c.items.ensures ∙ h)) in
    let same : frames_for c.args.nodes c.args.memory.now c.args.self.now ≡ c.args.self.now =
    ap (frames_for c.args.nodes c.args.memory.now) (sym c.self.view_is) ∙ more ∙ c.self.view_is in
    rw same c.numbers.ensures
