use Rattle.std.proofs.Common.{◌≡◌, ◌<◌, ◌∙◌, ap, sym, subst, length, reverse, get_or, ℕ}
use Rattle.std.proofs.lemmas.List.{length-reverse}
use Rattle.numa_fault.specs.Crew.{column}
use Rattle.numa_fault.specs.Turns.{share}
use Rattle.numa_fault.specs.Worker.{parts_of}
use Rattle.numa_fault.proofs.Columns.{length-column}
use Rattle.numa_fault.proofs.InTurn.{serves-length}
use Rattle.numa_fault.proofs.crew.Crew.run.Goals as goal

pub gather-requires-clause-kept : goal.gather-requires-clause-kept
gather-requires-clause-kept g c w d l =
    let before = c.make_room.new.workers in
    let after = c.serve_all.new.workers in
    let xs = c.args.requests.now in
    let many : length after ≡ length before = c.serve_all.auto.workers in
    let served = c.serve_all.ensures.each w d (subst (λ (n : ℕ). w < n) many l) in
    sym (length-reverse (get_or after w d).kept)
    ∙ serves-length c.args.pools.now.frames (column (length before) w xs)
    (parts_of (get_or before w d)) (parts_of (get_or after w d)) (reverse (get_or after w d).kept)
    served
    ∙ length-column (length before) w xs
    ∙ ap (λ (n : ℕ). share n w (length xs)) (sym many)
