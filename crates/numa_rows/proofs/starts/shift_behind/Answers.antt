-- The starts that move are those from a place on.
use Rattle.std.proofs.Common.{◌≡◌, ◌+◌, ◌-◌, ◌<◌, ◌≤◌, ◌^◌, ℕ, List, length, take, drop, subst, sym}
use Rattle.std.proofs.Common.{ap, ◌∙◌}
use Rattle.std.specs.Prelude.{All}
use Rattle.std.proofs.lemmas.List.{take_rest}
use Rattle.numa_rows.proofs.starts.shift_behind.Goals as goal

pub shift-requires-clause-low : goal.shift-requires-clause-low
shift-requires-clause-low c =
    let same : take (length c.deref_mut.result.now - c.args.place)
    (drop c.args.place c.deref_mut.result.now) ≡ drop c.args.place c.args.starts.now.items =
    take_rest c.deref_mut.result.now c.args.place
    ∙ ap (drop c.args.place) c.deref_mut.ensures.value in
    subst (λ (l : List ℕ). All (λ start. c.args.removed ≤ start) l) (sym same) c.requires.low

pub shift-requires-clause-fits : goal.shift-requires-clause-fits
shift-requires-clause-fits c =
    let same : take (length c.deref_mut.result.now - c.args.place)
    (drop c.args.place c.deref_mut.result.now) ≡ drop c.args.place c.args.starts.now.items =
    take_rest c.deref_mut.result.now c.args.place
    ∙ ap (drop c.args.place) c.deref_mut.ensures.value in
    subst (λ (l : List ℕ). All (λ start. start - c.args.removed + c.args.added < 2 ^ 32) l)
    (sym same) c.requires.fits
