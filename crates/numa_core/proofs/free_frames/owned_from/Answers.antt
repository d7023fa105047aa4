use Rattle.std.proofs.Common.{◌≡◌, ℕ, Option, Some, None, is_some, ap, ◌∙◌, arith, not}
use Rattle.std.proofs.Common.{length, ◌<◌, false, refl}
use Rattle.numa_core.specs.Standing.{owner_at}
use Rattle.numa_core.proofs.InARow.{owner_read}
use Rattle.numa_core.proofs.free_frames.owned_from.Goals as goal

pub returns-then-marked-gt0-clause-owned : goal.returns-then-marked-gt0-clause-owned
returns-then-marked-gt0-clause-owned c p low high = c.requires.marked p
    (c.marked_from-marked.ensures.marked p low high)

pub returns-then-is_none-clause-free : goal.returns-then-is_none-clause-free
returns-then-is_none-clause-free c zero =
    let within : c.args.place < length c.args.owners.now.items =
    omega (arith, c.requires.owners, c.args.owners.now.ok.0) in
    owner_read c.args.owners.now.items c.args.place c.index.result.now within c.index.ensures
    ∙ none c.index.result.now (c.is_none.ensures ∙ ap not c.if-is_none.true)
  where
    none : (o : Option ℕ) → is_some o ≡ false → o ≡ None
    none None h = refl
    none (Some x) h = absurd (cc)

pub returns-clause-owned : goal.returns-clause-owned
returns-clause-owned c p low high =
    let same : p ≡ c.args.place = omega arith in
    let within : c.args.place < length c.args.owners.now.items =
    omega (arith, c.requires.owners, c.args.owners.now.ok.0) in
    ap (λ (i : ℕ). is_some (owner_at c.args.owners.now.items (Some i))) same
    ∙ ap is_some
    (owner_read c.args.owners.now.items c.args.place c.index.result.now within c.index.ensures)
    ∙ (c.is_none.ensures ∙ ap not c.if-is_none.false)
