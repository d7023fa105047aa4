use Rattle.std.proofs.Common.{◌≡◌, true, false, eqb, sym, ◌∙◌}
use Rattle.numa_host_pages.proofs.following.follow_huge.Goals as goal

pub returns-then-eq : goal.returns-then-eq
returns-then-eq c = λ at lies.
    let alike : eqb c.args.old.now c.args.new.now ≡ true = sym c.eq.ensures ∙ c.if-eq.true in
    rw alike lies

pub returns : goal.returns
returns c = λ at lies.
    let other : eqb c.args.old.now c.args.new.now ≡ false = sym c.eq.ensures ∙ c.if-eq.false in
    rw other (c.follow.ensures at lies)
