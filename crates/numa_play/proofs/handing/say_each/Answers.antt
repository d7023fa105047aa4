use Rattle.std.proofs.Common.{◌+◌, ℕ, List, ap, drop, refl, subst, sym}
use Rattle.std.proofs.lemmas.List.{drop_all, drop_more}
use Rattle.numa_play.specs.Deeds.{IsRoom}
use Rattle.numa_play.proofs.handing.say_each.Goals as goal

pub loop-pages-init : goal.loop-pages-init
loop-pages-init c = record {
  node = refl;
  said = λ session stands. (session, stands, λ end is. is);
}

pub loop-pages-preserved : goal.loop-pages-preserved
loop-pages-preserved c =
    let i : ℕ = c.loop-pages.pages-index in
    let node : ℕ = c.loop-pages.node in record {
      node = ap (λ (k : ℕ). k + 1) c.loop-pages.invariant.node;
      said = λ session stands.
          let at = c.loop-pages.invariant.said session stands in
          let done = c.in_default.ensures at.0 at.1 in (
            done.0,
            done.1,
            λ end more. at.2 end (subst (λ (left : List ℕ). IsRoom node left at.0 end)
                (sym (drop_more c.args.room.now i 0 c.loop-pages-test.true))
                (done.0, done.2, more)),
          );
    }

pub returns : goal.returns
returns c session stands =
    let at = c.loop-pages.invariant.said session stands in (
      at.0,
      at.1,
      at.2 at.0 (subst (λ (left : List ℕ). IsRoom c.loop-pages.node left at.0 at.0)
          (sym (drop_all c.loop-pages.pages-index c.args.room.now c.loop-pages-test.false)) refl),
    )
