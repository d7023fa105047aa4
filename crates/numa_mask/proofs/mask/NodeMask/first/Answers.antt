use Rattle.std.proofs.Common.{◌≡◌, true, false, arith, slice_get, Some, refl, sym, ap, ◌∙◌}
use Rattle.numa_mask.specs.NodeSet.{nth_member}
use Rattle.numa_mask.proofs.Ordinals.{nth-has, first-lowest}
use Rattle.numa_mask.proofs.Members.{first_member, number_some, number_none, members-zero}
use Rattle.numa_mask.proofs.mask.NodeMask.first.Goals as goal

pub returns-then-word-ne0-clause-first : goal.returns-then-word-ne0-clause-first
returns-then-word-ne0-clause-first c =
    ap Some c.of.ensures
    ∙ sym (first_member c.self.inside.words c.loop-place.place c.self.invariant
    c.loop-place-test.true c.loop-place.invariant c.if-word-ne0.true)
    ∙ ap (λ s. nth_member s 0) c.self.view_is

pub returns-then-word-ne0-clause-some : goal.returns-then-word-ne0-clause-some
returns-then-word-ne0-clause-some c = (
  λ _ none. number_some c.self.inside.words c.loop-place.place c.self.invariant
      c.if-word-ne0.true (c.self.view_is ∙ none),
  λ _. refl,
)

pub returns-then-word-ne0-clause-member : goal.returns-then-word-ne0-clause-member
returns-then-word-ne0-clause-member c = nth-has c.args.self.now 0 c.of.result
    (sym (returns-then-word-ne0-clause-first c))

pub returns-then-word-ne0-clause-lowest : goal.returns-then-word-ne0-clause-lowest
returns-then-word-ne0-clause-lowest c = λ other below. first-lowest c.args.self.now c.of.result
    other (sym (returns-then-word-ne0-clause-first c)) below

pub returns-clause-first : goal.returns-clause-first
returns-clause-first c =
    let none : c.args.self.now ≡ 0 = sym c.self.view_is
    ∙ number_none c.self.inside.words c.self.invariant
    (λ k l. c.loop-place.invariant k (omega arith)) in
    sym (ap (λ s. nth_member s 0) none ∙ ap (λ nodes. slice_get nodes 0) members-zero)

pub returns-clause-some : goal.returns-clause-some
returns-clause-some c =
    let none : c.args.self.now ≡ 0 = sym c.self.view_is
    ∙ number_none c.self.inside.words c.self.invariant
    (λ k l. c.loop-place.invariant k (omega arith)) in
    (λ odd. absurd (let h : false ≡ true = odd in cc), λ some. absurd (some none))
