use Rattle.std.proofs.Common.{◌≡◌, ℕ, ◌+◌, ◌∙◌, ap, arith, inl, inr, length, slice_index, sym}
use Rattle.std.proofs.lemmas.Bool.{cases_lt}
use Rattle.numa_placed.proofs.Heads.{pushed-at, pushed-before, pushed-size}
use Rattle.numa_placed.proofs.Renamed.{renamed-pushed}
use Rattle.numa_placed.proofs.tidy.push_turn.Goals as goal

pub loop-place-preserved : goal.loop-place-preserved
loop-place-preserved c =
    let items = c.loop-place.made.items in
    let new = c.push.new.self.items in
    let at = c.loop-place.place in
    let long = length c.args.made.now.items in
    let is = c.in-Ok.ensures.items in
    let size = c.loop-place.invariant.size in
    record {
      size = omega (arith, size, pushed-size items new _ is);
      before = λ place lt. pushed-before items new _ is place (omega (arith, size, lt))
          ∙ c.loop-place.invariant.before place lt;
      pushed = λ place lt. elim (cases_lt place at) [
        | inl l ↦ pushed-before items new _ is (long + place) (omega (arith, size, l))
            ∙ c.loop-place.invariant.pushed place l
        | inr g ↦
            let same : place ≡ at = omega (arith, lt, g) in
            let end : long + place ≡ length items = omega (arith, size, same) in
            ap (λ (n : ℕ). slice_index new n) end ∙ pushed-at items new _ is
            ∙ ap (λ (n : ℕ). slice_index c.args.nodes.now (c.args.turn.from + n)) (sym same)
      ];
    }

pub returns-clause-renamed : goal.returns-clause-renamed
returns-clause-renamed c =
    let made = c.loop-place.made.items in
    let from : length c.args.made.now.items ≡ c.length_of-from.result =
    sym c.length_of-from.ensures in
    renamed-pushed c.args.nodes.now made c.args.turn _ c.requires.named
    (omega (arith, c.loop-place.invariant.size, from))
    (λ place lt. ap (λ (n : ℕ). slice_index made (n + place)) (sym from)
    ∙ c.loop-place.invariant.pushed place (omega (arith, lt)))
