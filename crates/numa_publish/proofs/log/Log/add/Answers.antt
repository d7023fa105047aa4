use Rattle.std.proofs.Common.{◌≡◌, ◌<◌, sym, ◌∙◌, ◌+◌, ◌∷◌, ◌++◌, [], List, ap, length, subst, ℕ}
use Rattle.std.proofs.Common.{rules}
use Rattle.std.proofs.lemmas.List.{length-reverse}
use Rattle.numa_publish.specs.declared.batch.Batch.{Batch}
use Rattle.numa_publish.specs.Batches.{batch_of, history_of}
use Rattle.numa_publish.proofs.Lists.{count-snoc}
use Rattle.numa_publish.proofs.Adding.{adds_moves}
use Rattle.numa_publish.proofs.log.Log.add.Goals as goal

pub compare_exchange-found-requires : goal.compare_exchange-found-requires
compare_exchange-found-requires c =
    let h = c.args.self.now.word_is in
    let seen = c.again-seen.ensures in
    let offer = c.plain-offer.ensures in
    let pen = c.no_pen-pen.ensures in
    let batch : Batch = batch_of c.args.pending.now.items in
    let many : length c.args.pending.now.items ≡ length batch.commands =
    sym (length-reverse c.args.pending.now.items) in (
      ap (λ w. w.tracked) h,
      ap (λ s. s.book) seen ∙ sym (ap (λ w. w.book) h),
      pen.0 ∙ (ap (λ s. s.book) seen ∙ sym (ap (λ w. w.book) h)),
      offer.0,
      rw (ap (λ w. w.key) h, pen.1, offer.1, offer.3, seen)
          (adds_moves c.args.self.now.seen.log batch c.args.self.now.count c.args.count
          (sym c.args.self.now.count_is)
          (c.requires.count ∙ (ap (λ n. n + length (history_of c.args.self.now.seen.log)) many
          ∙ ap (λ n. length batch.commands + n) (sym c.args.self.now.count_is)))
          (subst (λ (n : ℕ). 0 < n) many c.requires.some)),
    )

pub invariant_of-self-2-clause-count_is : goal.invariant_of-self-2-clause-count_is
invariant_of-self-2-clause-count_is c =
    let batch : Batch = batch_of c.args.pending.now.items in
    let many : length c.args.pending.now.items ≡ length batch.commands =
    sym (length-reverse c.args.pending.now.items) in
    let added : c.compare_exchange-found.new.seen.log ≡ c.args.self.now.seen.log ++ batch ∷ [] =
    search rules in
    c.requires.count ∙ (ap (λ n. n + length (history_of c.args.self.now.seen.log)) many
    ∙ (sym (count-snoc c.args.self.now.seen.log batch)
    ∙ ap (λ (l : List Batch). length (history_of l)) (sym added)))
