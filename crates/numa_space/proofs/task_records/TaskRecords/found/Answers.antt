-- The record that was found is equal, so it is the same.
use Rattle.std.proofs.Common.{◌≡◌, Some, ap, sym, ◌∙◌, refl, arith}
use Rattle.std.specs.Prelude.{slice_get}
use Rattle.std.proofs.lemmas.Option.{slice_get_read}
use Rattle.numa_space.specs.Exact.{record-exact}
use Rattle.numa_space.proofs.task_records.TaskRecords.found.Goals as goal

pub returns-then-eq : goal.returns-then-eq
returns-then-eq c =
    let same : c.index.result.now ≡ c.args.policy.now = record-exact c.index.result.now
    c.args.policy.now (sym c.eq.ensures ∙ c.if-eq.true) in
    let read = slice_get_read c.self.inside.items.items _ c.args.hint c.index.result.now refl
    (omega (arith, c.len-len.ensures, c.self.inside.items.ok.0)) c.index.ensures in
    ap (λ l. slice_get l c.args.hint) (sym c.self.view_is) ∙ (read ∙ ap Some same)

pub returns-then-eq-2 : goal.returns-then-eq-2
returns-then-eq-2 c =
    let same : c.index-in-loop-place.result.now ≡ c.args.policy.now =
    record-exact c.index-in-loop-place.result.now c.args.policy.now
    (sym c.eq-in-loop-place.ensures ∙ c.if-eq-2.true) in
    let read = slice_get_read c.self.inside.items.items _ c.loop-place.place
    c.index-in-loop-place.result.now refl (omega arith) c.index-in-loop-place.ensures in
    ap (λ l. slice_get l c.loop-place.place) (sym c.self.view_is) ∙ (read ∙ ap Some same)
