use Rattle.std.proofs.Common.{◌≡◌, ◌∙◌, ap, sym, subst, Bool, if◌then◌else◌, List, [], ◌∷◌}
use Rattle.std.proofs.Common.{◌++◌, Result, Ok, Err, IfOk, Some}
use Rattle.core.specs.Result.{result_ok}
use Rattle.std.specs.List.{All}
use Rattle.std.proofs.lemmas.List.Elements.{All-append, All-cons, All-nil}
use Rattle.numa_pool.specs.declared.seat.PoolSeat.{PoolSeat}
use Rattle.numa_fault.specs.declared.worker.FaultWorker.{FaultWorker}
use Rattle.numa_stress.proofs.crew.add_workers.Goals as goal

value-of : {T E : Type 0} (r : Result T E) (x : T) (P : T → Type 0) → Some x ≡ result_ok r
    → IfOk r P → P x
value-of (Ok y) x P is met = let same : y ≡ x = cc (is) in subst P same met
value-of (Err e) x P is met = absurd (cc (is))

pub loop-preserved : goal.loop-preserved
loop-preserved g c =
    let is_of = λ (w : FaultWorker). w.seat.table ≡ c.args.pools.now.table in
    let w = c.in_ok-worker.field-0 in
    let before = c.loop.workers.items in
    let items : c.push.new.self.items ≡ before ++ w ∷ [] =
    subst (λ (pushed : Bool). c.push.new.self.items
    ≡ (if pushed then before ++ w ∷ [] else before)) (sym c.in_ok-ok.ensures.variant)
    c.push.ensures.items in (
      c.split.ensures.same.0 ∙ c.loop.invariant.0,
      subst (All is_of) (sym items)
          (All-append is_of before (w ∷ []) c.loop.invariant.1
          (All-cons is_of w []
          (ap (λ (seat : PoolSeat). seat.table) c.in_ok-worker.ensures
          ∙ (value-of c.split.result c.in_ok-other.other _ c.in_ok-other.ensures.value
          c.split.ensures.fresh).0)
          (All-nil is_of))),
    )
