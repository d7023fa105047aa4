use Rattle.std.proofs.Common.{◌≡◌, ◌∙◌, ◌<◌, ℕ, ap, subst, sym, length, List, drop}
use Rattle.std.proofs.lemmas.Bool.{false≢true}
use Rattle.std.proofs.lemmas.Result.{err_from_is_err_and}
use Rattle.std.specs.List.{All}
use Rattle.numa_fault.specs.Crew.{AreApart, AreAtEnd, AreWithin, CrewRefuses, IsCrew, ServesEach}
use Rattle.numa_fault.specs.Worker.{WorkerState}
use Rattle.numa_fault.proofs.Apart.{crew-apart}
use Rattle.numa_fault.proofs.Joining.{lent_back}
use Rattle.numa_fault.proofs.OneDesk.{crew-desk}
use Rattle.numa_fault.proofs.crew.Crew.run_to_end.Goals as goal

pub end-requires-clause-desk : goal.end-requires-clause-desk
end-requires-clause-desk g c =
    let old_is = c.deref_mut.ensures.value in
    let served = subst (λ (ws : List WorkerState). ServesEach c.args.pools.frames
    c.args.requests.now ws c.run.new.workers c.in_ok-answers.answers.items) old_is
    c.in_ok-answers.ensures.each in
    let many = c.run.auto.workers ∙ ap length old_is in
    let back = lent_back c.args.workers.len c.run.new.workers
    (drop (length c.run.new.workers) c.args.workers.items)
    (c.run.auto.workers ∙ c.deref_mut.ensures.len) in
    subst (λ (ws : List WorkerState).
    All (λ (w : WorkerState). w.reader.desk ≡ c.args.receipt.now.desk) ws) (sym back)
    (crew-desk c.args.pools.frames c.args.requests.now c.args.workers.items c.run.new.workers
    c.in_ok-answers.answers.items c.args.receipt.now.desk many served c.requires.desk)

pub returns-in_err-answers-clause-refusal : goal.returns-in_err-answers-clause-refusal
returns-in_err-answers-clause-refusal g c =
    let exit = err_from_is_err_and c.from_residual.result c.from_residual.ensures.1 in
    rw (exit.1, exit.2) (subst (λ (ws : List WorkerState).
    CrewRefuses (length ws) c.in_err-answers.field-0.0) c.deref_mut.ensures.value
    c.in_err-answers.ensures.refusal)

pub unreachable-requires : goal.unreachable-requires
unreachable-requires g c =
    let old_is = c.deref_mut.ensures.value in
    let crew = subst (λ (ws : List WorkerState). IsCrew (length ws)) old_is
    c.in_ok-answers.ensures.crew in
    let many = c.run.auto.workers ∙ ap length old_is in
    let back = lent_back c.args.workers.len c.run.new.workers
    (drop (length c.run.new.workers) c.args.workers.items)
    (c.run.auto.workers ∙ c.deref_mut.ensures.len) in
    false≢true (c.in_default.ensures.some.1 (subst (λ (ws : List WorkerState). 0 < length ws)
    (sym back) (subst (λ (n : ℕ). 0 < n) (sym many) crew.0)))

pub returns-clause-apart : goal.returns-clause-apart
returns-clause-apart g c i j p q less at later same =
    let back = lent_back c.args.workers.len c.run.new.workers
    (drop (length c.run.new.workers) c.args.workers.items)
    (c.run.auto.workers ∙ c.deref_mut.ensures.len) in
    crew-apart c.args.pools.frames c.args.requests.now c.deref_mut.result.now c.run.new.workers
    c.in_ok-answers.answers.items c.in_ok-answers.ensures.crew.0 c.run.auto.workers
    c.in_ok-answers.ensures.each
    (subst (λ (ws : List WorkerState). AreApart ws) back c.end.ensures.apart) i j p q less at
    later same

pub returns-clause-end : goal.returns-clause-end
returns-clause-end g c =
    let old_is = c.deref_mut.ensures.value in
    let served = subst (λ (ws : List WorkerState). ServesEach c.args.pools.frames
    c.args.requests.now ws c.run.new.workers c.in_ok-answers.answers.items) old_is
    c.in_ok-answers.ensures.each in
    let many = c.run.auto.workers ∙ ap length old_is in
    let crew = subst (λ (ws : List WorkerState). IsCrew (length ws)) old_is
    c.in_ok-answers.ensures.crew in
    let back = lent_back c.args.workers.len c.run.new.workers
    (drop (length c.run.new.workers) c.args.workers.items)
    (c.run.auto.workers ∙ c.deref_mut.ensures.len) in
    let ends = subst (λ (ws : List WorkerState).
    AreAtEnd c.args.pools.frames ws c.in-Some.closed.taken) back c.in-Some.ensures.end in
    let ended = ends c.args.requests.now c.args.workers.items c.in_ok-answers.answers.items crew
    many served in (
      ended.0,
      λ told. subst (λ (ws : List WorkerState).
          AreWithin c.args.receipt.now.history c.args.receipt.now.versions ws) (sym ended.1)
          (subst (λ (ws : List WorkerState).
          AreWithin c.args.receipt.now.history c.args.receipt.now.versions ws) back
          (c.in-Some.ensures.within told)),
    )
