use Rattle.std.proofs.Common.{◌≡◌, ℕ, ◌+◌, ◌<◌, ◌≤◌, [], ◌∷◌, ◌++◌, List, length, reverse}
use Rattle.std.proofs.Common.{slice_index_or, get_or, set, refl, sym, ap, subst, ◌∙◌, arith}
use Rattle.std.proofs.Common.{append_assoc, length-append}
use Rattle.std.proofs.lemmas.List.{length-set, reverse-append, length-reverse, get_or-set_same}
use Rattle.std.proofs.lemmas.List.{get_or-set_other, get_or_default, append-nil}
use Rattle.std.proofs.lemmas.Grind.{common_steps}
use native.Mathlib.Decide.{ℕ_discrete}
use Rattle.numa_fault.specs.Crew.{column}
use Rattle.numa_fault.specs.Turns.{share, wait}
use Rattle.numa_fault.specs.Worker.{WorkerState, parts_of}
use Rattle.numa_fault.specs.declared.answer.Answer.{Answer}
use Rattle.numa_fault.proofs.Columns.{length-column, share-more, column-here, column-else}
use Rattle.numa_fault.proofs.Columns.{column-whole, share-whole, here, elsewhere, ahead-round}
use Rattle.numa_fault.proofs.Columns.{ahead-on, behind-on, Ahead}
use Rattle.numa_fault.proofs.gathering.gather.Goals as goal
use Rattle.numa_fault.proofs.gathering.gather.Goals.{Joined-turn-workers, then-turn-workers}
use Rattle.numa_fault.proofs.gathering.gather.Goals.{else-turn-workers}

-- ---- one worker

-- what the only worker hands over, for any default
handed : (c : goal.After-hand_over) (d : WorkerState)
    → c.hand_over.new.answers.items ≡ reverse (get_or c.args.workers.now 0 d).kept
handed c d =
    let first = c.index-workers-0.result in
    let inside : 0 < length c.args.workers.now = c.requires.workers in
    c.hand_over.ensures.all
    ∙ ap (λ (s : WorkerState). reverse s.kept)
    (get_or_default c.args.workers.now 0 first d inside)

pub returns-then-workers-eq1-clause-all : goal.returns-then-workers-eq1-clause-all
returns-then-workers-eq1-clause-all c =
    let first = c.index-workers-0.result in
    ap (λ (l : List Answer). length l) (handed c first)
    ∙ length-reverse (get_or c.args.workers.now 0 first).kept
    ∙ c.requires.kept 0 first c.requires.workers
    ∙ ap (λ n. share n 0 c.args.count) c.if-workers-eq1.true
    ∙ share-whole c.args.count

pub returns-then-workers-eq1-clause-each : goal.returns-then-workers-eq1-clause-each
returns-then-workers-eq1-clause-each c w d l =
    let one = c.if-workers-eq1.true in
    let items = c.hand_over.new.answers.items in
    let first : w ≡ 0 = omega (arith, l, one) in
    ap (λ n. column n w items) one
    ∙ ap (λ n. column 1 n items) first
    ∙ column-whole items
    ∙ handed c d
    ∙ ap (λ n. reverse (get_or c.args.workers.now n d).kept) (sym first)

-- ---- several, in turn

pub unreachable-requires : goal.unreachable-requires
unreachable-requires c =
    let i = c.loop.invariant in
    let d = c.index-workers-turn.result in
    let turn = c.loop.turn in
    let K = length c.args.workers.now in
    let gathered = c.loop.answers.items in
    let in_turn : turn < K = subst (λ n. turn < n) i.long i.turn in
    let ahead : Ahead K turn c.loop.counter = λ w l h. i.ahead w (subst (λ n. w < n) (sym i.long) l)
    h in
    let first = here K turn c.loop.counter in_turn ahead i.behind in
    let less = share-more K turn c.loop.counter c.args.count first c.loop-test.true in
    let empty : (slice_index_or c.loop.workers turn d).kept ≡ [] = c.in_default.ensures.kept.0 in
    let whole : column K turn gathered ++ reverse (slice_index_or c.loop.workers turn d).kept
    ≡ reverse (slice_index_or c.args.workers.now turn d).kept = i.each turn d i.turn in
    let long : length (column K turn gathered)
    ≡ length (slice_index_or c.args.workers.now turn d).kept =
    ap (λ (l : List Answer). length l) (sym (append-nil (column K turn gathered))
    ∙ ap (λ (l : List Answer). column K turn gathered ++ reverse l) (sym empty) ∙ whole)
    ∙ length-reverse (slice_index_or c.args.workers.now turn d).kept in
    let due = c.requires.kept turn d in_turn in
    let done = length-column K turn gathered ∙ ap (share K turn) i.gathered in
    absurd (omega arith)

module _ (c : Joined-turn-workers) where
  workers : List WorkerState
  workers = set c.loop.workers c.loop.turn c.hand_out.new.self

  K : ℕ
  K = length c.args.workers.now

  d₀ : WorkerState
  d₀ = c.index-workers-turn.result

  long : length (set c.loop.workers c.loop.turn c.hand_out.new.self) ≡ length c.args.workers.now
  long = length-set c.loop.workers c.loop.turn c.hand_out.new.self ∙ c.loop.invariant.long

  in_turn : c.loop.turn < length c.args.workers.now
  in_turn = subst (λ n. c.loop.turn < n) c.loop.invariant.long c.loop.invariant.turn

  known : (w : ℕ) → w < length (set c.loop.workers c.loop.turn c.hand_out.new.self)
      → w < length c.loop.workers
  known w l = subst (λ n. w < n) (length-set c.loop.workers c.loop.turn c.hand_out.new.self) l

  old_ahead : Ahead (length c.args.workers.now) c.loop.turn c.loop.counter
  old_ahead w l h = c.loop.invariant.ahead w (subst (λ n. w < n) (sym c.loop.invariant.long) l) h

  there : (d : WorkerState) → get_or (set c.loop.workers c.loop.turn c.hand_out.new.self)
      c.loop.turn d ≡ c.hand_out.new.self
  there d = get_or-set_same c.loop.workers c.loop.turn c.hand_out.new.self d c.loop.invariant.turn

  other : (w : ℕ) (d : WorkerState) → (w ≡ c.loop.turn → ⊥)
      → get_or (set c.loop.workers c.loop.turn c.hand_out.new.self) w d ≡ get_or c.loop.workers w d
  other w d apart = get_or-set_other c.loop.workers c.loop.turn w c.hand_out.new.self d apart

  -- the default does not matter
  same_default : (d : WorkerState) → get_or c.loop.workers c.loop.turn c.index-workers-turn.result
      ≡ get_or c.loop.workers c.loop.turn d
  same_default d = get_or_default c.loop.workers c.loop.turn c.index-workers-turn.result d
      c.loop.invariant.turn

  same : (w : ℕ) (d : WorkerState) → w < length (set c.loop.workers c.loop.turn c.hand_out.new.self)
      → parts_of (get_or (set c.loop.workers c.loop.turn c.hand_out.new.self) w d)
      ≡ parts_of (get_or c.args.workers.now w d)
  same w d l = by (ℕ_discrete w c.loop.turn)
    where
      by : Dec (w ≡ c.loop.turn)
          → parts_of (get_or (set c.loop.workers c.loop.turn c.hand_out.new.self) w d)
          ≡ parts_of (get_or c.args.workers.now w d)
      by (no apart) = ap parts_of (other w d apart) ∙ c.loop.invariant.same w d (known w l)
      by (yes e) =
          ap (λ n. parts_of (get_or (set c.loop.workers c.loop.turn c.hand_out.new.self) n d)) e
          ∙ ap parts_of (there d) ∙ c.in-Some.ensures.same ∙ ap parts_of (same_default d)
          ∙ c.loop.invariant.same c.loop.turn d c.loop.invariant.turn
          ∙ ap (λ n. parts_of (get_or c.args.workers.now n d)) (sym e)

  each : (w : ℕ) (d : WorkerState) → w < length (set c.loop.workers c.loop.turn c.hand_out.new.self)
      → column (length c.args.workers.now) w (c.loop.answers.items ++ c.in-Some.answer ∷ [])
      ++ reverse (get_or (set c.loop.workers c.loop.turn c.hand_out.new.self) w d).kept
      ≡ reverse (get_or c.args.workers.now w d).kept
  each w d l = by (ℕ_discrete w c.loop.turn)
    where
      a : Answer
      a = c.in-Some.answer

      Goal : ℕ → Type 0
      Goal n = column (length c.args.workers.now) n (c.loop.answers.items ++ c.in-Some.answer ∷ [])
          ++ reverse (get_or (set c.loop.workers c.loop.turn c.hand_out.new.self) n d).kept
          ≡ reverse (get_or c.args.workers.now n d).kept

      waits : (n : ℕ) → wait (length c.args.workers.now) n c.loop.counter
          ≡ wait (length c.args.workers.now) n (length c.loop.answers.items)
      waits n = ap (wait (length c.args.workers.now) n) (sym c.loop.invariant.gathered)

      by : Dec (w ≡ c.loop.turn) → Goal w
      by (no apart) =
          let some_wait = elsewhere (length c.args.workers.now) c.loop.turn c.loop.counter in_turn
          old_ahead c.loop.invariant.behind w (subst (λ n. w < n) long l) apart in
          let stays = column-else (length c.args.workers.now) w c.loop.answers.items
          c.in-Some.answer (subst (λ n. 0 < n) (waits w) some_wait) in
          ap (λ (x : List Answer). x
          ++ reverse (get_or (set c.loop.workers c.loop.turn c.hand_out.new.self) w d).kept)
          stays
          ∙ ap (λ (s : WorkerState). column (length c.args.workers.now) w c.loop.answers.items
          ++ reverse s.kept) (other w d apart) ∙ c.loop.invariant.each w d (known w l)
      by (yes e) = subst Goal (sym e) at_turn
        where
          at_turn : Goal c.loop.turn
          at_turn =
              let first = here (length c.args.workers.now) c.loop.turn c.loop.counter in_turn
              old_ahead c.loop.invariant.behind in
              let grows = column-here (length c.args.workers.now) c.loop.turn c.loop.answers.items
              c.in-Some.answer (sym (waits c.loop.turn) ∙ first) in
              let kept : (get_or c.loop.workers c.loop.turn d).kept ≡ c.hand_out.new.self.kept
              ++ c.in-Some.answer ∷ [] = ap (λ (s : WorkerState). s.kept) (sym (same_default d))
              ∙ c.in-Some.ensures.kept in
              let turned : reverse (get_or c.loop.workers c.loop.turn d).kept ≡ c.in-Some.answer
              ∷ reverse c.hand_out.new.self.kept = ap (λ (x : List Answer). reverse x) kept
              ∙ reverse-append c.hand_out.new.self.kept (c.in-Some.answer ∷ []) in
              ap (λ (x : List Answer). x
              ++ reverse
              (get_or (set c.loop.workers c.loop.turn c.hand_out.new.self) c.loop.turn d).kept)
              grows
              ∙ ap
              (λ (s : WorkerState).
              (column (length c.args.workers.now) c.loop.turn c.loop.answers.items
              ++ c.in-Some.answer ∷ []) ++ reverse s.kept) (there d)
              ∙ append_assoc (column (length c.args.workers.now) c.loop.turn c.loop.answers.items)
              (c.in-Some.answer ∷ []) (reverse c.hand_out.new.self.kept)
              ∙ ap (λ (x : List Answer). column (length c.args.workers.now) c.loop.turn
              c.loop.answers.items ++ x) (sym turned) ∙ c.loop.invariant.each c.loop.turn d
              c.loop.invariant.turn

pub loop-preserved : goal.loop-preserved
loop-preserved c =
    let i = c.loop.invariant in
    let a = c.in-Some.answer in
    let gathered = c.loop.answers.items in
    let items = c.in-Ok.ensures.items in
    let K = length c.args.workers.now in
    let inside = in_turn c in
    let old = old_ahead c in
    let len = long c in
    let was = i.long in
    record {
      long = len;
      turn =
          elim c.if-turn-workers.branch [
            | then-turn-workers w ↦ (let z = w.turn-is in omega arith)
            | else-turn-workers w ↦ (let z = w.turn-is in let t = w.if-turn-workers.false in
                omega arith)
          ];
      room = (first_of (omega arith, grind (arith, common_steps)));
      full = (first_of (omega arith, grind (arith, common_steps)));
      gathered = ap (λ (l : List Answer). length l) items ∙ length-append gathered (a ∷ [])
          ∙ ap (λ n. n + 1) i.gathered;
      same = same c;
      each =
          λ w d l.
          ap (λ (x : List Answer). column K w x
          ++ reverse (get_or (set c.loop.workers c.loop.turn c.hand_out.new.self) w d).kept) items
          ∙ each c w d l;
      ahead = elim c.if-turn-workers.branch [
        | then-turn-workers w ↦ (let t = w.if-turn-workers.true in let last : c.loop.turn + 1 ≡ K =
            omega arith in λ v l h. subst (λ n. wait K v (c.loop.counter + 1) + n ≡ v)
            (sym w.turn-is) (ahead-round K c.loop.turn c.loop.counter inside old i.behind last v
            (subst (λ n. v < n) len l) (omega arith)))
        | else-turn-workers w ↦
            (λ v l h. subst (λ n. wait K v (c.loop.counter + 1) + n ≡ v) (sym w.turn-is)
            (ahead-on K c.loop.turn c.loop.counter inside old i.behind v (subst (λ n. v < n) len l)
            (subst (λ n. n ≤ v) w.turn-is h)))
      ];
      behind = elim c.if-turn-workers.branch [
        | then-turn-workers w ↦ (λ v l. let z = w.turn-is in absurd (omega arith))
        | else-turn-workers w ↦
            (λ v l. subst (λ n. wait K v (c.loop.counter + 1) + n ≡ v + K) (sym w.turn-is)
            (behind-on K c.loop.turn c.loop.counter inside old i.behind v
            (subst (λ n. v < n) w.turn-is l)))
      ];
    }

nothing_left : {A : Type 0} (xs : List A) → length xs ≡ 0 → xs ≡ []
nothing_left [] e = refl
nothing_left (x ∷ xs) e = absurd (omega arith)

pub returns-clause-each : goal.returns-clause-each
returns-clause-each c w d l =
    let i = c.loop.invariant in
    let K = length c.args.workers.now in
    let gathered = c.loop.answers.items in
    let kept = (get_or c.loop.workers w d).kept in
    let whole = i.each w d (subst (λ n. w < n) (sym i.long) l) in
    let all = ap (λ (x : List Answer). length x) whole
    ∙ length-reverse (get_or c.args.workers.now w d).kept in
    let parts = length-append (column K w gathered) (reverse kept) in
    let due = c.requires.kept w d l in
    let end : c.loop.counter ≡ c.args.count = let z = c.loop.auto.counter-end in let t =
    c.loop-test.false in omega arith in
    let done = length-column K w gathered ∙ ap (share K w) (i.gathered ∙ end) in
    let none : reverse kept ≡ [] = nothing_left (reverse kept) (omega arith) in
    sym (append-nil (column K w gathered)) ∙ ap (λ (x : List Answer). column K w gathered ++ x)
    (sym none) ∙ whole
