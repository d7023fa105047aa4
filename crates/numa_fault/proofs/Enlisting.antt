-- A crew that has the first seat, and all that were split off it.
use Rattle.std.proofs.Common.{◌≡◌, ℕ, ◌+◌, ◌<◌, ◌≤◌, List, [], ◌∷◌, ◌++◌, length, get_or, sym, ap}
use Rattle.std.proofs.Common.{◌∙◌, subst, arith, length-append}
use Rattle.std.specs.Prelude.{slice_index_or}
use Rattle.std.proofs.lemmas.List.{get_or_append_left, get_or_push}
use native.Mathlib.Decide.{dec_le}
use Rattle.numa_pool.specs.Seats.{PoolsView, SeatView}
use Rattle.numa_pool.specs.declared.view.Unlogged.{Unlogged}
use Rattle.numa_pool.specs.Steps.{no_other, split_off}
use Rattle.numa_publish.specs.Shown.{DeskIdentity, ReaderState}
use Rattle.numa_fault.specs.Crew.{AreEnlisted, EnlistsOne, IsFirstCrew, IsOther}
use Rattle.numa_fault.specs.Worker.{WorkerState}

at_push : (P : ℕ → WorkerState → Type 0) (xs : List WorkerState) (x : WorkerState)
    → ((i : ℕ) (d : WorkerState) → i < length xs → P i (get_or xs i d)) → P (length xs) x
    → (i : ℕ) (d : WorkerState) → i < length (xs ++ x ∷ []) → P i (get_or (xs ++ x ∷ []) i d)
at_push P xs x each last i d inside = by (dec_le (length xs) i)
  where
    by : Dec (length xs ≤ i) → P i (get_or (xs ++ x ∷ []) i d)
    by (no e) = subst (P i) (sym (get_or_append_left xs (x ∷ []) d i (omega arith)))
        (each i d (omega arith))
    by (yes high) =
        let n = length-append xs (x ∷ []) in
        let is : i ≡ length xs = omega arith in
        subst (P i) (sym (get_or_push xs x d i (sym is)))
        (subst (λ (k : ℕ). P k x) (sym is) last)

-- each worker is of the desk, and one more
pub desks_more : (m : DeskIdentity) (workers more : List WorkerState) (x : WorkerState)
    → more ≡ workers ++ x ∷ []
    → ((i : ℕ) (d : WorkerState) → i < length workers
    → (get_or workers i d).reader.desk ≡ m) → x.reader.desk ≡ m → (i : ℕ)
    (d : WorkerState) → i < length more → (get_or more i d).reader.desk ≡ m
desks_more m workers more x added each its = subst (λ (ws : List WorkerState).
    (i : ℕ) (d : WorkerState) → i < length ws → (get_or ws i d).reader.desk ≡ m) (sym added)
    (at_push (λ i w. w.reader.desk ≡ m) workers x each its)

-- a seat that was split off another one is told by its number and its name
split_is : (u : Unlogged) (number : ℕ) → u.name ≡ [] → u.splits ≡ number
    → split_off u ≡ split_off (record no_other { splits = number })
split_is u number name splits = λ c.
    record { name = splits c ∷ name c; splits = 0; steps = 0; past = [] }

pub first_enlisted : (pools : PoolsView) (seat : SeatView) → seat.table ≡ pools.table
    → seat.log ≡ []
    → seat.unlogged ≡ no_other → AreEnlisted pools [] seat
first_enlisted pools seat of_table log rest = record {
  of_table = of_table;
  name = ap (λ (u : Unlogged). u.name) rest;
  splits = ap (λ (u : Unlogged). u.splits) rest;
  past = ap (λ (u : Unlogged). u.past) rest;
  log = log;
  each = λ w d inside. absurd (omega arith);
}

pub next_enlisted : (pools : PoolsView) (reader : ReaderState) (workers more : List WorkerState)
    (seat then_seat : SeatView) → AreEnlisted pools workers seat
    → EnlistsOne reader workers more seat then_seat → then_seat.table ≡ seat.table
    → AreEnlisted pools more then_seat
next_enlisted pools reader workers more seat then_seat so_far one stays = record {
  of_table = stays ∙ so_far.of_table;
  name = ap (λ (u : Unlogged). u.name) one.rest ∙ so_far.name;
  splits =
      let n = ap length one.added ∙ length-append workers (one.worker ∷ []) in
      let e = ap (λ (u : Unlogged). u.splits) one.rest in
      let old = so_far.splits in
      omega arith;
  past = ap (λ (u : Unlogged). u.past) one.rest ∙ so_far.past;
  log = one.log ∙ so_far.log;
  each = subst (λ (ws : List WorkerState). (w : ℕ) (d : WorkerState) → w < length ws
      → IsOther pools w (slice_index_or ws w d)) (sym one.added)
      (at_push (λ w x. IsOther pools w x) workers one.worker so_far.each record {
        of_table = one.its_table ∙ so_far.of_table;
        unlogged = one.its_rest
            ∙ split_is seat.unlogged (length workers) so_far.name so_far.splits;
        log = one.its_log;
      });
}

module _ (pools : PoolsView) (workers more : List WorkerState) (seat : SeatView)
    (last : WorkerState) (so_far : AreEnlisted pools workers seat)
    (added : more ≡ workers ++ last ∷ []) (its_seat : last.seat ≡ seat) where
  long : length more ≡ length workers + 1
  long = ap length added ∙ length-append workers (last ∷ [])

  -- the worker at a place that isn't the last one
  earlier : (w : ℕ) (d : WorkerState) → w < length workers
      → slice_index_or more w d ≡ slice_index_or workers w d
  earlier w d inside = ap (λ ws. get_or ws w d) added
      ∙ get_or_append_left workers (last ∷ []) d w inside

  -- and the last one
  final : (w : ℕ) (d : WorkerState) → w ≡ length workers → slice_index_or more w d ≡ last
  final w d is = ap (λ ws. get_or ws w d) added ∙ get_or_push workers last d w (sym is)

  pub all_enlisted : IsFirstCrew more
  all_enlisted = record {
    first = λ w d is_last.
        let n = long in
        let at = final w d (omega arith) in
        let same : (slice_index_or more w d).seat ≡ seat =
        ap (λ (x : WorkerState). x.seat) at ∙ its_seat in (
          ap (λ (v : SeatView). v.unlogged.name) same ∙ so_far.name,
          (let e = ap (λ (v : SeatView). v.unlogged.splits) same ∙ so_far.splits in omega arith),
        );
    others = λ w d low.
        let n = long in
        let at = ap (λ (x : WorkerState). x.seat.unlogged) (earlier w d (omega arith))
        ∙ (so_far.each w d (omega arith)).unlogged in (
          ap (λ (u : Unlogged). u.name) at,
          ap (λ (u : Unlogged). u.splits) at,
        );
    past = λ w d inside. past_by w d inside (dec_le (length workers) w);
    logs = λ w d inside. log_by w d inside (dec_le (length workers) w);
  }
    where
      past_by : (w : ℕ) (d : WorkerState) → w < length more → Dec (length workers ≤ w)
          → (slice_index_or more w d).seat.unlogged.past ≡ []
      past_by w d inside (no low) =
          ap (λ (x : WorkerState). x.seat.unlogged.past) (earlier w d (omega arith))
          ∙ ap (λ (u : Unlogged). u.past) (so_far.each w d (omega arith)).unlogged
      past_by w d inside (yes high) =
          let n = long in
          ap (λ (x : WorkerState). x.seat.unlogged.past) (final w d (omega arith))
          ∙ ap (λ (v : SeatView). v.unlogged.past) its_seat ∙ so_far.past

      log_by : (w : ℕ) (d : WorkerState) → w < length more → Dec (length workers ≤ w)
          → (slice_index_or more w d).seat.log ≡ []
      log_by w d inside (no low) =
          ap (λ (x : WorkerState). x.seat.log) (earlier w d (omega arith))
          ∙ (so_far.each w d (omega arith)).log
      log_by w d inside (yes high) =
          let n = long in
          ap (λ (x : WorkerState). x.seat.log) (final w d (omega arith))
          ∙ ap (λ (v : SeatView). v.log) its_seat ∙ so_far.log

  pub tables_then : (w : ℕ) (d : WorkerState) → w < length more
      → (slice_index_or more w d).seat.table ≡ pools.table
  tables_then w d inside = by (dec_le (length workers) w)
    where
      by : Dec (length workers ≤ w) → (slice_index_or more w d).seat.table ≡ pools.table
      by (no low) = ap (λ (x : WorkerState). x.seat.table) (earlier w d (omega arith))
          ∙ (so_far.each w d (omega arith)).of_table
      by (yes high) =
          let n = long in
          ap (λ (x : WorkerState). x.seat.table) (final w d (omega arith))
          ∙ ap (λ (v : SeatView). v.table) its_seat ∙ so_far.of_table
