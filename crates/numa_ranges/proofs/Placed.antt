-- A span that is mapped: the runs afterwards.
use Rattle.std.proofs.Common.{◌≡◌, ℕ, ◌+◌, ◌-◌, ◌<◌, ◌≤◌, ◌^◌, min, Bool, true, List, [], ◌∷◌, ◌++◌}
use Rattle.std.proofs.Common.{length, drop, ap, ◌∙◌, arith}
use Rattle.std.specs.Prelude.{nat_lt, if◌then◌else◌}
use Rattle.std.specs.List.{slice_range, splice}
use Rattle.numa_ranges.specs.Runs.{page_at, AreApart, end_of}
use Rattle.numa_ranges.specs.Maps.{with_span}
use Rattle.numa_ranges.specs.Edits.{Each, HasRoom, maximal_runs}
use Rattle.numa_ranges.specs.Gathered.{Gathered}
use Rattle.numa_ranges.specs.declared.run.Run.{Run}
use Rattle.numa_ranges.specs.declared.pieces.Pieces.{Pieces}
use Rattle.numa_ranges.specs.declared.fault.RangeError.{RangeError}
use Rattle.numa_ranges.specs.declared.fault.RangeError.TheVariants.{TooManyRanges, NoMemory}
use Rattle.numa_ranges.specs.Edits.{runs_with}
use Rattle.numa_ranges.specs.Maps.{IsRefusal, count_refusal}
use Rattle.numa_ranges.proofs.Spans.{Stands, stands-joined, refused-joined}
use Rattle.numa_ranges.proofs.Insert.{inserted-window, apart-inserted, page_at-inserted}

module _ {T : Type 0} where
  each-behind : (runs : List (Run T)) (last end : ℕ) → end ≡ last + 1
      → Each (λ run. (0 < run.pages) × (last < run.first)) runs
      → Each (λ run. (0 < run.pages) × (end < run.first + 1)) runs
  each-behind [] last end is behind = tt
  each-behind (run ∷ runs) last end is behind = let starts : last < run.first = behind.0.1 in
      ((behind.0.0, omega arith), each-behind runs last end is behind.1)

  pub apart-placed : (runs : List (Run T)) (place : ℕ) (run : Run T)
      → HasRoom runs place run.first (run.first + (run.pages - 1)) → 0 < run.pages
      → end_of run ≤ 2 ^ 35 → run.index < 2 ^ 47 → AreApart 0 (runs_with place run runs)
  apart-placed runs place run room some top index =
      apart-inserted 0 place run runs room.apart (omega arith) some top (omega arith) room.before
      (each-behind (drop place runs) (run.first + (run.pages - 1)) (end_of run) (omega arith)
      room.behind)

  pub page_at-placed : (runs : List (Run T)) (place : ℕ) (run : Run T)
      → HasRoom runs place run.first (run.first + (run.pages - 1)) → (page : ℕ)
      → page_at (runs_with place run runs) page ≡ with_span run.first run.pages run.index run.value
      (page_at runs) page
  page_at-placed runs place run room page = page_at-inserted place run runs page room.before

module _ {T : Type 0} (same : T → T → Bool) (exact : (a b : T) → same a b ≡ true → a ≡ b)
    (itself : (a : T) → same a a ≡ true) where
  pub placed-stands : (now inside new : List (Run T)) (pieces : Pieces T) (run : Run T)
      (place from to limit : ℕ) → inside ≡ now → from ≡ place - 1
      → to ≡ min (length now) (place + 1)
      → HasRoom now place run.first (run.first + (run.pages - 1)) → 0 < run.pages
      → end_of run ≤ 2 ^ 35 → run.index < 2 ^ 47
      → Gathered same pieces ((slice_range inside from place ++ run ∷ [])
      ++ slice_range inside place to)
      → ((added : List (Run T)) → Gathered same pieces added
      → (new ≡ splice inside from to (maximal_runs same added))
      × (length (splice inside from to (maximal_runs same added)) ≤ limit))
      → Stands same exact itself now new
      (with_span run.first run.pages run.index run.value (page_at now)) limit
  placed-stands now inside new pieces run place from to limit a e f room some top index gathered
      put =
      let M = (slice_range inside from place ++ run ∷ []) ++ slice_range inside place to in
      let done = put M gathered in
      let here : splice inside from to (maximal_runs same M) ≡ maximal_runs same
      (runs_with place run now) =
      rw (a, e, f) (inserted-window same exact itself run now place room.maximal room.within) in
      stands-joined same exact itself now (runs_with place run now) new
      (with_span run.first run.pages run.index run.value (page_at now)) limit
      (apart-placed now place run room some top index) (page_at-placed now place run room)
      (done.0 ∙ here) (omega (arith, done.1, ap length done.0))

  pub placed-refused : (now inside : List (Run T)) (pieces : Pieces T) (run : Run T)
      (place from to limit : ℕ) (refusal : RangeError) → inside ≡ now → from ≡ place - 1
      → to ≡ min (length now) (place + 1)
      → HasRoom now place run.first (run.first + (run.pages - 1)) → 0 < run.pages
      → end_of run ≤ 2 ^ 35 → run.index < 2 ^ 47
      → Gathered same pieces ((slice_range inside from place ++ run ∷ [])
      ++ slice_range inside place to)
      → ((added : List (Run T)) → Gathered same pieces added
      → refusal
      ≡ (if nat_lt limit (length (splice inside from to (maximal_runs same added)))
      then TooManyRanges else NoMemory))
      → IsRefusal
      (count_refusal same limit (with_span run.first run.pages run.index run.value (page_at now)))
      refusal
  placed-refused now inside pieces run place from to limit refusal a e f room some top index
      gathered put =
      let M = (slice_range inside from place ++ run ∷ []) ++ slice_range inside place to in
      let here : splice inside from to (maximal_runs same M) ≡ maximal_runs same
      (runs_with place run now) =
      rw (a, e, f) (inserted-window same exact itself run now place room.maximal room.within) in
      refused-joined same exact itself (runs_with place run now)
      (splice inside from to (maximal_runs same M))
      (with_span run.first run.pages run.index run.value (page_at now)) limit refusal
      (apart-placed now place run room some top index) (page_at-placed now place run room) here
      (put M gathered)
