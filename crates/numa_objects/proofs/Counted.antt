-- Runs that are counted one by one.
use Rattle.std.proofs.Common.{◌≡◌, ℕ, ◌+◌, ◌-◌, ◌<◌, ◌≤◌, min, max, true, false, Option, Some, None}
use Rattle.std.proofs.Common.{List, [], ◌∷◌, ◌++◌, length, refl, sym, subst, arith}
use Rattle.std.proofs.Common.{append_assoc}
use Rattle.std.proofs.lemmas.Bool.{le-ltb, lt-ltb}
use Rattle.numa_mode.specs.Policy.{PolicyRecord}
use Rattle.numa_ranges.specs.Edits.{IsInRange, joins, joined_after, part_before, part_from}
use Rattle.numa_ranges.specs.Edits.{run_and_next}
use Rattle.numa_ranges.specs.Runs.{AreApart, end_of}
use Rattle.numa_ranges.proofs.Apart.{apart-top}
use Rattle.numa_ranges.specs.declared.run.Run.{Run}
use Rattle.numa_objects.specs.Counting.{part_by, parts_by}
use Rattle.numa_objects.specs.Same.{same_policy}
use Rattle.numa_objects.specs.declared.counting.Cut.{Cut}

-- how many ranges there are with so many before the last
abbrev pub ranges_from : ℕ → Option (Run PolicyRecord) → List (Run PolicyRecord) → ℕ
ranges_from count last rest = count + length (joined_after same_policy last rest)

pub count-first : (count : ℕ) (last : Option (Run PolicyRecord)) (run : Run PolicyRecord)
    (rest : List (Run PolicyRecord)) → last ≡ None
    → ranges_from count (Some run) rest ≡ ranges_from count last (run ∷ rest)
count-first count last run rest is = rw is refl

pub count-joined : (count : ℕ) (last : Option (Run PolicyRecord)) (before run : Run PolicyRecord)
    (rest : List (Run PolicyRecord)) → last ≡ Some before → joins same_policy before run ≡ true
    → ranges_from count (Some (run_and_next before run)) rest
    ≡ ranges_from count last (run ∷ rest)
count-joined count last before run rest is joined = rw (is, joined) refl

pub count-apart : (count : ℕ) (last : Option (Run PolicyRecord)) (before run : Run PolicyRecord)
    (rest : List (Run PolicyRecord)) → last ≡ Some before → joins same_policy before run ≡ false
    → ranges_from (count + 1) (Some run) rest ≡ ranges_from count last (run ∷ rest)
count-apart count last before run rest is apart = rw (is, apart) (omega arith)

-- ---- parts of a run

-- a run that begins at a place or behind it has nothing before it
pub none-before : (first : ℕ) (run : Run PolicyRecord) → first ≤ run.first
    → part_before first run ≡ []
none-before first run high = rw (le-ltb run.first first high) refl

pub some-before : (first pages : ℕ) (run : Run PolicyRecord) → run.first < first
    → pages ≡ min run.pages (first - run.first) → part_before first run
    ≡ record { first = run.first; pages = pages; index = run.index; value = run.value } ∷ []
some-before first pages run low is =
    rw (lt-ltb run.first first low) (λ i.
    record { first = run.first; pages = sym is i; index = run.index; value = run.value } ∷ [])

-- one that ends at a place or before it has nothing behind it
pub none-behind : (end : ℕ) (run : Run PolicyRecord) → end_of run ≤ end → part_from end run ≡ []
none-behind end run low = rw (le-ltb end (end_of run) low) refl

pub some-behind : (end first pages index : ℕ) (run : Run PolicyRecord) → end < end_of run
    → first ≡ max end run.first → pages ≡ end_of run - max end run.first
    → index ≡ run.index + (max end run.first - run.first) → part_from end run
    ≡ record { first = first; pages = pages; index = index; value = run.value } ∷ []
some-behind end first pages index run high at long from =
    rw (lt-ltb end (end_of run) high) (λ i.
    record { first = sym at i; pages = sym long i; index = sym from i; value = run.value } ∷ [])

-- ---- all runs

-- what is left of a list of parts
pub parts-step : (at : Cut) (run : Run PolicyRecord) (runs rest : List (Run PolicyRecord))
    → part_by at run ++ (parts_by at runs ++ rest) ≡ parts_by at (run ∷ runs) ++ rest
parts-step at run runs rest = sym (append_assoc (part_by at run) (parts_by at runs) rest)

-- a run of a rising list ends below the last place and index, and the others rise
pub first-in_range : (low : ℕ) (runs rest : List (Run PolicyRecord)) (run : Run PolicyRecord)
    → runs ≡ run ∷ rest → AreApart low runs → IsInRange run × AreApart (end_of run) rest
first-in_range low runs rest run is apart =
    let all : AreApart low (run ∷ rest) = subst (AreApart low) is apart in
    (record { end = apart-top (end_of run) rest all.3; index = all.2 }, all.3)
