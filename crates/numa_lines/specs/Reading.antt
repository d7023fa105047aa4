-- What a reader brings about, whose pieces are taken as they come. A taker `has_taken` some bytes,
-- or lines, since it and its output stood at first as they did.
use Rattle.std.specs.Prelude.{◌≡◌, ℕ, ◌+◌, ◌++◌, ◌⊎◌, true, Option, List, Result, Ok, Err}
use Rattle.std.specs.Io.KnownBytes.{Consumes, IsAtEnd}
use Rattle.numa_lines.specs.Watching.{has_failed, read_count}
use Rattle.numa_lines.specs.declared.fault.RunFault.{RunFault}
use Rattle.numa_lines.specs.declared.fault.RunFault.TheVariants.{Read}
use Rattle.numa_lines.specs.declared.watched.Watched.{Watched}

-- whatever had been taken before, these were taken behind it
abbrev pub Takes : {T O X : Type 0} → (T → O → T → O → List X → Type 0) → T → O → T → O → List X
    → Type 0
Takes {T} {O} {X} has_taken taker output taker_then output_then more =
    (first : T) (begun : O) (front : List X) → has_taken first begun taker output front
    → has_taken first begun taker_then output_then (front ++ more)

module _ {R T O : Type 0} (remaining : R → Option (List ℕ))
    (has_taken : T → O → T → O → List ℕ → Type 0) (input input_then : Watched R)
    (taker taker_then : T) (output output_then : O) where
  -- These bytes were read, and taken.
  pub record HasRead (bytes : List ℕ) : Type 0 where
    pub read : Consumes (remaining input.inner) (remaining input_then.inner) bytes
    pub takes : Takes has_taken taker output taker_then output_then bytes

  module _ (handed : Result (Unit {0}) RunFault → O → Type 0) (reads : ℕ) where
    -- All was read and taken, and so many reads are left; what was taken was handed over.
    pub record ReadsToEnd (left : ℕ) : Type 0 where
      pub bytes : List ℕ
      pub has_read : HasRead bytes
      pub ended : IsAtEnd (remaining input_then.inner)
      pub settled : handed (Ok tt) output → handed (Ok tt) output_then
      pub sound : has_failed input_then ≡ has_failed input
      pub counted : read_count input_then + left ≡ read_count input + reads

    -- A read failed, or one more was needed than may be made; what was taken was handed over.
    pub record StopsAtInput : Type 0 where
      pub bytes : List ℕ
      pub has_read : HasRead bytes
      pub settled : handed (Ok tt) output → handed (Ok tt) output_then
      pub cause : (has_failed input_then ≡ true)
          ⊎ (read_count input_then ≡ read_count input + reads)

    -- What was taken last couldn't be handed over.
    pub record StopsAtOutput (why : RunFault) : Type 0 where
      pub bytes : List ℕ
      pub has_read : HasRead bytes
      pub lost : handed (Err why) output_then
      pub sound : has_failed input_then ≡ has_failed input

    -- Why it ended early: for one of these, or since a piece couldn't be taken.
    abbrev pub StopsReading : (RunFault → Type 0) → RunFault → Type 0
    StopsReading fails why = fails why ⊎ (((why ≡ Read) × StopsAtInput) ⊎ StopsAtOutput why)
