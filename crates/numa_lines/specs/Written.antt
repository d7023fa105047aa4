-- What was handed to a writer, where `contents` gives the bytes that it has taken, if they are
-- known.
use Rattle.std.specs.Prelude.{◌≡◌, ℕ, ◌++◌, List, Option, Bool, true, false}
use Rattle.std.specs.Io.KnownBytes.{Appends}
use Rattle.numa_lines.specs.Watching.{has_failed, held_in, unsent}
use Rattle.numa_lines.specs.declared.watched.Watched.{Watched}

-- some first part of the bytes was appended
abbrev pub AppendsFront : Option (List ℕ) → Option (List ℕ) → List ℕ → Type 0
AppendsFront old new bs = (front rest : List ℕ) × Appends old new front × (bs ≡ front ++ rest)

-- What was said since a writer had the bytes `start` is written, but for what is held back; once a
-- write has failed, some first part of it is.
abbrev pub IsSaid : Option (List ℕ) → Option (List ℕ) → Bool → List ℕ → List ℕ → Type 0
IsSaid start now true held said = AppendsFront start now said
IsSaid start now false held said = (sent : List ℕ) × Appends start now sent × (said ≡ sent ++ held)

-- The bytes were appended, or some first part of them where the call failed; once a call has
-- failed, nothing is.
abbrev pub IsAppended : Bool → Option (List ℕ) → Bool → Option (List ℕ) → List ℕ → Type 0
IsAppended true old failed new bytes = (failed ≡ true) × (new ≡ old)
IsAppended false old true new bytes = AppendsFront old new bytes
IsAppended false old false new bytes = Appends old new bytes

module _ {W : Type 0} (contents : W → Option (List ℕ)) where
  -- the writer was told this since it had the bytes `start`
  abbrev pub Says : Option (List ℕ) → Watched W → List ℕ → Type 0
  Says start writer said =
      IsSaid start (contents writer.inner) (has_failed writer) (held_in writer) said

  -- a text was said after what had been said before
  abbrev pub Said : Watched W → Watched W → List ℕ → Type 0
  Said old new text =
      (start : Option (List ℕ)) (said : List ℕ) → Says start old said
      → Says start new (said ++ text)

  -- nothing more was said
  abbrev pub SaidNothing : Watched W → Watched W → Type 0
  SaidNothing old new =
      (start : Option (List ℕ)) (said : List ℕ) → Says start old said → Says start new said

  -- the bytes were handed over, past what is held back
  abbrev pub IsSent : Watched W → Watched W → List ℕ → Type 0
  IsSent old new bytes =
      IsAppended (has_failed old) (contents old.inner) (has_failed new) (contents new.inner) bytes

  -- what was still to be written and then the text were written, or some first part of both
  abbrev pub Wrote : Watched W → Watched W → List ℕ → Type 0
  Wrote old new text = Appends (contents old.inner) (contents new.inner) (unsent old ++ text)

  abbrev pub WroteFront : Watched W → Watched W → List ℕ → Type 0
  WroteFront old new text =
      AppendsFront (contents old.inner) (contents new.inner) (unsent old ++ text)
