-- Processes that the host's last move takes along, or doesn't.
use Rattle.std.proofs.Common.{◌≡◌, ℕ, false, List, [], ◌∷◌, map, length, eqb, ap}
use Rattle.std.proofs.Common.{inl, inr, refl, ◌∙◌}
use Rattle.std.proofs.lemmas.Bool.{cases_Bool}
use Rattle.std.proofs.lemmas.List.{length-map}
use Rattle.numa_host_pages.specs.Homes.{Home, along_homes, other_homes, still_homes}

-- one that doesn't go
abbrev pub calm : Home → Home
calm home = record home { along = false }

-- one that does, if it is the process
abbrev pub goes_if : ℕ → Home → Home
goes_if process home = record home { along = eqb home.id process }

pub still-count : (homes : List Home) → length (still_homes homes) ≡ length homes
still-count homes = length-map homes calm

pub along-count : (process : ℕ) (homes : List Home)
    → length (along_homes process homes) ≡ length homes
along-count process homes = length-map homes (goes_if process)

pub others-calm : (process : ℕ) (homes : List Home)
    → other_homes process (still_homes homes) ≡ still_homes (other_homes process homes)
others-calm process [] = refl
others-calm process (home ∷ homes) =
    elim (cases_Bool (eqb home.id process)) [
      | inl e ↦ rw e (others-calm process homes)
      | inr e ↦ rw e (ap (λ (hs : List Home). calm home ∷ hs) (others-calm process homes))
    ]

pub others-count : (process : ℕ) (homes : List Home)
    → length (other_homes process (still_homes homes)) ≡ length (other_homes process homes)
others-count process homes =
    ap (λ (hs : List Home). length hs) (others-calm process homes)
    ∙ still-count (other_homes process homes)
