-- One order of all steps that the logs of all seats show.
use Rattle.std.specs.Prelude.{◌≡◌, ◌≢◌, ℕ, ◌+◌, ◌*◌, ◌/◌, ◌%◌, ◌^◌, ◌<◌, ◌≤◌, ◌==◌, false, List, []}
use Rattle.std.specs.Prelude.{◌⊎◌, ◌∷◌, length, map, slice_index, slice_set, bit_or, bit_and, cond}
use Rattle.std.specs.Int.{bit_not}
use mathlib.Core.Option.{some}
use mir.Syntax.{w64}
use lib.ListN.{get_elem?}
use Rattle.numa_machine.specs.declared.frame.Frame.{Frame}
use Rattle.numa_pool.specs.declared.view.Entry.{Entry}
use Rattle.numa_pool.specs.declared.view.Entry.TheVariants.{Load, Won, Lost, Gave}
use Rattle.numa_pool.specs.declared.view.Past.{Past}
use Rattle.numa_pool.specs.declared.view.View.{View}
use Rattle.numa_pool.specs.Frames.{bit_in, set_below}
use Rattle.numa_pool.specs.Rule.{Counted}

-- a step that a log shows, and the number of the seat that made it
pub record Made : Type 0 where
  pub seat : ℕ
  pub entry : Entry

-- the steps of one seat, the newest first
abbrev pub own : ℕ → List Made → List Entry
own id [] = []
own id (m ∷ made) = cond (m.seat == id) (m.entry ∷ own id made) (own id made)

-- the word of a frame, and the mask of its bit there
abbrev pub word_of : Frame → ℕ
word_of f = 64 * f.node + f.number / 64

abbrev pub mask_of : Frame → ℕ
mask_of f = 2 ^ (f.number % 64)

-- the words after a step: a try sets the bit of the frame, also one that is lost
abbrev pub written : Entry → List ℕ → List ℕ
written (Load n w x) words = words
written (Won f) words =
    slice_set words (word_of f) (bit_or (slice_index words (word_of f)) (mask_of f))
written (Lost f) words =
    slice_set words (word_of f) (bit_or (slice_index words (word_of f)) (mask_of f))
written (Gave f) words =
    slice_set words (word_of f) (bit_and (slice_index words (word_of f)) (bit_not w64 (mask_of f)))

-- the words after these steps, the newest first
abbrev pub words_after : List ℕ → List Made → List ℕ
words_after first [] = first
words_after first (m ∷ made) = written m.entry (words_after first made)

-- no bit is set in so many words
pub record IsClear (wide : ℕ) (words : List ℕ) : Type 0 where
  pub size : length words ≡ wide
  pub none_set : (i : ℕ) → slice_index words i ≡ 0

module _ (frames : List ℕ) where
  -- what a step found: a load the number of a word, a try that won the clear bit of a frame, and a
  -- try that was lost or a return the set one
  abbrev pub Finds : List ℕ → Entry → Type 0
  Finds words (Load n w x) =
      (n < length frames) × (w < 64) × (x ≡ slice_index words (64 * n + w))
  Finds words (Won f) =
      (f.number < slice_index frames f.node) × (bit_in words f.node f.number ≡ 0)
  Finds words (Lost f) =
      (f.number < slice_index frames f.node) × (bit_in words f.node f.number ≡ 1)
  Finds words (Gave f) =
      (f.number < slice_index frames f.node) × (bit_in words f.node f.number ≡ 1)

  -- each step found what the earlier ones had left
  abbrev pub IsOrder : List ℕ → List Made → Type 0
  IsOrder first [] = Unit {0}
  IsOrder first (m ∷ made) = IsOrder first made × Finds (words_after first made) m.entry

-- the number is none of these
abbrev pub IsAbsent : ℕ → List ℕ → Type 0
IsAbsent j [] = Unit {0}
IsAbsent j (k ∷ ks) = (j ≢ k) × IsAbsent j ks

-- no number is twice among these
abbrev pub AreDifferent : List ℕ → Type 0
AreDifferent [] = Unit {0}
AreDifferent (j ∷ js) = IsAbsent j js × AreDifferent js

-- the steps that were made, the name of each seat, and how many were split off it
pub record Deeds : Type 0 where
  pub made : List Made
  pub name : ℕ → List ℕ
  pub splits : ℕ → ℕ

-- what these seats did
abbrev pub pasts_of : Deeds → List ℕ → List Past
pasts_of deeds seats =
    map (λ j. record { name = deeds.name j; splits = deeds.splits j; log = own j deeds.made }) seats

-- Each of these seats is now part of this one: `host` is the seat that each seat became a part of,
-- or the seat itself
abbrev pub AreParts : (ℕ → ℕ) → ℕ → List ℕ → Type 0
AreParts host id [] = Unit {0}
AreParts host id (j ∷ js) = (host j ≡ id) × (j ≢ id) × AreParts host id js

-- a seat shows its own name, splits and steps, and those of the seats that were joined into it
pub record ShowsSteps (deeds : Deeds) (host : ℕ → ℕ) (id : ℕ) (v : View) : Type 0 where
  pub itself : host id ≡ id
  pub log : v.log ≡ own id deeds.made
  pub named : v.unlogged.name ≡ deeds.name id
  pub split : v.unlogged.splits ≡ deeds.splits id
  pub parts : List ℕ
  pub past : v.unlogged.past ≡ pasts_of deeds parts
  pub hosted : AreParts host id parts
  pub different : AreDifferent parts

-- Seat j, of so many, is the first one, or was split off another one: its name says from which one
-- and as which one
abbrev pub IsBorn : Deeds → ℕ → ℕ → Type 0
IsBorn deeds count j = (deeds.name j ≡ [])
    ⊎ ((k : ℕ) × (i : ℕ) × (k < count) × (i < deeds.splits k)
    × (deeds.name j ≡ i ∷ deeds.name k))

-- of so many seats each was born, and no two have one name; and no other one made a step
pub record AreNamed (deeds : Deeds) (count : ℕ) : Type 0 where
  pub born : (j : ℕ) → j < count → IsBorn deeds count j
  pub unique : (j k : ℕ) → j < count → k < count → deeds.name j ≡ deeds.name k → j ≡ k
  pub none_else : (j : ℕ) → count ≤ j → (own j deeds.made ≡ []) × (deeds.splits j ≡ 0)

-- Some order of steps leads from words without a bit set to these. Each seat that is not gone shows
-- its own steps of it, and those of the seats that were joined into it
pub record InOrder (frames words : List ℕ) (views : List View) : Type 0 where
  pub first : List ℕ
  pub clear : IsClear (64 * length frames) first
  pub deeds : Deeds
  pub host : ℕ → ℕ
  pub order : IsOrder frames first deeds.made
  pub last : words ≡ words_after first deeds.made
  pub shown : (id : ℕ) (v : View) → get_elem? views id ≡ some v → v.gone ≡ false
      → ShowsSteps deeds host id v
  pub later : (j : ℕ) → length views ≤ j → host j ≡ j
  pub names : AreNamed deeds (length views)

-- the rule of the pools as each step keeps it: the counts, and the order
pub record Kept (frames words : List ℕ) (views : List View) : Type 0 where
  pub counts : Counted frames words views
  pub in_order : InOrder frames words views

-- each of these numbers is below this one
abbrev pub AreBelow : ℕ → List ℕ → Type 0
AreBelow count [] = Unit {0}
AreBelow count (j ∷ js) = (j < count) × AreBelow count js

-- There is one order of all steps of all seats, in which each step found what the earlier ones had
-- left, and which led to these words. This is what different seats did in it
pub record IsLedTo (frames : List ℕ) (pasts : List Past) (words : List ℕ) : Type 0 where
  pub first : List ℕ
  pub clear : IsClear (64 * length frames) first
  pub deeds : Deeds
  pub order : IsOrder frames first deeds.made
  pub last : words ≡ words_after first deeds.made
  pub count : ℕ
  pub names : AreNamed deeds count
  pub seats : List ℕ
  pub different : AreDifferent seats
  pub inside : AreBelow count seats
  pub pasts_are : pasts ≡ pasts_of deeds seats

-- the same, for words of which so many bits of each node are set
abbrev pub HaveOrder : List ℕ → List Past → List ℕ → Type 0
HaveOrder frames pasts taken =
    (words : List ℕ) × IsLedTo frames pasts words
    × ((n : ℕ) → slice_index taken n ≡ set_below words n (slice_index frames n))

-- one of these seats has the name
abbrev pub IsNamed : List ℕ → List Past → Type 0
IsNamed name [] = ⊥
IsNamed name (p ∷ ps) = (p.name ≡ name) ⊎ IsNamed name ps

-- each seat that was split off one of these is one of them
abbrev pub HaveChildren : List Past → List Past → Type 0
HaveChildren all [] = Unit {0}
HaveChildren all (p ∷ ps) =
    ((i : ℕ) → i < p.splits → IsNamed (i ∷ p.name) all) × HaveChildren all ps

-- these are all seats that there ever were: the first one, and what was split off any of them
abbrev pub AreAllSeats : List Past → Type 0
AreAllSeats pasts = IsNamed [] pasts × HaveChildren pasts pasts

-- no other seat made a step
abbrev pub IsByThese : List ℕ → List Made → Type 0
IsByThese seats made = (j : ℕ) → IsAbsent j seats → own j made ≡ []
