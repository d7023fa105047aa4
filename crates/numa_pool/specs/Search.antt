-- How far the search of one node has come.
use Rattle.std.specs.Prelude.{◌≡◌, ℕ, ◌+◌, ◌*◌, ◌%◌, ◌<◌, ◌≤◌, ◌==◌, true, false, List}
use Rattle.std.specs.Prelude.{[], ◌∷◌, ◌++◌, slice_index, Option, Some, None}
use Rattle.std.specs.Int.{bit_at}
use Rattle.numa_machine.specs.declared.frame.Frame.{Frame}
use Rattle.numa_pool.specs.declared.view.Entry.{Entry}
use Rattle.numa_pool.specs.Frames.{frame_of}
use Rattle.numa_pool.specs.Walk.{met, Searches, Wins, loads_of, LoadsOnce}

module _ (frames : List ℕ) where
  -- the frames of the first words of the node are met in the steps since `base`, and no later frame
  -- is
  abbrev pub Reached : ℕ → ℕ → List Entry → List Entry → Type 0
  Reached n word base log = (es : List Entry) × (log ≡ es ++ base) × Searches frames (n ∷ []) es
      × ((k : ℕ) → k < 64 * word → k < slice_index frames n → met es n k ≡ true)
      × ((k : ℕ) → 64 * word ≤ k → met es n k ≡ false)
      × LoadsOnce es × ((w : ℕ) → word ≤ w → loads_of n w es ≡ 0)

  -- the same inside a word that was loaded: of its frames those are met whose bit is set in `taken`
  abbrev pub Within : ℕ → ℕ → ℕ → List Entry → List Entry → Type 0
  Within n word taken base log = (es : List Entry) × (log ≡ es ++ base)
      × Searches frames (n ∷ []) es
      × ((k : ℕ) → k < 64 * word → k < slice_index frames n → met es n k ≡ true)
      × ((k : ℕ) → 64 * word ≤ k → k < 64 * word + 64 → met es n k ≡ (bit_at taken (k % 64) == 1))
      × ((k : ℕ) → 64 * word + 64 ≤ k → met es n k ≡ false)
      × LoadsOnce es × ((w : ℕ) → word < w → loads_of n w es ≡ 0)

  -- the steps since `base` are a walk of the node that won the frame
  abbrev pub WonSince : ℕ → Frame → List Entry → List Entry → Type 0
  WonSince n f base log = (es : List Entry) × (log ≡ es ++ base)
      × Wins frames (n ∷ []) f es × LoadsOnce es

  -- after the search of a word: its frames are met too, or the frame of a bit was won
  abbrev pub SearchedWord : ℕ → ℕ → Option ℕ → List Entry → List Entry → Type 0
  SearchedWord n word None base log = Reached n (word + 1) base log
  SearchedWord n word (Some bit) base log = WonSince n (frame_of n (64 * word + bit)) base log
