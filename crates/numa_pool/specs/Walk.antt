-- Walks: what the steps of a search for a free frame show, the newest step first.
use Rattle.std.specs.Prelude.{◌≡◌, ℕ, ◌+◌, ◌*◌, ◌/◌, ◌%◌, ◌<◌, ◌≤◌, ◌≢◌, ◌==◌, ◌&&◌}
use Rattle.std.specs.Prelude.{◌||◌, ◌⊎◌, Bool, true, false, List, [], ◌∷◌, ◌++◌, AllPairs}
use Rattle.std.specs.Prelude.{slice_index, Option, Some, None, IsSome}
use Rattle.std.specs.Int.{bit_at}
use Rattle.numa_machine.specs.declared.frame.Frame.{Frame}
use Rattle.numa_pool.specs.declared.view.Entry.{Entry}
use Rattle.numa_pool.specs.declared.view.Entry.TheVariants.{Load, Won, Lost, Gave}
use Rattle.numa_pool.specs.Frames.{is_frame, one_if}

-- the step found frame k of node n taken: by a set bit of a load, or by a lost try
abbrev pub shows : Entry → ℕ → ℕ → Bool
shows (Load m w x) n k = (m == n) && ((w == k / 64) && (bit_at x (k % 64) == 1))
shows (Lost f) n k = is_frame f n k
shows (Won f) n k = false
shows (Gave f) n k = false

-- one of the steps found it taken
abbrev pub met : List Entry → ℕ → ℕ → Bool
met [] n k = false
met (e ∷ es) n k = shows e n k || met es n k

abbrev pub is_load : Entry → ℕ → ℕ → Bool
is_load (Load m v x) n w = (m == n) && (v == w)
is_load (Won f) n w = false
is_load (Lost f) n w = false
is_load (Gave f) n w = false

-- how often word w of node n was loaded
abbrev pub loads_of : ℕ → ℕ → List Entry → ℕ
loads_of n w [] = 0
loads_of n w (e ∷ es) = one_if (is_load e n w) + loads_of n w es

abbrev pub is_try : Entry → ℕ → ℕ → Bool
is_try (Load m v x) n k = false
is_try (Won f) n k = is_frame f n k
is_try (Lost f) n k = is_frame f n k
is_try (Gave f) n k = false

-- how often frame k of node n was tried
abbrev pub tries_of : ℕ → ℕ → List Entry → ℕ
tries_of n k [] = 0
tries_of n k (e ∷ es) = one_if (is_try e n k) + tries_of n k es

-- the frames that these steps won, the newest first
abbrev pub won_in : List Entry → List Frame
won_in [] = []
won_in (Won f ∷ es) = f ∷ won_in es
won_in (Load m v x ∷ es) = won_in es
won_in (Lost f ∷ es) = won_in es
won_in (Gave f ∷ es) = won_in es

-- no word is loaded twice
abbrev pub LoadsOnce : List Entry → Type 0
LoadsOnce es = (n w : ℕ) → loads_of n w es ≤ 1

-- no frame is tried twice
abbrev pub TriesOnce : List Entry → Type 0
TriesOnce es = (n k : ℕ) → tries_of n k es ≤ 1

module _ (frames : List ℕ) where
  -- each frame of the node was found taken
  abbrev pub IsFull : List Entry → ℕ → Type 0
  IsFull es n = (k : ℕ) → k < slice_index frames n → met es n k ≡ true

  abbrev pub HasUnmet : List Entry → ℕ → Type 0
  HasUnmet es n = (k : ℕ) × (k < slice_index frames n) × (met es n k ≡ false)

  -- the current node: the first of the listed nodes that has an unmet frame
  abbrev pub IsCurrent : List Entry → List ℕ → ℕ → Type 0
  IsCurrent es [] n = ⊥
  IsCurrent es (m ∷ ms) n = ((m ≡ n) × HasUnmet es m) ⊎ (IsFull es m × IsCurrent es ms n)

  abbrev pub AllFull : List Entry → List ℕ → Type 0
  AllFull es [] = Unit {0}
  AllFull es (n ∷ ns) = IsFull es n × AllFull es ns

  -- an unmet frame of the current node
  abbrev pub IsNext : List Entry → List ℕ → Frame → Type 0
  IsNext es ns f = IsCurrent es ns f.node × (f.number < slice_index frames f.node)
      × (met es f.node f.number ≡ false)

  -- loads of words of the current node, and losses of unmet frames of it
  abbrev pub Searches : List ℕ → List Entry → Type 0
  Searches ns [] = Unit {0}
  Searches ns (Load n w x ∷ es) = Searches ns es × IsCurrent es ns n
      × (64 * w < slice_index frames n)
  Searches ns (Lost f ∷ es) = Searches ns es × IsNext es ns f
  Searches ns (Won f ∷ es) = ⊥
  Searches ns (Gave f ∷ es) = ⊥

  -- a search that found each frame of the nodes taken
  abbrev pub Exhausts : List ℕ → List Entry → Type 0
  Exhausts ns es = Searches ns es × AllFull es ns

  -- a search whose newest step won this frame, an unmet one of the current node
  abbrev pub Wins : List ℕ → Frame → List Entry → Type 0
  Wins ns f [] = ⊥
  Wins ns f (e ∷ es) = (e ≡ Won f) × Searches ns es × IsNext es ns f

  -- a walk of the listed nodes: it ends with the frame that it won, or no current node is left at
  -- its end
  abbrev pub IsWalk : List ℕ → Option Frame → List Entry → Type 0
  IsWalk ns None es = Exhausts ns es
  IsWalk ns (Some f) es = Wins ns f es

  -- walks of the nodes one by one, in order, up to the first that won a frame; none of them loads a
  -- word twice
  abbrev pub WalksInOrder : List ℕ → Option Frame → List Entry → Type 0
  WalksInOrder [] found es = (found ≡ None) × (es ≡ [])
  WalksInOrder (n ∷ ns) found es = (IsSome found × IsWalk (n ∷ []) found es × LoadsOnce es)
      ⊎ ((first : List Entry) × (later : List Entry) × (es ≡ later ++ first)
      × IsWalk (n ∷ []) None first × LoadsOnce first × WalksInOrder ns found later)

  -- walks one after the other, each of a list of nodes of its own and with what it found; none of
  -- them loads a word twice
  abbrev pub WalksEach : List (List ℕ) → List (Option Frame) → List Entry → Type 0
  WalksEach [] [] es = es ≡ []
  WalksEach [] (found ∷ more) es = ⊥
  WalksEach (ns ∷ rows) [] es = ⊥
  WalksEach (ns ∷ rows) (found ∷ more) es = (first : List Entry) × (later : List Entry)
      × (es ≡ later ++ first)
      × IsWalk ns found first × LoadsOnce first × WalksEach rows more later

-- no node occurs twice
abbrev pub IsDistinct : List ℕ → Type 0
IsDistinct ns = AllPairs (λ earlier later. earlier ≢ later) ns
