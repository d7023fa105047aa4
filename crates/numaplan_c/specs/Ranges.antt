-- What an exported question about ranges answers.
use Rattle.std.specs.Prelude.{◌≡◌, ℕ, ◌*◌, ◌==◌, ◌≤◌, Option, Some, None, List, []}
use Rattle.std.specs.Prelude.{◌∷◌, Result, Ok, Err, filter, length, map}
use Rattle.numa_core.specs.Standing.{CoreState}
use Rattle.numaplan_handles.specs.Asked.{HasListing}
use Rattle.numa_mode.specs.Policy.{PolicyRecord, policy_text}
use Rattle.numa_ranges.specs.declared.run.Run.{Run}
use Rattle.numa_requests.specs.declared.placement.Placement.{Placement}
use Rattle.numa_maps.specs.Residents.{IsRising, Kept, placed_at}
use Rattle.numaplan_c.specs.Texts.{IsWritten}
use Rattle.numaplan_c.specs.declared.ranges.NpRange.{NpRange}
use Rattle.numaplan_c.specs.declared.listings.MapsRefusal.{MapsRefusal}
use Rattle.numaplan_c.specs.declared.listings.MapsRefusal.TheVariants as refused
use Rattle.numaplan_c.specs.declared.events.NpPlacement.{NpPlacement}

-- ---- a range

-- the pages of a range in bytes, and the index of the first
abbrev pub range_span : Run (Option PolicyRecord) → NpRange
range_span range = record {
  start = range.first * 4096;
  length = range.pages * 4096;
  offset = range.index;
}

-- the policy of a range's own as a word; none where it has none
abbrev pub own_word : Option PolicyRecord → List ℕ
own_word None = []
own_word (Some policy) = policy_text policy

-- a range is returned with the word of its policy; if there is too little room for the word only
-- its length, and without a range nothing
abbrev pub TellsRange : Option (Run (Option PolicyRecord)) → ℕ → NpRange → NpRange → List ℕ
    → List ℕ → ℕ → ℕ → Type 0
TellsRange None code span span-then old new told told-then =
    (code ≡ 37) × (span-then ≡ span) × (new ≡ old) × (told-then ≡ told)
TellsRange (Some range) code span span-then old new told told-then =
    IsWritten (own_word range.value) code old new told-then
    × (code ≡ 0 → span-then ≡ range_span range) × (code ≡ 4 → span-then ≡ span)

-- ---- a listing

-- a placement as C has it
abbrev pub placement_of : NpPlacement → Placement
placement_of p = record {
  version = p.version;
  task = p.task;
  page = p.page;
  node = p.node;
  frame = record { node = p.node; number = p.frame };
  rank = p.rank;
}

-- the placements of a page
abbrev pub placed_on : ℕ → List NpPlacement → List Placement
placed_on page placements = map placement_of (filter (λ p. p.page == page) placements)

abbrev pub one_or_none : Option Placement → List Placement
one_or_none None = []
one_or_none (Some placement) = placement ∷ []

-- each page has one placement at most, and these are kept
pub record ArePlaced (placements : List NpPlacement) (kept : Kept) : Type 0 where
  pub rising : IsRising kept
  pub each : (page : ℕ) → placed_on page placements ≡ one_or_none (placed_at kept page)

-- placements are refused: some page has two of them, or there was no memory for them
abbrev pub RefusesPlaced : List NpPlacement → MapsRefusal → Type 0
RefusesPlaced placements refused.Twice = (page : ℕ) × (2 ≤ length (placed_on page placements))
RefusesPlaced placements refused.NoMemory = Unit {0}

-- the answer to the question for a listing
abbrev pub Lists : Option CoreState → ℕ → List NpPlacement → Result (List ℕ) MapsRefusal → Type 0
Lists core task placements (Ok text) =
    (placed : Kept) × ArePlaced placements placed × HasListing core task placed text
Lists core task placements (Err refusal) = RefusesPlaced placements refusal

-- that answer as a number and a text
abbrev pub TellsListing : Result (List ℕ) MapsRefusal → ℕ → List ℕ → List ℕ → ℕ → ℕ → Type 0
TellsListing (Ok text) code old new told told-then = IsWritten text code old new told-then
TellsListing (Err refused.Twice) code old new told told-then =
    (code ≡ 38) × (new ≡ old) × (told-then ≡ told)
TellsListing (Err refused.NoMemory) code old new told told-then =
    (code ≡ 3) × (new ≡ old) × (told-then ≡ told)
