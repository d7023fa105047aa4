-- Where a page lies.
use Rattle.std.specs.Prelude.{ℕ, Option, Some, None}
use Rattle.numa_maps.specs.Residents.{Kept, placed_at}
use Rattle.numa_placed.specs.Spots.{node_of}
use Rattle.numa_placed.specs.declared.spot.Spot.{Spot}
use Rattle.numa_requests.specs.declared.placement.Placement.{Placement}
use Rattle.numa_subjects.specs.declared.page_place.PagePlace.{PagePlace}

-- on a node, if there is one, without a frame
abbrev pub place_on : Option ℕ → Option PagePlace
place_on None = None
place_on (Some node) = Some (record { node = node; frame = None })

-- in the frame that it keeps, or else on this node
abbrev pub place_by : Option Placement → Option ℕ → Option PagePlace
place_by (Some placement) _ = Some (record {
  node = placement.node;
  frame = Some placement.frame.number;
})
place_by None node = place_on node

-- in the frame that it keeps, or else where lines say
abbrev pub place_of : Kept → (ℕ → Spot) → ℕ → Option PagePlace
place_of kept spots page = place_by (placed_at kept page) (node_of (spots page))
