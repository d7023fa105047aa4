-- Where pages go when nodes are taken away or people move them (migrate_pages(2), and what a kernel
-- does with the pages of a control group whose nodes change).
use Rattle.std.specs.Prelude.{◌≡◌, ℕ, ◌<◌, ◌==◌, ◌&&◌, Bool, false, not, List}
use Rattle.std.specs.Prelude.{slice_index, if◌then◌else◌}
use Rattle.numa_mask.specs.NodeSet.{has, weight_of, node_after}
use Rattle.numa_placed.specs.Spots.{pages_where}
use Rattle.numa_placed.specs.declared.spot.Spot.{Spot}
use Rattle.numa_placed.specs.declared.spot.Spot.TheVariants.{Nowhere, Stated}
use Rattle.numa_placed.specs.declared.moved.Moved.{Moved}

-- the node to which pages of a node go when they leave the one set for the other. Where the two
-- have as many nodes, each page goes to the node of the same place, so that pages that were apart
-- stay apart. Where they haven't, that can't be had, and a page stays that lies on a node of the
-- new set. A node outside the old set keeps its pages
abbrev pub moved_node : ℕ → ℕ → ℕ → ℕ
moved_node old new node = if not (weight_of old == weight_of new) && has new node then node
    else node_after old new node

-- a page once the pages of each node went to another
abbrev pub moved_spot : (ℕ → ℕ) → Spot → Spot
moved_spot go Nowhere = Nowhere
moved_spot go (Stated node) = Stated (go node)

-- whether a page goes to another node
abbrev pub goes : (ℕ → ℕ) → Spot → Bool
goes go Nowhere = false
goes go (Stated node) = not (go node == node)

-- whether a page goes from this node to another
abbrev pub goes_from : (ℕ → ℕ) → ℕ → Spot → Bool
goes_from go from Nowhere = false
goes_from go from (Stated node) = (node == from) && not (go node == node)

-- a list has the node to which each goes
abbrev pub AreTargets : List ℕ → (ℕ → ℕ) → Type 0
AreTargets targets go = (node : ℕ) → node < 256 → slice_index targets node ≡ go node

-- how many pages went, from where and to where; none stayed that had a node to go to
pub record IsTally (spots : ℕ → Spot) (go : ℕ → ℕ) (tally : Moved) : Type 0 where
  pub moved : tally.moved ≡ pages_where (goes go) spots
  pub left : tally.left ≡ 0
  pub from : (node : ℕ) → node < 256
      → slice_index tally.from node ≡ pages_where (goes_from go node) spots
  pub to : AreTargets tally.to go

-- each page went to the node of its node, and this is what is told of it
pub record IsMove (old : ℕ → Spot) (go : ℕ → ℕ) (new : ℕ → Spot) (told : Moved) : Type 0 where
  pub pages : (page : ℕ) → new page ≡ moved_spot go (old page)
  pub tally : IsTally old go told
