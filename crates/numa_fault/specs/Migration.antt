-- What a migration does: a seat walks one node for a frame, and gives up the old one.
use Rattle.std.specs.Prelude.{◌≡◌, ℕ, ◌<◌, ◌++◌, List, [], ◌∷◌, Some, None, Result, Ok, Err}
use Rattle.std.specs.Prelude.{slice_index}
use Rattle.numa_requests.specs.declared.placement.Placement.{Placement}
use Rattle.numa_pool.specs.Frames.{times, without}
use Rattle.numa_pool.specs.Seats.{SeatView}
use Rattle.numa_pool.specs.Walk.{IsWalk, LoadsOnce, TriesOnce}
use Rattle.numa_pool.specs.declared.view.Entry.{Entry}
use Rattle.numa_pool.specs.declared.view.Entry.TheVariants.{Gave}
use Rattle.numa_fault.specs.Fault.{Walks}
use Rattle.numa_fault.specs.declared.refusal.MigrateRefusal.{MigrateRefusal}
use Rattle.numa_fault.specs.declared.refusal.MigrateRefusal.TheVariants.{NoSuchNode, Exhausted}

-- the placement that a refusal hands back
abbrev pub handed_back : MigrateRefusal → Placement
handed_back (NoSuchNode placement) = placement
handed_back (Exhausted placement) = placement

module _ (frames : List ℕ) (node : ℕ) (placement : Placement) (before after : SeatView) where
  -- The page went to a frame of the node. The seat won that frame by a walk of this node alone, and
  -- did not hold it before; then it gave up the old one, and made no other step. Version, task,
  -- page and rank are those of before
  pub record Migrated (moved : Placement) : Type 0 where
    pub version : moved.version ≡ placement.version
    pub task : moved.task ≡ placement.task
    pub page : moved.page ≡ placement.page
    pub rank : moved.rank ≡ placement.rank
    pub on_node : moved.node ≡ node
    pub frame_on_node : moved.frame.node ≡ node
    pub inside : moved.frame.number < slice_index frames node
    pub fresh : times moved.frame.node moved.frame.number before.held ≡ 0
    pub table : after.table ≡ before.table
    pub steps : (es : List Entry) × (after.log ≡ Gave placement.frame ∷ es ++ before.log)
        × IsWalk frames (node ∷ []) (Some moved.frame) es × LoadsOnce es × TriesOnce es
    pub no_other : after.unlogged ≡ before.unlogged
    pub held : after.held
        ≡ moved.frame ∷ without placement.frame.node placement.frame.number before.held

  -- a migration: the page went to the node, or the placement is handed back. Then no node has this
  -- number, or it has no frames, and the seat is as it was; or each frame of it was found taken
  abbrev pub Migrates : Result Placement MigrateRefusal → Type 0
  Migrates (Ok moved) = Migrated moved
  Migrates (Err (NoSuchNode back)) = (slice_index frames node ≡ 0) × (back ≡ placement)
      × (after ≡ before)
  Migrates (Err (Exhausted back)) = (0 < slice_index frames node) × (back ≡ placement)
      × Walks frames (node ∷ []) None before after
