-- What a seat that carries its pools shows, and what its calls do.
use Rattle.std.specs.Prelude.{◌≡◌, ℕ, ◌<◌, ◌++◌, Bool, true, false, List, [], ◌∷◌, IsTrue, ◌↔◌}
use Rattle.std.specs.Prelude.{Option, Some, None, IfSome, slice_get, slice_index, Result, Ok, Err}
use Rattle.std.specs.Option.{option_map}
use Rattle.atomic_table.specs.Seated.{TableId}
use Rattle.numa_machine.specs.declared.frame.Frame.{Frame}
use Rattle.numa_pool.specs.Frames.{with_found, times, without, Holds}
use Rattle.numa_pool.specs.Seats.{SeatView}
use Rattle.numa_pool.specs.Steps.{no_other, one_other, one_split, split_off, joined}
use Rattle.numa_pool.specs.Walk.{WalksInOrder, IsWalk, LoadsOnce, TriesOnce}
use Rattle.numa_pool.specs.declared.view.Entry.{Entry}
use Rattle.numa_pool.specs.declared.view.Entry.TheVariants.{Gave}
use Rattle.numa_pool.specs.declared.owned_seat.ExchangeRefusal.{ExchangeRefusal}
use Rattle.numa_pool.specs.declared.owned_seat.ExchangeRefusal.TheVariants.{NotOwned, Exhausted}

-- how many frames each node of the pools has, and the seat at them
pub record Seated : Type 0 where
  pub frames : List ℕ
  pub seat : SeatView

-- a seat that holds nothing and has made no step
abbrev pub at_first : List ℕ → TableId → Seated
at_first counts pools = record {
  frames = counts;
  seat = record { table = pools; held = []; log = []; unlogged = no_other };
}

-- such a seat at the same pools
abbrev pub newcomer : Seated → Seated
newcomer s = record {
  frames = s.frames;
  seat = record {
    table = s.seat.table;
    held = [];
    log = [];
    unlogged = split_off s.seat.unlogged;
  };
}

-- after a split: one step more, which the log leaves out
abbrev pub seat_after_split : Seated → Seated
seat_after_split s = record s { seat = record s.seat { unlogged = one_split s.seat.unlogged } }

-- after a join: the frames of both, and two steps more, which the log leaves out
abbrev pub seat_after_join : Seated → Seated → Seated
seat_after_join s other = record s {
  seat = record s.seat {
    held = s.seat.held ++ other.seat.held;
    unlogged = one_other (joined s.seat.unlogged other.seat.log other.seat.unlogged);
  };
}

-- after the frame was given back
abbrev pub seat_after_give : Frame → Seated → Seated
seat_after_give f s = record s {
  seat = record s.seat {
    held = without f.node f.number s.seat.held;
    log = Gave f ∷ s.seat.log;
  };
}

-- a seat gave a frame back where it holds it, and told whether it does
pub record Gives (frame : Frame) (held : Bool) (before after : Seated) : Type 0 where
  pub told : IsTrue held ↔ Holds before.seat.held frame
  pub seat_after_give : held ≡ true → after ≡ seat_after_give frame before
  pub kept : held ≡ false → after ≡ before

-- the frame that was found, without the place of its node
abbrev pub frame_in : Option (ℕ × Frame) → Option Frame
frame_in found = option_map (λ f. f.1) found

-- A seat walked the nodes of a list one after the other up to the first of which it won a frame, if
-- of any; it holds this frame now and did not before, and made no other step
pub record TakesAlong (nodes : List ℕ) (found : Option (ℕ × Frame)) (before after : Seated)
    : Type 0 where
  pub pools : (after.frames ≡ before.frames) × (after.seat.table ≡ before.seat.table)
  pub walks : (es : List Entry) × (after.seat.log ≡ es ++ before.seat.log)
      × WalksInOrder before.frames nodes (frame_in found) es
  pub no_other : after.seat.unlogged ≡ before.seat.unlogged
  pub held : after.seat.held ≡ with_found (frame_in found) before.seat.held
  pub rank : IfSome found (λ f. slice_get nodes f.0 ≡ Some f.1.node)
  pub fresh : IfSome found (λ f. times f.1.node f.1.number before.seat.held ≡ 0)

module _ (frame : Frame) (node : ℕ) (before after : Seated) where
  -- A seat won a frame of the node by a walk of this node alone, and did not hold it before; then
  -- it gave up the old one, and made no other step
  pub record Exchanged (found : Frame) : Type 0 where
    pub owned : Holds before.seat.held frame
    pub on_node : found.node ≡ node
    pub inside : found.number < slice_index before.frames node
    pub fresh : times found.node found.number before.seat.held ≡ 0
    pub pools : (after.frames ≡ before.frames) × (after.seat.table ≡ before.seat.table)
    pub steps : (es : List Entry) × (after.seat.log ≡ Gave frame ∷ es ++ before.seat.log)
        × IsWalk before.frames (node ∷ []) (Some found) es × LoadsOnce es × TriesOnce es
    pub no_other : after.seat.unlogged ≡ before.seat.unlogged
    pub held : after.seat.held
        ≡ without frame.node frame.number (found ∷ before.seat.held)

  -- it walked the node, and found each frame of it taken
  pub record FoundTaken : Type 0 where
    pub owned : Holds before.seat.held frame
    pub pools : (after.frames ≡ before.frames) × (after.seat.table ≡ before.seat.table)
    pub steps : (es : List Entry) × (after.seat.log ≡ es ++ before.seat.log)
        × IsWalk before.frames (node ∷ []) None es × LoadsOnce es × TriesOnce es
    pub no_other : after.seat.unlogged ≡ before.seat.unlogged
    pub held : after.seat.held ≡ before.seat.held

  -- an exchange of a frame for one of the node, or why there was none
  abbrev pub Exchanges : Result Frame ExchangeRefusal → Type 0
  Exchanges (Ok found) = Exchanged found
  Exchanges (Err NotOwned) = (Holds before.seat.held frame → ⊥) × (after ≡ before)
  Exchanges (Err Exhausted) = FoundTaken
