-- What commands and the lines of workers are answered, and what they do. `lack` says what a line
-- lacked while it was served.
use Rattle.std.specs.Prelude.{ℕ, ◌==◌, Bool, true, false, not, Option, Some, None, Result, Ok, Err}
use Rattle.std.specs.Prelude.{is_some, is_ok, if◌then◌else◌}
use Rattle.numa_mode.specs.Policy.{is_default}
use Rattle.numa_requests.specs.declared.command.Command.{Command}
use Rattle.numa_requests.specs.declared.command.Command.TheVariants.{Map, Unmap, Mbind, SetTask}
use Rattle.numa_requests.specs.declared.command.Command.TheVariants.{Inherit}
use Rattle.numa_requests.specs.declared.command.Command.TheVariants.{SetHome, SetWeight, SetMems}
use Rattle.numa_requests.specs.declared.refusal.Refusal.TheVariants.{NoMemory as NoRoom}
use Rattle.numa_core.specs.World.{Setup, World, newest_published}
use Rattle.numa_core.specs.Steps.{answer_of, world_after}
use Rattle.numa_core.specs.Touching.{result_of_touch}
use Rattle.numa_requests.specs.declared.placement.Placement.{Placement}
use Rattle.numa_requests.specs.declared.request.Request.{Request}
use Rattle.numa_requests.specs.declared.event.Event.{Event}
use Rattle.numa_requests.specs.declared.event.Event.TheVariants.{Accept, Publish, Begin, Seek}
use Rattle.numa_requests.specs.declared.event.Event.TheVariants.{Give, Look, Try}
use Rattle.numa_requests.specs.declared.event.CoreReply.{CoreReply}
use Rattle.numa_requests.specs.declared.event.CoreReply.TheVariants as done
use Rattle.numa_requests.specs.declared.event.CoreRefusal.{CoreRefusal}
use Rattle.numa_requests.specs.declared.event.CoreRefusal.TheVariants.{Command as Because, NotOwned}
use Rattle.numa_requests.specs.declared.event.CoreRefusal.TheVariants.{NoMemory}
use Rattle.numa_maps.specs.Residents.{Kept, placed_at, with_placement, without_page}
use Rattle.numa_page_state.specs.Outcomes.{Lack, is_starved}
use Rattle.numa_script.specs.declared.work.Work.{Work}
use Rattle.numa_script.specs.declared.work.Work.TheVariants as work
use Rattle.numa_script.specs.Replies.{reply_to, win_of}
use Rattle.numa_script.specs.declared.reply.Reply.{Reply}
use Rattle.numa_script.specs.declared.reply.Reply.TheVariants as reply

-- what a line with a machine comes to: its reply, and the core's world and the placed pages after
-- it
pub record Outcome : Type 0 where
  pub reply : Reply
  pub world : World
  pub resident : Kept

-- ---- the core's answers

-- the placement that was won, if one was
abbrev pub won_by : Result CoreReply CoreRefusal → Option Placement
won_by (Ok (done.Won placement)) = Some placement
won_by (Ok (done.Accepted version)) = None
won_by (Ok (done.Published version)) = None
won_by (Ok done.Still) = None
won_by (Ok (done.Exhausted version)) = None
won_by (Ok (done.Found frame)) = None
won_by (Ok done.Full) = None
won_by (Ok done.Given) = None
won_by (Err cause) = None

-- ---- one event

-- a command that may need room for a range or for a task's policy
abbrev pub needs_room : Command → Bool
needs_room (Map start bytes offset size) = true
needs_room (Unmap start bytes) = not (bytes == 0)
needs_room (Mbind start bytes spec) = not (bytes == 0)
needs_room (SetHome start bytes node) = not (bytes == 0)
needs_room (SetTask task spec) = not (is_default spec)
needs_room (Inherit task from) = true
needs_room (SetWeight node weight) = false
needs_room (SetMems mask) = false

-- the refusal by which an event tells lack of memory, where it may need any
abbrev pub want_of : Event → Option CoreRefusal
want_of (Accept command) = if needs_room command then Some (Because NoRoom) else None
want_of Publish = Some NoMemory
want_of (Begin w request) = None
want_of (Seek w node) = None
want_of (Look w word) = None
want_of (Try w frame) = None
want_of (Give w frame) = None

-- lack of memory shows only where nothing else refuses the event
abbrev pub unless_wanting : Option CoreRefusal → Result CoreReply CoreRefusal
    → Result CoreReply CoreRefusal
unless_wanting None answer = answer
unless_wanting (Some want) (Ok answer) = Err want
unless_wanting (Some want) (Err cause) = Err cause

module _ (lack : Lack) (s : Setup) where
  -- the core's answer to an event; a Begin takes the newest published version
  abbrev pub event_answer : World → Event → Result CoreReply CoreRefusal
  event_answer world event =
      unless_wanting (if is_starved lack then want_of event else None)
      (answer_of s world (newest_published world) event)

  -- the world after it
  abbrev pub event_world : World → Event → World
  event_world world event =
      world_after s world (newest_published world) event (event_answer world event)

  -- map, unmap, mbind, home, task, weight, mems, which are Accepts; publish, begin, look, try, give
  abbrev pub event_outcome : World → Kept → Event → Outcome
  event_outcome world resident event = record {
    reply = reply_to (event_answer world event);
    world = event_world world event;
    resident = resident;
  }

  -- ---- touch W TASK ADDR CPU

  -- a frame that was won and isn't kept is given back
  abbrev pub not_kept : World → Kept → ℕ → Placement → Reply → Outcome
  not_kept world resident w placement answer = record {
    reply = answer;
    world = event_world world (Give w placement.frame);
    resident = resident;
  }

  -- a placement that was won is kept as that of its page, unless the page has one or there is no
  -- memory for it
  abbrev pub kept_outcome : World → Kept → ℕ → Placement → Outcome
  kept_outcome world resident w placement =
      if is_some (placed_at resident placement.page)
      then not_kept world resident w placement (reply.Back placement.frame)
      else if is_starved lack then not_kept world resident w placement (reply.Refused NoMemory)
      else record {
        reply = reply.Won (win_of placement);
        world = world;
        resident = with_placement resident placement;
      }

  -- what a touch comes to, by the core's answer and the world after it
  abbrev pub touch_by : Option Placement → Result CoreReply CoreRefusal → World → Kept → ℕ → Outcome
  touch_by (Some placement) answer world resident w = kept_outcome world resident w placement
  touch_by None answer world resident w =
      record { reply = reply_to answer; world = world; resident = resident }

  abbrev pub touch_outcome : World → Kept → ℕ → Request → Outcome
  touch_outcome world resident w request =
      touch_by (won_by (result_of_touch s world w request).answer)
      (result_of_touch s world w request).answer
      (result_of_touch s world w request).world resident w

  -- ---- release W ADDR

  -- the worker gives back the frame that is kept for the page; where it may not, the page keeps it
  abbrev pub release_by : Option Placement → World → Kept → ℕ → ℕ → Outcome
  release_by None world resident w page =
      record { reply = reply.Refused NotOwned; world = world; resident = resident }
  release_by (Some placement) world resident w page = record {
    reply = reply_to (event_answer world (Give w placement.frame));
    world = event_world world (Give w placement.frame);
    resident =
        if is_ok (event_answer world (Give w placement.frame)) then without_page resident page
        else resident;
  }

  abbrev pub release_outcome : World → Kept → ℕ → ℕ → Outcome
  release_outcome world resident w page = release_by (placed_at resident page) world resident w page

  -- ---- the lines of workers

  abbrev pub work_outcome : World → Kept → Work → Outcome
  work_outcome world resident (work.Event event) = event_outcome world resident event
  work_outcome world resident (work.Touch w request) = touch_outcome world resident w request
  work_outcome world resident (work.Release w page) = release_outcome world resident w page
