-- A desk's calls are steps of the core's world, and what it published stays published.
use Rattle.std.proofs.Common.{◌≡◌, ◌≢◌, ℕ, ◌+◌, ◌-◌, ◌==◌, ◌||◌, ◌≤◌, inl, inr, Bool, true, false}
use Rattle.std.proofs.Common.{Option, Some, None, Result, Ok, Err, List, [], ◌∷◌, ◌++◌, length}
use Rattle.std.proofs.Common.{refl, sym, ap, subst, ◌∙◌, arith}
use Rattle.std.specs.Prelude.{slice_get}
use Rattle.std.specs.List.{list_any}
use Rattle.std.proofs.lemmas.Bool.{eq-eqb}
use Rattle.std.proofs.lemmas.List.{append_assoc, drop_at, length-append, length-drop}
use Rattle.numa_space.specs.Refusals.{refusal_of as command_refusal}
use Rattle.numa_requests.specs.declared.command.Command.{Command}
use Rattle.numa_requests.specs.declared.refusal.Refusal.{Refusal}
use Rattle.numa_publish.specs.Batches.{Extends}
use Rattle.numa_publish.proofs.Lists.{extends_shorter, extends_trans, no_length}
use Rattle.numa_publish.specs.Shown.{DeskState, Refuses, ViewState, accepted_commands, and_newest}
use Rattle.numa_core.specs.World.{Setup, World, first_commands, is_published, opening, owner_of}
use Rattle.numa_core.specs.Steps.{because, refused_or, effect_of, world_after}
use Rattle.numa_core.specs.Executions.{worker_of}
use Rattle.numa_requests.specs.declared.event.CoreRefusal.{CoreRefusal}
use Rattle.numa_requests.specs.declared.event.Event.{Event}
use Rattle.numa_requests.specs.declared.event.Event.TheVariants.{Accept, Publish, Begin, Seek}
use Rattle.numa_requests.specs.declared.event.Event.TheVariants.{Look, Try, Give}
use Rattle.numa_requests.specs.declared.event.CoreReply.{CoreReply}
use Rattle.numa_requests.specs.declared.event.CoreReply.TheVariants.{Accepted, Published}
use Rattle.numa_core.proofs.Tracking.{first_commands-more}
use Rattle.numa_refinement.specs.LegalSteps.{HasPublished, IsPublishedIn, after_core_step}
use Rattle.numa_refinement.specs.LegalSteps.{core_step_of}
use Rattle.numa_refinement.specs.Desks.{Accepts, IsDeskOf, IsNew, LeadsTo, Publishes}

pub opens : (s : Setup) (desk : DeskState) → IsNew s.machine s.bounds desk → IsDeskOf s opening desk
opens s desk new = record {
  machine = new.machine_is;
  bounds = new.bounds_are;
  history = sym (λ i. new.pending i ++ new.published i);
  versions = sym new.versions;
  newest = ap (λ (versions : List ℕ). slice_get versions 0) new.versions
      ∙ ap (λ (h : List Command). Some (length h)) (sym new.published);
}

-- what refuses the world's Accept is what refuses the desk's command
same-refusal : (s : Setup) (world : World) (desk : DeskState) (command : Command)
    → IsDeskOf s world desk
    → command_refusal s.machine s.bounds world.history command ≡ command_refusal desk.desk.machine
    desk.bounds (accepted_commands desk) command
same-refusal s world desk command is = λ i. command_refusal (sym is.machine i) (sym is.bounds i)
    (is.history i) command

pub accepts : (s : Setup) (world : World) (before after : DeskState) (command : Command)
    (version : ℕ) → IsDeskOf s world before → Accepts before command version after
    → LeadsTo s world (core_step_of (Accept command) (Ok (Accepted version))) after
accepts s world before after command version is call =
    let none : command_refusal s.machine s.bounds world.history command ≡ None =
    same-refusal s world before command is ∙ call.allowed in
    let number : version ≡ length world.history + 1 = call.version_is
    ∙ ap (λ (h : List Command). length h + 1) (sym is.history) in
    let told : Ok (Accepted version)
    ≡ refused_or (because (command_refusal s.machine s.bounds world.history command))
    (Accepted (length world.history + 1)) =
    rw none (ap (λ n. Ok (Accepted n)) number) in
    let P : DeskState → Type 0 =
    λ d.
    IsDeskOf s (after_core_step s world (core_step_of (Accept command) (Ok (Accepted version))))
    d in (
      (tt, inl told),
      subst P (sym call.added) (record {
        machine = is.machine;
        bounds = is.bounds;
        history = ap (λ (h : List Command). command ∷ h) is.history;
        versions = is.versions;
        newest = is.newest;
      }),
    )

pub refuses : (s : Setup) (world : World) (desk : DeskState) (command : Command) (refusal : Refusal)
    → IsDeskOf s world desk → Refuses desk command refusal → refusal ≢ Refusal.NoMemory
    → LeadsTo s world (core_step_of (Accept command) (Err (CoreRefusal.Command refusal))) desk
refuses s world desk command refusal is (inl want) other = absurd (other want)
refuses s world desk command refusal is (inr cause) other =
    let some : command_refusal s.machine s.bounds world.history command ≡ Some refusal =
    same-refusal s world desk command is ∙ cause in
    ((tt, inl (rw some refl)), is)

-- ---- publishing

newest-count : (pending : List Command) (version : ℕ) (versions : List ℕ) → pending ≢ []
    → and_newest pending version versions ≡ version ∷ versions
newest-count [] version versions some = absurd (some refl)
newest-count (command ∷ commands) version versions some = refl

pub publishes : (s : Setup) (world : World) (before after : DeskState) → IsDeskOf s world before
    → Publishes before after → before.pending ≢ []
    → LeadsTo s world (core_step_of Publish (Ok (Published (length (accepted_commands before)))))
    after
publishes s world before after is call some =
    let one : after.versions ≡ length (accepted_commands before) ∷ before.versions = call.versions
    ∙ newest-count before.pending (length (accepted_commands before)) before.versions some in (
      (tt, inl (ap (λ (h : List Command). Ok (Published (length h))) (sym is.history))),
      record {
        machine = ap (λ (d : _). d.machine) call.desk ∙ is.machine;
        bounds = call.bounds ∙ is.bounds;
        history = is.history ∙ sym (λ i. call.pending i ++ call.published i);
        versions = (λ i. length (is.history i) ∷ is.versions i) ∙ sym one;
        newest = ap (λ (versions : List ℕ). slice_get versions 0) one
            ∙ ap (λ (h : List Command). Some (length h)) (sym call.published);
      },
    )

pub idle : (before after : DeskState) → Publishes before after → before.pending ≡ []
    → after ≡ before
idle before after call none = λ i. record {
  desk = call.desk i;
  bounds = call.bounds i;
  published = (call.published ∙ ap (λ (pending : List Command). pending ++ before.published) none)
      i;
  versions =
      (call.versions ∙ ap
      (λ (pending : List Command). and_newest pending (length (accepted_commands before))
      before.versions) none) i;
  pending = (call.pending ∙ sym none) i;
}

longer : (n : ℕ) (versions : List ℕ) → n ∷ versions ≡ versions → ⊥
longer n versions e = let l : length (n ∷ versions) ≡ length versions =
    ap (λ (ns : List ℕ). length ns) e in omega arith

pub no_core_step : (s : Setup) (world : World) (desk : DeskState) (version : ℕ)
    → IsDeskOf s world desk → LeadsTo s world (core_step_of Publish (Ok (Published version))) desk
    → ⊥
no_core_step s world desk version is leads = longer (length world.history) world.published
    (leads.1.versions ∙ sym is.versions)

-- ---- the steps of workers

pub workers : (s : Setup) (world : World) (desk : DeskState) (version w : ℕ) (event : Event)
    (answer : Result CoreReply CoreRefusal) → IsDeskOf s world desk → worker_of event ≡ Some w
    → IsDeskOf s (world_after s world version event answer) desk
workers s world desk version w event (Err refusal) is of = is
workers s world desk version w (Accept command) (Ok reply) is of = absurd (cc)
workers s world desk version w Publish (Ok reply) is of = absurd (cc)
workers s world desk version w (Begin v request) (Ok reply) is of =
    record {
      machine = is.machine;
      bounds = is.bounds;
      history = is.history;
      versions = is.versions;
      newest = is.newest;
    }
workers s world desk version w (Seek v node) (Ok reply) is of =
    record {
      machine = is.machine;
      bounds = is.bounds;
      history = is.history;
      versions = is.versions;
      newest = is.newest;
    }
workers s world desk version w (Look v word) (Ok reply) is of =
    record {
      machine = is.machine;
      bounds = is.bounds;
      history = is.history;
      versions = is.versions;
      newest = is.newest;
    }
workers s world desk version w (Give v frame) (Ok reply) is of =
    record {
      machine = is.machine;
      bounds = is.bounds;
      history = is.history;
      versions = is.versions;
      newest = is.newest;
    }
workers s world desk version w (Try v frame) (Ok reply) is of = go (owner_of world frame) refl
  where
    go : (o : Option ℕ) → owner_of world frame ≡ o
        → IsDeskOf s (effect_of s world version (Try v frame)) desk
    go (Some u) e = rw e record {
      machine = is.machine;
      bounds = is.bounds;
      history = is.history;
      versions = is.versions;
      newest = is.newest;
    }
    go None e = rw e record {
      machine = is.machine;
      bounds = is.bounds;
      history = is.history;
      versions = is.versions;
      newest = is.newest;
    }

-- ---- published histories

first-any : (versions : List ℕ) (v : ℕ) → slice_get versions 0 ≡ Some v
    → list_any (λ n. n == v) versions ≡ true
first-any [] v e = absurd (cc)
first-any (n ∷ versions) v e =
    let same : n ≡ v = cc in
    ap (λ b. b || list_any (λ m. m == v) versions) (eq-eqb n v same)

pub behind : (pending published : List Command)
    → first_commands (length published) (pending ++ published) ≡ published
behind pending published =
    drop_at pending published (length (pending ++ published) - length published)
    (let l : length (pending ++ published) ≡ length pending + length published =
    length-append pending published in omega arith)

pub shows : (s : Setup) (world : World) (desk : DeskState) → IsDeskOf s world desk
    → IsPublishedIn world desk.published
shows s world desk is = record {
  published = ap (λ (versions : List ℕ). list_any (λ n. n == length desk.published) versions)
      is.versions ∙ first-any desk.versions (length desk.published) is.newest;
  commands = ap (λ (h : List Command). first_commands (length desk.published) h) is.history
      ∙ behind desk.pending desk.published;
}

or_else_true : (a b : Bool) → b ≡ true → (a || b) ≡ true
or_else_true true b e = refl
or_else_true false b e = e

any-behind : (more versions : List ℕ) (v : ℕ) → list_any (λ n. n == v) versions ≡ true
    → list_any (λ n. n == v) (more ++ versions) ≡ true
any-behind [] versions v e = e
any-behind (n ∷ more) versions v e =
    or_else_true (n == v) (list_any (λ m. m == v) (more ++ versions)) (any-behind more versions v e)

-- so is what a view shows
pub viewed : (s : Setup) (world : World) (desk : DeskState) (view : ViewState)
    → IsDeskOf s world desk → Extends view.history desk.published
    → Extends view.versions desk.versions
    → slice_get view.versions 0 ≡ Some (length view.history) → IsPublishedIn world view.history
viewed s world desk view is history versions newest =
    let all : world.history ≡ (desk.pending ++ history.0) ++ view.history =
    is.history ∙ ap (λ (h : List Command). desk.pending ++ h) history.1
    ∙ sym (append_assoc desk.pending history.0 view.history) in
    record {
      published = ap (λ (ns : List ℕ). list_any (λ n. n == length view.history) ns)
          (is.versions ∙ versions.1)
          ∙ any-behind versions.0 view.versions (length view.history)
          (first-any view.versions (length view.history) newest);
      commands = ap (λ (h : List Command). first_commands (length view.history) h) all
          ∙ behind (desk.pending ++ history.0) view.history;
    }

-- of two lists of one length that one list extends each is the other
same-list : (xs ys both : List Command) → Extends xs both → Extends ys both → length xs ≡ length ys
    → ys ≡ xs
same-list xs ys both p q e =
    let more : Extends xs ys = extends_shorter p.0 q.0 xs ys (sym p.1 ∙ q.1) (omega (arith, e)) in
    let none : length more.0 ≤ 0 =
    omega (arith, e, ap (λ (h : List Command). length h) more.1, length-append more.0 xs) in
    more.1 ∙ ap (λ (h : List Command). h ++ xs) (no_length more.0 none)

-- so is what a reader has seen that learns a receipt of the same version
pub receipted : (world : World) (seen told both : List Command) → Extends seen both
    → Extends told both → length seen ≡ length told → IsPublishedIn world told
    → IsPublishedIn world seen
receipted world seen told both p q e is = subst (λ (h : List Command). IsPublishedIn world h)
    (same-list seen told both p q e) is

-- a published history is no longer than the world's
fits : (world : World) (history : List Command) → IsPublishedIn world history
    → length history ≤ length world.history
fits world history is =
    let l : length (first_commands (length history) world.history) ≡ length history =
    ap (λ (h : List Command). length h) is.commands in
    let m : length (first_commands (length history) world.history) ≡ length world.history
    - (length world.history - length history) =
    length-drop (length world.history - length history) world.history in
    omega arith

pub stays : (s : Setup) (world : World) (version : ℕ) (event : Event)
    (answer : Result CoreReply CoreRefusal) (history : List Command) → IsPublishedIn world history
    → IsPublishedIn (world_after s world version event answer) history
stays s world version event (Err refusal) history is = is
stays s world version (Accept command) (Ok reply) history is = record {
  published = is.published;
  commands = first_commands-more (length history) command world.history (fits world history is)
      ∙ is.commands;
}
stays s world version Publish (Ok reply) history is = record {
  published = or_else_true (length world.history == length history)
      (is_published world (length history)) is.published;
  commands = is.commands;
}
stays s world version (Begin v request) (Ok reply) history is =
    record { published = is.published; commands = is.commands }
stays s world version (Seek v node) (Ok reply) history is =
    record { published = is.published; commands = is.commands }
stays s world version (Look v word) (Ok reply) history is =
    record { published = is.published; commands = is.commands }
stays s world version (Give v frame) (Ok reply) history is =
    record { published = is.published; commands = is.commands }
stays s world version (Try v frame) (Ok reply) history is = go (owner_of world frame) refl
  where
    go : (o : Option ℕ) → owner_of world frame ≡ o
        → IsPublishedIn (effect_of s world version (Try v frame)) history
    go (Some u) e = rw e record { published = is.published; commands = is.commands }
    go None e = rw e record { published = is.published; commands = is.commands }

-- ---- all that is published up to a version

-- it is so in the world of the desk that shows it
pub all-shown : (s : Setup) (world : World) (desk : DeskState) → IsDeskOf s world desk
    → HasPublished world desk.published desk.versions
all-shown s world desk is =
    record { commands = (desk.pending, is.history); numbers = ([], is.versions) }

pub newest-published : (world : World) (history : List Command) (versions : List ℕ)
    → HasPublished world history versions → slice_get versions 0 ≡ Some (length history)
    → IsPublishedIn world history
newest-published world history versions has newest = record {
  published = ap (λ (ns : List ℕ). list_any (λ n. n == length history) ns) has.numbers.1
      ∙ any-behind has.numbers.0 versions (length history)
      (first-any versions (length history) newest);
  commands = ap (λ (h : List Command). first_commands (length history) h) has.commands.1
      ∙ behind has.commands.0 history;
}

pub earlier : (world : World) (history longer : List Command) (versions more : List ℕ)
    → HasPublished world longer more → Extends history longer → Extends versions more
    → slice_get versions 0 ≡ Some (length history) → IsPublishedIn world history
earlier world history longer versions more has p q newest =
    newest-published world history versions
    (record {
      commands = extends_trans history longer world.history p has.commands;
      numbers =
          extends_trans versions more world.published q has.numbers;
    }) newest

-- so is all that is published up to an earlier version
pub has-earlier : (world : World) (history longer : List Command) (versions more : List ℕ)
    → HasPublished world longer more → Extends history longer → Extends versions more
    → HasPublished world history versions
has-earlier world history longer versions more has p q = record {
  commands = extends_trans history longer world.history p has.commands;
  numbers = extends_trans versions more world.published q has.numbers;
}

-- and what is shown in a desk's log up to what it has published
pub compared : (s : Setup) (world : World) (desk : DeskState) (history : List Command)
    (versions : List ℕ) → IsDeskOf s world desk
    → Extends history desk.published × Extends versions desk.versions
    → HasPublished world history versions
compared s world desk history versions is begins =
    has-earlier world history desk.published versions desk.versions (all-shown s world desk is)
    begins.0 begins.1

pub lasts : (s : Setup) (world : World) (version : ℕ) (event : Event)
    (answer : Result CoreReply CoreRefusal) (history : List Command) (versions : List ℕ)
    → HasPublished world history versions
    → HasPublished (world_after s world version event answer) history versions
lasts s world version event (Err refusal) history versions has = has
lasts s world version (Accept command) (Ok reply) history versions has = record {
  commands = (command ∷ has.commands.0, ap (λ (h : List Command). command ∷ h) has.commands.1);
  numbers = has.numbers;
}
lasts s world version Publish (Ok reply) history versions has = record {
  commands = has.commands;
  numbers = (
    length world.history ∷ has.numbers.0,
    ap (λ (ns : List ℕ). length world.history ∷ ns)
        has.numbers.1,
  );
}
lasts s world version (Begin v request) (Ok reply) history versions has =
    record { commands = has.commands; numbers = has.numbers }
lasts s world version (Seek v node) (Ok reply) history versions has =
    record { commands = has.commands; numbers = has.numbers }
lasts s world version (Look v word) (Ok reply) history versions has =
    record { commands = has.commands; numbers = has.numbers }
lasts s world version (Give v frame) (Ok reply) history versions has =
    record { commands = has.commands; numbers = has.numbers }
lasts s world version (Try v frame) (Ok reply) history versions has = go (owner_of world frame) refl
  where
    go : (o : Option ℕ) → owner_of world frame ≡ o
        → HasPublished (effect_of s world version (Try v frame)) history versions
    go (Some u) e = rw e record { commands = has.commands; numbers = has.numbers }
    go None e = rw e record { commands = has.commands; numbers = has.numbers }
