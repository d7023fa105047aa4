-- What an `mbind` of a process with words behind its policy makes of a host that answers it.
use Rattle.std.proofs.Common.{◌≡◌, ℕ, Bool, true, false, Option, Some, None, Result, Ok, Err}
use Rattle.std.proofs.Common.{List, [], length, refl, sym, ap, subst, ◌∙◌, is_some}
use Rattle.std.proofs.lemmas.Bool.{and_parts, both_ways}
use Rattle.std.specs.Prelude.{◌&&◌, ◌||◌, not, nat_le, if◌then◌else◌}
use Rattle.numa_machine.specs.Machine.{Hardware}
use Rattle.numa_machine.specs.declared.rules.Rules.{Rules}
use Rattle.numa_mode.specs.Policy.{Specification}
use Rattle.numa_space.specs.History.{page_of}
use Rattle.numa_space.specs.Pages.{page_in}
use Rattle.numa_space.specs.Refusals.{refusal_of}
use Rattle.numa_space.specs.Standing.{SpaceState, StandsFor}
use Rattle.numa_requests.specs.declared.command.Command.{Command}
use Rattle.numa_requests.specs.declared.host_command.HostCommand.{HostCommand}
use Rattle.numa_requests.specs.declared.page_refusal.PlacedRefusal.TheVariants as cause
use Rattle.numa_requests.specs.declared.refusal.Refusal.{Refusal}
use Rattle.numa_host.specs.Processes.{commands_of, is_there, members_of}
use Rattle.numa_host.specs.Standing.{HostStandsFor, IsSpaceOf}
use Rattle.numa_host_pages.specs.Homes.{HostLying, pages_in}
use Rattle.numa_host_pages.specs.Homes.{memory_of, pages_lent}
use Rattle.numa_host_pages.specs.Standing.{HostLies}
use Rattle.numa_placed.specs.declared.spot.Spot.{Spot}
use Rattle.numa_huge.specs.Moves.{HugeMemory}
use Rattle.numa_host_huge.specs.Sharing.{astray_in}
use Rattle.numa_page_state.specs.Lying.{Lying, Process, nothing}
use Rattle.numa_page_state.specs.Lying.{process_in as process_by}
use Rattle.numa_page_state.specs.Outcomes.{Enough, Lack, Starved}
use Rattle.numa_page_state.specs.Sending.{rebinding_in}
use Rattle.numa_page_state.specs.Strict.{has_astray, held_astray, is_late, judged_of}
use Rattle.numa_page_state.specs.Strict.{strict_binding_in}
use Rattle.numa_page_state.specs.declared.binding.Binding.{Binding}
use Rattle.numa_page_state.proofs.Judging.{none-astray}
use Rattle.numa_script.specs.declared.page_line.BoundPages.{BoundPages}
use Rattle.numa_script.specs.declared.page_line.BoundPages.TheVariants as bound
use Rattle.numa_script.specs.declared.page_line.MoveWords.{MoveWords}
use Rattle.numa_script.specs.declared.policy.WordError.{WordError}
use Rattle.numa_script.specs.declared.reply.Reply.{Reply}
use Rattle.numa_script.specs.declared.reply.Reply.TheVariants as reply
use Rattle.numa_run.specs.Obeying.{any_astray, bound_command}
use Rattle.numa_run.specs.Replies.{reply_in}
use Rattle.numa_host_script.specs.Hosts.{Hosting, HostLack, Outcome, process_outcome, with_reply}
use Rattle.numa_host_script.specs.Paging.{astray_outcome, bound_by, bound_outcome, bound_where}
use Rattle.numa_host_script.specs.Paging.{judged_by, memory_at, moved_by, own_cause, pages_at}
use Rattle.numa_host_script.specs.Paging.{pages_reply}
use Rattle.numa_host_script.specs.Paging.{takes_more}
use Rattle.numa_host_script.specs.Standing.{Replies, RepliesThere}
use Rattle.numa_host_script.specs.Standing.{RunsAs, hosting_with}
use Rattle.numa_host_script.specs.declared.running.RunningHost.{RunningHost}
use Rattle.numa_host_script.proofs.Lent.{lent-none, lent-some}
use Rattle.numa_host_script.proofs.Spaces.{own-space, same-process}
use Rattle.numa_host_script.proofs.Unmapped.{cause-alike, cause-some, flag}

-- ---- whether pages lie astray

module _ (space : SpaceState) (history : List Command) (process : ℕ) (at : HostLying)
    (binding : Binding) where
  abbrev strays : Lying → Bool
  strays lying = has_astray (process_by space history []) lying.spots binding

  none-strays : strays nothing ≡ false
  none-strays = ap (λ (b : Bool). b || held_astray [] (page_of binding.start)
      (judged_of (process_by space history []) binding) binding.list)
      (none-astray space.machine.rules (page_in space.machine history) binding.start
      binding.length binding.list)

  pub astray-none : pages_in process at.homes ≡ None → false ≡ strays (pages_lent process at)
  astray-none none = sym (ap (λ (l : Lying). strays l) (lent-none process at none) ∙ none-strays)

  pub astray-some : (lying : Lying) → pages_in process at.homes ≡ Some lying → (astray : Bool)
      → astray ≡ strays lying → astray ≡ strays (pages_lent process at)
  astray-some lying is astray found =
      found ∙ sym (ap (λ (l : Lying). strays l) (lent-some process at lying is))

or-end : (b : Bool) → (b || false) ≡ b
or-end true = refl
or-end false = refl

-- and of either size
pub astray-both : (memory : Option HugeMemory) (process : Process) (spots : ℕ → Spot)
    (binding : Binding) (small huge : Bool) → small ≡ has_astray process spots binding
    → huge ≡ astray_in memory process binding
    → (small || huge) ≡ any_astray memory process spots binding
astray-both None process spots binding small huge one other =
    (λ i. one i || other i) ∙ or-end (has_astray process spots binding)
astray-both (Some memory) process spots binding small huge one other = λ i. one i || other i

-- ---- a process that is there

-- a process takes more only where it is there
pub nobody-takes : (at : Hosting) (process : ℕ)
    → is_there (members_of at.history) process ≡ false → takes_more at process ≡ true → ⊥
nobody-takes at process gone more =
    both_ways (is_there (members_of at.history) process) gone
    (and_parts (is_there (members_of at.history) process)
    (not (nat_le at.bounds.max_commands (length at.history))) more).0

pub nobody-more : (at : Hosting) (process : ℕ) → is_there (members_of at.history) process ≡ false
    → false ≡ takes_more at process
nobody-more at process gone =
    λ i. sym gone i && not (nat_le at.bounds.max_commands (length at.history))

pub more-taken : (at : Hosting) (process : ℕ) (spent : Bool)
    → is_there (members_of at.history) process ≡ true
    → spent ≡ nat_le at.bounds.max_commands (length at.history)
    → not spent ≡ takes_more at process
more-taken at process spent there same = λ i. sym there i && not (same i)

-- where nobody is there, nothing is owed
pub nobody-replies : (old new : RunningHost) (answer : Reply) (process : ℕ)
    (outcome : HostLack → Hosting → Outcome)
    → ((history : List HostCommand) → HostStandsFor old.host history
    → is_there (members_of history) process ≡ false)
    → RepliesThere old answer new process outcome
nobody-replies old new answer process outcome nobody = λ at stands more.
    absurd (nobody-takes at process (nobody at.history stands.stands) more)

-- ---- mbind .. strict

-- what it comes to, by what is known of it
pub alike : (answer : Reply) (new : RunningHost) (at : Hosting)
    (outcome : HostLack → Hosting → Outcome) (lack : HostLack) (other : Outcome)
    → outcome lack at ≡ other
    → Some answer ≡ reply_in other.answer → RunsAs new (hosting_with at other)
    → (l : HostLack) × (Some answer ≡ reply_in (outcome l at).answer)
    × RunsAs new (hosting_with at (outcome l at))
alike answer new at outcome lack other is told runs = (
  lack,
  told ∙ sym (ap (λ (o : Outcome). reply_in o.answer) is),
  subst (λ (o : Outcome). RunsAs new (hosting_with at o)) (sym is) runs,
)

late-where : (rules : Rules) (first : Option Refusal) → is_late rules first ≡ false
    → is_some first ≡ true
late-where rules None late = cc
late-where rules (Some refusal) late = refl

module _ (old : RunningHost) (process : ℕ) (command : Command) where
  abbrev pub plainly : HostLack → Hosting → Outcome
  plainly lack at = process_outcome lack.lacked at process command

  abbrev pub judges : HostLack → Hosting → Outcome
  judges lack at = judged_by (strict_binding_in command) lack.lacked at process command

  -- no page may refuse it
  pub judged-none : (new : RunningHost) (answer : Reply) → strict_binding_in command ≡ None
      → Replies old answer new plainly → RepliesThere old answer new process judges
  judged-none new answer none serves = λ at stands more.
      let s = serves at stands in
      alike answer new at judges s.0 (plainly s.0 at)
      (ap (λ (b : Option Binding). judged_by b s.0.lacked at process command) none) s.1 s.2

  module _ (binding : Binding) (sets : strict_binding_in command ≡ Some binding)
      (space : SpaceState)
      (owns : (history : List HostCommand) → HostStandsFor old.host history
      → (is_there (members_of history) process ≡ true)
      × IsSpaceOf old.host.blank.machine old.host.blank.bounds
      (commands_of old.host.blank.machine history process) space)
      (astray : Bool)
      (found : (at : HostLying) (history : List Command) → HostLies old.pages at
      → StandsFor space history
      → astray ≡ any_astray (memory_of process at) (process_by space history [])
      (pages_lent process at).spots binding) where
    own-at : (at : Hosting) → RunsAs old at
        → IsSpaceOf at.machine at.bounds (commands_of at.machine at.history process) space
    own-at at stands = own-space old.host at process space stands.machine stands.bounds
        (owns at.history stands.stands).1

    abbrev by_astray : Bool → Lack → Hosting → Outcome
    by_astray b lacked at = if b then astray_outcome lacked at process command
        else process_outcome lacked at process command

    judged-is : (lacked : Lack) (at : Hosting) → RunsAs old at
        → judges (flag lacked) at ≡ by_astray astray lacked at
    judged-is lacked at stands =
        ap (λ (b : Option Binding). judged_by b lacked at process command) sets
        ∙ ap (λ (b : Bool). by_astray b lacked at)
        (ap (λ (p : Process). any_astray (memory_at at process) p (pages_at at process).spots
        binding)
        (sym (same-process old.host at process space stands.machine stands.bounds
        (owns at.history stands.stands).1 [] refl))
        ∙ sym (found at.lying (commands_of at.machine at.history process) stands.lies
        (own-at at stands).stands))

    -- no page lies astray
    pub judged-fair : (new : RunningHost) (answer : Reply) → astray ≡ false
        → Replies old answer new plainly → RepliesThere old answer new process judges
    judged-fair new answer fair serves = λ at stands more.
        let s = serves at stands in
        alike answer new at judges (flag s.0.lacked) (plainly s.0 at)
        (judged-is s.0.lacked at stands ∙ ap (λ (b : Bool). by_astray b s.0.lacked at) fair)
        s.1 s.2

    module _ (is : astray ≡ true) where
      judged-astray : (lacked : Lack) (at : Hosting) → RunsAs old at
          → judges (flag lacked) at ≡ astray_outcome lacked at process command
      judged-astray lacked at stands = judged-is lacked at stands
          ∙ ap (λ (b : Bool). by_astray b lacked at) is

      -- memory lacks for the trial
      pub judged-starved : RepliesThere old (pages_reply cause.NoMemory) old process judges
      judged-starved = λ at stands more.
          alike (pages_reply cause.NoMemory) old at judges (flag Starved)
          (with_reply (pages_reply cause.NoMemory) at) (judged-astray Starved at stands) refl stands

      module _ (late : Bool)
          (tried : (history : List Command) → StandsFor space history
          → late ≡ is_late space.machine.rules (refusal_of space.machine space.bounds history
          command)) where
        is-late : (at : Hosting) → RunsAs old at
            → is_late at.machine.rules (own_cause at process command) ≡ late
        is-late at stands =
            let own = own-at at stands in
            sym (tried (commands_of at.machine at.history process) own.stands
            ∙ (λ i. is_late (own.machine i).rules (refusal_of (own.machine i) (own.bounds i)
            (commands_of at.machine at.history process) command)))

        late-is : (at : Hosting) → RunsAs old at → judges (flag Enough) at
            ≡ (if late then with_reply (pages_reply cause.Astray) at
            else process_outcome Enough at process command)
        late-is at stands = judged-astray Enough at stands
            ∙ ap (λ (b : Bool). if b then with_reply (pages_reply cause.Astray) at
            else process_outcome Enough at process command) (is-late at stands)

        -- the pages are judged before what stands against the command
        pub judged-late : late ≡ true
            → RepliesThere old (pages_reply cause.Astray) old process judges
        judged-late yes_late = λ at stands more.
            alike (pages_reply cause.Astray) old at judges (flag Enough)
            (with_reply (pages_reply cause.Astray) at)
            (late-is at stands ∙ ap (λ (b : Bool).
            if b then with_reply (pages_reply cause.Astray) at
            else process_outcome Enough at process command) yes_late) refl stands

        pub judged-early : (new : RunningHost) (answer : Reply) → late ≡ false
            → Replies old answer new plainly → RepliesThere old answer new process judges
        judged-early new answer early serves = λ at stands more.
            let s = serves at stands in
            let some = cause-some at.machine at.bounds at.history process command
            (late-where at.machine.rules (own_cause at process command)
            (is-late at stands ∙ early)) in
            alike answer new at judges (flag Enough) (plainly s.0 at)
            (late-is at stands ∙ ap (λ (b : Bool).
            if b then with_reply (pages_reply cause.Astray) at
            else process_outcome Enough at process command) early
            ∙ sym (cause-alike s.0.lacked at process command some)) s.1 s.2

-- ---- every mbind with words behind its policy

module _ (old : RunningHost) (process : ℕ) (pages : BoundPages) (start bytes : ℕ)
    (policy : Result Specification WordError) (found : Result Command WordError)
    (is : found ≡ bound_command old.host.blank.machine.rules start bytes policy) where
  abbrev pub binds : HostLack → Hosting → Outcome
  binds lack at = bound_outcome lack.lacked at process pages
      (bound_command at.machine.rules start bytes policy)

  bound-is : (lack : HostLack) (at : Hosting) → RunsAs old at
      → binds lack at ≡ bound_outcome lack.lacked at process pages found
  bound-is lack at stands =
      ap (λ (r : Result Command WordError). bound_outcome lack.lacked at process pages r)
      (ap (λ (m : Hardware). bound_command m.rules start bytes policy) (sym stands.machine)
      ∙ sym is)

  -- a fault of the policy
  pub bound-fault : (fault : WordError) → found ≡ Err fault
      → Replies old (reply.BadWord fault) old binds
  bound-fault fault fails = λ at stands.
      alike (reply.BadWord fault) old at binds (flag Enough) (with_reply (reply.BadWord fault) at)
      (bound-is (flag Enough) at stands ∙ ap (λ (r : Result Command WordError).
      bound_outcome Enough at process pages r) fails) refl stands

  module _ (new : RunningHost) (answer : Reply) (command : Command) (so : found ≡ Ok command)
      (more : Bool) (takes : (at : Hosting) → RunsAs old at → more ≡ takes_more at process)
    where
      bound-here : (lack : HostLack) (at : Hosting) → RunsAs old at
          → binds lack at ≡ bound_where more pages lack.lacked at process command
      bound-here lack at stands = bound-is lack at stands
          ∙ ap (λ (r : Result Command WordError). bound_outcome lack.lacked at process pages r) so
          ∙ ap (λ (b : Bool). bound_where b pages lack.lacked at process command)
          (sym (takes at stands))

      -- nobody is there, or the host takes no more commands
      pub bound-spent : more ≡ false
          → Replies old answer new (λ lack at. process_outcome lack.lacked at process command)
          → Replies old answer new binds
      bound-spent spent serves = λ at stands.
          let s = serves at stands in
          alike answer new at binds s.0 (process_outcome s.0.lacked at process command)
          (bound-here s.0 at stands
          ∙ ap (λ (b : Bool). bound_where b pages s.0.lacked at process command) spent) s.1 s.2

      bound-there : more ≡ true
          → RepliesThere old answer new process
          (λ lack at. bound_by pages lack.lacked at process command)
          → Replies old answer new binds
      bound-there free serves = λ at stands.
          let s = serves at stands (sym (takes at stands) ∙ free) in
          alike answer new at binds s.0 (bound_by pages s.0.lacked at process command)
          (bound-here s.0 at stands
          ∙ ap (λ (b : Bool). bound_where b pages s.0.lacked at process command) free) s.1 s.2

      pub bound-strict : more ≡ true → pages ≡ bound.Strict
          → RepliesThere old answer new process (λ lack at. judged_by (strict_binding_in command)
          lack.lacked at process command)
          → Replies old answer new binds
      bound-strict free strict serves = bound-there free
          (subst (λ (p : BoundPages). RepliesThere old answer new process
          (λ lack at. bound_by p lack.lacked at process command)) (sym strict) serves)

      pub bound-moving : (words : MoveWords) → more ≡ true → pages ≡ bound.Move words
          → RepliesThere old answer new process (λ lack at. moved_by (rebinding_in command)
          lack.lacked at process command words)
          → Replies old answer new binds
      bound-moving words free moves serves = bound-there free
          (subst (λ (p : BoundPages). RepliesThere old answer new process
          (λ lack at. bound_by p lack.lacked at process command)) (sym moves) serves)
