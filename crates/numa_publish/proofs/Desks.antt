-- What a desk keeps, from call to call.
use Rattle.std.proofs.Common.{◌≡◌, ◌⊎◌, ℕ, ◌<◌, Option, Some, None, MatchOption, List, [], ◌∷◌}
use Rattle.std.proofs.Common.{◌++◌, length, reverse, refl, sym, ap, ◌∙◌, subst, inl, inr}
use Rattle.std.proofs.Common.{arith}
use Rattle.std.proofs.lemmas.List.{length-reverse, reverse-append}
use Rattle.logbook.specs.Pages.{Book}
use Rattle.numa_requests.specs.declared.command.Command.{Command}
use Rattle.numa_requests.specs.declared.refusal.Refusal.{Refusal}
use Rattle.numa_space.specs.Standing.{SpaceState, StandsFor}
use Rattle.numa_publish.specs.declared.batch.Batch.{Batch}
use Rattle.numa_publish.specs.declared.issue.Notice.{Notice}
use Rattle.numa_publish.specs.Batches.{batch_of, history_of}
use Rattle.numa_publish.specs.Boards.{desk_in}
use Rattle.numa_publish.proofs.Lists.{history-snoc}
use Rattle.numa_publish.specs.Kept.{IsDeskKept, IsNoticeOf}
use Rattle.numa_publish.specs.Shown.{DeskState, and_newest}

-- a refusal is that of the history, or want of memory
pub answered : (first : Option Refusal) (refusal : Refusal)
    → MatchOption first (refusal ≡ Refusal.NoMemory) (λ f. refusal ≡ f)
    → (refusal ≡ Refusal.NoMemory) ⊎ (first ≡ Some refusal)
answered None refusal e = inl e
answered (Some f) refusal e = inr (ap Some (sym e))

-- a desk that differs by one pending command more
pub with_pending : (old new now : DeskState) (command : Command) → old ≡ now → new.desk ≡ old.desk
    → new.bounds ≡ old.bounds → new.published ≡ old.published → new.versions ≡ old.versions
    → new.pending ≡ command ∷ old.pending
    → new ≡ record now { pending = command ∷ now.pending }
with_pending old new now command is desk bounds published versions pending =
    subst (λ (d : DeskState). new ≡ record d { pending = command ∷ d.pending }) is (λ i. record {
      desk = desk i;
      bounds = bounds i;
      published = published i;
      versions = versions i;
      pending = pending i;
    })

-- one command more waits
pub accepted_kept : (space space' : SpaceState) (notice : Notice) (log : List Batch) (book : Book)
    (commands : List Command) (c : Command) (commands' : List Command)
    → IsDeskKept space notice log book commands → commands' ≡ commands ++ c ∷ []
    → StandsFor space' (c ∷ (reverse commands ++ history_of log))
    → space'.machine ≡ space.machine
    → IsDeskKept space' notice log book commands'
accepted_kept space space' notice log book commands c commands' h e stands machine =
    let turned : reverse commands' ≡ c ∷ reverse commands = ap reverse e
    ∙ reverse-append commands (c ∷ []) in
    record {
      stands = subst (λ (w : List Command). StandsFor space' (w ++ history_of log)) (sym turned)
          stands;
      shown = record {
        machine_is = h.shown.machine_is ∙ sym machine;
        book_is = h.shown.book_is;
        log_is = h.shown.log_is;
      };
    }

-- the desk that a notice tells of
pub told_of : (space : SpaceState) (log : List Batch) (book : Book) (notice : Notice)
    → IsNoticeOf space log book notice
    → desk_in notice ≡ record { book = book; machine = space.machine }
told_of space log book notice h = λ i. record { book = h.book_is i; machine = h.machine_is i }

-- a log with the commands that were pending
pub whole : (log : List Batch) (commands : List Command)
    → history_of (log ++ batch_of commands ∷ []) ≡ reverse commands ++ history_of log
whole log commands = history-snoc log (batch_of commands)

-- a desk that shows all that was accepted
pub next_kept : (space : SpaceState) (notice next : Notice) (log : List Batch) (book : Book)
    (commands : List Command) → IsDeskKept space notice log book commands
    → IsNoticeOf space (log ++ batch_of commands ∷ []) book next
    → IsDeskKept space next (log ++ batch_of commands ∷ []) book []
next_kept space notice next log book commands h then = record {
  stands = subst (λ (w : List Command). StandsFor space w) (sym (whole log commands)) h.stands;
  shown = then;
}

-- where commands are pending there is a version more
pub newest_in : (pending : List Command) (version : ℕ) (versions : List ℕ) → 0 < length pending
    → and_newest (reverse pending) version versions ≡ version ∷ versions
newest_in pending version versions some =
    in_front (reverse pending) (omega (arith, some, length-reverse pending))
  where
    in_front : (list : List Command) → 0 < length list → and_newest list version versions ≡ version
        ∷ versions
    in_front [] l = absurd (omega arith)
    in_front (command ∷ list) l = refl
