use Rattle.std.proofs.Common.{◌≡◌, ◌<◌, ◌∷◌, List, [], refl, rules, length, reverse, sym, ap, ◌∙◌}
use borrow.Author.Tests.{tests}
use Rattle.numa_requests.specs.declared.command.Command.{Command}
use Rattle.numa_publish.specs.declared.issue.Shown.{Shown}
use Rattle.numa_publish.specs.Batches.{batch_of, history_of, versions_of}
use Rattle.numa_publish.specs.Boards.{desk_told}
use Rattle.numa_publish.specs.Shown.{DeskState, accepted_commands, versions_after}
use Rattle.numa_publish.proofs.Lists.{no_length}
use Rattle.numa_publish.proofs.Logs.{versions-snoc}
use Rattle.numa_publish.proofs.Desks.{newest_in, next_kept, told_of, whole}
use Rattle.numa_publish.proofs.desk.Desk.publish.Goals as goal

pub returns-then-is_empty : goal.returns-then-is_empty
returns-then-is_empty c =
    let none : c.self.inside.pending.items ≡ [] = no_length _ (search (tests, rules)) in
    record {
      ok = rw (← c.self.view_is, none) (refl, refl);
      receipt = c.receipt.ensures;
      versions = rw (← c.self.view_is, none) refl;
      desk = (refl, refl);
      unchanged = tt;
    }

pub invariant_of-self : goal.invariant_of-self
invariant_of-self c = c.self.invariant

pub returns-in_default : goal.returns-in_default
returns-in_default c = record {
  ok = tt;
  receipt = tt;
  versions = tt;
  desk = (
    ap (λ (d : DeskState). d.desk) c.self.view_is,
    ap (λ (d : DeskState). d.bounds) c.self.view_is,
  );
  unchanged = c.self.view_is;
}

pub show_next-requires-clause-some : goal.show_next-requires-clause-some
show_next-requires-clause-some c = search (tests, rules)

pub show_next-requires-clause-here : goal.show_next-requires-clause-here
show_next-requires-clause-here c = c.self.invariant.1 ∙ told_of _ _ _ _ c.self.invariant.0.shown

pub invariant_of-self-in_default-show_next : goal.invariant_of-self-in_default-show_next
invariant_of-self-in_default-show_next c =
    rw (c.in_default-show_next.ensures.unchanged, c.show_next.ensures.space) c.self.invariant

pub returns-in_default-show_next : goal.returns-in_default-show_next
returns-in_default-show_next c = record {
  ok = tt;
  receipt = tt;
  versions = tt;
  desk =
      rw (
        c.in_default-show_next.ensures.unchanged,
        c.show_next.ensures.space,
        ← c.self.view_is,
      ) (refl, refl);
  unchanged = rw (c.in_default-show_next.ensures.unchanged, c.show_next.ensures.space)
      c.self.view_is;
}

pub invariant_of-self-2 : goal.invariant_of-self-2
invariant_of-self-2 c =
    let next = c.in-Ok-show_next.ensures.next in
    let after = c.replace.ensures.after in (
      rw (after, c.clear.ensures.items, c.show_next.ensures.space, next.log_is, next.book_is)
          (next_kept _ _ _ _ _ _ c.self.invariant.0 next.notice_is),
      c.self.invariant.1 ∙ (told_of _ _ _ _ c.self.invariant.0.shown
          ∙ (sym (told_of _ _ _ _ next.notice_is) ∙ ap desk_told (sym after))),
      c.in-Ok-show_next.ensures.turned ∙ ap (λ (s : Shown). s.front) (sym after),
    )

pub returns : goal.returns
returns c =
    let next = c.in-Ok-show_next.ensures.next in
    let log = c.self.inside.log.seen.log in
    let pending = c.self.inside.pending.items in
    let some : 0 < length c.self.inside.pending.items = search (tests, rules) in
    record {
      ok = (
        ap history_of next.log_is ∙ (whole log pending ∙ ap accepted_commands c.self.view_is),
        ap (λ (w : List Command). reverse w) c.clear.ensures.items,
      );
      receipt = c.receipt-2.ensures;
      versions =
          ap versions_of next.log_is ∙ (versions-snoc log (batch_of pending)
          ∙ (ap (λ (h : List Command). length h ∷ versions_of log) (whole log pending)
          ∙ (sym (newest_in pending _ _ some) ∙ ap versions_after c.self.view_is)));
      desk = rw (next.book_is, c.show_next.ensures.space, ← c.self.view_is) (refl, refl);
      unchanged = tt;
    }
