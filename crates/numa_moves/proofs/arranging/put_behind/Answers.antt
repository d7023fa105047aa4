use Rattle.std.proofs.Common.{◌≡◌, ◌∙◌, ◌+◌, ℕ, List, ◌++◌, [], ◌∷◌, ap, append-nil, arith, drop}
use Rattle.std.proofs.Common.{get_or, Option, Some, suc, sym, take}
use Rattle.std.specs.List.{position}
use Rattle.numa_moves.specs.Held.{first_of, without_first}
use Rattle.numa_moves.specs.declared.holding.Holding.{Holding}
use Rattle.numa_moves.proofs.Arranged.{IsPlaceOf, is_of, position-none, position-some}
use Rattle.numa_moves.proofs.arranging.put_behind.Goals as goal

-- what is searched
abbrev read_in : ℕ → List Holding → Option ℕ
read_in process items = position (is_of process) items

pub returns-in_default-clause-taken : goal.returns-in_default-clause-taken
returns-in_default-clause-taken c =
    sym (position-none c.args.holdings.now.items c.args.process
    (ap (read_in c.args.process) (sym c.deref.ensures.value)
    ∙ sym c.place_of.ensures ∙ c.in_default.is)).1

pub returns-in_default-clause-put : goal.returns-in_default-clause-put
returns-in_default-clause-put c =
    sym (append-nil c.args.others.now.items)
    ∙ ap (λ (l : List Holding). c.args.others.now.items ++ l)
    (sym (position-none c.args.holdings.now.items c.args.process
    (ap (read_in c.args.process) (sym c.deref.ensures.value)
    ∙ sym c.place_of.ensures ∙ c.in_default.is)).0)

-- where it is found
module _ (items read : List Holding) (process place : ℕ) (found : Option ℕ) (same : read ≡ items)
    (is : found ≡ read_in process read) (some : found ≡ Some place) where
  at : IsPlaceOf items process place
  at = position-some items process place (ap (read_in process) (sym same) ∙ sym is ∙ some)

  taken : (left : List Holding) → left ≡ take place items ++ drop (place + 1) items
      → left ≡ without_first process items
  taken left is_left =
      let one : place + 1 ≡ suc place = omega arith in
      is_left ∙ ap (λ (n : ℕ). take place items ++ drop n items) one ∙ sym at.left

  put : (holding : Holding) (old new : List Holding) → holding ≡ get_or items place holding
      → new ≡ old ++ holding ∷ [] → new ≡ old ++ first_of process items
  put holding old new value pushed =
      pushed ∙ ap (λ (h : Holding). old ++ h ∷ []) value
      ∙ ap (λ (l : List Holding). old ++ l) (sym (at.first holding))

pub returns-in_err-push-clause-taken : goal.returns-in_err-push-clause-taken
returns-in_err-push-clause-taken c =
    taken c.args.holdings.now.items c.deref.result.now c.args.process c.in-Some.place
    c.place_of.result c.deref.ensures.value c.place_of.ensures c.in-Some.is
    c.remove-holding.new.self.items c.remove-holding.ensures.by_index.2

pub returns-clause-taken : goal.returns-clause-taken
returns-clause-taken c =
    taken c.args.holdings.now.items c.deref.result.now c.args.process c.in-Some.place
    c.place_of.result c.deref.ensures.value c.place_of.ensures c.in-Some.is
    c.remove-holding.new.self.items c.remove-holding.ensures.by_index.2

pub returns-clause-put : goal.returns-clause-put
returns-clause-put c =
    put c.args.holdings.now.items c.deref.result.now c.args.process c.in-Some.place
    c.place_of.result c.deref.ensures.value c.place_of.ensures c.in-Some.is
    c.remove-holding.result c.args.others.now.items c.push.new.self.items
    c.remove-holding.ensures.value c.in_ok-push.ensures.items
