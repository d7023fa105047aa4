use Rattle.std.proofs.Common.{◌≡◌, ◌∙◌, ◌==◌, ◌∷◌, List, Some, None, ap, refl, sym, true}
use Rattle.std.specs.List.{list_any}
use Rattle.numa_sheets.specs.declared.asked.FreePages.{FreePages}
use Rattle.numa_command_line.specs.Jobs.{Text}
use Rattle.numa_command_line.specs.Values.{free_in, frees_from}
use Rattle.numa_command_line.proofs.words.free.read.Goals as goal

-- a node that is named already is named once too often
named_twice : (named : List FreePages) (left rest : List Text) (part : Text) (one : FreePages)
    → left ≡ part ∷ rest → free_in part ≡ Some one
    → list_any (λ other. other.node == one.node) named ≡ true → frees_from named left ≡ None
named_twice named left rest part one steps is again = rw (steps, is, again) refl

pub returns-then-has : goal.returns-then-has
returns-then-has c =
    let again : list_any (λ other. other.node == c.in-Some-one.one.node) c.loop-part.named.items
    ≡ true =
    ap (list_any (λ other. other.node == c.in-Some-one.one.node)) (sym c.deref.ensures.value)
    ∙ (sym c.has.ensures ∙ c.if-has.true) in
    sym (c.loop-part.invariant ∙ named_twice c.loop-part.named.items _ _ c.in-Some.part.now
    c.in-Some-one.one c.in-Some.ensures.steps (sym c.one.ensures ∙ c.in-Some-one.is) again)
