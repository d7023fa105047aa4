-- What a writer without bytes has at the end is what was said to it.
use Rattle.std.specs.Prelude.{◌≡◌, ℕ, ◌++◌, Bool, true, false, Option, Some, List, []}
use Rattle.std.specs.Prelude.{if◌then◌else◌}
use Rattle.std.proofs.Common.{refl, sym, ap, ◌∙◌, subst}
use Rattle.std.proofs.lemmas.List.{append-nil}
use Rattle.std.specs.Io.KnownBytes.{Appends}
use Rattle.numa_lines.specs.Watching.{has_failed, held_in, unsent}
use Rattle.numa_lines.specs.Written.{IsSaid, Said, SaidNothing}
use Rattle.numa_lines.specs.declared.watched.Watched.{Watched}

held-none : (failed : Bool) (held : List ℕ) → failed ≡ false → (if failed then [] else held) ≡ []
    → held ≡ []
held-none true held f h = cc
held-none false held f h = h

begun : (now : Option (List ℕ)) (failed : Bool) (held : List ℕ) → now ≡ Some [] → failed ≡ false
    → held ≡ [] → IsSaid (Some []) now failed held []
begun now true held n f h = cc
begun now false held n f h = ([], subst (λ x. Appends (Some []) x []) (sym n) refl, sym h)

ended : (now : Option (List ℕ)) (failed : Bool) (held text items : List ℕ) → now ≡ Some items
    → failed ≡ false → held ≡ [] → IsSaid (Some []) now failed held text → items ≡ text
ended now true held text items n f h is = cc
ended now false held text items n f h (sent, a, e) = subst (λ x. Appends (Some []) x sent) n a
    ∙ sym (append-nil sent) ∙ ap (λ l. sent ++ l) (sym h) ∙ sym e

pub all-kept : {W : Type 0} (from served last : Watched W) (contents : W → Option (List ℕ))
    (items text : List ℕ)
    → contents from.inner ≡ Some [] → contents last.inner ≡ Some items → has_failed from ≡ false
    → unsent from ≡ [] → has_failed last ≡ false → held_in last ≡ []
    → Said contents from served text → SaidNothing contents served last → items ≡ text
all-kept from served last contents items text n m f u g h said still =
    ended (contents last.inner) (has_failed last) (held_in last) text items m g h
    (still (Some []) text
    (said (Some []) [] (begun (contents from.inner) (has_failed from) (held_in from) n f
    (held-none (has_failed from) (held_in from) f u))))
