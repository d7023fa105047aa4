-- What was said by one call after the other.
use Rattle.std.specs.Prelude.{◌≡◌, ℕ, ◌++◌, Bool, true, false, Option, List, []}
use Rattle.std.proofs.Common.{sym, subst, append_assoc}
use Rattle.std.proofs.lemmas.List.{append-nil}
use Rattle.numa_lines.specs.Watching.{has_failed, held_in}
use Rattle.numa_lines.specs.Written.{IsSaid, Says, Said, SaidNothing}
use Rattle.numa_lines.specs.declared.watched.Watched.{Watched}
use Rattle.numa_lines.proofs.Fronts.{front_widen}

lost : (now : Option (List ℕ)) (failed : Bool) (held : List ℕ) (start : Option (List ℕ))
    (said more : List ℕ) → failed ≡ true → IsSaid start now failed held said
    → IsSaid start now failed held (said ++ more)
lost now true held start said more e is = front_widen start now said more is
lost now false held start said more e is = cc

module _ {W : Type 0} (contents : W → Option (List ℕ)) where
  -- two texts
  pub said_both : (old mid new : Watched W) (xs ys : List ℕ) → Said contents old mid xs
      → Said contents mid new ys → Said contents old new (xs ++ ys)
  said_both old mid new xs ys first second start said is =
      subst (Says contents start new) (append_assoc said xs ys)
      (second start (said ++ xs) (first start said is))

  -- nothing
  pub said_nothing : (old : Watched W) → Said contents old old []
  said_nothing old start said is = subst (Says contents start old) (sym (append-nil said)) is

  -- a text, and then nothing more
  pub said_still : (old mid new : Watched W) (text : List ℕ) → Said contents old mid text
      → SaidNothing contents mid new → Said contents old new text
  said_still old mid new text first still start said is =
      still start (said ++ text) (first start said is)

  -- the same text, written otherwise
  pub said_same : (old new : Watched W) (xs ys : List ℕ) → xs ≡ ys → Said contents old new xs
      → Said contents old new ys
  said_same old new xs ys e = subst (Said contents old new) e

  -- a text, after which nothing more is written
  pub said_lost : (old new : Watched W) (text more : List ℕ) → has_failed new ≡ true
      → Said contents old new text → Said contents old new (text ++ more)
  said_lost old new text more failed first start said is =
      subst (λ l. Says contents start new l) (append_assoc said text more)
      (lost (contents new.inner) (has_failed new) (held_in new) start (said ++ text) more failed
      (first start said is))
