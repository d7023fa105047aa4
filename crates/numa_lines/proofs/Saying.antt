-- What holding back, sending and flushing do to what was said.
use Rattle.std.specs.Prelude.{◌≡◌, ℕ, ◌++◌, Bool, true, false, Option, List, [], refl}
use Rattle.std.proofs.Common.{sym, ◌∙◌, ap, subst, append_assoc}
use Rattle.std.proofs.lemmas.List.{append-nil}
use Rattle.std.proofs.KnownBytes.{Appends-trans, Appends-nil}
use Rattle.numa_lines.specs.Watching.{has_failed, held_in}
use Rattle.numa_lines.specs.Written.{AppendsFront, IsAppended, IsSaid, IsSent, Said, SaidNothing}
use Rattle.numa_lines.specs.declared.watched.Watched.{Watched}
use Rattle.numa_lines.proofs.Fronts.{front_widen, front_after}

-- one more text, which is held back
pub says_more : (start now : Option (List ℕ)) (failed : Bool) (held said text : List ℕ)
    → IsSaid start now failed held said → IsSaid start now failed (held ++ text) (said ++ text)
says_more start now true held said text is = front_widen start now said text is
says_more start now false held said text (sent, h, e) =
    (sent, h, ap (λ l. l ++ text) e ∙ append_assoc sent held text)

-- what was held back is sent
pub says_flushed : (start old new : Option (List ℕ)) (before after : Bool) (held said : List ℕ)
    → IsAppended before old after new held → IsSaid start old before held said
    → IsSaid start new after [] said
says_flushed start old new true true held said (e, same) is = subst (λ n. AppendsFront start n said)
    (sym same) is
says_flushed start old new true false held said (e, same) is = cc
says_flushed start old new false true held said (front, rest, f, g) (sent, h, e) = (
  sent ++ front,
  rest,
  Appends-trans start old new sent front h f,
  e ∙ ap (λ l. sent ++ l) g
      ∙ sym (append_assoc sent front rest),
)
says_flushed start old new false false held said f (sent, h, e) =
    (sent ++ held, Appends-trans start old new sent held h f, e ∙ sym (append-nil (sent ++ held)))

-- a text is sent where nothing is held back
pub says_sent : (start old new : Option (List ℕ)) (before after : Bool) (said text : List ℕ)
    → IsAppended before old after new text → IsSaid start old before [] said
    → IsSaid start new after [] (said ++ text)
says_sent start old new true true said text (e, same) is =
    subst (λ n. AppendsFront start n (said ++ text)) (sym same) (front_widen start old said text is)
says_sent start old new true false said text (e, same) is = cc
says_sent start old new false true said text front (sent, h, e) =
    subst (λ l. AppendsFront start new (l ++ text)) (sym (e ∙ append-nil sent))
    (front_after start old new sent text h front)
says_sent start old new false false said text f (sent, h, e) = (
  sent ++ text,
  Appends-trans start old new sent text h f,
  ap (λ l. l ++ text) (e ∙ append-nil sent) ∙ sym (append-nil (sent ++ text)),
)

module _ {W : Type 0} (contents : W → Option (List ℕ)) where
  -- the writer has the same bytes, and holds the same back
  pub said_unchanged : (old new : Watched W) → new.inner ≡ old.inner
      → has_failed new ≡ has_failed old → held_in new ≡ held_in old → SaidNothing contents old new
  said_unchanged old new same failed held start said is =
      subst (λ w. IsSaid start (contents w) (has_failed new) (held_in new) said) (sym same)
      (subst (λ f. IsSaid start (contents old.inner) f (held_in new) said) (sym failed)
      (subst (λ h. IsSaid start (contents old.inner) (has_failed old) h said) (sym held) is))

  -- a text is sent where nothing is held back
  pub said_sent : (old mid new : Watched W) (text : List ℕ) → SaidNothing contents old mid
      → held_in mid ≡ [] → IsSent contents mid new text → held_in new ≡ held_in mid
      → Said contents old new text
  said_sent old mid new text still none sent same start said is =
      subst (λ h. IsSaid start (contents new.inner) (has_failed new) h (said ++ text))
      (sym (same ∙ none))
      (says_sent start (contents mid.inner) (contents new.inner) (has_failed mid) (has_failed new)
      said text sent
      (subst (λ h. IsSaid start (contents mid.inner) (has_failed mid) h said) none
      (still start said is)))

-- nothing was said yet
pub says_held : (now : Option (List ℕ)) (held : List ℕ) → IsSaid now now false held held
says_held now held = ([], Appends-nil now, refl)
