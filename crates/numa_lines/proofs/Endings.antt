-- What was written where a run ends.
use Rattle.std.specs.Prelude.{if◌then◌else◌, ◌≡◌, ℕ, ◌++◌, Bool, true, false, Option, List, [], ◌∷◌}
use Rattle.std.specs.Prelude.{map, refl}
use Prim.Native.Nat.{suc}
use Rattle.std.proofs.Common.{sym, ◌∙◌, ap, subst}
use Rattle.std.proofs.lemmas.List.{append-nil}
use Rattle.std.specs.Io.KnownBytes.{Appends}
use Rattle.numa_lines.specs.Lines.{ended_lines, given_part}
use Rattle.numa_lines.specs.Output.{SeesEnough, answers, output_of}
use Rattle.numa_lines.specs.Progress.{Progress, among}
use Rattle.numa_lines.specs.Watching.{has_failed, held_in, unsent}
use Rattle.numa_lines.specs.Written.{AppendsFront, IsSaid, Said, Says, Wrote, WroteFront}
use Rattle.numa_lines.specs.declared.watched.Watched.{Watched}
use Rattle.numa_lines.proofs.Saying.{says_held}
use Rattle.numa_lines.proofs.Splitting.{ended_all}

says_all : (start now : Option (List ℕ)) (failed : Bool) (held said : List ℕ) → failed ≡ false
    → held ≡ [] → IsSaid start now failed held said → Appends start now said
says_all start now true held said e none h = cc
says_all start now false held said e none (sent, h, is) =
    subst (Appends start now) (sym (is ∙ ap (λ l. sent ++ l) none ∙ append-nil sent)) h

says_front : (start now : Option (List ℕ)) (failed : Bool) (held said : List ℕ) → failed ≡ true
    → IsSaid start now failed held said → AppendsFront start now said
says_front start now true held said e h = h
says_front start now false held said e h = cc

module _ {W : Type 0} (contents : W → Option (List ℕ)) where
  -- a run begins with the writer as it was, but that no call on it has failed
  pub record HasBegun (old from : Watched W) : Type 0 where
    pub same : contents from.inner ≡ contents old.inner
    pub well : has_failed from ≡ false
    pub kept : held_in from ≡ unsent old

  -- where room was made for what it holds back, and then an earlier fault was forgotten
  pub begun : (old roomy from : Watched W) → roomy.inner ≡ old.inner
      → has_failed roomy ≡ has_failed old → held_in roomy ≡ held_in old → from.inner ≡ roomy.inner
      → has_failed from ≡ false → held_in from ≡ unsent roomy → HasBegun old from
  begun old roomy from inner failed held same well kept = record {
    same = ap contents (same ∙ inner);
    well = well;
    kept = kept ∙ (λ i. if failed i then [] else held i);
  }

  since : (old from last : Watched W) (text : List ℕ) → HasBegun old from
      → Said contents from last text → Says contents (contents old.inner) last (unsent old ++ text)
  since old from last text begun said =
      let first : Says contents (contents from.inner) from (held_in from) =
      subst (λ f. IsSaid (contents from.inner) (contents from.inner) f (held_in from)
      (held_in from)) (sym begun.well) (says_held (contents from.inner) (held_in from)) in
      subst (λ h. Says contents (contents old.inner) last (h ++ text)) begun.kept
      (subst (λ s. Says contents s last (held_in from ++ text)) begun.same
      (said (contents from.inner) (held_in from) first))

  pub wrote_all : (old from last : Watched W) (text : List ℕ) → HasBegun old from
      → has_failed last ≡ false → held_in last ≡ [] → Said contents from last text
      → Wrote contents old last text
  wrote_all old from last text begun well none said =
      says_all (contents old.inner) (contents last.inner) (has_failed last) (held_in last)
      (unsent old ++ text) well none (since old from last text begun said)

  pub wrote_front : (old from last : Watched W) (text : List ℕ) → HasBegun old from
      → has_failed last ≡ true → Said contents from last text → WroteFront contents old last text
  wrote_front old from last text begun broken said =
      says_front (contents old.inner) (contents last.inner) (has_failed last) (held_in last)
      (unsent old ++ text) broken (since old from last text begun said)

module _ {Lack State : Type 0} (answer_of : Lack → State → List ℕ → List ℕ)
    (after : Lack → State → List ℕ → State) (enough : SeesEnough answer_of after) where
  -- what a server is given of the lines is answered as the lines are
  answers_seen : (refused : ℕ → Lack) (state : State) (lines : List (List ℕ))
      → answers answer_of after refused state (map given_part lines)
      ≡ answers answer_of after refused state lines
  unfolding answers
  answers_seen refused state [] = refl
  answers_seen refused state (line ∷ lines) =
      let same = enough (refused 0) state line in
      let later : ℕ → Lack = λ k. refused (suc k) in
      ap (λ said. said ++ answers answer_of after later
      (after (refused 0) state (given_part line)) (map given_part lines)) same.0
      ∙ ap (λ next. answer_of (refused 0) state line
      ++ answers answer_of after later next (map given_part lines)) same.1
      ∙ ap (λ rest. answer_of (refused 0) state line ++ rest)
      (answers_seen later (after (refused 0) state line) lines)

module _ {Lack State W : Type 0} (contents : W → Option (List ℕ)) (plenty : Lack)
    (answer_of : Lack → State → List ℕ → List ℕ) (after : Lack → State → List ℕ → State)
    (start : State) (enough : SeesEnough answer_of after) (stands : State → Type 0) where
  -- the lines that had ended were answered
  pub answered_so_far : (from now : Watched W) (front : List ℕ)
      → Progress contents plenty answer_of after start stands from now
      (map given_part (ended_lines front))
      → (refused : ℕ → Lack)
      × Said contents from now (answers answer_of after refused start (ended_lines front))
  answered_so_far from now front so_far =
      let refused : ℕ → Lack = among plenty so_far.flags in (
        refused,
        subst (Said contents from now)
            (answers_seen answer_of after enough refused start (ended_lines front)) so_far.says,
      )

  -- the script was answered to its end
  pub answered_to_end : (from now : Watched W) (script : List ℕ)
      → Progress contents plenty answer_of after start stands from now
      (map given_part (ended_lines (script ++ 10 ∷ [])))
      → (refused : ℕ → Lack)
      × Said contents from now (output_of answer_of after start refused script)
  answered_to_end from now script so_far =
      let far = answered_so_far from now (script ++ 10 ∷ []) so_far in (
        far.0,
        subst (Said contents from now)
            (ap (answers answer_of after far.0 start) (ended_all script)) far.1,
      )
