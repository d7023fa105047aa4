-- A step of the order is a step of its seat.
use Rattle.std.proofs.Common.{◌≡◌, ℕ, ◌+◌, ◌*◌, ◌/◌, ◌%◌, ◌<◌, ◌≤◌, List, [], ◌∷◌, ◌++◌}
use Rattle.std.proofs.Common.{set, Bool, true, false, refl, sym, ap, subst, ◌∙◌, arith}
use Rattle.std.specs.Prelude.{slice_index, Option, Some, None, ◌==◌}
use Rattle.std.specs.Int.{bit_at}
use Rattle.std.proofs.lemmas.List.{set-get_or}
use mathlib.Core.Option.{some}
use lib.ListN.{get_elem?}
use Rattle.numa_machine.specs.declared.frame.Frame.{Frame}
use Rattle.numa_pool.specs.declared.view.Entry.{Entry}
use Rattle.numa_pool.specs.declared.view.Entry.TheVariants.{Load, Won, Lost, Gave}
use Rattle.numa_pool.specs.declared.view.View.{View}
use Rattle.numa_pool.specs.Frames.{times, bit_in}
use Rattle.numa_pool.specs.Order.{Finds, written}
use Rattle.numa_pool.specs.Rule.{Counted}
use Rattle.numa_pool.specs.Steps.{with_entry, after_try, after_give, frame_at}
use Rattle.numa_pool.specs.Walk.{IsWalk, IsCurrent, Searches}
use Rattle.numa_pool.proofs.Ruling.{at_most}
use Rattle.numa_pool.proofs.StepLemmas.{pow_same, node_of_word, word_of_word}
use Rattle.numa_refinement.specs.Moves.{PoolState, Makes, Tries, word_of}
use Rattle.numa_refinement.specs.WalkSteps.{MayCome}

-- what a seat shows after a step
abbrev pub entered : View → Entry → View
entered v (Load n w x) = with_entry v (Load n w x)
entered v (Won f) = after_try v f true
entered v (Lost f) = after_try v f false
entered v (Gave f) = after_give v f

-- the pools after a step of seat id, which showed this
abbrev pub stepped_on : PoolState → ℕ → View → Entry → PoolState
stepped_on old id v e =
    record { words = written e old.words; views = set old.views id (entered v e) }

frame_again : (f : Frame) → f.number < 4096 → frame_at (word_of f) (f.number % 64) ≡ f
frame_again f low =
    let node : (64 * f.node + f.number / 64) / 64 ≡ f.node = omega arith in
    let number : 64 * ((64 * f.node + f.number / 64) % 64) + f.number % 64 ≡ f.number = omega arith
    in λ c. record { node = node c; number = number c }

module _ (frames : List ℕ) (few : (n : ℕ) → slice_index frames n ≤ 4096) (old : PoolState) (id : ℕ)
    (v : View) (at : get_elem? old.views id ≡ some v) (r : Counted frames old.words old.views) where
  -- a frame whose bit is clear is held by no seat
  none_holds : (f : Frame) → f.number < 4096 → bit_in old.words f.node f.number ≡ 0
      → times f.node f.number v.held ≡ 0
  none_holds f low clear =
      let e = r.exact f.node f.number low in
      let m = at_most (λ u. times f.node f.number u.held) old.views id v at in
      omega arith

  tries_so : (f : Frame) (won : Bool) → f.number < slice_index frames f.node
      → (bit_in old.words f.node f.number == 0) ≡ won
      → Tries f id old record {
        words = written (Won f) old.words;
        views = set old.views id (after_try v f won);
      }
  tries_so f won inside found = record {
    before = v;
    after = after_try v f won;
    shown = at;
    told = λ bit l e.
        let same : f.number % 64 ≡ bit = pow_same (f.number % 64) bit e in
        let low : f.number < 4096 = let few_here = few f.node in omega arith in
        let again = frame_again f low in (
          (λ c. (
            after_try v (sym again c) (sym found c),
            [],
          )) ∙ (λ c. (
            after_try v (frame_at (word_of f) (same c))
                (bit_at (slice_index old.words (word_of f)) (same c) == 0),
            [],
          )),
          (λ clear.
              let clear_here : bit_in old.words f.node f.number ≡ 0 =
              ap (bit_at (slice_index old.words (word_of f))) same ∙ clear in
              subst (λ (j : ℕ). times (word_of f / 64) (64 * (word_of f % 64) + j) v.held ≡ 0) same
              (ap (λ (g : Frame). times g.node g.number v.held) again
              ∙ none_holds f low clear_here)),
        );
    words = refl;
    views = refl;
  }

  pub makes_so : (e : Entry) → Finds frames old.words e → (ns : List ℕ) (es : List Entry)
      → MayCome frames ns es e → Makes e id old (stepped_on old id v e)
  makes_so (Load n w x) found ns es may =
      let low = found.1 in (
        low,
        found.2,
        record {
          before = v;
          after = with_entry v (Load n w x);
          shown = at;
          told = λ c. (
            with_entry v
                (Load (sym (node_of_word n w low) c) (sym (word_of_word n w low) c) (found.2 c)),
            [],
          );
          words = sym (set-get_or old.words (64 * n + w) 0);
          views = refl;
        },
      )
  makes_so (Won f) found ns es may =
      let zero_test : (bit_in old.words f.node f.number == 0) ≡ true = ap (λ b. b == 0) found.1 in
      (found.1, tries_so f true found.0 zero_test)
  makes_so (Lost f) found ns es may =
      let zero_test : (bit_in old.words f.node f.number == 0) ≡ false = ap (λ b. b == 0) found.1 in
      ((λ z. omega (arith, z, found.1)), tries_so f false found.0 zero_test)
  makes_so (Gave f) found ns es may = absurd may

-- ---- walks, step by step

module _ (frames : List ℕ) (ns : List ℕ) where
  searches_at : (r : List Entry) (e : Entry) (es : List Entry) → Searches frames ns (r ++ e ∷ es)
      → Searches frames ns es × MayCome frames ns es e
  searches_at [] (Load n w x) es h = (h.0, (h.1, h.2))
  searches_at [] (Lost f) es h = (h.0, h.1)
  searches_at [] (Won f) es h = absurd h
  searches_at [] (Gave f) es h = absurd h
  searches_at (Load n w x ∷ r) e es h = searches_at r e es h.0
  searches_at (Lost f ∷ r) e es h = searches_at r e es h.0
  searches_at (Won f ∷ r) e es h = absurd h
  searches_at (Gave f ∷ r) e es h = absurd h

  -- a step of a walk may come next after the earlier ones
  pub walk_at : (found : Option Frame) (r : List Entry) (e : Entry) (es : List Entry)
      → IsWalk frames ns found (r ++ e ∷ es) → Searches frames ns es × MayCome frames ns es e
  walk_at None r e es h = searches_at r e es h.0
  walk_at (Some f) [] e es h =
      (h.1, subst (λ (x : Entry). MayCome frames ns es x) (sym h.0) h.2)
  walk_at (Some f) (y ∷ r) e es h = searches_at r e es h.1

  -- a search with this step is one with it, if it wins nothing
  pub searches_on : (r : List Entry) (d e : Entry) (es : List Entry)
      → Searches frames ns es → MayCome frames ns es e → (found : Option Frame)
      → IsWalk frames ns found (r ++ d ∷ e ∷ es) → Searches frames ns (e ∷ es)
  searches_on r d e es before may found walk = (walk_at found r d (e ∷ es) walk).0

  -- there is a current node where a step may come
  pub current_of : (e : Entry) (es : List Entry) → MayCome frames ns es e
      → (n : ℕ) × IsCurrent frames es ns n
  current_of (Load n w x) es h = (n, h.0)
  current_of (Won f) es h = (f.node, h.0)
  current_of (Lost f) es h = (f.node, h.0)
  current_of (Gave f) es h = absurd h
