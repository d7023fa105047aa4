-- What a walk won, and what it found taken before.
use Rattle.std.proofs.Common.{◌≡◌, ℕ, zero, suc, ◌<◌, ◌≤◌, List, [], ◌∷◌, ◌++◌, length, true, false}
use Rattle.std.proofs.Common.{refl, sym, ap, ◌∙◌, subst, inl, inr, arith, append_assoc, append-nil}
use Rattle.std.specs.Prelude.{slice_index, slice_get, Option, Some, None}
use native.Mathlib.Decide.{dec_le}
use Rattle.numa_machine.specs.declared.frame.Frame.{Frame}
use Rattle.numa_pool.specs.declared.view.Entry.{Entry}
use Rattle.numa_pool.specs.declared.view.Entry.TheVariants.{Load, Won, Lost, Gave}
use Rattle.numa_pool.specs.Frames.{with_found, gained_each}
use Rattle.numa_pool.specs.Walk.{met, won_in, IsFull, IsCurrent, AllFull, Searches, IsWalk}
use Rattle.numa_pool.specs.Walk.{WalksEach, LoadsOnce, IsDistinct}

module _ (frames : List ℕ) where
  -- a search wins nothing
  wins-nothing : (ns : List ℕ) (es : List Entry) → Searches frames ns es → won_in es ≡ []
  wins-nothing ns [] s = refl
  wins-nothing ns (Load n w x ∷ es) s = wins-nothing ns es s.0
  wins-nothing ns (Lost f ∷ es) s = wins-nothing ns es s.0
  wins-nothing ns (Won f ∷ es) s = absurd s
  wins-nothing ns (Gave f ∷ es) s = absurd s

  pub wins-found : (ns : List ℕ) (found : Option Frame) (es : List Entry)
      → IsWalk frames ns found es → won_in es ≡ with_found found []
  wins-found ns None es h = wins-nothing ns es h.0
  wins-found ns (Some f) [] h = absurd h
  wins-found ns (Some f) (e ∷ es) h = ap (λ (x : Entry). won_in (x ∷ es)) h.0
      ∙ ap (λ fs. f ∷ fs) (wins-nothing ns es h.1)

  -- each frame of each node before a place was found taken
  abbrev Earlier : List Entry → List ℕ → ℕ → Type 0
  Earlier es ns rank = (i k : ℕ) → i < rank → k < slice_index frames (slice_index ns i)
      → met es (slice_index ns i) k ≡ true

  one-more : (es : List Entry) (n : ℕ) (ns : List ℕ) (rank : ℕ) → IsFull frames es n
      → Earlier es ns rank → Earlier es (n ∷ ns) (suc rank)
  one-more es n ns rank full earlier zero k l inside = full k inside
  one-more es n ns rank full earlier (suc i) k l inside = earlier i k (omega arith) inside

  -- the current node stands in the list, behind nodes that are full
  behind : (es : List Entry) (ns : List ℕ) (n : ℕ) → IsCurrent frames es ns n → (rank : ℕ)
      × (slice_get ns rank ≡ Some n) × Earlier es ns rank
  behind es [] n h = absurd h
  behind es (m ∷ ns) n (inl t) = (0, ap Some t.0, λ i k l inside. absurd (omega arith))
  behind es (m ∷ ns) n (inr t) = let b = behind es ns n t.1 in
      (suc b.0, b.1, one-more es m ns b.0 t.0 b.2)

  abbrev Listed : List ℕ → Frame → List Entry → Type 0
  Listed ns f es = (rank : ℕ) × (slice_get ns rank ≡ Some f.node) × Earlier es ns rank

  pub win-listed : (ns : List ℕ) (f : Frame) (es : List Entry) → IsWalk frames ns (Some f) es
      → Listed ns f es
  win-listed ns f [] h = absurd h
  win-listed ns f (e ∷ es) h = let b = behind es ns f.node h.2.0 in
      subst (λ (x : Entry). Listed ns f (x ∷ es)) (sym h.0) b

  pub win-frame : (ns : List ℕ) (f : Frame) (es : List Entry) → IsWalk frames ns (Some f) es
      → (f.number < slice_index frames f.node) × (met es f.node f.number ≡ false)
  win-frame ns f [] h = absurd h
  win-frame ns f (e ∷ es) h =
      (h.2.1, subst (λ (x : Entry). met (x ∷ es) f.node f.number ≡ false) (sym h.0) h.2.2)

  pub all-found : (es : List Entry) (ns : List ℕ) → AllFull frames es ns → (i k : ℕ) → i < length ns
      → k < slice_index frames (slice_index ns i) → met es (slice_index ns i) k ≡ true
  all-found es [] h i k l inside = absurd (omega arith)
  all-found es (n ∷ ns) h zero k l inside = h.0 k inside
  all-found es (n ∷ ns) h (suc i) k l inside = all-found es ns h.1 i k (omega arith) inside

-- a node stands at one place of a list without repeats
inside-of : (ns : List ℕ) (rank n : ℕ) → slice_get ns rank ≡ Some n → (rank < length ns)
    × (slice_index ns rank ≡ n)
inside-of [] rank n e = absurd (cc)
inside-of (m ∷ ns) zero n e = (omega arith, same m n e)
  where
    same : (a b : ℕ) → ◌≡◌ {A = Option ℕ} (Some a) (Some b) → a ≡ b
    same a b e = cc
inside-of (m ∷ ns) (suc rank) n e = let r = inside-of ns rank n e in (omega arith, r.1)

one-place : (ns : List ℕ) (i j n : ℕ) → IsDistinct ns → slice_get ns i ≡ Some n
    → slice_get ns j ≡ Some n → i ≡ j
one-place ns i j n distinct e d = by (dec_le (suc i) j) (dec_le (suc j) i)
  where
    by : Dec (suc i ≤ j) → Dec (suc j ≤ i) → i ≡ j
    by (yes l) m = let a = inside-of ns i n e in let b = inside-of ns j n d in
        absurd (distinct i j 0 (omega arith) b.0 (a.1 ∙ sym b.1))
    by (no l) (yes m) = let a = inside-of ns i n e in let b = inside-of ns j n d in
        absurd (distinct j i 0 (omega arith) a.0 (b.1 ∙ sym a.1))
    by (no l) (no m) = omega arith

pub win-earlier : (frames ns : List ℕ) (f : Frame) (es : List Entry) (rank : ℕ) → IsDistinct ns
    → IsWalk frames ns (Some f) es → slice_get ns rank ≡ Some f.node
    → (i k : ℕ) → i < rank → k < slice_index frames (slice_index ns i) → met es (slice_index ns i) k
    ≡ true
win-earlier frames ns f es rank distinct walk at i k l inside =
    let b = win-listed frames ns f es walk in
    let same = one-place ns rank b.0 f.node distinct at b.1 in
    b.2 i k (omega arith) inside

-- walks one after the other
pub walks-one : (frames ns : List ℕ) (found : Option Frame) (es : List Entry)
    → IsWalk frames ns found es → LoadsOnce es → WalksEach frames (ns ∷ []) (found ∷ []) es
walks-one frames ns found es walk once = (es, [], refl, walk, once, refl)

pub walks-more : (frames : List ℕ) (rows others : List (List ℕ)) (found more : List (Option Frame))
    (es later : List Entry) → WalksEach frames rows found es → WalksEach frames others more later
    → WalksEach frames (rows ++ others) (found ++ more) (later ++ es)
walks-more frames [] others [] more es later h g =
    subst (WalksEach frames others more) (sym (append-nil later) ∙ ap (λ l. later ++ l) (sym h)) g
walks-more frames [] others (f ∷ found) more es later h g = absurd h
walks-more frames (ns ∷ rows) others [] more es later h g = absurd h
walks-more frames (ns ∷ rows) others (f ∷ found) more es later h g =
    let rest = walks-more frames rows others found more h.1 later h.5 g in
    (h.0, later ++ h.1, ap (λ l. later ++ l) h.2 ∙ sym (append_assoc later h.1 h.0), h.3, h.4, rest)

won-append : (fs es : List Entry) → won_in (fs ++ es) ≡ won_in fs ++ won_in es
won-append [] es = refl
won-append (Won f ∷ fs) es = ap (λ l. f ∷ l) (won-append fs es)
won-append (Load n w x ∷ fs) es = won-append fs es
won-append (Lost f ∷ fs) es = won-append fs es
won-append (Gave f ∷ fs) es = won-append fs es

gained-append : (found : Option Frame) (held : List Frame) → with_found found []
    ++ held ≡ with_found found held
gained-append None held = refl
gained-append (Some f) held = refl

pub walks-won : (frames : List ℕ) (rows : List (List ℕ)) (found : List (Option Frame))
    (es : List Entry) (held : List Frame) → WalksEach frames rows found es → won_in es
    ++ held ≡ gained_each found held
walks-won frames [] [] es held h = ap (λ l. won_in l ++ held) h
walks-won frames [] (f ∷ found) es held h = absurd h
walks-won frames (ns ∷ rows) [] es held h = absurd h
walks-won frames (ns ∷ rows) (f ∷ found) es held h =
    ap (λ l. won_in l ++ held) h.2 ∙ ap (λ l. l ++ held) (won-append h.1 h.0)
    ∙ append_assoc (won_in h.1) (won_in h.0) held
    ∙ ap (λ l. won_in h.1 ++ l) (ap (λ l. l ++ held) (wins-found frames ns f h.0 h.3)
    ∙ gained-append f held)
    ∙ walks-won frames rows found h.1 (with_found f held) h.5
