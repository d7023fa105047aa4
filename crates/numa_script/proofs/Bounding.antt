-- Whether an mbind with words behind its policy is malformed.
use Rattle.std.specs.Prelude.{◌≡◌, ℕ, ◌||◌, Bool, true, false, List, [], ◌∷◌, is_some, is_none}
use Rattle.std.specs.Prelude.{Option, Some, None, refl, codes}
use Rattle.std.specs.Option.{option_map}
use Rattle.std.proofs.Common.{sym, ◌∙◌, arith}
use Rattle.numa_script.specs.Causes.{fault_behind, is_malformed}
use Rattle.numa_script.specs.Lines.{bound_line, mbind_line}
use Rattle.numa_script.specs.declared.page_line.BoundPages.{BoundPages}
use Rattle.std.specs.Str.{bytes_eq}
use Rattle.numa_script.specs.Numbers.{number_of, small_of}
use Rattle.numa_script.specs.Policies.{policy_of}
use Rattle.numa_script.specs.Present.{with_two, with_three}
use Rattle.numa_script.specs.declared.line.Line.{Line}
use Rattle.numa_script.proofs.Misfits.{small, any_number}
use Rattle.numa_script.specs.declared.page_line.BoundPages.TheVariants as bound
use Rattle.numa_script.specs.declared.keyword.Keyword.TheVariants as keyword
use Rattle.numa_script.proofs.Together.{bound_said, enough, said, three, too_few, too_many}

-- ---- mbind, with words behind its policy

pub none_third : {A B C : Type 0} (g : A → B → C → Line) (x : Option A) (y : Option B)
    → said (with_three g x y None) ≡ true
none_third g None y = refl
none_third g (Some x) None = refl
none_third g (Some x) (Some y) = refl

-- where the words behind the policy move pages
pub moving : (g : ℕ → ℕ → Option BoundPages → Line) (f : ℕ × ℕ → BoundPages) (m n o p : Bool)
    (x y z w : Option ℕ)
    → ((x y : ℕ) (pages : Option BoundPages) → is_malformed (g x y pages) ≡ false)
    → m ≡ is_none x → n ≡ is_none y → o ≡ is_none z → p ≡ is_none w
    → (m || (n || (o || (p || false)))) ≡ said (with_three g x y
    (option_map Some (option_map f (with_two (λ x y. (x, y)) z w))))
moving g f m n o p None y z w well h i j k = rw h refl
moving g f m n o p (Some x) None z w well h i j k = rw (h, i) refl
moving g f m n o p (Some x) (Some y) None w well h i j k = rw (h, i, j) refl
moving g f m n o p (Some x) (Some y) (Some z) None well h i j k = rw (h, i, j, k) refl
moving g f m n o p (Some x) (Some y) (Some z) (Some w) well h i j k =
    rw (h, i, j, k, well x y (Some (f (z, w)))) refl

abbrev pub bound_by : List ℕ → ℕ → ℕ → Option BoundPages → Line
bound_by policy start bytes pages = bound_line pages start bytes (policy_of policy)

abbrev pub moving_of : Bool → ℕ × ℕ → BoundPages
moving_of strict v = bound.Move (record { strict = strict; task = v.0; cpu = v.1 })

-- strict move TASK CPU
pub says_strict_move : (m : Bool) (c : ℕ) (a b d w x : List ℕ) (words : List (List ℕ))
    → bytes_eq w (codes "strict") ≡ true → bytes_eq x (codes "move") ≡ m
    → is_some (fault_behind keyword.Mbind c (a ∷ b ∷ d ∷ w ∷ x ∷ words))
    ≡ said (mbind_line (a ∷ b ∷ d ∷ w ∷ x ∷ words))
says_strict_move false c a b d w x words e f =
    too_many keyword.Mbind c (a ∷ b ∷ d ∷ w ∷ x ∷ words) (rw (e, f) (omega arith))
    ∙ rw (e, f) (sym (none_third (bound_by d) (number_of a) (number_of b)))
says_strict_move true c a b d w x [] e f =
    too_few keyword.Mbind c (a ∷ b ∷ d ∷ w ∷ x ∷ []) (rw (e, f) (omega arith))
    ∙ rw (e, f) (sym (none_third (bound_by d) (number_of a) (number_of b)))
says_strict_move true c a b d w x (t ∷ []) e f =
    too_few keyword.Mbind c (a ∷ b ∷ d ∷ w ∷ x ∷ t ∷ []) (rw (e, f) (omega arith))
    ∙ rw (e, f) (sym (none_third (bound_by d) (number_of a) (number_of b)))
says_strict_move true c a b d w x (t ∷ u ∷ []) e f =
    enough keyword.Mbind c (a ∷ b ∷ d ∷ w ∷ x ∷ t ∷ u ∷ []) (rw (e, f) refl)
    ∙ rw (e, f) (moving (bound_by d) (moving_of true) _ _ _ _ (number_of a) (number_of b)
    (small_of t) (small_of u) (λ x y z. bound_said z x y (policy_of d)) (any_number a)
    (any_number b) (small t) (small u))
says_strict_move true c a b d w x (t ∷ u ∷ v ∷ words) e f =
    too_many keyword.Mbind c (a ∷ b ∷ d ∷ w ∷ x ∷ t ∷ u ∷ v ∷ words) (rw (e, f) (omega arith))
    ∙ rw (e, f) (sym (none_third (bound_by d) (number_of a) (number_of b)))

pub says_bound : (s m : Bool) (c : ℕ) (a b d w : List ℕ) (words : List (List ℕ))
    → bytes_eq w (codes "strict") ≡ s → bytes_eq w (codes "move") ≡ m
    → is_some (fault_behind keyword.Mbind c (a ∷ b ∷ d ∷ w ∷ words))
    ≡ said (mbind_line (a ∷ b ∷ d ∷ w ∷ words))
says_bound true m c a b d w [] e f =
    enough keyword.Mbind c (a ∷ b ∷ d ∷ w ∷ []) (rw e refl)
    ∙ rw e (three (bound_by d) _ _ false (number_of a) (number_of b) (Some (Some bound.Strict))
    (λ x y z. bound_said z x y (policy_of d)) (any_number a) (any_number b) refl)
says_bound true m c a b d w (x ∷ words) e f =
    says_strict_move (bytes_eq x (codes "move")) c a b d w x words e refl
says_bound false false c a b d w words e f =
    too_many keyword.Mbind c (a ∷ b ∷ d ∷ w ∷ words) (rw (e, f) (omega arith))
    ∙ rw (e, f) (sym (none_third (bound_by d) (number_of a) (number_of b)))
says_bound false true c a b d w [] e f =
    too_few keyword.Mbind c (a ∷ b ∷ d ∷ w ∷ []) (rw (e, f) (omega arith))
    ∙ rw (e, f) (sym (none_third (bound_by d) (number_of a) (number_of b)))
says_bound false true c a b d w (t ∷ []) e f =
    too_few keyword.Mbind c (a ∷ b ∷ d ∷ w ∷ t ∷ []) (rw (e, f) (omega arith))
    ∙ rw (e, f) (sym (none_third (bound_by d) (number_of a) (number_of b)))
says_bound false true c a b d w (t ∷ u ∷ []) e f =
    enough keyword.Mbind c (a ∷ b ∷ d ∷ w ∷ t ∷ u ∷ []) (rw (e, f) refl)
    ∙ rw (e, f) (moving (bound_by d) (moving_of false) _ _ _ _ (number_of a) (number_of b)
    (small_of t) (small_of u) (λ x y z. bound_said z x y (policy_of d)) (any_number a)
    (any_number b) (small t) (small u))
says_bound false true c a b d w (t ∷ u ∷ v ∷ words) e f =
    too_many keyword.Mbind c (a ∷ b ∷ d ∷ w ∷ t ∷ u ∷ v ∷ words) (rw (e, f) (omega arith))
    ∙ rw (e, f) (sym (none_third (bound_by d) (number_of a) (number_of b)))
