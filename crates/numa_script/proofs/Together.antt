-- Values that are there only together, and whether there are as many words as there should be.
use Rattle.std.specs.Prelude.{◌≡◌, ℕ, ◌+◌, ◌==◌, ◌<◌, ◌||◌, ◌&&◌, Bool, true, false, List, [], ◌∷◌}
use Rattle.std.specs.Prelude.{length, nat_lt, is_some, is_none, unwrap_or, cond, Option, Some, None}
use Rattle.std.specs.Prelude.{Result, Ok, Err, option_and_then, refl, if◌then◌else◌}
use Rattle.std.specs.Option.{option_map}
use Rattle.std.proofs.Common.{sym, ◌∙◌, ap, arith}
use Rattle.std.proofs.lemmas.Bool.Decides.{nat_tests}
use Rattle.numa_mask.specs.declared.list.ListFault.{ListFault}
use Rattle.numa_mode.specs.Policy.{Specification}
use Rattle.numa_requests.specs.declared.command.Command.{Command}
use Rattle.numa_script.specs.Causes.{fault_behind, form_of, misfit_else, misfit_of, wanted_of}
use Rattle.numa_script.specs.Causes.{first_misfit, is_malformed}
use Rattle.numa_script.specs.Lines.{bound_line, with_policy, bind_line, with_nodes}
use Rattle.numa_script.specs.declared.page_line.BoundPages.{BoundPages}
use Rattle.numa_script.specs.Numbers.{below, few_of}
use Rattle.numa_script.specs.Policies.{waits_for_pages}
use Rattle.numa_script.specs.Present.{with_two, with_three, with_four}
use Rattle.numa_script.specs.declared.keyword.Keyword.{Keyword}
use Rattle.numa_script.specs.declared.line.Line.{Line}
use Rattle.numa_script.specs.declared.malformed.Malformed.{Malformed}
use Rattle.numa_script.specs.declared.parameter.Misfit.{Misfit}
use Rattle.numa_script.specs.declared.parameter.Parameter.{Parameter}
use Rattle.numa_script.specs.declared.policy.WordError.{WordError}
use Rattle.numa_script.specs.declared.line.Line.TheVariants as line

-- what a line without a cause says is malformed
abbrev pub said : Option Line → Bool
said o = is_malformed (unwrap_or o line.Malformed)

-- ---- words that are there only together

pub one : {A : Type 0} (g : A → Line) (m : Bool) (x : Option A)
    → ((x : A) → is_malformed (g x) ≡ false) →
    m ≡ is_none x → (m || false) ≡ said (option_map g x)
one g m None well h = rw h refl
one g m (Some x) well h = rw (h, well x) refl

pub two : {A B : Type 0} (g : A → B → Line) (m n : Bool) (x : Option A) (y : Option B) →
    ((x : A) (y : B) → is_malformed (g x y) ≡ false) →
    m ≡ is_none x → n ≡ is_none y → (m || (n || false)) ≡ said (with_two g x y)
two g m n None y well h i = rw h refl
two g m n (Some x) None well h i = rw (h, i) refl
two g m n (Some x) (Some y) well h i = rw (h, i, well x y) refl

pub three : {A B C : Type 0} (g : A → B → C → Line) (m n o : Bool) (x : Option A) (y : Option B)
    (z : Option C) →
    ((x : A) (y : B) (z : C) → is_malformed (g x y z) ≡ false) →
    m ≡ is_none x → n ≡ is_none y → o ≡ is_none z → (m || (n || (o || false)))
    ≡ said (with_three g x y z)
three g m n o None y z well h i j = rw h refl
three g m n o (Some x) None z well h i j = rw (h, i) refl
three g m n o (Some x) (Some y) None well h i j = rw (h, i, j) refl
three g m n o (Some x) (Some y) (Some z) well h i j = rw (h, i, j, well x y z) refl

pub four : {A B C D : Type 0} (g : A → B → C → D → Line) (m n o p : Bool)
    (x : Option A) (y : Option B) (z : Option C) (w : Option D) →
    ((x : A) (y : B) (z : C) (w : D) → is_malformed (g x y z w) ≡ false) →
    m ≡ is_none x → n ≡ is_none y → o ≡ is_none z → p ≡ is_none w →
    (m || (n || (o || (p || false)))) ≡ said (with_four g x y z w)
four g m n o p None y z w well h i j k = rw h refl
four g m n o p (Some x) None z w well h i j k = rw (h, i) refl
four g m n o p (Some x) (Some y) None w well h i j k = rw (h, i, j) refl
four g m n o p (Some x) (Some y) (Some z) None well h i j k = rw (h, i, j, k) refl
four g m n o p (Some x) (Some y) (Some z) (Some w) well h i j k = rw (h, i, j, k, well x y z w) refl

pub pair : {A B : Type 0} (g : A × B → Line) (m n : Bool) (x : Option A) (y : Option B) →
    ((v : A × B) → is_malformed (g v) ≡ false) →
    m ≡ is_none x → n ≡ is_none y → (m || (n || false))
    ≡ said (option_map g (with_two (λ x y. (x, y)) x y))
pair g m n None y well h i = rw h refl
pair g m n (Some x) None well h i = rw (h, i) refl
pair g m n (Some x) (Some y) well h i = rw (h, i, well (x, y)) refl

pub triple : {A B C : Type 0} (g : A × B × C → Line) (m n o : Bool) (x : Option A) (y : Option B)
    (z : Option C) →
    ((v : A × B × C) → is_malformed (g v) ≡ false) →
    m ≡ is_none x → n ≡ is_none y → o ≡ is_none z → (m || (n || (o || false)))
    ≡ said (option_map g (with_three (λ x y z. (x, y, z)) x y z))
triple g m n o None y z well h i j = rw h refl
triple g m n o (Some x) None z well h i j = rw (h, i) refl
triple g m n o (Some x) (Some y) None well h i j = rw (h, i, j) refl
triple g m n o (Some x) (Some y) (Some z) well h i j = rw (h, i, j, well (x, y, z)) refl

pub quadruple : {A B C D : Type 0} (g : A × B × C × D → Line) (m n o p : Bool)
    (x : Option A) (y : Option B) (z : Option C) (w : Option D) →
    ((v : A × B × C × D) → is_malformed (g v) ≡ false) →
    m ≡ is_none x → n ≡ is_none y → o ≡ is_none z → p ≡ is_none w →
    (m || (n || (o || (p || false)))) ≡ said (option_map g
    (with_four (λ x y z w. (x, y, z, w)) x y z w))
quadruple g m n o p None y z w well h i j k = rw h refl
quadruple g m n o p (Some x) None z w well h i j k = rw (h, i) refl
quadruple g m n o p (Some x) (Some y) None w well h i j k = rw (h, i, j) refl
quadruple g m n o p (Some x) (Some y) (Some z) None well h i j k = rw (h, i, j, k) refl
quadruple g m n o p (Some x) (Some y) (Some z) (Some w) well h i j k =
    rw (h, i, j, k, well (x, y, z, w)) refl

pub or_true : (b : Bool) → (b || true) ≡ true
or_true true = refl
or_true false = refl

pub few : {A B D : Type 0} (g : A → B → ℕ → D → Line) (o : Bool) (x : A) (y : B) (z : ℕ) (w : D) →
    is_malformed (g x y z w) ≡ false → o ≡ is_none (below 65537 (Some z)) →
    (o || false) ≡ said (option_map (λ s. g x y s w) (few_of z))
few g o x y z w well j =
    rw j (elim (nat_lt z 65537) as (λ t. (is_none (cond t (Some z) None) || false)
    ≡ said (option_map (λ s. g x y s w) (cond t (Some z) None))) [
      | true ↦ sym well
      | false ↦ refl
    ])

pub spanned : {A B D : Type 0} (g : A → B → ℕ → D → Line) (m n o p : Bool)
    (x : Option A) (y : Option B) (z : Option ℕ) (w : Option D) →
    ((x : A) (y : B) (z : ℕ) (w : D) → is_malformed (g x y z w) ≡ false) →
    m ≡ is_none x → n ≡ is_none y → o ≡ is_none (below 65537 z) → p ≡ is_none w →
    (m || (n || (o || (p || false))))
    ≡ said (option_and_then (λ (v : A × B × ℕ × D). option_map (λ s. g v.0 v.1 s v.3) (few_of v.2))
    (with_four (λ x y z w. (x, y, z, w)) x y z w))
spanned g m n o p None y z w well h i j k = rw h refl
spanned g m n o p (Some x) None z w well h i j k = rw (h, i) refl
spanned g m n o p (Some x) (Some y) None w well h i j k = rw (h, i, j) refl
spanned g m n o p (Some x) (Some y) (Some z) None well h i j k = rw (h, i, k) (or_true o)
spanned g m n o p (Some x) (Some y) (Some z) (Some w) well h i j k =
    rw (h, i, k) (few g o x y z w (well x y z w) j)

-- ---- values of values

pub three_of : {A B C D E : Type 0} (h : E → Line) (g : A → D → E) (f : B → C → D) (x : Option A)
    (y : Option B) (z : Option C) →
    option_map h (with_two g x (with_two f y z)) ≡ with_three (λ a b c. h (g a (f b c))) x y z
three_of h g f None y z = refl
three_of h g f (Some x) None z = refl
three_of h g f (Some x) (Some y) None = refl
three_of h g f (Some x) (Some y) (Some z) = refl

pub four_of : {A B C D E F : Type 0} (h : F → Line) (g : A → E → F) (f : B × C × D → E)
    (x : Option A) (y : Option B) (z : Option C) (w : Option D) →
    option_map h (with_two g x (option_map f (with_three (λ x y z. (x, y, z)) y z w)))
    ≡ with_four (λ a b c d. h (g a (f (b, c, d)))) x y z w
four_of h g f None y z w = refl
four_of h g f (Some x) None z w = refl
four_of h g f (Some x) (Some y) None w = refl
four_of h g f (Some x) (Some y) (Some z) None = refl
four_of h g f (Some x) (Some y) (Some z) (Some w) = refl

pub mapped : {A B : Type 0} (h : B → Line) (g : A → B) (o : Option A) → option_map h (option_map g o)
    ≡ option_map (λ x. h (g x)) o
mapped h g None = refl
mapped h g (Some x) = refl

pub two_of : {A B C : Type 0} (h : C → Line) (g : A → B → C) (x : Option A) (y : Option B) →
    option_map h (with_two g x y) ≡ with_two (λ a b. h (g a b)) x y
two_of h g None y = refl
two_of h g (Some x) None = refl
two_of h g (Some x) (Some y) = refl

pub none_second : {A B C : Type 0} (h : C → Line) (g : A → B → C) (x : Option A)
    → said (option_map h (with_two g x None)) ≡ true
none_second h g None = refl
none_second h g (Some x) = refl

pub policy_said : (f : Specification → Command) (r : Result Specification WordError)
    → is_malformed (with_policy f r) ≡ false
policy_said f (Ok spec) = refl
policy_said f (Err fault) = refl

pub bind_said : (start bytes : ℕ) (r : Result Specification WordError)
    → is_malformed (bind_line start bytes r) ≡ false
bind_said start bytes (Ok spec) = refl
bind_said start bytes (Err wrong) = either (bytes == 0 && waits_for_pages wrong)
  where
    either : (b : Bool) → is_malformed (if b then line.EmptyBind start wrong else line.Command
        (Err wrong)) ≡ false
    either true = refl
    either false = refl

pub bound_said : (pages : Option BoundPages) (start bytes : ℕ) (r : Result Specification WordError)
    → is_malformed (bound_line pages start bytes r) ≡ false
bound_said None start bytes r = bind_said start bytes r
bound_said (Some pages) start bytes r = refl

pub nodes_said : (f : ℕ → Command) (r : Result ℕ ListFault) → is_malformed (with_nodes f r) ≡ false
nodes_said f (Ok mask) = refl
nodes_said f (Err fault) = refl

-- ---- how many words there are

pub too_few : (k : Keyword) (c : ℕ) (words : List (List ℕ)) → length words < length (wanted_of k words)
    → is_some (fault_behind k c words) ≡ true
too_few k c words few =
    let is : nat_lt (length words) (length (wanted_of k words)) ≡ true = grind (arith, nat_tests) in
    rw is refl

pub too_many : (k : Keyword) (c : ℕ) (words : List (List ℕ)) → length (wanted_of k words) < length words
    → is_some (fault_behind k c words) ≡ true
too_many k c words many =
    let no : nat_lt (length words) (length (wanted_of k words)) ≡ false = grind (arith, nat_tests) in
    let is : nat_lt (length (wanted_of k words)) (length words) ≡ true = grind (arith, nat_tests) in
    rw (no, is) refl

-- some word isn't of its form
abbrev pub any_misfit : List Parameter → List (List ℕ) → Bool
any_misfit [] words = false
any_misfit (p ∷ ps) [] = false
any_misfit (p ∷ ps) (word ∷ words) = is_some (misfit_of (form_of p) word) || any_misfit ps words

pub some_misfit : (k : Keyword) (p : Parameter) (c : ℕ) (m : Option Misfit) (later : Option Malformed) →
    is_some (misfit_else k p c m later) ≡ (is_some m || is_some later)
some_misfit k p c None later = refl
some_misfit k p c (Some m) later = refl

pub some_first : (k : Keyword) (ps : List Parameter) (c : ℕ) (words : List (List ℕ))
    → is_some (first_misfit k ps c words) ≡ any_misfit ps words
some_first k [] c words = refl
some_first k (p ∷ ps) c [] = refl
some_first k (p ∷ ps) c (word ∷ words) =
    some_misfit k p c (misfit_of (form_of p) word) (first_misfit k ps (c + length word + 1) words)
    ∙ ap (λ b. is_some (misfit_of (form_of p) word) || b)
    (some_first k ps (c + length word + 1) words)

pub enough : (k : Keyword) (c : ℕ) (words : List (List ℕ)) → length words ≡ length (wanted_of k words) →
    is_some (fault_behind k c words) ≡ any_misfit (wanted_of k words) words
enough k c words same =
    let no : nat_lt (length words) (length (wanted_of k words)) ≡ false = grind (arith, nat_tests) in
    let not_more : nat_lt (length (wanted_of k words)) (length words) ≡ false =
    grind (arith, nat_tests) in
    rw (no, not_more) (some_first k (wanted_of k words) c words)
