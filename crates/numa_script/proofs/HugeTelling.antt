-- Whether mappings, and lines about pages of 2 MiB and their pools, are malformed.
use Rattle.std.specs.Prelude.{◌≡◌, ℕ, ◌||◌, Bool, true, false, List, [], ◌∷◌, is_some, is_none}
use Rattle.std.specs.Prelude.{Option, Some, None, refl, codes}
use Rattle.std.specs.Option.{option_map}
use Rattle.std.specs.Str.{bytes_eq}
use Rattle.std.proofs.Common.{sym, ◌∙◌, arith}
use Rattle.numa_script.specs.Causes.{fault_behind, is_malformed}
use Rattle.numa_script.specs.HugeLines.{count_of, fault_line, map_line, mapped_line, pool_line}
use Rattle.numa_script.specs.HugeLines.{words_for}
use Rattle.numa_script.specs.Numbers.{number_of, small_of}
use Rattle.numa_script.specs.Present.{with_four}
use Rattle.numa_script.specs.declared.huge_line.HugeLine.TheVariants as huge
use Rattle.numa_script.specs.declared.huge_line.HugeWords.{HugeWords}
use Rattle.numa_script.specs.declared.keyword.Keyword.TheVariants as keyword
use Rattle.numa_script.specs.declared.line.Line.{Line}
use Rattle.numa_script.specs.declared.line.Line.TheVariants as line
use Rattle.numa_script.proofs.EmptyWords.{word_begun}
use Rattle.numa_script.proofs.Misfits.{any_number, pool_count, small}
use Rattle.numa_script.proofs.Together.{enough, four, one, pair, said, too_few, too_many, triple}

-- ---- pools, and first touches

pub says_pool : (c : ℕ) (words : List (List ℕ)) → is_some (fault_behind keyword.Pool c words)
    ≡ said (pool_line words)
says_pool c [] = enough keyword.Pool c [] refl
says_pool c (a ∷ []) =
    enough keyword.Pool c (a ∷ []) refl
    ∙ one (λ x. line.Huge (huge.Resize x)) _ (count_of a) (λ x. refl) (pool_count a)
says_pool c (a ∷ b ∷ []) =
    enough keyword.Pool c (a ∷ b ∷ []) refl
    ∙ pair (λ v. line.Huge (huge.ResizeNode v.0 v.1)) _ _ (small_of a) (count_of b)
    (λ v. refl) (small a) (pool_count b)
says_pool c (a ∷ b ∷ d ∷ []) =
    enough keyword.Pool c (a ∷ b ∷ d ∷ []) refl
    ∙ triple (λ v. line.Huge (huge.ResizeFor v.0 v.1 v.2)) _ _ _ (count_of a) (small_of b)
    (small_of d) (λ v. refl) (pool_count a) (small b) (small d)
says_pool c (a ∷ b ∷ d ∷ e ∷ words) = too_many keyword.Pool c (a ∷ b ∷ d ∷ e ∷ words) (omega arith)

pub says_fault : (c : ℕ) (words : List (List ℕ)) → is_some (fault_behind keyword.Fault c words)
    ≡ said (fault_line words)
says_fault c [] = too_few keyword.Fault c [] (omega arith)
says_fault c (a ∷ []) = too_few keyword.Fault c (a ∷ []) (omega arith)
says_fault c (a ∷ b ∷ []) = too_few keyword.Fault c (a ∷ b ∷ []) (omega arith)
says_fault c (a ∷ b ∷ d ∷ []) =
    enough keyword.Fault c (a ∷ b ∷ d ∷ []) refl
    ∙ triple (λ v. line.Huge (huge.Fault v.0 v.1 v.2)) _ _ _ (small_of a) (number_of b)
    (small_of d) (λ v. refl) (small a) (any_number b) (small d)
says_fault c (a ∷ b ∷ d ∷ e ∷ words) =
    too_many keyword.Fault c (a ∷ b ∷ d ∷ e ∷ words) (omega arith)

-- ---- mappings

mapped_well : (start bytes offset : ℕ) (said : Option HugeWords)
    → is_malformed (mapped_line start bytes offset said) ≡ false
mapped_well start bytes offset None = refl
mapped_well start bytes offset (Some said) = refl

none_fourth : {A B C D : Type 0} (g : A → B → C → D → Line) (x : Option A) (y : Option B)
    (z : Option C) → said (with_four g x y z None) ≡ true
none_fourth g None y z = refl
none_fourth g (Some x) None z = refl
none_fourth g (Some x) (Some y) None = refl
none_fourth g (Some x) (Some y) (Some z) = refl

-- where the words behind the offset say whose pages of 2 MiB they are
huge_four : (g : ℕ → ℕ → ℕ → Option HugeWords → Line) (f : ℕ → HugeWords) (m n o p : Bool)
    (x y z t : Option ℕ)
    → ((x y z : ℕ) (said : Option HugeWords) → is_malformed (g x y z said) ≡ false)
    → m ≡ is_none x → n ≡ is_none y → o ≡ is_none z → p ≡ is_none t
    → (m || (n || (o || (p || false)))) ≡ said (with_four g x y z
    (option_map Some (option_map f t)))
huge_four g f m n o p None y z t well h i j k = rw h refl
huge_four g f m n o p (Some x) None z t well h i j k = rw (h, i) refl
huge_four g f m n o p (Some x) (Some y) None t well h i j k = rw (h, i, j) refl
huge_four g f m n o p (Some x) (Some y) (Some z) None well h i j k = rw (h, i, j, k) refl
huge_four g f m n o p (Some x) (Some y) (Some z) (Some t) well h i j k =
    rw (h, i, j, k, well x y z (Some (f t))) refl

none_of_three : (a b d : List ℕ)
    → true ≡ said (with_four mapped_line (number_of a) (number_of b) (number_of d) None)
none_of_three a b d = sym (none_fourth mapped_line (number_of a) (number_of b) (number_of d))

-- map START LENGTH OFFSET huge TASK WORD
says_last : (n : Bool) (c : ℕ) (a b d w t l : List ℕ) (h : ℕ) (words : List (List ℕ))
    → bytes_eq (h ∷ w) (codes "huge") ≡ true → bytes_eq l (codes "noreserve") ≡ n
    → is_some (fault_behind keyword.Map c (a ∷ b ∷ d ∷ (h ∷ w) ∷ t ∷ l ∷ words))
    ≡ said (map_line (a ∷ b ∷ d ∷ (h ∷ w) ∷ t ∷ l ∷ words))
says_last false c a b d w t l h [] e f =
    too_many keyword.Map c (a ∷ b ∷ d ∷ (h ∷ w) ∷ t ∷ l ∷ []) (rw (e, f) (omega arith))
    ∙ rw (e, f) (none_of_three a b d)
says_last false c a b d w t l h (v ∷ words) e f =
    too_many keyword.Map c (a ∷ b ∷ d ∷ (h ∷ w) ∷ t ∷ l ∷ v ∷ words) (rw (e, f) (omega arith))
    ∙ none_of_three a b d
says_last true c a b d w t [] h words e f = cc
says_last true c a b d w t (k ∷ l) h [] e f =
    enough keyword.Map c (a ∷ b ∷ d ∷ (h ∷ w) ∷ t ∷ (k ∷ l) ∷ []) (rw (e, f) refl)
    ∙ rw (e, f, word_begun h w, word_begun k l) (huge_four mapped_line (words_for false) _ _ _ _ (number_of a) (number_of b)
    (number_of d) (small_of t) mapped_well (any_number a) (any_number b) (any_number d) (small t))
says_last true c a b d w t (k ∷ l) h (v ∷ words) e f =
    too_many keyword.Map c (a ∷ b ∷ d ∷ (h ∷ w) ∷ t ∷ (k ∷ l) ∷ v ∷ words)
    (rw (e, f) (omega arith)) ∙ none_of_three a b d

-- map START LENGTH OFFSET WORD ..
says_huge : (is : Bool) (c : ℕ) (a b d w : List ℕ) (words : List (List ℕ))
    → bytes_eq w (codes "huge") ≡ is
    → is_some (fault_behind keyword.Map c (a ∷ b ∷ d ∷ w ∷ words))
    ≡ said (map_line (a ∷ b ∷ d ∷ w ∷ words))
says_huge false c a b d w [] e =
    too_many keyword.Map c (a ∷ b ∷ d ∷ w ∷ []) (rw e (omega arith)) ∙ none_of_three a b d
says_huge false c a b d w (t ∷ []) e =
    too_many keyword.Map c (a ∷ b ∷ d ∷ w ∷ t ∷ []) (rw e (omega arith))
    ∙ rw e (none_of_three a b d)
says_huge false c a b d w (t ∷ l ∷ []) e =
    too_many keyword.Map c (a ∷ b ∷ d ∷ w ∷ t ∷ l ∷ []) (rw e (omega arith))
    ∙ rw e (none_of_three a b d)
says_huge false c a b d w (t ∷ l ∷ v ∷ words) e =
    too_many keyword.Map c (a ∷ b ∷ d ∷ w ∷ t ∷ l ∷ v ∷ words) (rw e (omega arith))
    ∙ none_of_three a b d
says_huge true c a b d [] words e = cc
says_huge true c a b d (h ∷ w) [] e =
    too_few keyword.Map c (a ∷ b ∷ d ∷ (h ∷ w) ∷ []) (rw e (omega arith)) ∙ none_of_three a b d
says_huge true c a b d (h ∷ w) (t ∷ []) e =
    enough keyword.Map c (a ∷ b ∷ d ∷ (h ∷ w) ∷ t ∷ []) (rw e refl)
    ∙ rw (e, word_begun h w) (huge_four mapped_line (words_for true) _ _ _ _ (number_of a) (number_of b)
    (number_of d) (small_of t) mapped_well (any_number a) (any_number b) (any_number d) (small t))
says_huge true c a b d (h ∷ w) (t ∷ l ∷ words) e =
    says_last (bytes_eq l (codes "noreserve")) c a b d w t l h words e refl

pub says_map : (c : ℕ) (words : List (List ℕ)) → is_some (fault_behind keyword.Map c words)
    ≡ said (map_line words)
says_map c [] = too_few keyword.Map c [] (omega arith)
says_map c (a ∷ []) = too_few keyword.Map c (a ∷ []) (omega arith)
says_map c (a ∷ b ∷ []) = too_few keyword.Map c (a ∷ b ∷ []) (omega arith)
says_map c (a ∷ b ∷ d ∷ []) =
    enough keyword.Map c (a ∷ b ∷ d ∷ []) refl
    ∙ four mapped_line _ _ _ false (number_of a) (number_of b) (number_of d) (Some None)
    mapped_well (any_number a) (any_number b) (any_number d) refl
says_map c (a ∷ b ∷ d ∷ w ∷ words) = says_huge (bytes_eq w (codes "huge")) c a b d w words refl
