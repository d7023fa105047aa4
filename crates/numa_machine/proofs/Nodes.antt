-- Tests of the nodes of a machine, one after the other.
use Rattle.std.proofs.Common.{◌≡◌, ℕ, zero, suc, ◌+◌, ◌<◌, ◌≤◌, Bool, true, false, List, [], ◌∷◌}
use Rattle.std.proofs.Common.{◌++◌, flat_map, refl, sym, ap, ◌∙◌, arith, inl, inr, append-nil}
use Rattle.std.proofs.Common.{append_assoc, add-zero, add-one, zero-add}
use Rattle.std.proofs.lemmas.Bool.{or_left, or_right, or_from, or_parts, cases_eq}
use Rattle.std.specs.List.{range_with_len, list_any}
use Rattle.numa_machine.specs.Faults.{some_node}
use Rattle.numa_machine.proofs.Rising.{IsIn}

range_passes : (test : ℕ → Bool) (a n k : ℕ) → a ≤ k → k < a + n → test k ≡ true
    → list_any test (range_with_len a n) ≡ true
range_passes test a zero k h l t = absurd (omega arith)
range_passes test a (suc n) k h l t =
    elim (cases_eq a k) [
      | inl e ↦ or_left (test a) (list_any test (range_with_len (a + 1) n)) (ap test e ∙ t)
      | inr ne ↦ or_right (test a) (list_any test (range_with_len (a + 1) n))
          (range_passes test (a + 1) n k (omega arith) (omega arith) t)
    ]

range_fails : (test : ℕ → Bool) (a n : ℕ) → ((k : ℕ) → k < a + n → test k ≡ false)
    → list_any test (range_with_len a n) ≡ false
range_fails test a zero f = refl
range_fails test a (suc n) f =
    or_from (test a) (list_any test (range_with_len (a + 1) n)) (f a (omega arith))
    (range_fails test (a + 1) n (λ k h. f k (omega arith)))

range_failed : (test : ℕ → Bool) (a n k : ℕ) → list_any test (range_with_len a n) ≡ false → a ≤ k
    → k < a + n → test k ≡ false
range_failed test a zero k f h l = absurd (omega arith)
range_failed test a (suc n) k f h l =
    let parts = or_parts (test a) (list_any test (range_with_len (a + 1) n)) f in
    elim (cases_eq a k) [
      | inl e ↦ ap test (sym e) ∙ parts.0
      | inr ne ↦ range_failed test (a + 1) n k parts.1 (omega arith) (omega arith)
    ]

pub some_node-one : (nodes : ℕ) (test : ℕ → Bool) (node : ℕ) → node < nodes → test node ≡ true
    → some_node nodes test ≡ true
some_node-one nodes test node h t = range_passes test 0 nodes node (omega arith) (omega arith) t

pub some_node-none : (nodes : ℕ) (test : ℕ → Bool) → ((node : ℕ) → node < nodes → test node ≡ false)
    → some_node nodes test ≡ false
some_node-none nodes test f = range_fails test 0 nodes (λ k h. f k (omega arith))

pub none_of_the_nodes : (nodes : ℕ) (test : ℕ → Bool) (node : ℕ) → some_node nodes test ≡ false
    → node < nodes → test node ≡ false
none_of_the_nodes nodes test node f h = range_failed test 0 nodes node f (omega arith) (omega arith)

pub none_of_the_list : (test : ℕ → Bool) (xs : List ℕ) (x : ℕ) → list_any test xs ≡ false
    → IsIn xs x → test x ≡ false
none_of_the_list test [] x f i = absurd i
none_of_the_list test (y ∷ ys) x f i =
    let parts = or_parts (test y) (list_any test ys) f in
    elim i [
      | inl same ↦ ap test same ∙ parts.0
      | inr later ↦
          none_of_the_list test ys x parts.1 later
    ]

-- one more node
flat_map-range_suc : (f : ℕ → List ℕ) (a n : ℕ) → flat_map f (range_with_len a (suc n))
    ≡ flat_map f (range_with_len a n) ++ f (a + n)
flat_map-range_suc f a zero = append-nil (f a) ∙ ap f (sym (add-zero a))
flat_map-range_suc f a (suc n) =
    let place : a + 1 + n ≡ a + suc n = omega arith in
    ap (λ rest. f a ++ rest) (flat_map-range_suc f (a + 1) n
    ∙ ap (λ k. flat_map f (range_with_len (a + 1) n) ++ f k) place)
    ∙ sym (append_assoc (f a) (flat_map f (range_with_len (a + 1) n)) (f (a + suc n)))

pub flat_map-range_more : (f : ℕ → List ℕ) (n : ℕ) → flat_map f (range_with_len 0 (n + 1))
    ≡ flat_map f (range_with_len 0 n) ++ f n
flat_map-range_more f n =
    ap (λ k. flat_map f (range_with_len 0 k)) (add-one n) ∙ flat_map-range_suc f 0 n
    ∙ ap (λ k. flat_map f (range_with_len 0 n) ++ f k) (zero-add n)
