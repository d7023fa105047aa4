-- A policy word that begins with a mode's name and a colon is cut there.
use Rattle.std.specs.Prelude.{◌≡◌, ◌==◌, ◌++◌, ℕ, List, codes, Some, None, position, length}
use Rattle.std.specs.Prelude.{nat_le, Bool, true, cond, Option}
use Rattle.std.proofs.Common.{◌∙◌, ap, arith, ◌≤◌, refl, length-append}
use Rattle.std.proofs.lemmas.Bool.Decides.{nat_tests}
use Rattle.numa_mask.specs.Lists.{list_of}
use Rattle.numa_mode.specs.declared.modes.Mode.{Mode}
use Rattle.numa_mode.specs.declared.modes.Mode.TheVariants as mode
use Rattle.numa_script.specs.Policies.{mode_of, plain_form, policy_cut, policy_from, policy_of}

-- the word has the mode, and the nodes of the list
abbrev IsListed : List ℕ → Mode → List ℕ → Type 0
IsListed word m list = policy_of word ≡ policy_from (Some (plain_form m)) (list_of list)

reaches : (n : ℕ) (front list : List ℕ) → length front ≡ n
    → nat_le n (length (front ++ list)) ≡ true
reaches n front list is =
    let long : n ≤ length (front ++ list) = omega (arith, length-append front list, is) in
    grind (arith, nat_tests, long)

abbrev where_within : ℕ → Bool → Option ℕ
where_within place within = cond within (Some place) None

prefer_colon : (list : List ℕ) → position (λ b. b == 58) (codes "prefer:" ++ list) ≡ Some 6
prefer_colon list = ap (where_within 6) (reaches 7 (codes "prefer:") list refl)

bind_colon : (list : List ℕ) → position (λ b. b == 58) (codes "bind:" ++ list) ≡ Some 4
bind_colon list = ap (where_within 4) (reaches 5 (codes "bind:") list refl)

interleave_colon : (list : List ℕ)
    → position (λ b. b == 58) (codes "interleave:" ++ list) ≡ Some 10
interleave_colon list = ap (where_within 10) (reaches 11 (codes "interleave:") list refl)

weighted_colon : (list : List ℕ) → position (λ b. b == 58) (codes "weighted:" ++ list) ≡ Some 8
weighted_colon list = ap (where_within 8) (reaches 9 (codes "weighted:") list refl)

many_colon : (list : List ℕ) → position (λ b. b == 58) (codes "many:" ++ list) ≡ Some 4
many_colon list = ap (where_within 4) (reaches 5 (codes "many:") list refl)

pub prefer_listed : (word list : List ℕ) → word ≡ codes "prefer:" ++ list
    → IsListed word mode.Preferred list
unfolding policy_of mode_of
prefer_listed word list front =
    ap policy_of front ∙ ap (policy_cut (codes "prefer:" ++ list)) (prefer_colon list)

pub bind_listed : (word list : List ℕ) → word ≡ codes "bind:" ++ list
    → IsListed word mode.Bind list
unfolding policy_of mode_of
bind_listed word list front =
    ap policy_of front ∙ ap (policy_cut (codes "bind:" ++ list)) (bind_colon list)

pub interleave_listed : (word list : List ℕ) → word ≡ codes "interleave:" ++ list
    → IsListed word mode.Interleave list
unfolding policy_of mode_of
interleave_listed word list front =
    ap policy_of front ∙ ap (policy_cut (codes "interleave:" ++ list)) (interleave_colon list)

pub weighted_listed : (word list : List ℕ) → word ≡ codes "weighted:" ++ list
    → IsListed word mode.WeightedInterleave list
unfolding policy_of mode_of
weighted_listed word list front =
    ap policy_of front ∙ ap (policy_cut (codes "weighted:" ++ list)) (weighted_colon list)

pub many_listed : (word list : List ℕ) → word ≡ codes "many:" ++ list
    → IsListed word mode.PreferredMany list
unfolding policy_of mode_of
many_listed word list front =
    ap policy_of front ∙ ap (policy_cut (codes "many:" ++ list)) (many_colon list)
