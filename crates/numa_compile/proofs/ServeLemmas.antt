-- Rules in slots go on serving their records while a plan is built.
use Rattle.std.proofs.Common.{◌≡◌, ℕ, zero, suc, ◌+◌, ◌<◌, false, ltb, Option, Some, None, List, []}
use Rattle.std.proofs.Common.{◌∷◌, ◌++◌, length, length-append, get_or, refl, sym, ap, subst, ◌∙◌}
use Rattle.std.proofs.Common.{arith, inl, inr}
use Rattle.std.proofs.lemmas.Bool.{cases_lt, le-ltb}
use Rattle.std.proofs.lemmas.Option.{same_Some, slice_get-get_or}
use Rattle.std.specs.Option.{option_map}
use Rattle.std.specs.Prelude.{slice_get}
use Rattle.numa_mode.specs.Policy.{PolicyRecord}
use Rattle.numa_space.specs.Standing.{SpaceState}
use Rattle.numa_plan.specs.Building.{with_rule, with_task}
use Rattle.numa_plan.specs.Meaning.{PlanData, number_of}
use Rattle.numa_plan.specs.Rows.{Kept}
use Rattle.numa_plan.specs.Slots.{kept_in, policy_in, put_slot, IsLowestFree}
use Rattle.numa_plan.specs.declared.slots.Slot.TheVariants.{Taken}
use Rattle.numa_plan.proofs.SlotLemmas.{same_or_not, kept_in-put, kept_in-put_other}
use Rattle.numa_plan.proofs.SlotLemmas.{kept_in-changed, none-kept, length-changed}
use Rattle.numa_compile.specs.Copies.{Serves}
use Rattle.numa_compile.specs.Sharing.{IsServing}

-- ---- slots

-- the policy of what a slot keeps
pub policy-of : (a b : Option Kept) → a ≡ b → option_map (λ kept. kept.policy) a
    ≡ option_map (λ kept. kept.policy) b
policy-of a b same = ap (λ (o : Option Kept). option_map (λ (kept : Kept). kept.policy) o) same

-- the same policies and rules in as many slots
pub serves-kept : (space : SpaceState) (old new : PlanData) (records : List PolicyRecord)
    → ((number : ℕ) → kept_in new.slots number ≡ kept_in old.slots number)
    → length new.slots ≡ length old.slots → Serves space old records → Serves space new records
serves-kept space old new records same long serves = record {
  as_many = long ∙ serves.as_many;
  policies = λ number. policy-of (kept_in new.slots number) (kept_in old.slots number) (same number)
      ∙ serves.policies number;
  serving = λ number kept is. serves.serving number kept (sym (same number) ∙ is);
}

pub serves-task : (space : SpaceState) (plan : PlanData) (task : ℕ) (number : Option ℕ)
    (records : List PolicyRecord) → Serves space plan records
    → Serves space (with_task plan task number) records
serves-task space plan task number records serves =
    serves-kept space plan (with_task plan task number) records
    (kept_in-changed plan.slots number (number_of plan.tasks task))
    (length-changed plan.slots number (number_of plan.tasks task))
    serves

-- each slot has a rule, so that the lowest free one is behind them
free-last : (space : SpaceState) (plan : PlanData) (number : ℕ) (records : List PolicyRecord)
    → Serves space plan records → IsLowestFree plan.slots number → number ≡ length records
free-last space plan number records serves lowest =
    elim (cases_lt number (length records)) [
      | inl lt ↦ inside lt
      | inr past ↦ omega (arith, past, lowest.within, serves.as_many)
    ]
  where
    none : policy_in plan.slots number ≡ None
    none = policy-of (kept_in plan.slots number) None (none-kept plan.slots number lowest.free)

    inside : number < length records → number ≡ length records
    inside lt = go records refl lt
      where
        go : (all : List PolicyRecord) → records ≡ all → number < length records
            → number ≡ length records
        go [] is lt = absurd (omega (arith, lt, ap length is))
        go (r ∷ rest) is lt =
            let some : slice_get records number ≡ Some (get_or records number r) =
            slice_get-get_or records number r lt in
            absurd (let odd : ◌≡◌ {A = Option PolicyRecord} None (Some (get_or records number r)) =
            sym none ∙ serves.policies number ∙ some in cc)

-- one element more, behind the others
pub get-last : {T : Type 0} (xs : List T) (x : T) → slice_get (xs ++ x ∷ []) (length xs) ≡ Some x
get-last [] x = refl
get-last (first ∷ xs) x = get-last xs x

pub get-before : {T : Type 0} (xs : List T) (x : T) (k : ℕ) → (k ≡ length xs → ⊥)
    → slice_get (xs ++ x ∷ []) k ≡ slice_get xs k
get-before [] x zero other = absurd (other refl)
get-before [] x (suc k) other = refl
get-before (first ∷ xs) x zero other = refl
get-before (first ∷ xs) x (suc k) other = get-before xs x k (λ same. other (ap suc same))

-- one rule more, and its record
pub serves-rule : (space : SpaceState) (plan : PlanData) (number : ℕ) (kept : Kept)
    (records : List PolicyRecord) → Serves space plan records → IsLowestFree plan.slots number
    → IsServing space kept
    → (number ≡ length records) × Serves space (with_rule plan number kept)
    (records ++ kept.policy ∷ [])
serves-rule space plan number kept records serves lowest serving = (
  last,
  record {
    as_many = ap length written ∙ length-append plan.slots (Taken 0 kept ∷ []) ∙ longer;
    policies = policies;
    serving = each;
  },
)
  where
    last : number ≡ length records
    last = free-last space plan number records serves lowest

    written : put_slot plan.slots number (Taken 0 kept) ≡ plan.slots ++ Taken 0 kept ∷ []
    written = let past : ltb number (length plan.slots) ≡ false =
        le-ltb number (length plan.slots) (omega (arith, last, serves.as_many)) in rw past refl

    longer : length plan.slots + 1 ≡ length (records ++ kept.policy ∷ [])
    longer = omega (arith, serves.as_many, length-append records (kept.policy ∷ []))

    policies : (k : ℕ) → policy_in (put_slot plan.slots number (Taken 0 kept)) k
        ≡ slice_get (records ++ kept.policy ∷ []) k
    policies k =
        elim (same_or_not k number) [
          | inl here ↦
              subst (λ (n : ℕ). policy_in (put_slot plan.slots number (Taken 0 kept)) n
              ≡ slice_get (records ++ kept.policy ∷ []) n) (sym here)
              (policy-of (kept_in (put_slot plan.slots number (Taken 0 kept)) number) (Some kept)
              (kept_in-put plan.slots number kept lowest.within)
              ∙ sym (ap (slice_get (records ++ kept.policy ∷ [])) last
              ∙ get-last records kept.policy))
          | inr other ↦
              policy-of (kept_in (put_slot plan.slots number (Taken 0 kept)) k)
              (kept_in plan.slots k)
              (kept_in-put_other plan.slots number k kept lowest.within other)
              ∙ serves.policies k
              ∙ sym (get-before records kept.policy k (λ same. other (same ∙ sym last)))
        ]

    each : (k : ℕ) (held : Kept) → kept_in (put_slot plan.slots number (Taken 0 kept)) k ≡ Some held
        → IsServing space held
    each k held is =
        elim (same_or_not k number) [
          | inl here ↦
              let own : kept_in (put_slot plan.slots number (Taken 0 kept)) k ≡ Some kept =
              subst (λ (n : ℕ). kept_in (put_slot plan.slots number (Taken 0 kept)) n
              ≡ Some kept) (sym here) (kept_in-put plan.slots number kept lowest.within) in
              subst (λ (one : Kept). IsServing space one) (same_Some kept held (sym own ∙ is))
              serving
          | inr other ↦
              serves.serving k held
              (sym (kept_in-put_other plan.slots number k kept lowest.within other) ∙ is)
        ]
