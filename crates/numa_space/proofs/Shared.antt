-- Tasks that share their records: what is done to the numbers and to the records is done to the
-- tasks' policies.
use Rattle.std.proofs.Common.{◌≡◌, ◌≢◌, ◌+◌, ◌<◌, ◌≤◌, ◌++◌, ◌∷◌, ℕ, zero, suc, Bool}
use Rattle.std.proofs.Common.{Some, None, Option, List, [], length, map, refl, sym, ap, subst, ◌∙◌}
use Rattle.std.proofs.Common.{inl, inr, arith, nat_eq, ◌==◌, take, get_or, AllPairs, slice_get}
use Rattle.std.proofs.Common.{is_some}
use Rattle.std.specs.Prelude.{slice_index_or, if◌then◌else◌}
use Rattle.std.specs.Option.{option_map}
use Rattle.std.specs.Map.{lookup, keys_of, remove_entry}
use Rattle.std.proofs.lemmas.Bool.{cases_Bool, eqb-true}
use Rattle.std.proofs.lemmas.List.{length-map, take_more}
use Rattle.std.proofs.lemmas.Option.{slice_get-get_or, slice_get_within}
use Rattle.indexmap.specs.IndexMap.{insert_entry}
use Rattle.numa_mode.specs.Policy.{PolicyRecord}
use Rattle.numa_ranges.specs.Numbered.{IsLonger}
use Rattle.numa_space.specs.Shared.{no_record, with_record, with_records, HaveRecords}
use Rattle.numa_space.specs.Standing.{record_of}

-- ---- look-ups

-- a task's record is that of its number
pub record-found : (records : List PolicyRecord) (tasks : List (ℕ × ℕ)) (task : ℕ)
    → record_of (with_records records tasks) task
    ≡ option_map (λ number. slice_index_or records number no_record) (lookup (nat_eq task) tasks)
record-found records [] task = refl
record-found records (held ∷ tasks) task =
    elim (cases_Bool (nat_eq task held.0)) [
      | inl here ↦ rw here refl
      | inr other ↦ rw other (record-found records tasks task)
    ]

-- a task has a record if it has a number
pub some-found : (records : List PolicyRecord) (tasks : List (ℕ × ℕ)) (task : ℕ)
    → is_some (record_of (with_records records tasks) task) ≡ is_some (lookup (nat_eq task) tasks)
some-found records [] task = refl
some-found records (held ∷ tasks) task =
    elim (cases_Bool (nat_eq task held.0)) [
      | inl here ↦ rw here refl
      | inr other ↦ rw other (some-found records tasks task)
    ]

pub none-found : (records : List PolicyRecord) (tasks : List (ℕ × ℕ)) (task : ℕ)
    → record_of (with_records records tasks) task ≡ None → lookup (nat_eq task) tasks ≡ None
none-found records [] task none = refl
none-found records (held ∷ tasks) task none =
    elim (cases_Bool (nat_eq task held.0)) [
      | inl here ↦ let some : Some (with_record records held).1 ≡ None = rw here at none in
          absurd (cc)
      | inr other ↦ rw other (none-found records tasks task (rw other at none))
    ]

-- a number that was found has a record
pub number-found : (count : ℕ) (tasks : List (ℕ × ℕ)) (task number : ℕ) → HaveRecords count tasks
    → lookup (nat_eq task) tasks ≡ Some number → number < count
number-found count [] task number have found = absurd (cc)
number-found count (held ∷ tasks) task number have found =
    elim (cases_Bool (nat_eq task held.0)) [
      | inl here ↦ let is : Some held.1 ≡ Some number = rw here at found in
          let same : held.1 ≡ number = cc in
          omega (arith, have.0, same)
      | inr other ↦ number-found count tasks task number have.1 (rw other at found)
    ]

-- so has the number at a place
pub number-at : (count : ℕ) (tasks : List (ℕ × ℕ)) (place : ℕ) (held : ℕ × ℕ)
    → HaveRecords count tasks → slice_get tasks place ≡ Some held → held.1 < count
number-at count [] place held have found = absurd (cc)
number-at count (one ∷ tasks) zero held have found =
    let same : one ≡ held = cc in
    omega (arith, have.0, ap (λ (e : ℕ × ℕ). e.1) same)
number-at count (one ∷ tasks) (suc place) held have found =
    number-at count tasks place held have.1 found

-- the record under a number that was given
pub record-is : (records : List PolicyRecord) (number : ℕ) (policy : PolicyRecord)
    → slice_get records number ≡ Some policy
    → slice_index_or records number no_record ≡ policy
record-is records number policy given =
    let within = slice_get_within records number policy given in
    let e : Some (get_or records number no_record) ≡ Some policy =
    sym (slice_get-get_or records number no_record within) ∙ given in
    cc

-- ---- records of a longer list

record-longer : (old new : List PolicyRecord) (number : ℕ) → IsLonger old new
    → number < length old
    → slice_index_or new number no_record ≡ slice_index_or old number no_record
record-longer old new number longer within =
    let a = slice_get-get_or old number no_record within in
    let b = slice_get-get_or new number no_record (omega (arith, within, longer.size)) in
    let c = longer.same number within in
    let e : Some (get_or new number no_record) ≡ Some (get_or old number no_record) =
    sym b ∙ c ∙ a in
    cc

pub have-longer : (old new : ℕ) (tasks : List (ℕ × ℕ)) → old ≤ new → HaveRecords old tasks
    → HaveRecords new tasks
have-longer old new [] more have = tt
have-longer old new (held ∷ tasks) more have =
    (omega (arith, more, have.0), have-longer old new tasks more have.1)

pub with-longer : (old new : List PolicyRecord) (tasks : List (ℕ × ℕ)) → IsLonger old new
    → HaveRecords (length old) tasks → with_records new tasks ≡ with_records old tasks
with-longer old new [] longer have = refl
with-longer old new (held ∷ tasks) longer have =
    let here = record-longer old new held.1 longer have.0 in
    let rest = with-longer old new tasks longer have.1 in
    λ i. (held.0, here i) ∷ rest i

-- ---- a task's number is set or removed

pub have-insert : (count : ℕ) (tasks : List (ℕ × ℕ)) (task number : ℕ) → number < count
    → HaveRecords count tasks → HaveRecords count (insert_entry nat_eq tasks task number)
have-insert count [] task number within have = (within, tt)
have-insert count (held ∷ tasks) task number within have =
    elim (cases_Bool (nat_eq task held.0)) [
      | inl here ↦ rw here (within, have.1)
      | inr other ↦ rw other (have.0, have-insert count tasks task number within have.1)
    ]

-- where one task's number is another, or none, so is its record
pub updated-found : (records : List PolicyRecord) (old new : List (ℕ × ℕ)) (task other : ℕ)
    (number : Option ℕ) → lookup (nat_eq other) new
    ≡ (if task == other then number else lookup (nat_eq other) old)
    → record_of (with_records records new) other
    ≡ (if task == other then option_map (λ n. slice_index_or records n no_record) number
    else record_of (with_records records old) other)
updated-found records old new task other number updated =
    record-found records new other
    ∙ ap (option_map (λ n. slice_index_or records n no_record)) updated
    ∙ elim (cases_Bool (task == other)) [
      | inl here ↦ rw here refl
      | inr apart ↦ rw apart (sym (record-found records old other))
    ]

-- how many tasks there are then
pub count-put : (records more : List PolicyRecord) (old new : List (ℕ × ℕ))
    (now : List (ℕ × PolicyRecord)) (task : ℕ) → with_records records old ≡ now
    → length new ≡ length old + (if is_some (lookup (nat_eq task) old) then 0 else 1)
    → length (with_records more new)
    ≡ length now + (if is_some (record_of now task) then 0 else 1)
count-put records more old new now task is size =
    let P : List (ℕ × PolicyRecord) → Type 0 = λ l. length (with_records more new)
    ≡ length l + (if is_some (record_of l task) then 0 else 1) in
    let counted : length new ≡ length old
    + (if is_some (record_of (with_records records old) task) then 0 else 1) =
    size ∙ ap (λ b. length old + (if b then 0 else 1)) (sym (some-found records old task)) in
    subst P is (length-map new (with_record more) ∙ counted
    ∙ ap (λ n. n + (if is_some (record_of (with_records records old) task) then 0 else 1))
    (sym (length-map old (with_record records))))

pub count-clear : (records : List PolicyRecord) (old new : List (ℕ × ℕ))
    (now : List (ℕ × PolicyRecord)) (task : ℕ) → with_records records old ≡ now
    → length new + (if is_some (lookup (nat_eq task) old) then 1 else 0) ≡ length old
    → length (with_records records new) + (if is_some (record_of now task) then 1 else 0)
    ≡ length now
count-clear records old new now task is size =
    let P : List (ℕ × PolicyRecord) → Type 0 = λ l. length (with_records records new)
    + (if is_some (record_of l task) then 1 else 0) ≡ length l in
    let counted : length new
    + (if is_some (record_of (with_records records old) task) then 1 else 0) ≡ length old =
    ap (λ b. length new + (if b then 1 else 0)) (some-found records old task) ∙ size in
    subst P is (ap (λ n. n + (if is_some (record_of (with_records records old) task) then 1 else 0))
    (length-map new (with_record records)) ∙ counted
    ∙ sym (length-map old (with_record records)))

-- a task behind the others
pub with-last : (records : List PolicyRecord) (tasks : List (ℕ × ℕ)) (task number : ℕ)
    → with_records records (tasks ++ (task, number) ∷ [])
    ≡ with_records records tasks ++ (task, slice_index_or records number no_record) ∷ []
with-last records [] task number = refl
with-last records (held ∷ tasks) task number =
    let rest = with-last records tasks task number in
    λ i. with_record records held ∷ rest i

pub have-remove : (count : ℕ) (test : ℕ → Bool) (tasks : List (ℕ × ℕ)) → HaveRecords count tasks
    → HaveRecords count (remove_entry test tasks)
have-remove count test [] have = tt
have-remove count test (held ∷ tasks) have =
    elim (cases_Bool (test held.0)) [
      | inl here ↦ rw here have.1
      | inr other ↦ rw other (have.0, have-remove count test tasks have.1)
    ]

-- ---- records change

record-changed : (change : PolicyRecord → PolicyRecord) (records : List PolicyRecord) (number : ℕ)
    → number < length records → slice_index_or (map change records) number no_record
    ≡ change (slice_index_or records number no_record)
record-changed change [] number within = absurd (omega arith)
record-changed change (r ∷ records) zero within = refl
record-changed change (r ∷ records) (suc number) within =
    record-changed change records number (omega arith)

pub changed-found : (change : PolicyRecord → PolicyRecord) (records : List PolicyRecord)
    (tasks : List (ℕ × ℕ)) (task : ℕ) → HaveRecords (length records) tasks
    → record_of (with_records (map change records) tasks) task
    ≡ option_map change (record_of (with_records records tasks) task)
changed-found change records [] task have = refl
changed-found change records (held ∷ tasks) task have =
    elim (cases_Bool (nat_eq task held.0)) [
      | inl here ↦ rw here (ap Some (record-changed change records held.1 have.0))
      | inr other ↦ rw other (changed-found change records tasks task have.1)
    ]

-- ---- tasks one after another

-- the tasks are those of the numbers
pub keys-with : (records : List PolicyRecord) (tasks : List (ℕ × ℕ))
    → keys_of (with_records records tasks) ≡ keys_of tasks
keys-with records [] = refl
keys-with records (held ∷ tasks) =
    let rest = keys-with records tasks in
    λ i. held.0 ∷ rest i

pub more-taken : (tasks : List (ℕ × PolicyRecord)) (k : ℕ) (held : ℕ × PolicyRecord)
    → slice_get tasks k ≡ Some held → take k tasks ++ held ∷ [] ≡ take (k + 1) tasks
more-taken tasks k held at =
    let within : k < length tasks = slice_get_within tasks k held at in
    let read : Some (get_or tasks k held) ≡ Some held =
    sym (slice_get-get_or tasks k held within) ∙ at in
    let is : get_or tasks k held ≡ held = cc in
    ap (λ one. take k tasks ++ one ∷ []) (sym is) ∙ sym (take_more tasks k held within)

-- no task of the first so many is the one behind them
pub record-first : (tasks : List (ℕ × PolicyRecord)) (k : ℕ) (held : ℕ × PolicyRecord)
    → AllPairs (λ earlier later. earlier.0 ≢ later.0) tasks → slice_get tasks k ≡ Some held
    → record_of (take k tasks) held.0 ≡ None
record-first [] k held apart at = absurd (cc)
record-first (one ∷ tasks) zero held apart at = refl
record-first (one ∷ tasks) (suc k) held apart at =
    let within : k < length tasks = slice_get_within tasks k held at in
    let read : Some (get_or tasks k one) ≡ Some held =
    sym (slice_get-get_or tasks k one within) ∙ at in
    let is : get_or tasks k one ≡ held = cc in
    let rest = record-first tasks k held
    (λ i j d before inside. apart (suc i) (suc j) d (omega (arith, before)) (omega (arith, inside)))
    at in
    elim (cases_Bool (nat_eq held.0 one.0)) [
      | inl here ↦ absurd (apart 0 (suc k) one (omega arith) (omega (arith, within))
          (sym (eqb-true held.0 one.0 here)
          ∙ sym (ap (λ (e : ℕ × PolicyRecord). e.0) is)))
      | inr other ↦ rw other rest
    ]
