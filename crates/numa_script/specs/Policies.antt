-- Policy words: NAME, then =static or not, then =relative or not, then : and a list of nodes or
-- nothing.
use Rattle.std.specs.Prelude.{ℕ, ◌+◌, ◌==◌, ◌&&◌, Bool, true, false, List, [], ◌∷◌, take, drop}
use Rattle.std.specs.Prelude.{position, codes, if◌then◌else◌, Option, Some, None, Result, Ok, Err}
use Rattle.std.specs.Str.{bytes_eq}
use Rattle.std.specs.Option.{option_map}
use Rattle.numa_mask.specs.Lists.{list_of}
use Rattle.numa_mask.specs.declared.list.ListFault.{ListFault}
use Rattle.numa_mode.specs.Policy.{Specification, specification_of}
use Rattle.numa_mode.specs.declared.modes.Mode.{Mode}
use Rattle.numa_mode.specs.declared.modes.Mode.TheVariants as mode
use Rattle.numa_mode.specs.declared.specification.SpecError.{SpecError}
use Rattle.numa_mode.specs.declared.specification.SpecError.TheVariants.{UnknownMode}
use Rattle.numa_mode.specs.declared.specification.SpecError.TheVariants.{NodesForbidden}
use Rattle.numa_mode.specs.declared.specification.SpecError.TheVariants.{FlagsForbidden}
use Rattle.numa_mode.specs.declared.specification.SpecError.TheVariants.{NodesMissing}
use Rattle.numa_mask.specs.Parts.{parts_of}
use Rattle.numa_script.specs.Tables.{meaning_of}
use Rattle.numa_script.specs.declared.policy.PolicyForm.{PolicyForm}
use Rattle.numa_script.specs.declared.policy.WordError.{WordError}
use Rattle.numa_script.specs.declared.policy.WordError.TheVariants as fault

-- the names of the modes
abbrev pub mode_names : List (List ℕ × Mode)
mode_names =
    (codes "default", mode.Default) ∷
    (codes "prefer", mode.Preferred) ∷
    (codes "bind", mode.Bind) ∷
    (codes "interleave", mode.Interleave) ∷
    (codes "local", mode.Local) ∷
    (codes "many", mode.PreferredMany) ∷
    (codes "weighted", mode.WeightedInterleave) ∷
    []

-- the mode of a name
unfoldable pub mode_of : List ℕ → Option Mode
mode_of name = meaning_of mode_names name

-- a mode without flags
abbrev pub plain_form : Mode → PolicyForm
plain_form m = record { mode = m; is_static = false; is_relative = false }

-- the mode of a name, with these flags
abbrev pub form_with : Bool → Bool → List ℕ → Option PolicyForm
form_with static relative name =
    option_map (λ m. record { mode = m; is_static = static; is_relative = relative }) (mode_of name)

-- a name and one flag
unfoldable pub form_of_two : List ℕ → List ℕ → Option PolicyForm
form_of_two name flag =
    if bytes_eq flag (codes "static") then form_with true false name
    else if bytes_eq flag (codes "relative") then form_with false true name
    else None

-- a name and both flags, in this order
unfoldable pub form_of_three : List ℕ → List ℕ → List ℕ → Option PolicyForm
form_of_three name first second =
    if bytes_eq first (codes "static") && bytes_eq second (codes "relative")
    then form_with true true name else None

-- the parts between `=`: a name, and then the flags
abbrev pub form_of_parts : List (List ℕ) → Option PolicyForm
form_of_parts (name ∷ []) = form_with false false name
form_of_parts (name ∷ flag ∷ []) = form_of_two name flag
form_of_parts (name ∷ first ∷ second ∷ []) = form_of_three name first second
form_of_parts _ = None

-- what a policy word says before its first colon
abbrev pub form_of : List ℕ → Option PolicyForm
form_of text = form_of_parts (parts_of 61 text)

abbrev pub spec_or_fault : Result Specification SpecError → Result Specification WordError
spec_or_fault (Ok spec) = Ok spec
spec_or_fault (Err f) = Err (fault.Policy f)

-- the form is judged first, then the list, then the two together
abbrev pub policy_from : Option PolicyForm → Result ℕ ListFault → Result Specification WordError
policy_from None nodes = Err (fault.Policy UnknownMode)
policy_from (Some form) (Err f) = Err (fault.List f)
policy_from (Some form) (Ok mask) =
    spec_or_fault (specification_of form.mode form.is_static form.is_relative mask)

-- a word without a colon names no nodes
abbrev pub policy_cut : List ℕ → Option ℕ → Result Specification WordError
policy_cut word None = policy_from (form_of word) (Ok 0)
policy_cut word (Some colon) =
    policy_from (form_of (take colon word)) (list_of (drop (colon + 1) word))

-- the policy of a word, which is cut at its first colon
unfoldable pub policy_of : List ℕ → Result Specification WordError
policy_of word = policy_cut word (position (λ b. b == 58) word)

-- mode, flag and nodes don't go together. A kernel judges the mode's number, both flags at once and
-- the numbers of the nodes as it reads them, but this only where there are pages to give the policy
-- to
abbrev pub waits_for_pages : WordError → Bool
waits_for_pages (fault.Policy NodesForbidden) = true
waits_for_pages (fault.Policy FlagsForbidden) = true
waits_for_pages (fault.Policy NodesMissing) = true
waits_for_pages _ = false
