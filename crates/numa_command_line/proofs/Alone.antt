-- A command line with a subcommand behind the program's name is parsed by that subcommand,
-- whichever others there are.
use Rattle.std.proofs.Common.{◌≡◌, ◌∷◌, ◌++◌, ◌∙◌, ap, ap₂, refl, sym, List, [], false}
use Rattle.std.proofs.Common.{Option, Some, codes, find, fold, is_some, option_map}
use Rattle.std.specs.Option.{option_map_or}
use Rattle.std.specs.Str.{bytes_eq}
use Rattle.clap.specs.Faults.{built_fault, check_fault, defaults_fault, entered_fault, level_fault}
use Rattle.clap.specs.Faults.{settle_fault, turn_fault, walk_fault}
use Rattle.clap.specs.Kinds.{Kinds, or_else}
use Rattle.clap.specs.Simple.{argument_words, built, entered, label_of, names_of, rows_at}
use Rattle.clap.specs.Walk.{Names, Walk, answers_to, finished, idle, nothing_held, settled}
use Rattle.clap.specs.Walk.{stop_after, subcommand_met, walk, walk_from, walked}
use Rattle.clap.specs.Words.{App, Row, Rule, Shape, Text, fault_of, subcommand_of}

-- a walk that met a subcommand, and these words behind it
abbrev stopped : Text → List Text → Walk
stopped name seen = record {
  held = nothing_held;
  waiting = idle;
  position = 1;
  is_trailing = false;
  stopped = Some (name, seen);
}

after : List Text → List Text → List Text
after seen [] = seen
after seen (word ∷ rest) = after (seen ++ word ∷ []) rest

walks_on : (c : List Rule) (names : Names) (name : Text) (seen rest : List Text)
    → fold (walked c names) (stopped name seen) rest ≡ stopped name (after seen rest)
unfolding walked after
walks_on c names name seen [] = refl
walks_on c names name seen (word ∷ rest) = walks_on c names name (seen ++ word ∷ []) rest

refuses_none : (s : Shape) (names : Names) (name : Text) (seen rest : List Text)
    → walk_fault s names (stopped name seen) rest ≡ []
unfolding walked walk_fault
refuses_none s names name seen [] = refl
refuses_none s names name seen (word ∷ rest) =
    refuses_none s names name (seen ++ word ∷ []) rest

-- the first word of a built command is met as the name of one of its subcommands
abbrev IsMetIn : Text → Names → Type 0
IsMetIn name names = subcommand_met names idle name ≡ Some name

first_met : (c : List Rule) (names : Names) (name : Text) → IsMetIn name names
    → walked c names (walk_from nothing_held) name ≡ stopped name []
unfolding walked
first_met c names name met = rw met refl

all_met : (c : List Rule) (names : Names) (name : Text) (rest : List Text) → IsMetIn name names
    → walk c names nothing_held (name ∷ rest) ≡ stopped name (after [] rest)
all_met c names name rest met =
    ap (λ w. fold (walked c names) w rest) (first_met c names name met)
    ∙ walks_on c names name [] rest

first_passes : (s : Shape) (names : Names) (name : Text) → IsMetIn name names
    → bytes_eq name (codes "help") ≡ false
    → turn_fault s names (walk_from nothing_held) name ≡ []
first_passes s names name met other = rw (met, other) refl

all_pass : (s : Shape) (names : Names) (name : Text) (rest : List Text) → IsMetIn name names
    → bytes_eq name (codes "help") ≡ false
    → walk_fault s names (walk_from nothing_held) (name ∷ rest) ≡ []
unfolding walk_fault
all_pass s names name rest met other =
    ap₂ or_else (first_passes s names name met other)
    (ap (λ w. walk_fault s names w rest) (first_met s.rules names name met)
    ∙ refuses_none s names name [] rest)

abbrev found_in : App → Text → Option Shape
found_in a name = find (λ s. answers_to name (label_of s)) a.subs

abbrev rows_found : Option Shape → List Text → Option (Text × List Row)
rows_found found rest = option_map (λ s. rows_at s rest) found

-- why a subcommand that was met, or the program around it, is refused
abbrev met_kinds : Shape → Option Shape → List Text → Kinds
met_kinds top found rest =
    or_else (option_map_or (λ s. level_fault s [] nothing_held rest false []) found [])
    (or_else (settle_fault top.rules top.args_override_self nothing_held)
    (or_else (defaults_fault (settled top.rules nothing_held).rows top.rules)
    (check_fault top (finished top.rules nothing_held) (is_some (rows_found found rest)))))

-- the same of any walk, and what refuses its words
abbrev walk_kinds : App → Walk → Kinds → Kinds
walk_kinds a w refused =
    or_else refused (or_else (entered_fault a w.stopped)
    (or_else (settle_fault a.top.rules a.top.args_override_self w.held)
    (or_else (defaults_fault (settled a.top.rules w.held).rows a.top.rules)
    (check_fault a.top (finished a.top.rules w.held) (is_some (entered a w.stopped))))))

met_fault : (a : App) (name : Text) (rest : List Text) → IsMetIn name (names_of a)
    → bytes_eq name (codes "help") ≡ false
    → built_fault a nothing_held (name ∷ rest) ≡ met_kinds a.top (found_in a name) (after [] rest)
met_fault a name rest met other =
    ap₂ (walk_kinds a) (all_met a.top.rules (names_of a) name rest met)
    (all_pass a.top (names_of a) name rest met other)

met_rows : (a : App) (name : Text) (rest : List Text) → IsMetIn name (names_of a)
    → entered a (stop_after a.top.rules (names_of a) (name ∷ rest))
    ≡ rows_found (found_in a name) (after [] rest)
met_rows a name rest met =
    ap (λ w. entered a w.stopped) (all_met a.top.rules (names_of a) name rest met)

-- one program and another have the same subcommand of this name
pub record SameWord (name : Text) (one other : App) : Type 0 where
  pub binary : one.top.no_binary_name ≡ false
  pub other_binary : other.top.no_binary_name ≡ false
  pub top : (built one).top ≡ (built other).top
  pub word : found_in (built one) name ≡ found_in (built other) name
  pub met : IsMetIn name (names_of (built one))
  pub other_met : IsMetIn name (names_of (built other))
  pub no_help : bytes_eq name (codes "help") ≡ false

argument_is : (a : App) (first : Text) (rest : List Text) → a.top.no_binary_name ≡ false
    → argument_words a (first ∷ rest) ≡ rest
argument_is a first rest binary = rw binary refl

fault_is : (a : App) (name : Text) → a.top.no_binary_name ≡ false
    → IsMetIn name (names_of (built a)) → bytes_eq name (codes "help") ≡ false
    → (first : Text) (rest : List Text)
    → fault_of a (first ∷ name ∷ rest)
    ≡ met_kinds (built a).top (found_in (built a) name) (after [] rest)
fault_is a name binary met other first rest =
    ap (built_fault (built a) nothing_held) (argument_is a first (name ∷ rest) binary)
    ∙ met_fault (built a) name rest met other

rows_are : (a : App) (name : Text) → a.top.no_binary_name ≡ false
    → IsMetIn name (names_of (built a)) → (first : Text) (rest : List Text)
    → subcommand_of a (first ∷ name ∷ rest) ≡ rows_found (found_in (built a) name) (after [] rest)
rows_are a name binary met first rest =
    ap (λ line. entered (built a) (stop_after (built a).top.rules (names_of (built a)) line))
    (argument_is a first (name ∷ rest) binary)
    ∙ met_rows (built a) name rest met

pub same_fault : (name : Text) (one other : App) → SameWord name one other
    → (first : Text) (rest : List Text)
    → fault_of one (first ∷ name ∷ rest) ≡ fault_of other (first ∷ name ∷ rest)
same_fault name one other same first rest =
    fault_is one name same.binary same.met same.no_help first rest
    ∙ (ap₂ (λ top found. met_kinds top found (after [] rest)) same.top same.word
    ∙ sym (fault_is other name same.other_binary same.other_met same.no_help first rest))

pub same_rows : (name : Text) (one other : App) → SameWord name one other
    → (first : Text) (rest : List Text)
    → subcommand_of one (first ∷ name ∷ rest) ≡ subcommand_of other (first ∷ name ∷ rest)
same_rows name one other same first rest =
    rows_are one name same.binary same.met first rest
    ∙ (ap (λ found. rows_found found (after [] rest)) same.word
    ∙ sym (rows_are other name same.other_binary same.other_met first rest))
