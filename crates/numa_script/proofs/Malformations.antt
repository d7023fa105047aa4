-- A line has a cause of its fault exactly where it is malformed.
use Rattle.std.specs.Prelude.{suc, ◌≡◌, ℕ, ◌+◌, ◌==◌, ◌||◌, Bool, true, false, List, [], ◌∷◌}
use Rattle.std.specs.Prelude.{length, position, nat_lt, is_some, is_none, unwrap_or, cond, Option}
use Rattle.std.specs.Prelude.{Some, None, option_and_then, refl}
use Rattle.std.specs.List.{list_any}
use Rattle.std.specs.Option.{option_map}
use Rattle.std.proofs.Common.{sym, ◌∙◌}
use Rattle.numa_script.specs.Causes.{after_fault, fault_behind, form_of, in_fault, misfit_of}
use Rattle.numa_script.specs.Causes.{told_fault, keyword_fault, words_fault, width_of, empty_word}
use Rattle.numa_script.specs.Causes.{empty_else, is_stray, stray_else, fault_of, is_malformed}
use Rattle.numa_script.specs.Lines.{alone, in_line, is_in, is_told, script_after, told_line}
use Rattle.numa_script.specs.Lines.{keyword_of, line_after, words_line, is_silent, has_empty_word}
use Rattle.numa_script.specs.Lines.{line_of}
use Rattle.numa_script.specs.declared.line.ScriptLine.{ScriptLine}
use Rattle.numa_script.specs.Numbers.{small_of}
use Rattle.numa_script.specs.Parts.{words_of}
use Rattle.numa_script.specs.Present.{with_two}
use Rattle.numa_script.specs.declared.keyword.Keyword.{Keyword}
use Rattle.numa_script.specs.declared.line.Line.{Line}
use Rattle.numa_script.specs.declared.malformed.Malformed.{Malformed}
use Rattle.numa_script.proofs.Columns.{width_of_words}
use Rattle.numa_script.proofs.Misfits.{small}
use Rattle.numa_script.specs.declared.parameter.Parameter.TheVariants as parameter
use Rattle.numa_script.specs.declared.keyword.Keyword.TheVariants as keyword
use Rattle.numa_script.specs.declared.line.Line.TheVariants as line
use Rattle.numa_script.proofs.Together.{said, some_misfit}
use Rattle.numa_script.proofs.Telling.{says_begin, says_counts, says_cpus, says_give, says_home}
use Rattle.numa_script.proofs.Telling.{says_inherit, says_limits, says_look, says_machine}
use Rattle.numa_script.proofs.HugeTelling.{says_fault, says_map, says_pool}
use Rattle.numa_script.proofs.Telling.{says_maps, says_mbind, says_mems, says_place, says_publish}
use Rattle.numa_script.proofs.Telling.{says_ranges, says_release, says_rules, says_span, says_task}
use Rattle.numa_script.proofs.Telling.{says_touch, says_try, says_unmap, says_weight}
use Rattle.numa_script.proofs.Hosting.{says_at, says_attach, says_exit, says_fork, says_group}
use Rattle.numa_script.proofs.Hosting.{says_group_mems, says_host, says_memory_migrate}
use Rattle.numa_script.proofs.Hosting.{says_migrate, says_move, says_moved, says_populate}
use Rattle.numa_script.proofs.Hosting.{says_process, says_room}

-- a line of a keyword
pub says : (k : Keyword) (c : ℕ) (words : List (List ℕ)) → is_in k ≡ false
    → is_some (fault_behind k c words) ≡ said (line_after k words)
says keyword.Limits c words other = says_limits c words
says keyword.Rules c words other = says_rules c words
says keyword.Cpus c words other = says_cpus c words
says keyword.Machine c words other = says_machine c words
says keyword.Map c words other = says_map c words
says keyword.Unmap c words other = says_unmap c words
says keyword.Mbind c words other = says_mbind c words
says keyword.Home c words other = says_home c words
says keyword.Task c words other = says_task c words
says keyword.Inherit c words other = says_inherit c words
says keyword.Weight c words other = says_weight c words
says keyword.Mems c words other = says_mems c words
says keyword.Place c words other = says_place c words
says keyword.Span c words other = says_span c words
says keyword.Counts c words other = says_counts c words
says keyword.Ranges c words other = says_ranges c words
says keyword.Maps c words other = says_maps c words
says keyword.Publish c words other = says_publish c words
says keyword.Begin c words other = says_begin c words
says keyword.Look c words other = says_look c words
says keyword.Try c words other = says_try c words
says keyword.Give c words other = says_give c words
says keyword.Touch c words other = says_touch c words
says keyword.Release c words other = says_release c words
says keyword.At c words other = says_at c words
says keyword.Room c words other = says_room c words
says keyword.MemoryMigrate c words other = says_memory_migrate c words
says keyword.Migrate c words other = says_migrate c words
says keyword.Move c words other = says_move c words
says keyword.Moved c words other = says_moved c words
says keyword.Populate c words other = says_populate c words
says keyword.Pool c words other = says_pool c words
says keyword.Fault c words other = says_fault c words
says keyword.Host c words other = says_host c words
says keyword.Group c words other = says_group c words
says keyword.GroupMems c words other = says_group_mems c words
says keyword.Process c words other = says_process c words
says keyword.Exit c words other = says_exit c words
says keyword.Attach c words other = says_attach c words
says keyword.Fork c words other = says_fork c words
says keyword.In c words other = cc

-- a process is told no line that tells a process
told_not_in : (k : Keyword) → is_told k ≡ true → is_in k ≡ false
told_not_in keyword.Limits e = cc
told_not_in keyword.Rules e = cc
told_not_in keyword.Cpus e = cc
told_not_in keyword.Machine e = cc
told_not_in keyword.Map e = refl
told_not_in keyword.Unmap e = refl
told_not_in keyword.Mbind e = refl
told_not_in keyword.Home e = refl
told_not_in keyword.Task e = refl
told_not_in keyword.Inherit e = refl
told_not_in keyword.Weight e = cc
told_not_in keyword.Mems e = refl
told_not_in keyword.Place e = refl
told_not_in keyword.Span e = refl
told_not_in keyword.Counts e = refl
told_not_in keyword.Ranges e = refl
told_not_in keyword.Maps e = refl
told_not_in keyword.Publish e = refl
told_not_in keyword.Begin e = refl
told_not_in keyword.Look e = refl
told_not_in keyword.Try e = refl
told_not_in keyword.Give e = refl
told_not_in keyword.Touch e = refl
told_not_in keyword.Release e = refl
told_not_in keyword.At e = refl
told_not_in keyword.Room e = cc
told_not_in keyword.MemoryMigrate e = cc
told_not_in keyword.Migrate e = refl
told_not_in keyword.Move e = refl
told_not_in keyword.Moved e = refl
told_not_in keyword.Populate e = refl
told_not_in keyword.Pool e = cc
told_not_in keyword.Fault e = cc
told_not_in keyword.Host e = cc
told_not_in keyword.Group e = cc
told_not_in keyword.GroupMems e = cc
told_not_in keyword.Process e = cc
told_not_in keyword.Exit e = cc
told_not_in keyword.Attach e = cc
told_not_in keyword.Fork e = cc
told_not_in keyword.In e = cc

-- ---- what a process is told

-- what a line of a script without a cause says is malformed
abbrev pub script_said : Option ScriptLine → Bool
script_said o = is_malformed (unwrap_or o (alone line.Malformed)).line

says_told : (k : Option Keyword) (c : ℕ) (first : List ℕ) (words : List (List ℕ))
    → is_some (told_fault k c first words) ≡ said (told_line k words)
says_told None c first words = refl
says_told (Some k) c first words = by_told (is_told k) refl
  where
    by_told : (t : Bool) → is_told k ≡ t
        → is_some (told_fault (Some k) c first words) ≡ said (told_line (Some k) words)
    by_told true e = rw e (says k (c + length first + 1) words (told_not_in k e))
    by_told false e = rw e refl

told_both : (m t : Bool) (x : Option ℕ) (o : Option Line) → m ≡ is_none x → t ≡ said o
    → (m || t) ≡ script_said (with_two (λ p said. record { process = Some p; line = said }) x o)
told_both m t None o h i = rw h refl
told_both m t (Some x) None h i = rw (h, i) refl
told_both m t (Some x) (Some l) h i = rw (h, i) refl

says_in : (c : ℕ) (words : List (List ℕ)) → is_some (in_fault c words) ≡ script_said (in_line words)
says_in c [] = refl
says_in c (p ∷ []) = refl
says_in c (p ∷ first ∷ words) =
    some_misfit keyword.In parameter.Process c (misfit_of (form_of parameter.Process) p)
    (told_fault (keyword_of first) (c + length p + 1) first words)
    ∙ told_both _ _ (small_of p) (told_line (keyword_of first) words) (small p)
    (says_told (keyword_of first) (c + length p + 1) first words)

-- ---- every line

alone_said : (o : Option Line) → script_said (option_map alone o) ≡ said o
alone_said None = refl
alone_said (Some l) = refl

says_after : (k : Keyword) (c : ℕ) (words : List (List ℕ))
    → is_some (after_fault k c words) ≡ script_said (script_after k words)
says_after k c words = by_in (is_in k) refl
  where
    by_in : (b : Bool) → is_in k ≡ b
        → is_some (after_fault k c words) ≡ script_said (script_after k words)
    by_in true e = rw e (says_in c words)
    by_in false e = rw e (says k c words e ∙ sym (alone_said (line_after k words)))

says_keyword : (k : Option Keyword) (c : ℕ) (words : List (List ℕ))
    → is_some (keyword_fault k c words)
    ≡ script_said (option_and_then (λ k. script_after k words) k)
says_keyword None c words = refl
says_keyword (Some k) c words = says_after k c words

says_words : (words : List (List ℕ)) (n : ℕ) → width_of words ≡ suc n → is_some (words_fault words)
    ≡ script_said (words_line words)
says_words [] n some = cc
says_words (first ∷ words) n some = says_keyword (keyword_of first) (length first + 2) words

-- ---- lines

some_empty : (b : Bool) (c : ℕ) (later : Option ℕ) (rest : Bool) → rest ≡ is_some later
    → (b || rest) ≡ is_some (cond b (Some c) later)
some_empty true c later rest h = refl
some_empty false c later rest h = h

empty_words : (c : ℕ) (words : List (List ℕ)) → list_any (λ word. length word == 0) words
    ≡ is_some (empty_word c words)
empty_words c [] = refl
empty_words c (word ∷ words) =
    some_empty (length word == 0) c (empty_word (c + length word + 1) words) _
    (empty_words (c + length word + 1) words)

says_by : (size : ℕ) (silent long : Bool) (at : Malformed) (f : Malformed → Malformed)
    (empty : Option ℕ) (fault : Option Malformed) (is_empty : Bool) (o : Option ScriptLine) →
    is_empty ≡ is_some empty → is_some fault ≡ script_said o →
    is_some (cond silent None (cond long (Some at) (option_map f (empty_else size empty fault))))
    ≡ is_malformed (cond silent (alone line.Silent) (cond long (alone line.Malformed)
    (cond is_empty (alone line.Malformed) (unwrap_or o (alone line.Malformed))))).line
says_by size true long at f empty fault is_empty o h i = refl
says_by size false true at f empty fault is_empty o h i = refl
says_by size false false at f (Some c) fault is_empty o h i = rw h refl
says_by size false false at f None (Some m) is_empty o h i = rw h i
says_by size false false at f None None is_empty o h i = rw h i

pub malformed_line : (bytes : List ℕ)
    → is_some (fault_of bytes) ≡ is_malformed (line_of bytes).line
unfolding fault_of line_of
malformed_line bytes =
    says_by (length bytes) (is_silent bytes) (nat_lt 4096 (length bytes)) _
    (stray_else bytes (position is_stray bytes)) (empty_word 1 (words_of bytes))
    (words_fault (words_of bytes))
    (has_empty_word bytes) (words_line (words_of bytes)) (empty_words 1 (words_of bytes))
    (says_words (words_of bytes) (length bytes) (width_of_words bytes))
