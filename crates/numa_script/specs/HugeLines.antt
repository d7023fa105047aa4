-- What the lines about pages of 2 MiB and their pools say, and the names of their refusals.
use Rattle.std.specs.Prelude.{ℕ, ◌^◌, Bool, true, false, List, [], ◌∷◌, codes, if◌then◌else◌}
use Rattle.std.specs.Prelude.{Option, Some, None, Ok}
use Rattle.std.specs.Option.{option_map}
use Rattle.std.specs.Str.{bytes_eq}
use Rattle.numa_machine.specs.declared.page_size.PageSize.TheVariants.{Small}
use Rattle.numa_requests.specs.declared.command.Command.TheVariants as command
use Rattle.numa_script.specs.Numbers.{below, number_of, small_of}
use Rattle.numa_script.specs.Present.{three_of, two_of, with_four}
use Rattle.numa_script.specs.declared.huge_line.HugeLine.{HugeLine}
use Rattle.numa_script.specs.declared.huge_line.HugeLine.TheVariants as huge
use Rattle.numa_requests.specs.declared.page_refusal.HugeRefusal.{HugeRefusal}
use Rattle.numa_requests.specs.declared.page_refusal.HugeRefusal.TheVariants as cause
use Rattle.numa_script.specs.declared.huge_line.HugeWords.{HugeWords}
use Rattle.numa_script.specs.declared.line.Line.{Line}
use Rattle.numa_script.specs.declared.line.Line.TheVariants as line

-- ---- pools

-- a number of pages, below 2^63
abbrev pub count_of : List ℕ → Option ℕ
count_of word = below (2 ^ 63) (number_of word)

-- pool, pool COUNT, pool NODE COUNT, pool COUNT TASK CPU
abbrev pub pool_line : List (List ℕ) → Option Line
pool_line [] = Some (line.Huge huge.Pools)
pool_line (count ∷ []) = option_map (λ pages. line.Huge (huge.Resize pages)) (count_of count)
pool_line (node ∷ count ∷ []) = option_map (λ v. line.Huge (huge.ResizeNode v.0 v.1))
    (two_of small_of count_of (node ∷ count ∷ []))
pool_line (count ∷ task ∷ words) = option_map (λ v. line.Huge (huge.ResizeFor v.0 v.1 v.2))
    (three_of count_of small_of small_of (count ∷ task ∷ words))

-- ---- first touches

-- fault TASK ADDR CPU
abbrev pub fault_line : List (List ℕ) → Option Line
fault_line words = option_map (λ v. line.Huge (huge.Fault v.0 v.1 v.2))
    (three_of small_of number_of small_of words)

-- ---- mappings

abbrev pub words_for : Bool → ℕ → HugeWords
words_for reserves task = record { task = task; reserves = reserves }

-- huge TASK, huge TASK noreserve
abbrev pub huge_words : List (List ℕ) → Option HugeWords
huge_words (word ∷ task ∷ []) = if bytes_eq word (codes "huge")
    then option_map (words_for true) (small_of task) else None
huge_words (word ∷ task ∷ last ∷ []) = if bytes_eq word (codes "huge")
    then if bytes_eq last (codes "noreserve") then option_map (words_for false) (small_of task)
    else None else None
huge_words _ = None

-- what follows the offset of a mapping has to say something
abbrev pub huge_said : List (List ℕ) → Option (Option HugeWords)
huge_said [] = Some None
huge_said (word ∷ words) = option_map Some (huge_words (word ∷ words))

abbrev pub mapped_line : ℕ → ℕ → ℕ → Option HugeWords → Line
mapped_line start bytes offset None = line.Command (Ok (command.Map start bytes offset Small))
mapped_line start bytes offset (Some said) =
    line.Huge (huge.Map start bytes offset said.task said.reserves)

-- map START LENGTH OFFSET, map START LENGTH OFFSET huge TASK, map START LENGTH OFFSET huge TASK
-- noreserve
abbrev pub map_line : List (List ℕ) → Option Line
map_line (start ∷ bytes ∷ offset ∷ words) = with_four mapped_line (number_of start)
    (number_of bytes) (number_of offset) (huge_said words)
map_line _ = None

-- ---- refusals, each with its error number (errno(3)), where a kernel gives one

abbrev pub huge_cause : HugeRefusal → List ℕ
huge_cause cause.NoSuchNode = codes "NoSuchNode ENOENT"
huge_cause cause.BadCpu = codes "BadCpu EINVAL"
huge_cause cause.Unsure = codes "Unsure"
huge_cause cause.NoHugePages = codes "NoHugePages ENOMEM"
huge_cause cause.Unmapped = codes "Unmapped EFAULT"
huge_cause cause.Exhausted = codes "Exhausted"
huge_cause cause.Killed = codes "Exhausted SIGBUS"
huge_cause cause.NotSupported = codes "NotSupported EOPNOTSUPP"
huge_cause cause.TooManyRuns = codes "TooManyRuns ENOMEM"
huge_cause cause.NoMemory = codes "NoMemory ENOMEM"
