-- What the parse found for an argument, as a value.
use Rattle.std.specs.Prelude.{ℕ, ◌==◌, ◌^◌, ◌&&◌, ◌||◌, ◌++◌, ◌∷◌, ◌/◌, ◌*◌, ◌-◌, ◌%◌, [], List}
use Rattle.std.specs.Prelude.{Bool, false, not}
use Rattle.std.specs.Prelude.{Option, Some, None, codes, length, nat_lt, nat_le}
use Rattle.std.specs.Prelude.{slice_get}
use Rattle.std.specs.Prelude.{take, unwrap_or, if◌then◌else◌, option_and_then, option_map}
use Rattle.std.specs.Char.{digit_value, is_digit}
use Rattle.std.specs.List.{list_all, list_any}
use Rattle.std.specs.Option.{option_map_or}
use Rattle.std.specs.Str.{bytes_eq}
use Rattle.std.specs.Str.Parse.{digits_value, without_leading_plus}
use Rattle.clap.specs.Words.{Row, all_of, first_of, one_of}
use Rattle.numa_lines.specs.Worked.{begins_with}
use Rattle.numa_machine.specs.declared.rules.Rules.{Rules}
use Rattle.numa_machine.specs.declared.rules.Rules.TheVariants.{Document, Linux}
use Rattle.numa_mask.specs.Parts.{parts_of}
use Rattle.numa_sheets.specs.declared.asked.FreePages.{FreePages}
use Rattle.numa_sheets.specs.declared.format.Format.{Format}
use Rattle.numa_sheets.specs.declared.format.Format.TheVariants as format
use Rattle.numa_sheets.specs.declared.asked.AddressAsked.{AddressAsked}
use Rattle.numa_sheets.specs.declared.asked.CpuAsked.{CpuAsked}
use Rattle.numa_sheets.specs.declared.asked.CpuAsked.TheVariants.{Node, Each}
use Rattle.numa_sheets.specs.declared.asked.TouchAsked.{TouchAsked}
use Rattle.numa_script.specs.Numbers.{node_of, number_of, small_of}
use Rattle.numa_command_line.specs.Jobs.{Text}

-- ---- flags, texts and numbers

-- all texts of an argument
abbrev pub texts_at : Text → List Row → List Text
texts_at id rows = unwrap_or (all_of id rows) []

-- whether a flag is given
abbrev pub is_on : Text → List Row → Bool
is_on id rows = option_map_or (λ text. bytes_eq text (codes "true")) (first_of id rows) false

-- whether the text is what the parse reads as a number below 2^32: digits, and a plus before them
abbrev pub is_small : Text → Bool
is_small text =
    nat_lt 0 (length (without_leading_plus text))
    && (list_all (λ d. nat_lt (digit_value d) 10) (without_leading_plus text)
    && nat_lt (digits_value 10 (without_leading_plus text)) (2 ^ 32))

abbrev pub small_in : Text → Option ℕ
small_in text =
    if is_small text then Some (digits_value 10 (without_leading_plus text)) else None

abbrev pub small_at : Text → List Row → Option ℕ
small_at id rows = option_and_then small_in (one_of id rows)

-- ---- the values of the arguments

abbrev pub rules_in : List Row → Rules
rules_in rows = if option_map_or (λ name. bytes_eq name (codes "linux"))
    (first_of (codes "rules") rows) false then Linux else Document

-- the process of a host that is asked for; none where all are
abbrev pub process_named : Text → Option (Option ℕ)
process_named name =
    if bytes_eq name (codes "all") then Some None else option_map Some (small_of name)

abbrev pub process_in : List Row → Option (Option ℕ)
process_in rows = option_map_or process_named (first_of (codes "process") rows) (Some None)

-- the format of a name, with how many ranges are shown, where that is said
abbrev pub format_named : Option ℕ → Text → Format
format_named largest name =
    if bytes_eq name (codes "json") then format.Json
    else if bytes_eq name (codes "csv") then format.Csv
    else if bytes_eq name (codes "svg") then format.Svg (unwrap_or largest 40)
    else if bytes_eq name (codes "html") then format.Html (unwrap_or largest 400)
    else if bytes_eq name (codes "tap") then format.Tap
    else format.Text

abbrev pub format_in : List Row → Format
format_in rows = option_map_or (format_named (small_at (codes "largest") rows))
    (first_of (codes "format") rows) format.Text

-- as many workers as a crew may have
abbrev pub crew_of : ℕ → Option ℕ
crew_of workers = if nat_le 1 workers && nat_le workers 16 then Some workers else None

abbrev pub workers_in : List Row → Option ℕ
workers_in rows = option_and_then crew_of (small_at (codes "workers") rows)

-- the node on whose CPUs pages are touched, or each with CPUs
abbrev pub cpu_named : Text → Option CpuAsked
cpu_named name =
    if bytes_eq name (codes "all") then Some Each else option_map Node (small_of name)

abbrev pub cpu_in : List Row → Option CpuAsked
cpu_in rows = option_and_then cpu_named (first_of (codes "node") rows)

-- the task is given, or is the one that scripts name
abbrev pub touch_in : List Row → Option TouchAsked
touch_in rows = option_map
    (λ cpu. record { task = small_at (codes "task") rows; cpu = cpu }) (cpu_in rows)

-- the same, where the node is a number
abbrev pub one_touch_in : List Row → Option TouchAsked
one_touch_in rows = option_map
    (λ node. record { task = small_at (codes "task") rows; cpu = Node node })
    (small_at (codes "node") rows)

-- ---- addresses

-- digits without 0x are hexadecimal where one is a letter, and as eight or more of which the first
-- is 0, as answers print addresses
abbrev pub is_hexadecimal : Text → Bool
is_hexadecimal text = not (list_all (λ c. is_digit c 10) text)
    || (nat_le 8 (length text) && begins_with (codes "0") text)

-- an address that can be read in one way
abbrev pub sure : Option ℕ → Option AddressAsked
sure read = option_map (λ value. record { value = value; hexadecimal = None }) read

-- other digits are decimal, or may be hexadecimal
abbrev pub address_of : Text → Option AddressAsked
address_of text =
    if begins_with (codes "0x") text then sure (number_of text)
    else if is_hexadecimal text then sure (number_of (codes "0x" ++ text))
    else option_map
    (λ value. record { value = value; hexadecimal = number_of (codes "0x" ++ text) })
    (number_of text)

abbrev pub address_in : List Row → Option AddressAsked
address_in rows = address_of (unwrap_or (first_of (codes "ADDRESS") rows) [])

-- ---- free pages

-- the bytes of a unit: K, M, G or T, in either case
abbrev pub unit_of : ℕ → Option ℕ
unit_of letter =
    if letter == 75 || letter == 107 then Some 1024
    else if letter == 77 || letter == 109 then Some 1048576
    else if letter == 71 || letter == 103 then Some 1073741824
    else if letter == 84 || letter == 116 then Some 1099511627776
    else None

-- the pages of this many bytes, if they are whole pages and fewer than 2^64 bytes
abbrev pub whole_pages : ℕ → Option ℕ
whole_pages bytes =
    if nat_lt bytes (2 ^ 64) && bytes % 4096 == 0 then Some (bytes / 4096) else None

-- a number of pages, or a number with a unit
abbrev pub pages_by : Text → Option ℕ → Option ℕ
pages_by text None = number_of text
pages_by text (Some unit) = option_and_then (λ count. whole_pages (count * unit))
    (number_of (take (length text - 1) text))

abbrev pub pages_in : Text → Option ℕ
pages_in text =
    option_and_then (λ letter. pages_by text (unit_of letter)) (slice_get text (length text - 1))

-- NODE=PAGES
abbrev pub free_by : Option ℕ → Option ℕ → Option FreePages
free_by (Some node) (Some pages) = Some (record { node = node; pages = pages })
free_by _ _ = None

abbrev pub free_of : List Text → Option FreePages
free_of (node ∷ pages ∷ []) = free_by (node_of node) (pages_in pages)
free_of _ = None

abbrev pub free_in : Text → Option FreePages
free_in text = free_of (parts_of 61 text)

-- one more node, which isn't named yet
abbrev pub with_free : List FreePages → Option FreePages
    → (List FreePages → Option (List FreePages))
    → Option (List FreePages)
with_free named None next = None
with_free named (Some one) next =
    if list_any (λ other. other.node == one.node) named then None else next (named ++ one ∷ [])

-- the nodes that are named in the parts, after those that are already named
abbrev pub frees_from : List FreePages → List Text → Option (List FreePages)
frees_from named [] = Some named
frees_from named (part ∷ rest) = with_free named (free_in part) (λ more. frees_from more rest)

abbrev pub frees_by : Option Text → Option (List FreePages)
frees_by None = Some []
frees_by (Some text) = frees_from [] (parts_of 44 text)

abbrev pub frees_in : List Row → Option (List FreePages)
frees_in rows = frees_by (first_of (codes "free") rows)
