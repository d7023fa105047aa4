-- Numbers, as words of a script.
use Rattle.std.specs.Prelude.{◌≡◌, ℕ, ◌^◌, ◌/◌, ◌<◌, ◌≤◌, ◌⊎◌, ◌++◌, ◌==◌, true, List, length, take}
use Rattle.std.specs.Prelude.{drop, codes, nat_lt, if◌then◌else◌, Option, Some, None}
use Rattle.std.specs.Char.{is_digit, digit_value}
use Rattle.std.specs.List.{list_all}
use Rattle.std.specs.Str.{bytes_eq}
use Rattle.std.specs.Str.Parse.{digits_value}
use Rattle.std.specs.Option.{option_map}

-- 1 to `most` digits in the radix, and the number that they write
abbrev pub IsNumeral : ℕ → ℕ → List ℕ → ℕ → Type 0
IsNumeral radix most digits n =
    (0 < length digits) × (length digits ≤ most) × (list_all (λ c. is_digit c radix) digits ≡ true)
    × (n ≡ digits_value radix digits)

-- the texts of numbers: 0x and 1 to 16 hexadecimal digits, or 1 to 20 decimal digits, below 2^64
abbrev pub IsNumber : List ℕ → ℕ → Type 0
IsNumber word n =
    (n < 2 ^ 64) × (((digits : List ℕ) × (word ≡ codes "0x" ++ digits) × IsNumeral 16 16 digits n)
    ⊎ IsNumeral 10 20 word n)

-- the digit that a byte is in the radix
unfoldable pub digit_of : ℕ → ℕ → Option ℕ
digit_of radix c = if is_digit c radix then Some (digit_value c) else None

-- the number, where it fits 64 bits
unfoldable pub in_64_bits : ℕ → Option ℕ
in_64_bits n = if nat_lt n (2 ^ 64) then Some n else None

-- the number that the digits write, where they are 1 to `most` in the radix, and fit 64 bits
unfoldable pub numeral_of : ℕ → ℕ → List ℕ → Option ℕ
numeral_of radix most digits =
    if length digits == 0 then None
    else if nat_lt most (length digits) then None
    else if list_all (λ c. is_digit c radix) digits then in_64_bits (digits_value radix digits)
    else None

-- the number of a word, where it is one
unfoldable pub number_of : List ℕ → Option ℕ
number_of word =
    if bytes_eq (take 2 word) (codes "0x") then numeral_of 16 16 (drop 2 word)
    else numeral_of 10 20 word

-- the number, where it is below the bound
abbrev pub below : ℕ → Option ℕ → Option ℕ
below bound None = None
below bound (Some n) = if nat_lt n bound then Some n else None

-- the number of a word, where it is below 2^32
abbrev pub small_of : List ℕ → Option ℕ
small_of word = below (2 ^ 32) (number_of word)

-- the number of an item of a list of numbers: 1 to 10 decimal digits, below 2^32
abbrev pub item_of : List ℕ → Option ℕ
item_of item = below (2 ^ 32) (numeral_of 10 10 item)

-- the page of an address in bytes: a page has 4,096
abbrev pub page_of : List ℕ → Option ℕ
page_of word = option_map (λ address. address / 4096) (number_of word)

-- the number of a node, and that of one of its frames
abbrev pub node_of : List ℕ → Option ℕ
node_of word = below 256 (number_of word)

abbrev pub frame_number_of : List ℕ → Option ℕ
frame_number_of word = below 65536 (number_of word)

-- a number of pages, if it is at most 65,536
abbrev pub few_of : ℕ → Option ℕ
few_of n = below 65537 (Some n)
