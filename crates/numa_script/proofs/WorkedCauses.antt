-- Malformed lines, what is wrong with them, and where.
use Rattle.std.specs.Prelude.{◌≡◌, codes, ◌++◌, [], ◌∷◌, Some, None, refl}
use Rattle.numa_script.specs.Causes.{fault_of}
use Rattle.numa_script.specs.Lines.{keyword_of}
use Rattle.numa_script.specs.Machines.{distances_of}
use Rattle.numa_script.specs.Numbers.{number_of, numeral_of, in_64_bits}
use Rattle.numa_script.specs.declared.keyword.Keyword.TheVariants as keyword
use Rattle.numa_script.specs.declared.malformed.Cause.TheVariants as cause
use Rattle.numa_script.specs.declared.parameter.Misfit.TheVariants.{Unreadable, TooGreat}
use Rattle.numa_script.specs.declared.parameter.Parameter.TheVariants as parameter

-- ---- spaces

leading : fault_of (codes " ranges") ≡ Some (record { cause = cause.LeadingSpace; column = 1 })
unfolding fault_of
leading = refl

two_in_a_row : fault_of (codes "map 0  1 2") ≡ Some (record { cause = cause.TwoSpaces; column = 7 })
unfolding fault_of
two_in_a_row = refl

trailing : fault_of (codes "ranges ") ≡ Some (record { cause = cause.TrailingSpace; column = 8 })
unfolding fault_of
trailing = refl

-- ---- bytes

-- a DOS line end
carriage_return : fault_of (codes "ranges" ++ 13 ∷ [])
    ≡ Some (record { cause = cause.StrayByte 13; column = 7 })
unfolding fault_of keyword_of
carriage_return = refl

-- it is the list that is faulty, and has a name of its own
carriage_return-behind_a_list : fault_of (codes "mems 0" ++ 13 ∷ []) ≡ None
unfolding fault_of keyword_of
carriage_return-behind_a_list = refl

-- ---- words

unknown : fault_of (codes "mapp 0 1 2") ≡ Some (record { cause = cause.UnknownWord; column = 1 })
unfolding fault_of keyword_of
unknown = refl

too_few : fault_of (codes "mbind 0 bind:0")
    ≡ Some (record { cause = cause.TooFewWords keyword.Mbind; column = 16 })
unfolding fault_of keyword_of
too_few = refl

too_many : fault_of (codes "unmap 0 1 2")
    ≡ Some (record { cause = cause.TooManyWords keyword.Unmap; column = 11 })
unfolding fault_of keyword_of
too_many = refl

no_number : fault_of (codes "map 0 four 2")
    ≡ Some (record { cause = cause.BadWord keyword.Map parameter.Length Unreadable; column = 7 })
unfolding fault_of keyword_of number_of numeral_of in_64_bits
no_number = refl

too_great : fault_of (codes "span 1 0 65537 0")
    ≡ Some (record { cause = cause.BadWord keyword.Span parameter.SpanPages TooGreat; column = 10 })
unfolding fault_of keyword_of number_of numeral_of in_64_bits
too_great = refl

-- no list of distances has one above 255
no_distances : fault_of (codes "machine 1 0 1 256")
    ≡ Some
    (record { cause = cause.BadWord keyword.Machine parameter.Distances Unreadable; column = 15 })
unfolding fault_of keyword_of number_of numeral_of in_64_bits distances_of
no_distances = refl

-- nothing stands behind `kernel:`
no_distances-of_a_kernel : fault_of (codes "machine 1 0 1 kernel:")
    ≡ Some
    (record { cause = cause.BadWord keyword.Machine parameter.Distances Unreadable; column = 15 })
unfolding fault_of keyword_of number_of numeral_of in_64_bits distances_of
no_distances-of_a_kernel = refl

-- `kernel:` stands there once
kernel_of_a_kernel : fault_of (codes "machine 1 0 1 kernel:kernel:flat")
    ≡ Some
    (record { cause = cause.BadWord keyword.Machine parameter.Distances Unreadable; column = 15 })
unfolding fault_of keyword_of number_of numeral_of in_64_bits distances_of
kernel_of_a_kernel = refl

no_nodes_with_cpus : fault_of (codes "cpus")
    ≡ Some (record { cause = cause.TooFewWords keyword.Cpus; column = 6 })
unfolding fault_of keyword_of
no_nodes_with_cpus = refl

-- ---- lines that aren't malformed

empty : fault_of [] ≡ None
unfolding fault_of
empty = refl

comment : fault_of (codes "#  two spaces") ≡ None
unfolding fault_of
comment = refl

policy : fault_of (codes "mbind 0 1 nothing") ≡ None
unfolding fault_of keyword_of number_of numeral_of in_64_bits
policy = refl

-- ---- words behind a policy

move-lacks_words : fault_of (codes "mbind 0 1 default move 7")
    ≡ Some (record { cause = cause.TooFewWords keyword.Mbind; column = 26 })
unfolding fault_of keyword_of
move-lacks_words = refl

too_many-behind_strict : fault_of (codes "mbind 0 1 default strict 7")
    ≡ Some (record { cause = cause.TooManyWords keyword.Mbind; column = 26 })
unfolding fault_of keyword_of
too_many-behind_strict = refl

-- ---- pages that are there

room-lacks_pages : fault_of (codes "room 0")
    ≡ Some (record { cause = cause.TooFewWords keyword.Room; column = 8 })
unfolding fault_of keyword_of
room-lacks_pages = refl

too_many-behind_room : fault_of (codes "room 0 1 2")
    ≡ Some (record { cause = cause.TooManyWords keyword.Room; column = 10 })
unfolding fault_of keyword_of
too_many-behind_room = refl

rooms : fault_of (codes "room") ≡ None
unfolding fault_of keyword_of
rooms = refl

nobody_touches_pages : fault_of (codes "populate 0 4096 1")
    ≡ Some (record { cause = cause.TooFewWords keyword.Populate; column = 19 })
unfolding fault_of keyword_of
nobody_touches_pages = refl

-- ---- what a process is told

nobody_is_told : fault_of (codes "in 3")
    ≡ Some (record { cause = cause.TooFewWords keyword.In; column = 6 })
unfolding fault_of keyword_of
nobody_is_told = refl

no_process-is_told : fault_of (codes "in x maps 1")
    ≡ Some (record { cause = cause.BadWord keyword.In parameter.Process Unreadable; column = 4 })
unfolding fault_of keyword_of number_of numeral_of in_64_bits
no_process-is_told = refl

told_an_unknown_word : fault_of (codes "in 3 mops 1")
    ≡ Some (record { cause = cause.UnknownWord; column = 6 })
unfolding fault_of keyword_of number_of numeral_of in_64_bits
told_an_unknown_word = refl

told_what_is_the_hosts : fault_of (codes "in 3 weight 0 1")
    ≡ Some (record { cause = cause.NotTold keyword.Weight; column = 6 })
unfolding fault_of keyword_of number_of numeral_of in_64_bits
told_what_is_the_hosts = refl

told_too_few_words : fault_of (codes "in 3 maps")
    ≡ Some (record { cause = cause.TooFewWords keyword.Maps; column = 11 })
unfolding fault_of keyword_of number_of numeral_of in_64_bits
told_too_few_words = refl
