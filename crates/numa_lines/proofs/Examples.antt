-- Lines of worked scripts, and echoes.
use Rattle.std.proofs.Common.{◌≡◌, [], codes, refl}
use Rattle.numa_lines.specs.Worked.{last_mark, form_of}
use Rattle.numa_lines.specs.Echo.{marked_from, echo_of}
use Rattle.numa_lines.specs.declared.worked.LineForm.TheVariants.{Script, Answered, Answer}

answered : form_of (codes "ranges => ranges 0") ≡ Answered 6
unfolding last_mark
answered = refl

-- a line that is answered below, or by nothing
alone : form_of (codes "maps 1") ≡ Script
unfolding last_mark
alone = refl

next_line : form_of (codes "=> 10000 default") ≡ Answer
unfolding last_mark
next_line = refl

-- what stands behind the last mark is the answer
marks-in_a_line : form_of (codes "a => b => bad words") ≡ Answered 6
unfolding last_mark
marks-in_a_line = refl

mark-first : form_of (codes "=> x => bad words") ≡ Answered 4
unfolding last_mark
mark-first = refl

comment : form_of (codes "# a => b") ≡ Script
unfolding last_mark
comment = refl

-- without a space behind it
no_mark : form_of (codes "ranges =>") ≡ Script
unfolding last_mark
no_mark = refl

empty : form_of [] ≡ Script
unfolding last_mark
empty = refl

echo-of_one_line : echo_of (codes "ranges") (codes "ranges 0\n") ≡ codes "ranges => ranges 0\n"
unfolding echo_of
echo-of_one_line = refl

echo-of_two_lines : echo_of (codes "maps 1") (codes "10000 default\n20000 default\n")
    ≡ codes "maps 1\n=> 10000 default\n=> 20000 default\n"
unfolding echo_of marked_from
echo-of_two_lines = refl

echo-of_nothing : echo_of (codes "# why") [] ≡ codes "# why\n"
unfolding echo_of marked_from
echo-of_nothing = refl
