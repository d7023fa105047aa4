-- Which task and which address are meant: worked rows.
use Rattle.std.proofs.Common.{◌≡◌, refl, true, false, Some, None, Ok, Err}
use Rattle.numa_machine.specs.declared.fallback.Fallback.TheVariants.{Nearest, Kernel}
use Rattle.numa_play.specs.Named.{address_meant, and_task, has_cpus_by, is_unnamed, task_asked}
use Rattle.numa_play.specs.declared.named.TasksNamed.TheVariants.{Nobody, One}

-- two lines name task 5, and a third one task 6
one_task : task_asked None (and_task (and_task Nobody 5) 5) ≡ Ok 5
one_task = refl

two_tasks : task_asked None (and_task (and_task Nobody 5) 6) ≡ Err (5, 6)
two_tasks = refl

no_task : task_asked None Nobody ≡ Ok 1
no_task = refl

given_task : task_asked (Some 7) (One 5) ≡ Ok 7
given_task = refl

a_slip : is_unnamed (Some 7) false (One 5) ≡ true
a_slip = refl

no_slip : is_unnamed (Some 7) false Nobody ≡ false
no_slip = refl

-- 10000 in decimal digits and in hexadecimal ones, by which of the pages are mapped
decimal : address_meant (record { value = 10000; hexadecimal = Some 65536 }) true false ≡ Some 10000
decimal = refl

hexadecimal : address_meant (record { value = 10000; hexadecimal = Some 65536 }) false true
    ≡ Some 65536
hexadecimal = refl

neither : address_meant (record { value = 10000; hexadecimal = Some 65536 }) false false
    ≡ Some 10000
neither = refl

both : address_meant (record { value = 10000; hexadecimal = Some 65536 }) true true ≡ None
both = refl

one_page : address_meant (record { value = 10; hexadecimal = Some 16 }) true true ≡ Some 10
one_page = refl

-- node 1 of a machine whose line `cpus 0` counts, and of one by a kernel's orders with CPUs on 0-1
without : has_cpus_by Nearest (Some 1) 1 ≡ false
without = refl

by_kernel : has_cpus_by (Kernel 3) (Some 1) 1 ≡ true
by_kernel = refl
