-- Worked rows: what mounts ask for on a machine with four nodes, all with memory, and what that
-- gives a file whose maker is allowed nodes 2 and 3. A set is the number of its bits.
use Rattle.std.proofs.Common.{◌≡◌, true, false, Some, None, refl}
use Rattle.std.specs.Option.{option_map}
use Rattle.std.specs.Prelude.{option_and_then}
use Rattle.numa_mask.specs.NodeSet.{members}
use Rattle.numa_mode.specs.Policy.{PolicyRecord}
use Rattle.numa_mode.specs.declared.modes.Mode.TheVariants as mode
use Rattle.numa_mount.specs.Mounts.{asked_of, file_policy}
use Rattle.numa_mount.specs.declared.mount.MountNodes.TheVariants.{Unsaid, Number, List}

-- interleave:0-2 has node 2 left
row-interleave : option_map (λ (r : PolicyRecord). r.effective) (option_and_then (file_policy 0b1100)
    (asked_of 0b1111 mode.Interleave false false (List 0b111))) ≡ Some 0b100
unfolding members
row-interleave = refl

-- bind=static:1 has none, and gives no policy
row-static : option_and_then (file_policy 0b1100)
    (asked_of 0b1111 mode.Bind true false (Number 0b10)) ≡ None
unfolding members
row-static = refl

-- bind=relative:0 is the first allowed node
row-relative : option_map (λ (r : PolicyRecord). r.effective) (option_and_then (file_policy 0b1100)
    (asked_of 0b1111 mode.Bind false true (Number 0b1))) ≡ Some 0b100
unfolding members
row-relative = refl

-- without a list nodes that take turns are all with memory
row-unsaid : option_map (λ (r : PolicyRecord). r.effective) (option_and_then (file_policy 0b1100)
    (asked_of 0b1111 mode.WeightedInterleave false false Unsaid)) ≡ Some 0b1100
unfolding members
row-unsaid = refl

-- prefer:1-2, bind, bind:7, local with a list, a flag for prefer without a list
row-prefer : asked_of 0b1111 mode.Preferred false false (List 0b110) ≡ None
row-prefer = refl

row-missing : asked_of 0b1111 mode.Bind false false Unsaid ≡ None
row-missing = refl

row-no_memory : asked_of 0b1111 mode.Bind false false (Number 0b10000000) ≡ None
row-no_memory = refl

row-local : asked_of 0b1111 mode.Local false false (Number 0b1) ≡ None
row-local = refl

row-flag : asked_of 0b1111 mode.Preferred true false Unsaid ≡ None
row-flag = refl
