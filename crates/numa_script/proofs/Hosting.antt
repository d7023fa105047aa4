-- Whether lines of hosts and about pages are malformed.
use Rattle.std.specs.Prelude.{◌≡◌, ℕ, Bool, true, false, List, [], ◌∷◌, is_some, None, Result, Ok}
use Rattle.std.specs.Prelude.{Err, refl, if◌then◌else◌, codes}
use Rattle.std.proofs.Common.{sym, ◌∙◌, arith}
use Rattle.numa_mask.specs.Lists.{list_of}
use Rattle.numa_mask.specs.declared.list.ListFault.{ListFault}
use Rattle.numa_script.specs.Causes.{fault_behind, is_malformed}
use Rattle.numa_script.specs.HostLines.{attach_line, exit_line, fork_line, group_line}
use Rattle.numa_script.specs.HostLines.{group_mems_line, group_nodes, host_line, own_nodes}
use Rattle.numa_script.specs.HostLines.{process_line}
use Rattle.numa_script.specs.PageLines.{at_line, between, memory_migrate_line, migrate_line}
use Rattle.numa_script.specs.PageLines.{move_line, moved_line, populate_line, room_line}
use Rattle.numa_script.specs.PageLines.{switch_of}
use Rattle.std.specs.Str.{bytes_eq}
use Rattle.numa_script.specs.Numbers.{number_of, small_of}
use Rattle.numa_script.proofs.Misfits.{small, any_number, readable}
use Rattle.numa_script.specs.declared.page_line.PageLine.TheVariants as pages
use Rattle.numa_requests.specs.declared.host_command.HostCommand.TheVariants as host
use Rattle.numa_script.specs.declared.keyword.Keyword.TheVariants as keyword
use Rattle.numa_script.specs.declared.line.Line.TheVariants as line
use Rattle.numa_script.proofs.Together.{enough, one, pair, quadruple, said, too_few, too_many}
use Rattle.numa_script.proofs.Together.{triple}

pub between_said : (r s : Result ℕ ListFault) → is_malformed (between r s) ≡ false
between_said (Err fault) s = refl
between_said (Ok from) (Err fault) = refl
between_said (Ok from) (Ok to) = refl

pub group_said : (group : ℕ) (word : List ℕ) → is_malformed (group_nodes group word) ≡ false
group_said group word = either (bytes_eq word (codes "-"))
  where
    own : (r : Result ℕ ListFault) → is_malformed (own_nodes group r) ≡ false
    own (Ok mask) = refl
    own (Err fault) = refl

    either : (b : Bool) → is_malformed (if b then line.HostCommand (Ok (host.SetGroupMems group
        None)) else own_nodes group (list_of word)) ≡ false
    either true = refl
    either false = own (list_of word)

pub says_at : (c : ℕ) (words : List (List ℕ)) → is_some (fault_behind keyword.At c words)
    ≡ said (at_line words)
says_at c [] = too_few keyword.At c [] (omega arith)
says_at c (a ∷ []) = too_few keyword.At c (a ∷ []) (omega arith)
says_at c (a ∷ b ∷ []) = too_few keyword.At c (a ∷ b ∷ []) (omega arith)
says_at c (a ∷ b ∷ d ∷ []) =
    enough keyword.At c (a ∷ b ∷ d ∷ []) refl
    ∙ triple (λ v. line.Pages (Ok (pages.At v.0 v.1 v.2))) _ _ _ (number_of a) (number_of b)
    (small_of d) (λ v. refl) (any_number a) (any_number b) (small d)
says_at c (a ∷ b ∷ d ∷ e ∷ words) = too_many keyword.At c (a ∷ b ∷ d ∷ e ∷ words) (omega arith)

pub says_room : (c : ℕ) (words : List (List ℕ)) → is_some (fault_behind keyword.Room c words)
    ≡ said (room_line words)
says_room c [] = enough keyword.Room c [] refl
says_room c (a ∷ []) = too_few keyword.Room c (a ∷ []) (omega arith)
says_room c (a ∷ b ∷ []) =
    enough keyword.Room c (a ∷ b ∷ []) refl
    ∙ pair (λ v. line.Pages (Ok (pages.Room v.0 v.1))) _ _ (small_of a) (number_of b)
    (λ v. refl) (small a) (any_number b)
says_room c (a ∷ b ∷ d ∷ words) = too_many keyword.Room c (a ∷ b ∷ d ∷ words) (omega arith)

pub says_memory_migrate : (c : ℕ) (words : List (List ℕ)) → is_some (fault_behind keyword.MemoryMigrate c words)
    ≡ said (memory_migrate_line words)
says_memory_migrate c [] = too_few keyword.MemoryMigrate c [] (omega arith)
says_memory_migrate c (a ∷ []) =
    enough keyword.MemoryMigrate c (a ∷ []) refl
    ∙ one (λ x. line.Pages (Ok (pages.MemoryMigrate x))) _ (switch_of a) (λ x. refl)
    (readable (switch_of a))
says_memory_migrate c (a ∷ b ∷ words) = too_many keyword.MemoryMigrate c (a ∷ b ∷ words) (omega arith)

pub says_migrate : (c : ℕ) (words : List (List ℕ)) → is_some (fault_behind keyword.Migrate c words)
    ≡ said (migrate_line words)
says_migrate c [] = too_few keyword.Migrate c [] (omega arith)
says_migrate c (a ∷ []) = too_few keyword.Migrate c (a ∷ []) (omega arith)
says_migrate c (a ∷ b ∷ []) =
    enough keyword.Migrate c (a ∷ b ∷ []) refl
    ∙ sym (between_said (list_of a) (list_of b))
says_migrate c (a ∷ b ∷ d ∷ words) = too_many keyword.Migrate c (a ∷ b ∷ d ∷ words) (omega arith)

pub says_move : (c : ℕ) (words : List (List ℕ)) → is_some (fault_behind keyword.Move c words)
    ≡ said (move_line words)
says_move c [] = too_few keyword.Move c [] (omega arith)
says_move c (a ∷ []) = too_few keyword.Move c (a ∷ []) (omega arith)
says_move c (a ∷ b ∷ []) =
    enough keyword.Move c (a ∷ b ∷ []) refl
    ∙ pair (λ v. line.Pages (Ok (pages.Move v.0 v.1))) _ _ (number_of a) (small_of b)
    (λ v. refl) (any_number a) (small b)
says_move c (a ∷ b ∷ d ∷ words) = too_many keyword.Move c (a ∷ b ∷ d ∷ words) (omega arith)

pub says_moved : (c : ℕ) (words : List (List ℕ)) → is_some (fault_behind keyword.Moved c words)
    ≡ said (moved_line words)
says_moved c [] =
    enough keyword.Moved c [] refl
says_moved c (a ∷ words) = too_many keyword.Moved c (a ∷ words) (omega arith)

pub says_populate : (c : ℕ) (words : List (List ℕ))
    → is_some (fault_behind keyword.Populate c words) ≡ said (populate_line words)
says_populate c [] = too_few keyword.Populate c [] (omega arith)
says_populate c (a ∷ []) = too_few keyword.Populate c (a ∷ []) (omega arith)
says_populate c (a ∷ b ∷ []) = too_few keyword.Populate c (a ∷ b ∷ []) (omega arith)
says_populate c (a ∷ b ∷ d ∷ []) = too_few keyword.Populate c (a ∷ b ∷ d ∷ []) (omega arith)
says_populate c (a ∷ b ∷ d ∷ e ∷ []) =
    enough keyword.Populate c (a ∷ b ∷ d ∷ e ∷ []) refl
    ∙ quadruple (λ v. line.Pages (Ok (pages.Populate v.0 v.1 v.2 v.3))) _ _ _ _
    (number_of a) (number_of b) (small_of d) (small_of e) (λ v. refl) (any_number a) (any_number b)
    (small d) (small e)
says_populate c (a ∷ b ∷ d ∷ e ∷ f ∷ words) =
    too_many keyword.Populate c (a ∷ b ∷ d ∷ e ∷ f ∷ words) (omega arith)

pub says_host : (c : ℕ) (words : List (List ℕ)) → is_some (fault_behind keyword.Host c words)
    ≡ said (host_line words)
says_host c [] =
    enough keyword.Host c [] refl
says_host c (a ∷ words) = too_many keyword.Host c (a ∷ words) (omega arith)

pub says_group : (c : ℕ) (words : List (List ℕ)) → is_some (fault_behind keyword.Group c words)
    ≡ said (group_line words)
says_group c [] = too_few keyword.Group c [] (omega arith)
says_group c (a ∷ []) = too_few keyword.Group c (a ∷ []) (omega arith)
says_group c (a ∷ b ∷ []) =
    enough keyword.Group c (a ∷ b ∷ []) refl
    ∙ pair (λ v. line.HostCommand (Ok (host.NewGroup v.0 v.1))) _ _ (small_of a) (small_of b)
    (λ v. refl) (small a) (small b)
says_group c (a ∷ b ∷ d ∷ words) = too_many keyword.Group c (a ∷ b ∷ d ∷ words) (omega arith)

pub says_group_mems : (c : ℕ) (words : List (List ℕ)) → is_some (fault_behind keyword.GroupMems c words)
    ≡ said (group_mems_line words)
says_group_mems c [] = too_few keyword.GroupMems c [] (omega arith)
says_group_mems c (a ∷ []) = too_few keyword.GroupMems c (a ∷ []) (omega arith)
says_group_mems c (a ∷ b ∷ []) =
    enough keyword.GroupMems c (a ∷ b ∷ []) refl
    ∙ one (λ x. group_nodes x b) _ (small_of a) (λ x. group_said x b) (small a)
says_group_mems c (a ∷ b ∷ d ∷ words) = too_many keyword.GroupMems c (a ∷ b ∷ d ∷ words) (omega arith)

pub says_process : (c : ℕ) (words : List (List ℕ)) → is_some (fault_behind keyword.Process c words)
    ≡ said (process_line words)
says_process c [] = too_few keyword.Process c [] (omega arith)
says_process c (a ∷ []) = too_few keyword.Process c (a ∷ []) (omega arith)
says_process c (a ∷ b ∷ []) =
    enough keyword.Process c (a ∷ b ∷ []) refl
    ∙ pair (λ v. line.HostCommand (Ok (host.NewProcess v.0 v.1))) _ _ (small_of a)
    (small_of b) (λ v. refl) (small a) (small b)
says_process c (a ∷ b ∷ d ∷ words) = too_many keyword.Process c (a ∷ b ∷ d ∷ words) (omega arith)

pub says_exit : (c : ℕ) (words : List (List ℕ)) → is_some (fault_behind keyword.Exit c words)
    ≡ said (exit_line words)
says_exit c [] = too_few keyword.Exit c [] (omega arith)
says_exit c (a ∷ []) =
    enough keyword.Exit c (a ∷ []) refl
    ∙ one (λ x. line.HostCommand (Ok (host.Exit x))) _ (small_of a) (λ x. refl) (small a)
says_exit c (a ∷ b ∷ words) = too_many keyword.Exit c (a ∷ b ∷ words) (omega arith)

pub says_attach : (c : ℕ) (words : List (List ℕ)) → is_some (fault_behind keyword.Attach c words)
    ≡ said (attach_line words)
says_attach c [] = too_few keyword.Attach c [] (omega arith)
says_attach c (a ∷ []) = too_few keyword.Attach c (a ∷ []) (omega arith)
says_attach c (a ∷ b ∷ []) =
    enough keyword.Attach c (a ∷ b ∷ []) refl
    ∙ pair (λ v. line.HostCommand (Ok (host.Attach v.0 v.1))) _ _ (small_of a) (small_of b)
    (λ v. refl) (small a) (small b)
says_attach c (a ∷ b ∷ d ∷ words) = too_many keyword.Attach c (a ∷ b ∷ d ∷ words) (omega arith)

pub says_fork : (c : ℕ) (words : List (List ℕ)) → is_some (fault_behind keyword.Fork c words)
    ≡ said (fork_line words)
says_fork c [] = too_few keyword.Fork c [] (omega arith)
says_fork c (a ∷ []) = too_few keyword.Fork c (a ∷ []) (omega arith)
says_fork c (a ∷ b ∷ []) = too_few keyword.Fork c (a ∷ b ∷ []) (omega arith)
says_fork c (a ∷ b ∷ d ∷ []) = too_few keyword.Fork c (a ∷ b ∷ d ∷ []) (omega arith)
says_fork c (a ∷ b ∷ d ∷ e ∷ []) =
    enough keyword.Fork c (a ∷ b ∷ d ∷ e ∷ []) refl
    ∙ quadruple (λ v. line.HostCommand (Ok (host.Fork v.0 v.1 v.2 v.3))) _ _ _ _
    (small_of a) (small_of b) (small_of d) (small_of e) (λ v. refl) (small a) (small b)
    (small d) (small e)
says_fork c (a ∷ b ∷ d ∷ e ∷ f ∷ words) = too_many keyword.Fork c (a ∷ b ∷ d ∷ e ∷ f ∷ words) (omega arith)
