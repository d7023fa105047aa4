-- Whether the lines that a process is told are malformed.
use Rattle.std.specs.Prelude.{◌≡◌, ℕ, ◌/◌, false, List, [], ◌∷◌, is_some, Some, None, Ok, refl}
use Rattle.std.specs.Prelude.{codes}
use Rattle.std.specs.Option.{option_map}
use Rattle.std.proofs.Common.{sym, ◌∙◌, ap, arith}
use Rattle.numa_mask.specs.Lists.{list_of}
use Rattle.numa_script.specs.Causes.{fault_behind}
use Rattle.numa_script.specs.Lines.{bound_line, limits_line, rules_line, cpus_line, machine_line}
use Rattle.numa_script.specs.Lines.{unmap_line, mbind_line, home_line, task_line}
use Rattle.numa_script.specs.Lines.{inherit_line, weight_line, mems_line, place_line, span_line}
use Rattle.numa_script.specs.Lines.{counts_line, ranges_line, maps_line, with_policy}
use Rattle.std.specs.Str.{bytes_eq}
use Rattle.numa_script.specs.Machines.{frames_of, distances_of, rules_of, has_kernel_orders}
use Rattle.numa_script.specs.Numbers.{number_of, small_of, page_of, node_of, frame_number_of}
use Rattle.numa_script.specs.Policies.{policy_of}
use Rattle.numa_script.specs.Present.{with_two}
use Rattle.numa_script.specs.Workers.{publish_work, begin_work, look_work, try_work, give_work}
use Rattle.numa_script.specs.Workers.{touch_work, release_work}
use Rattle.numa_script.proofs.Misfits.{small, span_pages, node_number, frame_number, any_number}
use Rattle.numa_script.proofs.Misfits.{page, readable}
use Rattle.numa_requests.specs.declared.event.Event.TheVariants as event
use Rattle.numa_requests.specs.declared.command.Command.TheVariants as command
use Rattle.numa_script.specs.declared.keyword.Keyword.TheVariants as keyword
use Rattle.numa_script.specs.declared.line.Line.TheVariants as line
use Rattle.numa_script.specs.declared.line.Question.TheVariants as question
use Rattle.numa_script.specs.declared.work.Work.TheVariants as work
use Rattle.numa_script.proofs.Together.{bound_said, enough, four, four_of, mapped, nodes_said}
use Rattle.numa_script.proofs.Together.{none_second, one, pair, policy_said, quadruple, said}
use Rattle.numa_script.proofs.Together.{spanned, three, three_of, too_few, too_many, triple, two}
use Rattle.numa_script.proofs.Together.{two_of}
use Rattle.numa_script.proofs.Bounding.{says_bound}

-- ---- each keyword

pub says_limits : (c : ℕ) (words : List (List ℕ)) → is_some (fault_behind keyword.Limits c words)
    ≡ said (limits_line words)
says_limits c [] = too_few keyword.Limits c [] (omega arith)
says_limits c (a ∷ []) = too_few keyword.Limits c (a ∷ []) (omega arith)
says_limits c (a ∷ b ∷ []) = too_few keyword.Limits c (a ∷ b ∷ []) (omega arith)
says_limits c (a ∷ b ∷ d ∷ []) =
    enough keyword.Limits c (a ∷ b ∷ d ∷ []) refl
    ∙ triple (λ v. line.Limits v.0 v.1 v.2) _ _ _ (small_of a) (small_of b) (small_of d) (λ v. refl)
    (small a) (small b) (small d)
says_limits c (a ∷ b ∷ d ∷ e ∷ words) = too_many keyword.Limits c (a ∷ b ∷ d ∷ e ∷ words)
    (omega arith)

pub says_rules : (c : ℕ) (words : List (List ℕ)) → is_some (fault_behind keyword.Rules c words)
    ≡ said (rules_line words)
says_rules c [] = too_few keyword.Rules c [] (omega arith)
says_rules c (a ∷ []) =
    enough keyword.Rules c (a ∷ []) refl
    ∙ one line.Rules _ (rules_of a) (λ x. refl)
    (readable (rules_of a))
says_rules c (a ∷ b ∷ words) = too_many keyword.Rules c (a ∷ b ∷ words) (omega arith)

pub says_cpus : (c : ℕ) (words : List (List ℕ)) → is_some (fault_behind keyword.Cpus c words)
    ≡ said (cpus_line words)
says_cpus c [] = too_few keyword.Cpus c [] (omega arith)
says_cpus c (a ∷ []) = enough keyword.Cpus c (a ∷ []) refl
says_cpus c (a ∷ b ∷ words) = too_many keyword.Cpus c (a ∷ b ∷ words) (omega arith)

pub says_machine : (c : ℕ) (words : List (List ℕ)) → is_some (fault_behind keyword.Machine c words)
    ≡ said (machine_line words)
says_machine c [] = too_few keyword.Machine c [] (omega arith)
says_machine c (a ∷ []) = too_few keyword.Machine c (a ∷ []) (omega arith)
says_machine c (a ∷ b ∷ []) = too_few keyword.Machine c (a ∷ b ∷ []) (omega arith)
says_machine c (a ∷ b ∷ d ∷ []) = too_few keyword.Machine c (a ∷ b ∷ d ∷ []) (omega arith)
says_machine c (a ∷ b ∷ d ∷ e ∷ []) =
    enough keyword.Machine c (a ∷ b ∷ d ∷ e ∷ []) refl
    ∙ three
    (λ n f m.
    line.Machine (record {
      nodes = n;
      memory = list_of b;
      frames = f;
      kernel_orders =
          has_kernel_orders e;
      distances = m;
    })) _ _ _ (small_of a) (frames_of d) (distances_of e)
    (λ x y z. refl)
    (small a) (readable (frames_of d)) (readable (distances_of e))
says_machine c (a ∷ b ∷ d ∷ e ∷ f ∷ words) = too_many keyword.Machine c (a ∷ b ∷ d ∷ e ∷ f ∷ words)
    (omega arith)

pub says_unmap : (c : ℕ) (words : List (List ℕ)) → is_some (fault_behind keyword.Unmap c words)
    ≡ said (unmap_line words)
says_unmap c [] = too_few keyword.Unmap c [] (omega arith)
says_unmap c (a ∷ []) = too_few keyword.Unmap c (a ∷ []) (omega arith)
says_unmap c (a ∷ b ∷ []) =
    enough keyword.Unmap c (a ∷ b ∷ []) refl
    ∙ pair (λ v. line.Command (Ok (command.Unmap v.0 v.1))) _ _ (number_of a) (number_of b)
    (λ v. refl)
    (any_number a) (any_number b)
says_unmap c (a ∷ b ∷ d ∷ words) = too_many keyword.Unmap c (a ∷ b ∷ d ∷ words) (omega arith)

pub says_mbind : (c : ℕ) (words : List (List ℕ)) → is_some (fault_behind keyword.Mbind c words)
    ≡ said (mbind_line words)
says_mbind c [] = too_few keyword.Mbind c [] (omega arith)
says_mbind c (a ∷ []) = too_few keyword.Mbind c (a ∷ []) (omega arith)
says_mbind c (a ∷ b ∷ []) = too_few keyword.Mbind c (a ∷ b ∷ []) (omega arith)
says_mbind c (a ∷ b ∷ d ∷ []) =
    enough keyword.Mbind c (a ∷ b ∷ d ∷ []) refl
    ∙ three (λ x y z. bound_line z x y (policy_of d)) _ _ false (number_of a) (number_of b)
    (Some None) (λ x y z. bound_said z x y (policy_of d)) (any_number a) (any_number b) refl
says_mbind c (a ∷ b ∷ d ∷ w ∷ words) =
    says_bound (bytes_eq w (codes "strict")) (bytes_eq w (codes "move")) c a b d w words refl refl

pub says_home : (c : ℕ) (words : List (List ℕ)) → is_some (fault_behind keyword.Home c words)
    ≡ said (home_line words)
says_home c [] = too_few keyword.Home c [] (omega arith)
says_home c (a ∷ []) = too_few keyword.Home c (a ∷ []) (omega arith)
says_home c (a ∷ b ∷ []) = too_few keyword.Home c (a ∷ b ∷ []) (omega arith)
says_home c (a ∷ b ∷ d ∷ []) =
    enough keyword.Home c (a ∷ b ∷ d ∷ []) refl
    ∙ triple (λ v. line.Command (Ok (command.SetHome v.0 v.1 v.2))) _ _ _ (number_of a)
    (number_of b) (small_of d) (λ v. refl)
    (any_number a) (any_number b) (small d)
says_home c (a ∷ b ∷ d ∷ e ∷ words) = too_many keyword.Home c (a ∷ b ∷ d ∷ e ∷ words) (omega arith)

pub says_task : (c : ℕ) (words : List (List ℕ)) → is_some (fault_behind keyword.Task c words)
    ≡ said (task_line words)
says_task c [] = too_few keyword.Task c [] (omega arith)
says_task c (a ∷ []) = too_few keyword.Task c (a ∷ []) (omega arith)
says_task c (a ∷ b ∷ []) =
    enough keyword.Task c (a ∷ b ∷ []) refl
    ∙ one (λ x. with_policy (command.SetTask x) (policy_of b)) _ (small_of a)
    (λ x. policy_said (command.SetTask x) (policy_of b))
    (small a)
says_task c (a ∷ b ∷ d ∷ words) = too_many keyword.Task c (a ∷ b ∷ d ∷ words) (omega arith)

pub says_inherit : (c : ℕ) (words : List (List ℕ)) → is_some (fault_behind keyword.Inherit c words)
    ≡ said (inherit_line words)
says_inherit c [] = too_few keyword.Inherit c [] (omega arith)
says_inherit c (a ∷ []) = too_few keyword.Inherit c (a ∷ []) (omega arith)
says_inherit c (a ∷ b ∷ []) =
    enough keyword.Inherit c (a ∷ b ∷ []) refl
    ∙ pair (λ v. line.Command (Ok (command.Inherit v.0 v.1))) _ _ (small_of a) (small_of b)
    (λ v. refl)
    (small a) (small b)
says_inherit c (a ∷ b ∷ d ∷ words) = too_many keyword.Inherit c (a ∷ b ∷ d ∷ words) (omega arith)

pub says_weight : (c : ℕ) (words : List (List ℕ)) → is_some (fault_behind keyword.Weight c words)
    ≡ said (weight_line words)
says_weight c [] = too_few keyword.Weight c [] (omega arith)
says_weight c (a ∷ []) = too_few keyword.Weight c (a ∷ []) (omega arith)
says_weight c (a ∷ b ∷ []) =
    enough keyword.Weight c (a ∷ b ∷ []) refl
    ∙ pair (λ v. line.Command (Ok (command.SetWeight v.0 v.1))) _ _ (small_of a) (small_of b)
    (λ v. refl)
    (small a) (small b)
says_weight c (a ∷ b ∷ d ∷ words) = too_many keyword.Weight c (a ∷ b ∷ d ∷ words) (omega arith)

pub says_mems : (c : ℕ) (words : List (List ℕ)) → is_some (fault_behind keyword.Mems c words)
    ≡ said (mems_line words)
says_mems c [] = too_few keyword.Mems c [] (omega arith)
says_mems c (a ∷ []) = enough keyword.Mems c (a ∷ []) refl
    ∙ sym (nodes_said command.SetMems (list_of a))
says_mems c (a ∷ b ∷ words) = too_many keyword.Mems c (a ∷ b ∷ words) (omega arith)

pub says_place : (c : ℕ) (words : List (List ℕ)) → is_some (fault_behind keyword.Place c words)
    ≡ said (place_line words)
says_place c [] = too_few keyword.Place c [] (omega arith)
says_place c (a ∷ []) = too_few keyword.Place c (a ∷ []) (omega arith)
says_place c (a ∷ b ∷ []) = too_few keyword.Place c (a ∷ b ∷ []) (omega arith)
says_place c (a ∷ b ∷ d ∷ []) =
    enough keyword.Place c (a ∷ b ∷ d ∷ []) refl
    ∙ triple (λ v. line.Question (question.Place v.0 v.1 v.2)) _ _ _ (small_of a) (number_of b)
    (small_of d) (λ v. refl)
    (small a) (any_number b) (small d)
says_place c (a ∷ b ∷ d ∷ e ∷ words) = too_many keyword.Place c (a ∷ b ∷ d ∷ e ∷ words)
    (omega arith)

pub says_span : (c : ℕ) (words : List (List ℕ)) → is_some (fault_behind keyword.Span c words)
    ≡ said (span_line words)
says_span c [] = too_few keyword.Span c [] (omega arith)
says_span c (a ∷ []) = too_few keyword.Span c (a ∷ []) (omega arith)
says_span c (a ∷ b ∷ []) = too_few keyword.Span c (a ∷ b ∷ []) (omega arith)
says_span c (a ∷ b ∷ d ∷ []) = too_few keyword.Span c (a ∷ b ∷ d ∷ []) (omega arith)
says_span c (a ∷ b ∷ d ∷ e ∷ []) =
    enough keyword.Span c (a ∷ b ∷ d ∷ e ∷ []) refl
    ∙ spanned (λ x y z w. line.Question (question.Span x y z w)) _ _ _ _ (small_of a) (number_of b)
    (number_of d) (small_of e) (λ x y z w. refl)
    (small a) (any_number b) (span_pages d) (small e)
says_span c (a ∷ b ∷ d ∷ e ∷ f ∷ words) = too_many keyword.Span c (a ∷ b ∷ d ∷ e ∷ f ∷ words)
    (omega arith)

pub says_counts : (c : ℕ) (words : List (List ℕ)) → is_some (fault_behind keyword.Counts c words)
    ≡ said (counts_line words)
says_counts c [] = too_few keyword.Counts c [] (omega arith)
says_counts c (a ∷ []) = too_few keyword.Counts c (a ∷ []) (omega arith)
says_counts c (a ∷ b ∷ []) = too_few keyword.Counts c (a ∷ b ∷ []) (omega arith)
says_counts c (a ∷ b ∷ d ∷ []) = too_few keyword.Counts c (a ∷ b ∷ d ∷ []) (omega arith)
says_counts c (a ∷ b ∷ d ∷ e ∷ []) =
    enough keyword.Counts c (a ∷ b ∷ d ∷ e ∷ []) refl
    ∙ quadruple (λ v. line.Question (question.Counts v.0 v.1 v.2 v.3)) _ _ _ _ (small_of a)
    (number_of b) (number_of d) (small_of e) (λ v. refl)
    (small a) (any_number b) (any_number d) (small e)
says_counts c (a ∷ b ∷ d ∷ e ∷ f ∷ words) = too_many keyword.Counts c (a ∷ b ∷ d ∷ e ∷ f ∷ words)
    (omega arith)

pub says_ranges : (c : ℕ) (words : List (List ℕ)) → is_some (fault_behind keyword.Ranges c words)
    ≡ said (ranges_line words)
says_ranges c [] = enough keyword.Ranges c [] refl
says_ranges c (a ∷ words) = too_many keyword.Ranges c (a ∷ words) (omega arith)

pub says_maps : (c : ℕ) (words : List (List ℕ)) → is_some (fault_behind keyword.Maps c words)
    ≡ said (maps_line words)
says_maps c [] = too_few keyword.Maps c [] (omega arith)
says_maps c (a ∷ []) =
    enough keyword.Maps c (a ∷ []) refl
    ∙ one line.Maps _ (small_of a) (λ x. refl)
    (small a)
says_maps c (a ∷ b ∷ words) = too_many keyword.Maps c (a ∷ b ∷ words) (omega arith)

pub says_publish : (c : ℕ) (words : List (List ℕ)) → is_some (fault_behind keyword.Publish c words)
    ≡ said (option_map line.Work (publish_work words))
says_publish c [] = enough keyword.Publish c [] refl
says_publish c (a ∷ words) = too_many keyword.Publish c (a ∷ words) (omega arith)

pub says_begin : (c : ℕ) (words : List (List ℕ)) → is_some (fault_behind keyword.Begin c words)
    ≡ said (option_map line.Work (begin_work words))
says_begin c [] = too_few keyword.Begin c [] (omega arith)
says_begin c (a ∷ []) = too_few keyword.Begin c (a ∷ []) (omega arith)
    ∙ sym (none_second line.Work (λ w r. work.Event (event.Begin w r)) (small_of a))
says_begin c (a ∷ b ∷ []) = too_few keyword.Begin c (a ∷ b ∷ []) (omega arith)
    ∙ sym (none_second line.Work (λ w r. work.Event (event.Begin w r)) (small_of a))
says_begin c (a ∷ b ∷ d ∷ []) = too_few keyword.Begin c (a ∷ b ∷ d ∷ []) (omega arith)
    ∙ sym (none_second line.Work (λ w r. work.Event (event.Begin w r)) (small_of a))
says_begin c (a ∷ b ∷ d ∷ e ∷ []) =
    enough keyword.Begin c (a ∷ b ∷ d ∷ e ∷ []) refl
    ∙ four (λ x y z w. line.Work (work.Event (event.Begin x
    (record { task = y; page = z / 4096; cpu = w })))) _ _ _ _ (small_of a) (small_of b)
    (number_of d) (small_of e) (λ x y z w. refl)
    (small a) (small b) (any_number d) (small e)
    ∙ ap said (sym (four_of line.Work (λ w r. work.Event (event.Begin w r))
    (λ v. record { task = v.0; page = v.1 / 4096; cpu = v.2 }) (small_of a) (small_of b)
    (number_of d) (small_of e)))
says_begin c (a ∷ b ∷ d ∷ e ∷ f ∷ words) = too_many keyword.Begin c (a ∷ b ∷ d ∷ e ∷ f ∷ words)
    (omega arith) ∙ sym (none_second line.Work (λ w r. work.Event (event.Begin w r)) (small_of a))

pub says_look : (c : ℕ) (words : List (List ℕ)) → is_some (fault_behind keyword.Look c words)
    ≡ said (option_map line.Work (look_work words))
says_look c [] = too_few keyword.Look c [] (omega arith)
says_look c (a ∷ []) = too_few keyword.Look c (a ∷ []) (omega arith)
says_look c (a ∷ b ∷ []) =
    enough keyword.Look c (a ∷ b ∷ []) refl
    ∙ pair (λ v. line.Work (work.Event (event.Look v.0 v.1))) _ _ (small_of a) (small_of b)
    (λ v. refl)
    (small a) (small b)
    ∙ ap said (sym (mapped line.Work (λ v. work.Event (event.Look v.0 v.1))
    (with_two (λ x y. (x, y)) (small_of a) (small_of b))))
says_look c (a ∷ b ∷ d ∷ words) = too_many keyword.Look c (a ∷ b ∷ d ∷ words) (omega arith)

pub says_try : (c : ℕ) (words : List (List ℕ)) → is_some (fault_behind keyword.Try c words)
    ≡ said (option_map line.Work (try_work words))
says_try c [] = too_few keyword.Try c [] (omega arith)
says_try c (a ∷ []) = too_few keyword.Try c (a ∷ []) (omega arith)
    ∙ sym (none_second line.Work (λ w f. work.Event (event.Try w f)) (small_of a))
says_try c (a ∷ b ∷ []) = too_few keyword.Try c (a ∷ b ∷ []) (omega arith)
    ∙ sym (none_second line.Work (λ w f. work.Event (event.Try w f)) (small_of a))
says_try c (a ∷ b ∷ d ∷ []) =
    enough keyword.Try c (a ∷ b ∷ d ∷ []) refl
    ∙ three (λ x y z. line.Work (work.Event (event.Try x (record { node = y; number = z })))) _ _ _
    (small_of a) (node_of b) (frame_number_of d) (λ x y z. refl)
    (small a) (node_number b) (frame_number d)
    ∙ ap said (sym (three_of line.Work (λ w f. work.Event (event.Try w f))
    (λ n k. record { node = n; number = k }) (small_of a) (node_of b) (frame_number_of d)))
says_try c (a ∷ b ∷ d ∷ e ∷ words) = too_many keyword.Try c (a ∷ b ∷ d ∷ e ∷ words) (omega arith)
    ∙ sym (none_second line.Work (λ w f. work.Event (event.Try w f)) (small_of a))

pub says_give : (c : ℕ) (words : List (List ℕ)) → is_some (fault_behind keyword.Give c words)
    ≡ said (option_map line.Work (give_work words))
says_give c [] = too_few keyword.Give c [] (omega arith)
says_give c (a ∷ []) = too_few keyword.Give c (a ∷ []) (omega arith)
    ∙ sym (none_second line.Work (λ w f. work.Event (event.Give w f)) (small_of a))
says_give c (a ∷ b ∷ []) = too_few keyword.Give c (a ∷ b ∷ []) (omega arith)
    ∙ sym (none_second line.Work (λ w f. work.Event (event.Give w f)) (small_of a))
says_give c (a ∷ b ∷ d ∷ []) =
    enough keyword.Give c (a ∷ b ∷ d ∷ []) refl
    ∙ three (λ x y z. line.Work (work.Event (event.Give x (record { node = y; number = z })))) _ _ _
    (small_of a) (node_of b) (frame_number_of d) (λ x y z. refl)
    (small a) (node_number b) (frame_number d)
    ∙ ap said (sym (three_of line.Work (λ w f. work.Event (event.Give w f))
    (λ n k. record { node = n; number = k }) (small_of a) (node_of b) (frame_number_of d)))
says_give c (a ∷ b ∷ d ∷ e ∷ words) = too_many keyword.Give c (a ∷ b ∷ d ∷ e ∷ words) (omega arith)
    ∙ sym (none_second line.Work (λ w f. work.Event (event.Give w f)) (small_of a))

pub says_touch : (c : ℕ) (words : List (List ℕ)) → is_some (fault_behind keyword.Touch c words)
    ≡ said (option_map line.Work (touch_work words))
says_touch c [] = too_few keyword.Touch c [] (omega arith)
says_touch c (a ∷ []) = too_few keyword.Touch c (a ∷ []) (omega arith)
    ∙ sym (none_second line.Work work.Touch (small_of a))
says_touch c (a ∷ b ∷ []) = too_few keyword.Touch c (a ∷ b ∷ []) (omega arith)
    ∙ sym (none_second line.Work work.Touch (small_of a))
says_touch c (a ∷ b ∷ d ∷ []) = too_few keyword.Touch c (a ∷ b ∷ d ∷ []) (omega arith)
    ∙ sym (none_second line.Work work.Touch (small_of a))
says_touch c (a ∷ b ∷ d ∷ e ∷ []) =
    enough keyword.Touch c (a ∷ b ∷ d ∷ e ∷ []) refl
    ∙ four (λ x y z w. line.Work (work.Touch x (record { task = y; page = z / 4096; cpu = w }))) _ _
    _ _ (small_of a) (small_of b) (number_of d) (small_of e) (λ x y z w. refl)
    (small a) (small b) (any_number d) (small e)
    ∙ ap said (sym (four_of line.Work work.Touch (λ v. record
    { task = v.0; page = v.1 / 4096; cpu = v.2 }) (small_of a) (small_of b) (number_of d)
    (small_of e)))
says_touch c (a ∷ b ∷ d ∷ e ∷ f ∷ words) = too_many keyword.Touch c (a ∷ b ∷ d ∷ e ∷ f ∷ words)
    (omega arith) ∙ sym (none_second line.Work work.Touch (small_of a))

pub says_release : (c : ℕ) (words : List (List ℕ)) → is_some (fault_behind keyword.Release c words)
    ≡ said (option_map line.Work (release_work words))
says_release c [] = too_few keyword.Release c [] (omega arith)
says_release c (a ∷ []) = too_few keyword.Release c (a ∷ []) (omega arith)
says_release c (a ∷ b ∷ []) =
    enough keyword.Release c (a ∷ b ∷ []) refl
    ∙ two (λ x y. line.Work (work.Release x y)) _ _ (small_of a) (page_of b) (λ x y. refl)
    (small a) (page b)
    ∙ ap said (sym (two_of line.Work work.Release (small_of a) (page_of b)))
says_release c (a ∷ b ∷ d ∷ words) = too_many keyword.Release c (a ∷ b ∷ d ∷ words) (omega arith)
