-- What is asked for is named by the word behind the program's name.
use Rattle.std.proofs.Common.{◌≡◌, ◌∙◌, ℕ, Bool, cond, true, false, refl, sym, ap, List, Option}
use Rattle.std.proofs.Common.{Some, None, Result, Ok, Err, slice_get, codes}
use Rattle.std.specs.Option.{option_map, unwrap_or}
use Rattle.std.specs.Prelude.{IfOk, option_and_then}
use Rattle.std.specs.Str.{bytes_eq}
use Rattle.std.proofs.lemmas.Slice.Eq.{bytes_eq-Decides}
use Rattle.clap.specs.Words.{Row, subcommand_of}
use Rattle.numa_sheets.specs.declared.asked.AddressAsked.{AddressAsked}
use Rattle.numa_sheets.specs.declared.asked.FreePages.{FreePages}
use Rattle.numa_sheets.specs.declared.asked.TouchAsked.{TouchAsked}
use Rattle.numa_sheets.specs.declared.format.Format.{Format}
use Rattle.numa_command_line.specs.Asked.{Answers, ask_by, asking_name, can_ask, doing_name}
use Rattle.numa_command_line.specs.Asked.{explain_by, predict_by}
use Rattle.numa_command_line.specs.Asked.{job_named, name_of, rows_behind, scripts_asked}
use Rattle.numa_command_line.specs.Asked.{word_named, work_asked}
use Rattle.numa_command_line.specs.Jobs.{Asking, Doing, Doings, Text, ask, diff, doings_of, explain}
use Rattle.numa_command_line.specs.Jobs.{predict, report, scripts, storm}
use Rattle.numa_command_line.specs.Values.{address_in, format_in, frees_in, is_on, process_in}
use Rattle.numa_command_line.specs.Values.{rules_in, small_at}
use Rattle.numa_command_line.specs.Values.{texts_at, touch_in, workers_in}
use Rattle.numa_command_line.specs.declared.command.Subcommand.{Subcommand}
use Rattle.numa_command_line.specs.declared.command.Subcommand.TheVariants as word
use Rattle.numa_command_line.specs.declared.jobs.Job.{Job}
use Rattle.numa_command_line.specs.declared.jobs.JobFault.{JobFault}

some_is : {X : Type 0} (x y : X) → Some x ≡ Some y → x ≡ y
some_is x y e = ap (λ o. unwrap_or o x) e

abbrev label : Subcommand → Text
label word.Run = codes "run"
label word.Check = codes "check"
label word.Expect = codes "expect"
label word.Predict = codes "predict"
label word.Diff = codes "diff"
label word.Moves = codes "moves"
label word.Explain = codes "explain"
label word.Report = codes "report"
label word.Replay = codes "replay"
label word.Shell = codes "shell"

-- a test of a name against a word's, where the tests behind it name theirs
one_of_words : (name : Text) (w found : Subcommand) (rest : Option Subcommand)
    → (rest ≡ Some found → name ≡ label found)
    → cond (bytes_eq name (label w)) (Some w) rest ≡ Some found → name ≡ label found
one_of_words name w found rest behind = go (bytes_eq name (label w)) refl
  where
    go : (t : Bool) → bytes_eq name (label w) ≡ t → cond t (Some w) rest ≡ Some found
        → name ≡ label found
    go true same e = (bytes_eq-Decides name (label w)).0 same ∙ ap label (some_is w found e)
    go false other e = behind e

named_word : (name : Text) (found : Subcommand) → word_named name ≡ Some found → name ≡ label found
named_word name found =
    one_of_words name word.Run found _
    (one_of_words name word.Check found _
    (one_of_words name word.Expect found _ (one_of_words name word.Predict found _
    (one_of_words name word.Diff found _
    (one_of_words name word.Moves found _
    (one_of_words name word.Explain found _
    (one_of_words name word.Report found _
    (one_of_words name word.Replay found _
    (one_of_words name word.Shell found None (λ none. cc))))))))))

given_ask : (passes : Bool) (asked : Doing) (doing : Doing) → cond passes (Some asked) None
    ≡ Some doing → asked ≡ doing
given_ask true asked doing e = some_is asked doing e
given_ask false asked doing e = cc

asked_name : (touch : Option TouchAsked) (lenient names : Bool) (question : Option Asking)
    (named : Text) (doing : Doing)
    → ((what : Asking) → question ≡ Some what → asking_name what ≡ named)
    → option_and_then (λ what. option_and_then (ask_by lenient names what) touch) question
    ≡ Some doing → doing_name doing ≡ named
asked_name touch lenient names None named doing same e = cc
asked_name None lenient names (Some what) named doing same e = cc
asked_name (Some t) lenient names (Some what) named doing same e =
    ap doing_name (sym (given_ask (can_ask t what) (ask t what lenient names) doing e))
    ∙ same what refl

-- a question that some test refuses
given_is : (refused : Bool) (asking what : Asking) → cond refused None (Some asking) ≡ Some what
    → asking ≡ what
given_is true asking what e = cc
given_is false asking what e = some_is asking what e

given_both : (one other : Bool) (asking what : Asking)
    → cond one None (cond other None (Some asking)) ≡ Some what → asking ≡ what
given_both true other asking what e = cc
given_both false other asking what e = given_is other asking what e

-- a question about files that are barred or not
stated_is : (barred : Bool) (make : List Text → Asking) (at : List Text) (what : Asking)
    → option_map make (cond barred None (Some at)) ≡ Some what → make at ≡ what
stated_is true make at what e = cc
stated_is false make at what e = some_is (make at) what e

free_name : (at : List Text) (format : Format) (from : Option (List FreePages)) (what : Asking)
    → option_and_then (predict_by at format) from ≡ Some what → asking_name what ≡ codes "predict"
free_name at format None what e = cc
free_name at format (Some free) what e =
    ap asking_name (sym (stated_is _ (λ stated. predict stated format free) at what e))

page_name : (at : List Text) (pages : Option ℕ) (format : Format) (from : Option AddressAsked)
    (what : Asking)
    → option_and_then (explain_by at pages format) from ≡ Some what
    → asking_name what ≡ codes "explain"
page_name at pages format None what e = cc
page_name at pages format (Some address) what e =
    ap asking_name (sym (given_both _ _ (explain at address pages format) what e))

freed_name : (named : Text) (make : List FreePages → Doing)
    → ((free : List FreePages) → doing_name (make free) ≡ named)
    → (free : Option (List FreePages)) (doing : Doing) → option_map make free ≡ Some doing
    → doing_name doing ≡ named
freed_name named make names None doing e = cc
freed_name named make names (Some free) doing e =
    ap doing_name (sym (some_is (make free) doing e)) ∙ names free

work_name : (w : Subcommand) (rows : List Row) (doing : Doing) → work_asked w rows ≡ Some doing
    → doing_name doing ≡ label w
work_name word.Run rows doing e = ap doing_name (sym (some_is _ doing e))
work_name word.Check rows doing e = ap doing_name (sym (some_is _ doing e))
work_name word.Expect rows doing e = ap doing_name (sym (some_is _ doing e))
work_name word.Predict rows doing e =
    asked_name (touch_in rows) (is_on (codes "lenient") rows) (is_on (codes "names") rows) _
    (codes "predict") doing
    (free_name (texts_at (codes "at") rows) (format_in rows) (frees_in rows)) e
work_name word.Diff rows doing e =
    asked_name (touch_in rows) (is_on (codes "lenient") rows) (is_on (codes "names") rows) _
    (codes "diff") doing
    (λ what is. ap asking_name (sym (stated_is _
    (λ stated. diff stated (texts_at (codes "then") rows) (format_in rows))
    (texts_at (codes "at") rows) what is))) e
work_name word.Moves rows doing e =
    freed_name (codes "moves") _ (λ free. refl) (frees_in rows) doing e
work_name word.Explain rows doing e =
    asked_name (touch_in rows) (is_on (codes "lenient") rows) (is_on (codes "names") rows) _
    (codes "explain") doing
    (page_name (texts_at (codes "at") rows) (small_at (codes "pages") rows) (format_in rows)
    (address_in rows)) e
work_name word.Report rows doing e =
    asked_name (touch_in rows) (is_on (codes "lenient") rows) (is_on (codes "names") rows) _
    (codes "report") doing
    (λ what is. ap asking_name (sym (some_is (report (texts_at (codes "then") rows)) what is))) e
work_name word.Replay rows doing e =
    freed_name (codes "replay") _ (λ free. refl) (frees_in rows) doing e
work_name word.Shell rows doing e = ap doing_name (sym (some_is _ doing e))

scripts_name : (files : List Text) (rows : List Row) (process : Option (Option ℕ))
    (work : Option Doing) (d : Doings) (named : Text)
    → ((doing : Doing) → work ≡ Some doing → doing_name doing ≡ named)
    → option_and_then (λ p. option_map (scripts files (rules_in rows) p) work) process ≡ Some d
    → name_of d ≡ named
scripts_name files rows None work d named names e = cc
scripts_name files rows (Some p) None d named names e = cc
scripts_name files rows (Some p) (Some doing) d named names e =
    ap name_of (sym (some_is (scripts files (rules_in rows) p doing) d e)) ∙ names doing refl

storm_name : (workers : Option ℕ) (d : Doings) → option_map storm workers ≡ Some d
    → name_of d ≡ codes "storm"
storm_name None d e = cc
storm_name (Some k) d e = ap name_of (sym (some_is (storm k) d e))

word_name : (name : Text) (rows : List Row) (found : Option Subcommand) (d : Doings)
    → ((w : Subcommand) → found ≡ Some w → name ≡ label w)
    → option_and_then (scripts_asked rows) found ≡ Some d → name ≡ name_of d
word_name name rows None d names e = cc
word_name name rows (Some w) d names e = names w refl
    ∙ sym (scripts_name (texts_at (codes "FILE") rows) rows (process_in rows) (work_asked w rows)
    d (label w)
    (work_name w rows) e)

job_name : (name : Text) (rows : List Row) (d : Doings) → job_named name rows ≡ Some d
    → name ≡ name_of d
job_name name rows d = go (bytes_eq name (codes "storm")) refl
  where
    go : (t : Bool) → bytes_eq name (codes "storm") ≡ t
        → cond t (option_map storm (workers_in rows))
        (option_and_then (scripts_asked rows) (word_named name)) ≡ Some d → name ≡ name_of d
    go true same e = (bytes_eq-Decides name (codes "storm")).0 same
        ∙ sym (storm_name (workers_in rows) d e)
    go false other e = word_name name rows (word_named name) d (named_word name) e

behind_name : (name : Text) (behind : Option (List Row)) (d : Doings)
    → option_and_then (job_named name) behind ≡ Some d → name ≡ name_of d
behind_name name None d e = cc
behind_name name (Some rows) d e = job_name name rows d e

found_name : (word : Option Text) (found : Option (Text × List Row)) (d : Doings)
    → option_and_then (λ name. option_and_then (job_named name) (rows_behind name found)) word
    ≡ Some d → word ≡ Some (name_of d)
found_name None found d e = cc
found_name (Some name) found d e = ap Some (behind_name name (rows_behind name found) d e)

-- the job of a command line is that of its word
pub first_word : (words : List Text) (answer : Result Job JobFault) → Answers words answer
    → IfOk answer (λ job. slice_get words 1 ≡ Some (name_of (doings_of job)))
first_word words (Ok job) is = found_name (slice_get words 1) (subcommand_of is.0 words)
    (doings_of job) is.2.1
first_word words (Err fault) is = tt
