-- What the lines of workers ask for.
use Rattle.std.specs.Prelude.{ℕ, ◌/◌, List, [], ◌∷◌, Option, Some, None, option_and_then}
use Rattle.std.specs.Option.{option_map}
use Rattle.numa_requests.specs.declared.event.Event.TheVariants as event
use Rattle.numa_machine.specs.declared.frame.Frame.{Frame}
use Rattle.numa_requests.specs.declared.request.Request.{Request}
use Rattle.numa_script.specs.Numbers.{number_of, small_of, page_of, node_of, frame_number_of}
use Rattle.numa_script.specs.Present.{with_two, two_words, two_of, three_of}
use Rattle.numa_script.specs.declared.work.Work.{Work}
use Rattle.numa_script.specs.declared.work.Work.TheVariants as work

-- TASK ADDR CPU: a fault of the task on the page of the address
abbrev pub request_of : List (List ℕ) → Option Request
request_of words =
    option_map (λ v. record { task = v.0; page = v.1 / 4096; cpu = v.2 })
    (three_of small_of number_of small_of words)

-- NODE FRAME
abbrev pub frame_of : List (List ℕ) → Option Frame
frame_of words =
    option_and_then (λ v. with_two (λ n k. record { node = n; number = k }) (node_of v.0)
    (frame_number_of v.1)) (two_words words)

-- publish
abbrev pub publish_work : List (List ℕ) → Option Work
publish_work [] = Some (work.Event event.Publish)
publish_work _ = None

-- begin W TASK ADDR CPU
abbrev pub begin_work : List (List ℕ) → Option Work
begin_work (worker ∷ words) =
    with_two (λ w r. work.Event (event.Begin w r)) (small_of worker) (request_of words)
begin_work _ = None

-- look W WORD
abbrev pub look_work : List (List ℕ) → Option Work
look_work words = option_map (λ v. work.Event (event.Look v.0 v.1)) (two_of small_of small_of words)

-- try W NODE FRAME
abbrev pub try_work : List (List ℕ) → Option Work
try_work (worker ∷ words) =
    with_two (λ w f. work.Event (event.Try w f)) (small_of worker) (frame_of words)
try_work _ = None

-- give W NODE FRAME
abbrev pub give_work : List (List ℕ) → Option Work
give_work (worker ∷ words) =
    with_two (λ w f. work.Event (event.Give w f)) (small_of worker) (frame_of words)
give_work _ = None

-- touch W TASK ADDR CPU
abbrev pub touch_work : List (List ℕ) → Option Work
touch_work (worker ∷ words) = with_two work.Touch (small_of worker) (request_of words)
touch_work _ = None

-- release W ADDR
abbrev pub release_work : List (List ℕ) → Option Work
release_work words =
    option_and_then (λ v. with_two work.Release (small_of v.0) (page_of v.1)) (two_words words)
