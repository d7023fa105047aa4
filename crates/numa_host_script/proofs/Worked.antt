-- Lines of a host's script, what they are answered.
use Rattle.std.specs.Prelude.{◌≡◌, false, true, [], ◌∷◌, codes, Some, None, Ok, refl}
use Rattle.numa_mask.specs.Lists.{item_of, ends_of, digit_of, numeral_of as node_numeral_of}
use Rattle.numa_machine.specs.Machine.{Hardware}
use Rattle.numa_machine.specs.declared.fallback.Fallback.TheVariants.{Nearest}
use Rattle.numa_machine.specs.declared.rules.Rules.TheVariants.{Document}
use Rattle.numa_machine.specs.declared.page_size.PageSize.TheVariants.{Small}
use Rattle.numa_requests.specs.declared.command.Command.TheVariants as own
use Rattle.numa_requests.specs.declared.host_command.HostCommand.TheVariants as command
use Rattle.numa_host_huge.specs.Sharing.{no_sharing}
use Rattle.numa_host_pages.specs.Summed.{none_sent, sum_in}
use Rattle.numa_script.specs.Lines.{alone, keyword_of, line_of}
use Rattle.numa_script.specs.Numbers.{number_of, numeral_of, in_64_bits}
use Rattle.numa_script.specs.Texts.{text_of}
use Rattle.numa_run.specs.Answers.{start}
use Rattle.numa_run.specs.ArrivedTexts.{rooms_text}
use Rattle.numa_run.specs.MovedTexts.{last_line}
use Rattle.numa_run.specs.Replies.{Shown, outcome_of}
use Rattle.numa_page_state.specs.Lying.{OfNodes, still}
use Rattle.numa_script.specs.declared.line.Line.TheVariants as line
use Rattle.numa_script.specs.declared.page_line.PageLine.TheVariants as page
use Rattle.numa_host_script.specs.Standing.{told}
use Rattle.numa_run.specs.States.{usual_bounds}
use Rattle.numa_host_script.specs.Hosts.{plenty}
use Rattle.numa_host_script.specs.Paging.{moved_text}
use Rattle.numa_host_script.specs.Sessions.{Hosted, Hosting, Single, session_answer_to}
use Rattle.numa_host_script.specs.Sessions.{session_served}

abbrev four : Hardware
four = record {
  nodes = 4;
  memory = 15;
  distances = [];
  frames = [];
  rules = Document;
  fallback = Nearest;
}

-- a group of nodes 1 and 2, and a process in it that has mapped a page
abbrev run : Hosting
run = record {
  machine = four;
  bounds = usual_bounds;
  history = command.In 1 (own.Map 65536 4096 0 Small) ∷ command.NewProcess 1 5
      ∷ command.SetGroupMems 5 (Some 6) ∷ command.NewGroup 5 0 ∷ [];
  lying = record {
    room = None;
    follows = true;
    homes = record { id = 1; group = 5; allowed = 6; lying = None; along = false } ∷ [];
    huge = no_sharing 15;
  };
}

-- ---- before a host

before-a_machine : session_answer_to plenty (Single start) (codes "host") ≡ codes "bad state\n"
unfolding session_served line_of keyword_of text_of
before-a_machine = refl

with-words : session_answer_to plenty (Single start) (codes "host 1") ≡ codes "bad words\n"
unfolding session_served line_of keyword_of outcome_of text_of
with-words = refl

-- without a host each line says what it always said
without-a_host : session_answer_to plenty (Single start) (codes "cgroup 5 0")
    ≡ codes "bad words\n"
unfolding session_served line_of keyword_of number_of numeral_of in_64_bits outcome_of text_of
without-a_host = refl

-- ---- in a host

again : session_answer_to plenty (Hosted run) (codes "host") ≡ codes "bad state\n"
unfolding session_served line_of keyword_of text_of
again = refl

-- lines of one process have no place, but behind `in`
said-plainly : session_answer_to plenty (Hosted run) (codes "ranges") ≡ codes "bad state\n"
unfolding session_served line_of keyword_of text_of
said-plainly = refl

-- but what the host's last move did is told: nothing yet, at the version of the host
moved-of_a_host : (session_served plenty (Hosted run) (alone (line.Pages (Ok page.Moved)))).answer
    ≡ Shown (moved_text run)
unfolding session_served
moved-of_a_host = refl

moved-of_nothing : sum_in run.lying ≡ none_sent
moved-of_nothing = refl

page-of_a_host : session_answer_to plenty (Hosted run) (codes "at 0 4096 0")
    ≡ codes "bad state\n"
unfolding session_served line_of keyword_of number_of numeral_of in_64_bits text_of
page-of_a_host = refl

-- ---- pages

-- no page of it has moved; the version is the host's
page-of_a_process :
    (session_served plenty (Hosted run) (told 1 (line.Pages (Ok page.Moved)))).answer
    ≡ Shown (last_line 4 (OfNodes still))
unfolding session_served
page-of_a_process = refl

page-of_nobody : session_answer_to plenty (Hosted run) (codes "in 2 moved")
    ≡ codes "refused NoSuchProcess ESRCH\n"
unfolding session_served line_of keyword_of number_of numeral_of in_64_bits text_of
page-of_nobody = refl

-- rooms are the host's
room-of_a_process : session_answer_to plenty (Hosted run) (codes "in 1 room 1 5")
    ≡ codes "bad words\n"
unfolding session_served line_of keyword_of number_of numeral_of in_64_bits text_of
room-of_a_process = refl

room-of_all : session_answer_to plenty (Hosted run) (codes "room 1 5") ≡ codes "room ok\n"
unfolding session_served line_of keyword_of number_of numeral_of in_64_bits text_of
room-of_all = refl

room-where_none_is : session_answer_to plenty (Hosted run) (codes "room 4 5")
    ≡ codes "refused NoSuchNode EINVAL\n"
unfolding session_served line_of keyword_of number_of numeral_of in_64_bits text_of
room-where_none_is = refl

-- no node fills yet
rooms-of_all : session_answer_to plenty (Hosted run) (codes "room") ≡ codes "room\n"
unfolding session_served line_of keyword_of number_of numeral_of in_64_bits text_of rooms_text
rooms-of_all = refl

pages-follow : session_answer_to plenty (Hosted run) (codes "memory-migrate off")
    ≡ codes "memory-migrate ok\n"
unfolding session_served line_of keyword_of number_of numeral_of in_64_bits text_of
pages-follow = refl

moving-badly : session_answer_to plenty (Hosted run) (codes "in 1 migrate 0 2-1")
    ≡ codes "bad list BackRange\n"
unfolding session_served line_of keyword_of number_of numeral_of in_64_bits item_of ends_of
    node_numeral_of digit_of text_of
moving-badly = refl

-- ---- words

setting-badly : session_answer_to plenty (Hosted run) (codes "cgroup-mems 5 2-1")
    ≡ codes "bad list BackRange\n"
unfolding session_served line_of keyword_of number_of numeral_of in_64_bits item_of ends_of
    node_numeral_of digit_of text_of
setting-badly = refl

-- weights are the host's
handing-weights : session_answer_to plenty (Hosted run) (codes "in 1 weight 0 5")
    ≡ codes "bad words\n"
unfolding session_served line_of keyword_of number_of numeral_of in_64_bits text_of
handing-weights = refl

handing-twice : session_answer_to plenty (Hosted run) (codes "in 1 in 2 ranges")
    ≡ codes "bad words\n"
unfolding session_served line_of keyword_of number_of numeral_of in_64_bits text_of
handing-twice = refl

handing-work : session_answer_to plenty (Hosted run) (codes "in 1 publish")
    ≡ codes "bad state\n"
unfolding session_served line_of keyword_of number_of numeral_of in_64_bits text_of
handing-work = refl
