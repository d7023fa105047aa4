-- The text of each answer.
use Rattle.std.specs.Prelude.{ℕ, List, [], ◌∷◌, ◌++◌, codes, decimal, flat_map}
use Rattle.numa_requests.specs.NodeCounts.{nodes_text as counts_text}
use Rattle.numa_script.specs.HostTexts.{host_cause}
use Rattle.numa_script.specs.HugeLines.{huge_cause}
use Rattle.numa_script.specs.Names.{cause_name, list_name, machine_name, policy_name}
use Rattle.numa_script.specs.PageTexts.{move_cause, moved_words, placed_cause, sent_text}
use Rattle.numa_script.specs.declared.policy.WordError.{WordError}
use Rattle.numa_script.specs.declared.policy.WordError.TheVariants as word
use Rattle.numa_script.specs.declared.reply.Win.{Win}
use Rattle.numa_script.specs.declared.reply.Reply.{Reply}
use Rattle.numa_script.specs.declared.reply.Reply.TheVariants as reply

-- ---- answers

abbrev pub word_text : WordError → List ℕ
word_text (word.List fault) = codes "bad list " ++ list_name fault
word_text (word.Policy fault) = codes "bad policy " ++ policy_name fault

-- nodes, each after a space
abbrev pub nodes_text : List ℕ → List ℕ
nodes_text nodes = flat_map (λ node. 32 ∷ decimal node) nodes

abbrev pub refused_text : List ℕ → List ℕ
refused_text name = codes "refused " ++ name ++ codes "\n"

abbrev pub frame_text : ℕ → ℕ → List ℕ
frame_text node number = codes " node " ++ decimal node ++ codes " frame " ++ decimal number

abbrev pub win_answer : Win → List ℕ
win_answer win =
    codes "won v" ++ decimal win.version ++ frame_text win.node win.frame ++ codes " rank "
    ++ decimal win.rank ++ codes "\n"

-- the nodes of a page, or of pages
abbrev pub nodes_answer : ℕ → List ℕ → List ℕ
nodes_answer version nodes =
    codes "v" ++ decimal version ++ codes ":" ++ nodes_text nodes ++ codes "\n"

-- the nodes that have pages, each with how many
abbrev pub counts_answer : ℕ → (ℕ → ℕ) → List ℕ
counts_answer version pages =
    codes "v" ++ decimal version ++ codes ":" ++ counts_text pages ++ codes "\n"

-- how many ranges there are
abbrev pub ranges_answer : ℕ → List ℕ
ranges_answer count = codes "ranges " ++ decimal count ++ codes "\n"

-- the line that a reply is written as
unfoldable pub text_of : Reply → List ℕ
text_of reply.Silent = []
text_of reply.BadWords = codes "bad words\n"
text_of reply.BadState = codes "bad state\n"
text_of reply.LimitsOk = codes "limits ok\n"
text_of reply.BadLimits = codes "bad limits\n"
text_of reply.RulesOk = codes "rules ok\n"
text_of reply.CpusOk = codes "cpus ok\n"
text_of reply.Ready = codes "ready\n"
text_of (reply.BadMachine fault) = codes "bad machine " ++ machine_name fault ++ codes "\n"
text_of (reply.BadWord fault) = word_text fault ++ codes "\n"
text_of (reply.Accepted version) = codes "ok " ++ decimal version ++ codes "\n"
text_of (reply.Published version) = codes "published " ++ decimal version ++ codes "\n"
text_of reply.Still = codes "still\n"
text_of (reply.Exhausted version) = codes "exhausted v" ++ decimal version ++ codes "\n"
text_of (reply.Won win) = win_answer win
text_of (reply.Found frame) = codes "found" ++ frame_text frame.node frame.number ++ codes "\n"
text_of reply.Full = codes "full\n"
text_of reply.Given = codes "given\n"
text_of (reply.Back frame) = codes "back" ++ frame_text frame.node frame.number ++ codes "\n"
text_of (reply.Refused cause) = refused_text (cause_name cause)
text_of reply.Placed = refused_text (codes "Placed")
text_of reply.HostReady = codes "host ok\n"
text_of (reply.HostRefused cause) = refused_text (host_cause cause)
text_of reply.AtOk = codes "at ok\n"
text_of reply.RoomOk = codes "room ok\n"
text_of reply.MemoryMigrateOk = codes "memory-migrate ok\n"
text_of (reply.Moved moved left) = moved_words moved left ++ codes "\n"
text_of (reply.MovedTo node) = codes "node " ++ decimal node ++ codes "\n"
text_of (reply.Sent version moved left late) = sent_text version moved left late
text_of (reply.PlacedRefused cause) = refused_text (placed_cause cause)
text_of (reply.MoveRefused cause) = refused_text (move_cause cause)
text_of (reply.HugeRefused cause) = refused_text (huge_cause cause)
