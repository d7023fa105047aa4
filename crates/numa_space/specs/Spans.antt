-- The span of a command: the pages that it names. All commands but SetMems leave each page outside
-- theirs as it was.
use Rattle.std.specs.Prelude.{ℕ, ◌+◌, Option, Some, None}
use Rattle.numa_machine.specs.Sizes.{whole}
use Rattle.numa_mode.specs.Policy.{PolicyRecord}
use Rattle.numa_requests.specs.declared.command.Command.{Command}
use Rattle.numa_requests.specs.declared.command.Command.TheVariants.{Map, Unmap, Mbind, SetTask}
use Rattle.numa_requests.specs.declared.command.Command.TheVariants.{Inherit}
use Rattle.numa_requests.specs.declared.command.Command.TheVariants.{SetHome, SetWeight, SetMems}
use Rattle.numa_space.specs.History.{page_of, page_count}
use Rattle.numa_space.specs.Steps.{record_now, policy_with_home}

-- the first page of a command's span
abbrev pub span_first : Command → ℕ
span_first (Map start bytes offset size) = page_of start
span_first (Unmap start bytes) = page_of start
span_first (Mbind start bytes spec) = page_of start
span_first (SetTask task spec) = 0
span_first (Inherit heir from) = 0
span_first (SetHome start bytes node) = page_of start
span_first (SetWeight node weight) = 0
span_first (SetMems mask) = 0

-- how many pages the span has
abbrev pub span_pages : Command → ℕ
span_pages (Map start bytes offset size) = page_count (whole size bytes)
span_pages (Unmap start bytes) = page_count bytes
span_pages (Mbind start bytes spec) = page_count bytes
span_pages (SetTask task spec) = 0
span_pages (Inherit heir from) = 0
span_pages (SetHome start bytes node) = page_count bytes
span_pages (SetWeight node weight) = 0
span_pages (SetMems mask) = 0

-- the page after the span's last
abbrev pub span_end : Command → ℕ
span_end command = span_first command + span_pages command

-- whether the command leaves the pages outside its span as they are
abbrev pub StaysInSpan : Command → Type 0
StaysInSpan (Map start bytes offset size) = Unit {0}
StaysInSpan (Unmap start bytes) = Unit {0}
StaysInSpan (Mbind start bytes spec) = Unit {0}
StaysInSpan (SetTask task spec) = Unit {0}
StaysInSpan (Inherit heir from) = Unit {0}
StaysInSpan (SetHome start bytes node) = Unit {0}
StaysInSpan (SetWeight node weight) = Unit {0}
StaysInSpan (SetMems mask) = ⊥

-- whether the command changes each mapped page of its span by the policy of its range alone, and
-- maps none
abbrev pub EditsSpan : Command → Type 0
EditsSpan (Map start bytes offset size) = ⊥
EditsSpan (Unmap start bytes) = Unit {0}
EditsSpan (Mbind start bytes spec) = Unit {0}
EditsSpan (SetTask task spec) = ⊥
EditsSpan (Inherit heir from) = ⊥
EditsSpan (SetHome start bytes node) = Unit {0}
EditsSpan (SetWeight node weight) = ⊥
EditsSpan (SetMems mask) = ⊥

-- what such a command makes of the policy of a mapped page; none where it unmaps the page
abbrev pub span_edit : ℕ → Command → Option PolicyRecord → Option (Option PolicyRecord)
span_edit allowed (Map start bytes offset size) policy = Some policy
span_edit allowed (Unmap start bytes) policy = None
span_edit allowed (Mbind start bytes spec) policy = Some (record_now allowed spec)
span_edit allowed (SetTask task spec) policy = Some policy
span_edit allowed (Inherit heir from) policy = Some policy
span_edit allowed (SetHome start bytes node) policy = Some (policy_with_home node policy)
span_edit allowed (SetWeight node weight) policy = Some policy
span_edit allowed (SetMems mask) policy = Some policy
