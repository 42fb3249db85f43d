-- What a borrowed line stands for: the same with its bytes as lists.
use Rattle.sb_base.specs.declared.line.Line.{Line}
use Rattle.sb_base.specs.declared.line.Kind.{Kind}
use Rattle.sb_base.specs.declared.line.Kind.TheVariants as line
use Rattle.sb_base.specs.declared.line.Answer.{Answer}
use Rattle.sb_base.specs.declared.line.Answer.TheVariants as answer
use Rattle.sb_base.specs.declared.entry.Shown.{Shown}
use Rattle.sb_base.specs.declared.entry.Shown.TheVariants as shown
use Rattle.sb_base.specs.declared.entry.EntryKind.{EntryKind}
use Rattle.sb_base.specs.declared.entry.EntryKind.TheVariants as entry
use Rattle.sb_base.specs.declared.entry.Entry.{Entry}

-- what the store showed
abbrev pub shown_of : Answer → Shown
shown_of answer.Absent = shown.Absent
shown_of (answer.Bytes bytes) = shown.Bytes bytes.now
shown_of answer.Same = shown.Same
shown_of answer.Failed = shown.Failed

-- what happened
abbrev pub entry_kind_of : Kind → EntryKind
entry_kind_of (line.KnownZero block) = entry.KnownZero block
entry_kind_of (line.Read part bytes) = entry.Read part bytes.now
entry_kind_of (line.Write part bytes) = entry.Write part bytes.now
entry_kind_of (line.FlushBegin mark) = entry.FlushBegin mark
entry_kind_of (line.FlushDone mark) = entry.FlushDone mark
entry_kind_of (line.GetBegin block expect verify) = entry.GetBegin block expect verify
entry_kind_of (line.GetEnd block answer verify taken) = entry.GetEnd block (shown_of answer) verify taken
entry_kind_of (line.PutBegin block bytes) = entry.PutBegin block bytes.now
entry_kind_of (line.PutEnd block ok) = entry.PutEnd block ok
entry_kind_of (line.Dropped block) = entry.Dropped block
entry_kind_of (line.Waited why) = entry.Waited why
entry_kind_of line.SlotFault = entry.SlotFault
entry_kind_of (line.Slept until) = entry.Slept until
entry_kind_of line.Stopped = entry.Stopped
entry_kind_of line.Closing = entry.Closing

-- the entry that a line is
abbrev pub entry_of : Line → Entry
entry_of line = record { pass = line.pass; reading = line.reading; kind = entry_kind_of line.kind }
