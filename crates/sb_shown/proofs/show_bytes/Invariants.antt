use Rattle.std.proofs.Common.{◌≡◌, ◌++◌, drop}
use Rattle.sb_shown.specs.Shown.{shown_bytes}
use Rattle.sb_shown.proofs.show_bytes.Given as goal

-- what the message has, with the bytes to come, is all
abbrev pub invariant-loop-byte : goal.invariant-loop-byte
invariant-loop-byte l =
    l.message.items ++ shown_bytes (drop l.byte-index l.value) ≡ l.fn.message.items ++ shown_bytes l.value
