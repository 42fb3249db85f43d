-- The calls in a log that only clauses read.
use Rattle.std.specs.Prelude.{List, [], ◌∷◌}
use Rattle.sb_world.specs.Calls.{get_reply, head_reply, list_reply, fault_of}
use Rattle.sb_world.specs.declared.link.Call.{Call}
use Rattle.sb_world.specs.declared.link.Call.TheVariants as call
use Rattle.sb_log.specs.Shown.{bytes_in}
use Rattle.sb_log.specs.declared.log.Told.{Told}
use Rattle.sb_log.specs.declared.log.Told.TheVariants as told
use Rattle.sb_log.specs.declared.log.Calls.{Calls, End, More'}

-- a call with its answer
abbrev pub call_of : Told → Call
call_of (told.Get name verify answer out) =
    call.Get (bytes_in name.value) verify (get_reply answer (bytes_in out.value))
call_of (told.Put name body meta answer) =
    call.Put (bytes_in name.value) (bytes_in body.value) meta (fault_of answer)
call_of (told.Delete name answer) = call.Delete (bytes_in name.value) (fault_of answer)
call_of (told.Head name answer) = call.Head (bytes_in name.value) (head_reply answer.value)
call_of (told.List prefix marker answer page) =
    call.List (bytes_in prefix.value) (bytes_in marker.value) (list_reply answer page.value)

-- the calls, the newest first
abbrev pub calls_in : Calls → List Call
calls_in End = []
calls_in (More' newest shape before) = call_of newest ∷ calls_in before
