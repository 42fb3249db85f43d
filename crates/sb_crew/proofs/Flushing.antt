-- A flush that failed.
use Rattle.std.proofs.Common.{ℕ, [], Err}
use Rattle.sb_crew.specs.Scenes.{Deed}
use Rattle.sb_crew.specs.Bases.{Base}
use Rattle.sb_crew.specs.declared.calls.FlushFault.{FlushFault}
use Rattle.sb_crew.specs.Answers.{call_fault}
use Rattle.sb_crew.specs.Outcomes.{Does, FlushDoes, Stops, flush_of}

-- what failed before the flush had ended
pub flush_stops : {base : Base} {did : Deed → Type 0} (fault : FlushFault) (mark : ℕ)
    → Does did [] (λ (deed : Deed). Stops base (flush_of mark) deed (call_fault fault))
    → FlushDoes base did (Err fault)
flush_stops fault mark ended = record {
  deed = ended.deed;
  done = ended.done;
  ends = (mark, ended.ends);
  asks = ended.asks;
}
