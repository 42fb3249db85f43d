-- What a worker does.
use Rattle.std.specs.Prelude.{◌≡◌, ℕ, ◌+◌, length}
use Rattle.sb_turn.specs.declared.turn.Turn.{Turn}
use Rattle.sb_turn.specs.Passes.{mine, IsPassOf, IsFree}
use Rattle.test_turns.specs.declared.counter.Counter.{Counter}
use Rattle.test_turns.specs.declared.worker.Worker.{Worker}

-- its pass is of this lock, and holds no turn
abbrev pub IsReady : Turn Counter ℕ (Unit {0}) → Worker → Type 0
IsReady t w = IsPassOf t w.pass × IsFree w.pass

-- it is to add 1 in so many turns
abbrev pub HasTask : ℕ → Worker → Type 0
HasTask turns w = (w.amount ≡ 1) × (w.turns ≡ turns)

-- it is ready again, and made an entry in each of its turns
abbrev pub HasWorked : Turn Counter ℕ (Unit {0}) → Worker → Worker → Type 0
HasWorked t w v = IsReady t v × (length (mine v.pass) ≡ w.turns + length (mine w.pass))
