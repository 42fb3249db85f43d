-- The history of a new core: what is known to be zeros in the store.
use Rattle.std.specs.Prelude.{ℕ, zero, suc, Bool, if◌then◌else◌, List, [], ◌∷◌}
use Rattle.sb_base.specs.declared.entry.EntryKind.TheVariants.{KnownZero}
use Rattle.sb_base.specs.declared.entry.Entry.{Entry}

-- the entry that a block is known to be zeros
abbrev pub known_entry : ℕ → Entry
known_entry block = record { pass = 0; reading = 0; kind = KnownZero block }

-- the opening list: of the first n blocks those that are marked, in rising order, the newest first
abbrev pub opening : (ℕ → Bool) → ℕ → List Entry
opening marks zero = []
opening marks (suc n) = if marks n then known_entry n ∷ opening marks n else opening marks n
