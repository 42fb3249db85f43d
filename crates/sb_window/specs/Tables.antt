-- A table of last puts as contracts see it.
use Rattle.std.specs.Prelude.{ℕ, ◌≤◌, Bool, List, Option, IsTrue, length, refl}
use Rattle.std.specs.Coded.{Coded, code_by, coded×, coded_ℕ, coded_bool, coded_list, coded_option}
use Rattle.std.specs.Ordering.{nat_cmp}
use Rattle.std.specs.FinMap as map
use Rattle.sb_window.specs.declared.last_put.Ending.{Ending}
use Rattle.sb_window.specs.declared.last_put.LastPut.{LastPut}
use Rattle.sb_window.specs.LastPuts.{LastPuts}

-- room for the last puts of so many blocks, and these
pub record Table : Type 0 where
  pub room : ℕ
  pub puts : LastPuts

-- each of these is stored as the tuple of its parts
abbrev pub ending_code : Coded Ending
ending_code =
    code_by (ℕ × (Bool × List ℕ)) (coded× coded_ℕ (coded× coded_bool (coded_list coded_ℕ)))
    (λ e. (e.reading, (e.ok, e.digest))) (λ p. record { reading = p.0; ok = p.1.0; digest = p.1.1 }) (λ _. refl)

abbrev pub last_put_code : Coded LastPut
last_put_code =
    code_by (Option Ending) (coded_option ending_code) (λ e. e.ending) (λ p. record { ending = p }) (λ _. refl)

abbrev pub puts_code : Coded LastPuts
puts_code = map.code coded_ℕ last_put_code

abbrev pub table_code : Coded Table
table_code =
    code_by (ℕ × LastPuts) (coded× coded_ℕ puts_code) (λ t. (t.room, t.puts)) (λ p. record { room = p.0; puts = p.1 })
    (λ _. refl)

-- rows by rising blocks, at most so many
pub record IsTable (room : ℕ) (rows : List (ℕ × LastPut)) : Type 0 where
  pub rising : IsTrue (map.is_sorted nat_cmp rows)
  pub fits : length rows ≤ room
