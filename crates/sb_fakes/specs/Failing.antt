-- Which calls of a fake are to fail, and how its faults are counted.
use Rattle.std.specs.Prelude.{ℕ, ◌+◌, ◌-◌, ◌^◌, min, Bool, true, false, nat_eq}
use Rattle.std.specs.List.{list_any}
use Rattle.sb_fakes.specs.declared.faults.Faults.{Faults}

-- a count with one more, at most the greatest u64
abbrev pub one_more : ℕ → ℕ
one_more count = min (count + 1) (2 ^ 64 - 1)

-- a count of faults after a call, one more where it failed so
abbrev pub counted : Bool → ℕ → ℕ
counted true count = one_more count
counted false count = count

-- the calls and faults after one more call, which failed so or not
abbrev pub answered : Bool → Faults → Faults
answered failed faults = record {
  planned = faults.planned;
  calls = one_more faults.calls;
  count = counted failed faults.count;
}

-- the next call is among those that are to fail
abbrev pub fails_next : Faults → Bool
fails_next faults = list_any (λ call. nat_eq call (one_more faults.calls)) faults.planned.items
