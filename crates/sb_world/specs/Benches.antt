-- What a bench is made of.
use Rattle.std.specs.Prelude.{ℕ, zero, suc, ◌≡◌, Bool, true, false, List, Option, Some, None, take}
use Rattle.sb_base.specs.declared.access.StorePlan.{StorePlan}
use Rattle.sb_base.specs.declared.access.StorePlan.TheVariants as store

-- a bench with its links as a list
pub record BenchParts (L C R S : Type 0) : Type 0 where
  pub links : List L
  pub clock : C
  pub input : R
  pub output : S
  pub errors : S

-- the same with so many of its links, from the first on
abbrev pub with_links : {L C R S : Type 0} → ℕ → BenchParts L C R S → BenchParts L C R S
with_links count parts = record {
  links = take count parts.links;
  clock = parts.clock;
  input = parts.input;
  output = parts.output;
  errors = parts.errors;
}

-- how many links a bench has: as many as it is asked for with a store, and none without one
abbrev pub link_count : Option StorePlan → ℕ → ℕ
link_count None links = 0
link_count (Some plan) links = links

-- the first pause before a request is tried again isn't 0, unless there are none
abbrev pub HasPauses : Option StorePlan → Type 0
HasPauses None = Unit {0}
HasPauses (Some (store.Dir path)) = Unit {0}
HasPauses (Some (store.S3 host port bucket vhost region access first_pause total_pause)) = first_pause ≡ 0
    → total_pause ≡ 0

-- the bench that was shut last, by a world that tells it or not
abbrev pub shut_bench : {X : Type 0} → Bool → X → Option X
shut_bench true bench = Some bench
shut_bench false bench = None
