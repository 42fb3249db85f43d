-- What a world in memory hands out next.
use Rattle.std.specs.Prelude.{List, ◌∷◌, Bool, true, false, Option, Some, None, reverse}
use Rattle.sb_world.specs.Benches.{BenchParts}

-- a bench of the links and of the first of the other parts, if there are enough; the output comes before the errors
abbrev pub next_of : {L C R S : Type 0} → List L → List C → List R → List S → Option (BenchParts L C R S)
next_of links (clock ∷ clocks) (input ∷ inputs)
    (output ∷ errors ∷ sinks) = Some (record {
      links = links;
      clock = clock;
      input = input;
      output = output;
      errors = errors;
    })
next_of links clocks inputs sinks = None

-- a list that is told, the newest first, unless its growth was refused
abbrev pub told_list : {X : Type 0} → List X → Bool → Option (List X)
told_list items true = Some (reverse items)
told_list items false = None
