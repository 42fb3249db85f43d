-- What signs.
use Rattle.std.specs.Prelude.{ℕ, List}

-- an access id, its secret key, and the region that is signed for
pub record Credentials : Type 0 where
  pub id : List ℕ
  pub secret : List ℕ
  pub region : List ℕ
