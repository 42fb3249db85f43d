-- The bytes of an answer, as they are taken from an input.
use Rattle.std.proofs.Common.{ℕ, ◌≡◌, ◌≢◌, ◌<◌, ◌≤◌, List, [], ◌∷◌, ◌++◌, Some, length, take, get_or, inl, inr, refl, sym, ap, subst, ◌∙◌, append_assoc, arith, length-take}
use Rattle.std.specs.Prelude.{Option}
use Rattle.std.proofs.lemmas.List.{get_or-take}
use Rattle.sb_world.specs.Streams.{Takes, IsAtEnd}
use Rattle.sb_tools.specs.Questions.{GivesAnswer, IsInLine}

-- bytes that were taken first and then are taken together
pub takes_join : {before between now : Option (List ℕ)} {first next : List ℕ} → Takes before between first
    → Takes between now next → Takes before now (first ++ next)
takes_join {before = before} {first = first} {next = next} early late = record {
  told = λ rest is.
      early.told (next ++ rest) (late.told rest is) ∙ ap Some (sym (append_assoc first next rest));
}

-- nothing more was taken
pub takes_none : {before between now : Option (List ℕ)} {first : List ℕ} → Takes before between first
    → Takes between now [] → Takes before now first
takes_none early late = record { told = λ rest is. early.told rest (late.told rest is) }

-- the front of a room has no line end
pub in_line : (room : List ℕ) (size : ℕ) → size ≤ length room
    → ((k : ℕ) → k < size → get_or room k 0 ≡ 10 → ⊥) → IsInLine (take size room)
in_line room size within line k below e =
    let short : k < size = omega (arith, length-take size room) in
    line k short (sym (get_or-take size room k 0 short) ∙ e)

-- the answer in the front of a room, where the input ended
pub answer_at_end : {before between now : Option (List ℕ)} (room : List ℕ) (size : ℕ) → length room ≡ 16 → size < 16
    → Takes before between (take size room) → ((k : ℕ) → k < size → get_or room k 0 ≡ 10 → ⊥)
    → Takes between now [] → IsAtEnd now → GivesAnswer before now (take size room)
answer_at_end room size sixteen below took line none ended = record {
  taken = take size room;
  took = takes_none took none;
  line = in_line room size (omega arith) line;
  ends = inr (inl (omega (arith, length-take size room), refl, ended));
}

-- the same, where a line end came
pub answer_at_line_end : {before between now : Option (List ℕ)} (room : List ℕ) (size byte : ℕ) → length room ≡ 16
    → size < 16 → Takes before between (take size room) → ((k : ℕ) → k < size → get_or room k 0 ≡ 10 → ⊥)
    → Takes between now (byte ∷ []) → byte ≡ 10 → GivesAnswer before now (take size room)
answer_at_line_end {before} {between} {now} room size byte sixteen below took line more is = record {
  taken = take size room ++ 10 ∷ [];
  took = takes_join took (subst (λ (last : ℕ). Takes between now (last ∷ [])) is more);
  line = in_line room size (omega arith) line;
  ends = inl (omega (arith, length-take size room), refl);
}
