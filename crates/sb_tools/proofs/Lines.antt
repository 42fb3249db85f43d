-- Lines that are written one after another.
use Rattle.std.proofs.Common.{ℕ, suc, ◌≡◌, ◌<◌, ◌≤◌, ◌+◌, Bool, List, [], ◌∷◌, ◌++◌, Some, None, length, take, drop, get_or, refl, sym, ap, subst, ◌∙◌, append_assoc, append-nil, add-one, drop-cons, length-append, arith}
use Rattle.std.specs.Prelude.{Option}
use Rattle.std.specs.List.{filter_map}
use Rattle.std.proofs.lemmas.List.{take_more, take-append-drop}
use Rattle.std.proofs.lemmas.List.Elements.{filter_map-append}
use Rattle.sb_world.specs.Streams.{Holds}
use Rattle.sb_tools.specs.Blocks.{block_of, blocks_in}
use Rattle.sb_tools.specs.Showing.{HoldsFront, line_of, lines_in, lines_of}

-- nothing was written
pub holds_nothing : (held : Option (List ℕ)) → Holds held held []
holds_nothing held = record { told = λ list is. (list, is, sym (append-nil list)) }

-- what was written first and then is written together
pub holds_join : {before between now : Option (List ℕ)} {first next : List ℕ} → Holds before between first
    → Holds between now next → Holds before now (first ++ next)
holds_join {before = before} {first = first} {next = next} early late = record {
  told = λ list is.
      let step = late.told list is in
      let start = early.told step.0 step.1 in
      (start.0, start.1, step.2 ∙ ap (λ front. front ++ next) start.2 ∙ append_assoc start.0 first next);
}

-- the same bytes by another name
pub holds_as : {before now : Option (List ℕ)} {first next : List ℕ} → first ≡ next → Holds before now first
    → Holds before now next
holds_as {before} {now} e holds = subst (λ (bytes : List ℕ). Holds before now bytes) e holds

-- the lines of names and more
pub lines_in-append : (prefix : List ℕ) (hashed : Bool) (names more : List (List ℕ))
    → lines_in prefix hashed (names ++ more) ≡ lines_in prefix hashed names ++ lines_in prefix hashed more
lines_in-append prefix hashed [] more = refl
lines_in-append prefix hashed (name ∷ names) more =
    ap (λ behind. line_of (block_of prefix hashed name) ++ behind) (lines_in-append prefix hashed names more)
    ∙ sym (append_assoc (line_of (block_of prefix hashed name)) (lines_in prefix hashed names)
    (lines_in prefix hashed more))

-- how many blocks names and more are
pub blocks_in-append : (prefix : List ℕ) (hashed : Bool) (names more : List (List ℕ))
    → blocks_in prefix hashed (names ++ more) ≡ blocks_in prefix hashed names ++ blocks_in prefix hashed more
blocks_in-append prefix hashed names more = filter_map-append (block_of prefix hashed) names more

-- names, up to a place, there, and behind it
split_at : (names : List (List ℕ)) (place : ℕ) (name : List ℕ) → place < length names → name ≡ get_or names place name
    → names ≡ take place names ++ name ∷ drop (place + 1) names
split_at names place name within is =
    let rest : drop place names ≡ name ∷ drop (place + 1) names = rw (drop-cons names place name within, add-one, ← is) refl in
    sym (take-append-drop place names) ∙ ap (λ behind. take place names ++ behind) rest

-- names up to a place and there
take_there : (names : List (List ℕ)) (place : ℕ) (name : List ℕ) → place < length names → name ≡ get_or names place name
    → take (place + 1) names ≡ take place names ++ name ∷ []
take_there names place name within is =
    take_more names place name within ∙ ap (λ last. take place names ++ last ∷ []) (sym is)

-- the lines of names, up to a place, there, and behind it
pub lines_split : (prefix : List ℕ) (hashed : Bool) (names : List (List ℕ)) (place : ℕ) (name : List ℕ)
    → place < length names → name ≡ get_or names place name
    → lines_in prefix hashed names ≡ lines_in prefix hashed (take place names)
    ++ (line_of (block_of prefix hashed name) ++ lines_in prefix hashed (drop (place + 1) names))
lines_split prefix hashed names place name within is =
    ap (lines_in prefix hashed) (split_at names place name within is)
    ∙ lines_in-append prefix hashed (take place names) (name ∷ drop (place + 1) names)

-- the lines up to a place and there
pub lines_more : (prefix : List ℕ) (hashed : Bool) (names : List (List ℕ)) (place : ℕ) (name : List ℕ)
    → place < length names → name ≡ get_or names place name
    → lines_in prefix hashed (take place names) ++ line_of (block_of prefix hashed name)
    ≡ lines_in prefix hashed (take (place + 1) names)
lines_more prefix hashed names place name within is =
    let more = ap (lines_in prefix hashed) (take_there names place name within is) in
    let parts = lines_in-append prefix hashed (take place names) (name ∷ []) in
    let line = ap (λ last. lines_in prefix hashed (take place names) ++ last)
    (append-nil (line_of (block_of prefix hashed name))) in
    sym (more ∙ parts ∙ line)

-- one name is one block or none
count_read : (block_of : List ℕ → Option ℕ) (name : List ℕ) (read : Option ℕ) → block_of name ≡ read
    → length (filter_map block_of (name ∷ [])) ≡ lines_of read
count_read block_of name None is = rw is refl
count_read block_of name (Some block) is = rw is refl

-- how many lines, up to a place and there
pub count_more : (prefix : List ℕ) (hashed : Bool) (names : List (List ℕ)) (place : ℕ) (name : List ℕ)
    → place < length names → name ≡ get_or names place name
    → length (blocks_in prefix hashed (take place names)) + lines_of (block_of prefix hashed name)
    ≡ length (blocks_in prefix hashed (take (place + 1) names))
count_more prefix hashed names place name within is =
    let more = ap (λ (some : List (List ℕ)). length (blocks_in prefix hashed some))
    (take_there names place name within is) in
    let parts = ap length (blocks_in-append prefix hashed (take place names) (name ∷ [])) in
    let sizes = length-append (blocks_in prefix hashed (take place names)) (blocks_in prefix hashed (name ∷ [])) in
    let one = ap (λ (n : ℕ). length (blocks_in prefix hashed (take place names)) + n)
    (count_read (block_of prefix hashed) name (block_of prefix hashed name) refl) in
    sym (more ∙ parts ∙ sizes ∙ one)

-- a front of one part is a front of all
pub front_within : {before between now : Option (List ℕ)} (early part late whole : List ℕ) → whole ≡ early ++ (part ++ late)
    → Holds before between early → HoldsFront between now part → HoldsFront before now whole
front_within early part late whole is wrote cut = record {
  front = early ++ cut.front;
  behind = cut.behind ++ late;
  cut = is ∙ ap (λ part. early ++ (part ++ late)) cut.cut ∙ ap (λ rest. early ++ rest) (append_assoc cut.front cut.behind late)
      ∙ sym (append_assoc early cut.front (cut.behind ++ late));
  wrote = holds_join wrote cut.wrote;
}
