use Rattle.std.proofs.Common.{◌≡◌, ◌∙◌, drop, take, length, ℕ, ◌+◌, ◌-◌, Bool, true, false, List, [], ◌∷◌, ◌++◌, codes, refl, arith, ap, sym, subst, append-nil}
use Rattle.std.proofs.lemmas.List.{length-drop}
use Rattle.sb_s3link.specs.Entities.{begins}
use Rattle.sb_s3link.specs.Items.{key, AreItems, Stands, item_of, mark_at, mark_in, marks_of, names_of}
use Rattle.sb_s3link.specs.Listings.{Keeps}
use Rattle.sb_s3link.specs.Names.{HasNoName, IsName}
use Rattle.sb_s3link.proofs.ItemsRead.{items_more, marks_more, names_more, no_name_in, stands_else}
use Rattle.sb_s3link.proofs.Slices.{further, rest_of}
use Rattle.sb_s3link.proofs.listing.read_listing.Goals as goal

-- behind a tag, in the rest of a text
behind_tag : (text : List ℕ) (at : ℕ)
    → take (length (take (length text - at) (drop at text)) - 5) (drop 5 (take (length text - at) (drop at text)))
    ≡ drop 5 (drop at text)
behind_tag text at =
    ap (λ (xs : List ℕ). take (length xs - 5) (drop 5 xs)) (rest_of text at) ∙ rest_of (drop at text) 5

key_begins : (text : List ℕ) (at : ℕ) (test answer : Bool)
    → test ≡ begins (take (length text - at) (drop at text)) (codes "<Key>") → test ≡ answer
    → begins (drop at text) (codes "<Key>") ≡ answer
key_begins text at test answer e is = ap (λ xs. begins xs (codes "<Key>")) (sym (rest_of text at)) ∙ sym e ∙ is

pub items-preserved-in-Ok-Some : goal.items-preserved-in-Ok-Some
items-preserved-in-Ok-Some c =
    let body = c.args.body.now in
    let at = c.items.at in
    let size = c.in-Ok-Some.length in
    let before = c.items.invariant in
    let begun = key_begins body at c.begins_name.result true c.begins_name.ensures.is c.if-begins_name.true in
    let told = rw c.in-Ok-Some.field-0-is at c.in-Ok-Some.ensures in
    let is : IsName (drop 5 (drop at body)) told.0 (drop size (drop 5 (drop at body))) =
    subst (λ xs. IsName xs told.0 (drop size xs)) (behind_tag body at) told.1 in
    let stands : Stands (drop at body) (key told.0) (drop size (drop 5 (drop at body))) = (begun, is) in
    let place : drop size (drop 5 (drop at body)) ≡ drop (at + (5 + size)) body =
    further (drop at body) 5 size ∙ further body at (5 + size) in (
      before.0 ++ key told.0 ∷ [],
      subst (λ xs. AreItems body (before.0 ++ key told.0 ∷ []) xs) place
          (items_more body before.0 (drop at body) (key told.0) _ before.1 stands),
      omega (
        arith,
        told.2,
        ap (λ (xs : List ℕ). length xs) (behind_tag body at),
        length-drop at body,
        length-drop 5 (drop at body),
        c.if-begins_name.ensures.bound refl,
        ap (λ (xs : List ℕ). length xs) (rest_of body at),
        before.2,
      ),
      subst (Keeps c.items.marks) (sym (marks_more before.0 (key told.0) ∙ append-nil (marks_of before.0))) before.3,
      told.3 ∙ ap (λ xs. xs ++ told.0 ∷ []) before.4 ∙ sym (names_more before.0 (key told.0)),
    )

pub returns-in-Ok-None : goal.returns-in-Ok-None
returns-in-Ok-None c =
    let body = c.args.body.now in
    let at = c.items.at in
    let before = c.items.invariant in
    let told = rw c.in-Ok-None.field-0-is at c.in-Ok-None.ensures in (
      before.0,
      record {
        rest = drop at body;
        read = before.1;
        place = omega (arith, length-drop at body, before.2);
        begun = key_begins body at c.begins_name.result true c.begins_name.ensures.is c.if-begins_name.true;
        none = subst (λ xs. HasNoName xs) (behind_tag body at) told.0;
      },
      told.1 ∙ before.4,
    )

pub items-preserved : goal.items-preserved
items-preserved c =
    let body = c.args.body.now in
    let at = c.items.at in
    let before = c.items.invariant in
    let rest = drop at body in
    let item = item_of (mark_at rest) in
    let begun = key_begins body at c.begins_name.result false c.begins_name.ensures.is c.if-begins_name.false in
    let stands = stands_else rest begun (omega (arith, length-drop at body, c.items-test.true)) in (
      before.0 ++ item ∷ [],
      subst (λ xs. AreItems body (before.0 ++ item ∷ []) xs) (further body at 1)
          (items_more body before.0 rest item (drop 1 rest) before.1 stands),
      omega (arith, c.items-test.true),
      subst (Keeps c.behind-marks.result) (sym (marks_more before.0 item))
          (subst (λ xs. Keeps c.behind-marks.result (marks_of before.0 ++ mark_in (item_of (mark_at xs)))) (rest_of body at)
          (c.behind-marks.ensures (marks_of before.0) before.3)),
      before.4 ∙ sym (names_more before.0 item ∙ ap (λ xs. names_of before.0 ++ xs) (no_name_in (mark_at rest))
          ∙ append-nil (names_of before.0)),
    )

pub returns-in-Err : goal.returns-in-Err
returns-in-Err c =
    let body = c.args.body.now in
    let at = c.items.at in
    let before = c.items.invariant in (
      before.0,
      drop at body,
      before.1,
      key_begins body at c.begins_name.result true c.begins_name.ensures.is c.if-begins_name.true,
      c.in-Err.ensures ∙ before.4,
    )
