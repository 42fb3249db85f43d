-- How takings and writings join.
use Rattle.std.proofs.Common.{ℕ, ◌∙◌, List, [], ◌++◌, Option, Some, Result, Ok, Err, append_assoc, append-nil, ap, sym}
use Rattle.sb_world.specs.Streams.{Takes, Holds, WriteHolds}

pub takes_nothing : (now : Option (List ℕ)) → Takes now now []
takes_nothing now = record { told = λ rest e. e }

pub takes_both : {a b c : Option (List ℕ)} {xs ys : List ℕ} → Takes a b xs → Takes b c ys → Takes a c (xs ++ ys)
takes_both {xs} {ys} first second = record {
  told =
      λ rest e. first.told (ys ++ rest) (second.told rest e) ∙ ap Some (sym (append_assoc xs ys rest));
}

pub holds_nothing : (now : Option (List ℕ)) → Holds now now []
holds_nothing now = record { told = λ list e. (list, e, sym (append-nil list)) }

pub holds_both : {a b c : Option (List ℕ)} {xs ys : List ℕ} → Holds a b xs → Holds b c ys → Holds a c (xs ++ ys)
holds_both {xs} {ys} first second = record {
  told = λ list e.
      let late = second.told list e in
      let early = first.told late.0 late.1 in
      (early.0, early.1, late.2 ∙ ap (λ zs. zs ++ ys) early.2 ∙ append_assoc early.0 xs ys);
}

-- a write of everything, and another write
pub write_both : {E : Type 0} (a b c : Option (List ℕ)) (result : Result Unit E) (xs ys : List ℕ)
    → Holds a b xs → WriteHolds b c result ys → WriteHolds a c result (xs ++ ys)
write_both a b c (Ok done) xs ys first second = holds_both first second
write_both a b c (Err fault) xs ys first second = (
  xs ++ second.0,
  second.1,
  ap (λ zs. xs ++ zs) second.2
      ∙ sym (append_assoc xs second.0 second.1),
  holds_both first second.3,
)

-- a write that failed, of more
pub write_failed : {E : Type 0} (a b : Option (List ℕ)) (fault : E) (xs ys : List ℕ)
    → WriteHolds a b (Err fault) xs → WriteHolds a b (Err fault) (xs ++ ys)
write_failed a b fault xs ys first = (
  first.0,
  first.1 ++ ys,
  ap (λ zs. zs ++ ys) first.2
      ∙ append_assoc first.0 first.1 ys,
  first.3,
)
