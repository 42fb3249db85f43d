use Rattle.std.proofs.Common.{arith, refl}
use Rattle.std.specs.Ordering.{is_le, nat_cmp}
use Rattle.std.specs.Cmp.Lexicographic.{slice_cmp}
use Rattle.std.proofs.lemmas.List.Sums.{prefix_len-le-length}
use Rattle.sb_sign.specs.declared.request.Pair.{Pair}
use Rattle.sb_sign.specs.Requests.{with_header}
use Rattle.sb_sign.proofs.headers.add_header.Goals as goal

pub insert-requires : goal.insert-requires
insert-requires c =
    let within = prefix_len-le-length (λ (other : Pair). is_le
    (slice_cmp nat_cmp other.name c.args.name.now)) c.deref.result.now in
    omega (arith, within, c.place_of.ensures, c.deref.ensures.len)

pub returns : goal.returns
unfolding with_header
returns c =
    rw (
      c.in_ok-insert.ensures.items,
      c.place_of.ensures,
      c.deref.ensures.value,
      c.in_ok-of.ensures,
      c.in_ok-of-2.ensures,
    ) refl
