-- No message's bytes begin another's.
use Rattle.std.proofs.Common.{ℕ, ◌≡◌, ◌<◌, ◌^◌, ◌∙◌, List, ◌++◌, length, take, drop, ap, sym, append_assoc, refl}
use Rattle.std.specs.Int.{w16, w32, w64, to_be_bytes, from_be_bytes}
use Rattle.std.proofs.lemmas.List.{take_at, drop_at, append_cancel_left}
use Rattle.std.proofs.lemmas.Nat.{from_be_bytes-to_be_bytes_2, from_be_bytes-to_be_bytes_4, from_be_bytes-to_be_bytes_8}
use Rattle.sb_nbd.specs.declared.wanted.Wanted.{Wanted}
use Rattle.sb_nbd.specs.declared.option.Asked.{Asked}
use Rattle.sb_nbd.specs.Requests.{magic_bytes, fields_bytes, payload_length, Request, IsRequest, FitsFields}
use Rattle.sb_nbd.specs.Requests.{request_bytes}
use Rattle.sb_nbd.specs.Options as options

-- two lists with fronts of one length
pub split_same : (p q x y : List ℕ) → length p ≡ length q → p ++ x ≡ q ++ y → (p ≡ q) × (x ≡ y)
split_same p q x y len e = (
  sym (take_at p x (length p) refl) ∙ ap (take (length p)) e ∙ take_at q y (length p) (sym len),
  sym (drop_at p x (length p) refl) ∙ ap (drop (length p)) e ∙ drop_at q y (length p) (sym len),
)

pub same_2 : (m n : ℕ) → m < 2 ^ 16 → n < 2 ^ 16 → to_be_bytes w16 m ≡ to_be_bytes w16 n → m ≡ n
same_2 m n fm fn e = sym (from_be_bytes-to_be_bytes_2 m fm) ∙ ap (from_be_bytes w16) e
    ∙ from_be_bytes-to_be_bytes_2 n fn

pub same_4 : (m n : ℕ) → m < 2 ^ 32 → n < 2 ^ 32 → to_be_bytes w32 m ≡ to_be_bytes w32 n → m ≡ n
same_4 m n fm fn e = sym (from_be_bytes-to_be_bytes_4 m fm) ∙ ap (from_be_bytes w32) e
    ∙ from_be_bytes-to_be_bytes_4 n fn

same_8 : (m n : ℕ) → m < 2 ^ 64 → n < 2 ^ 64 → to_be_bytes w64 m ≡ to_be_bytes w64 n → m ≡ n
same_8 m n fm fn e = sym (from_be_bytes-to_be_bytes_8 m fm) ∙ ap (from_be_bytes w64) e
    ∙ from_be_bytes-to_be_bytes_8 n fn

same_wanted : (v w : Wanted) → v.flags ≡ w.flags → v.kind ≡ w.kind → v.cookie ≡ w.cookie
    → v.offset ≡ w.offset → v.length ≡ w.length → v ≡ w
same_wanted v w f k c o l =
    ap (λ x. record { flags = x; kind = v.kind; cookie = v.cookie; offset = v.offset; length = v.length }) f
    ∙ ap (λ x. record { flags = w.flags; kind = x; cookie = v.cookie; offset = v.offset; length = v.length }) k
    ∙ ap (λ x. record { flags = w.flags; kind = w.kind; cookie = x; offset = v.offset; length = v.length }) c
    ∙ ap (λ x. record { flags = w.flags; kind = w.kind; cookie = w.cookie; offset = x; length = v.length }) o
    ∙ ap (λ x. record { flags = w.flags; kind = w.kind; cookie = w.cookie; offset = w.offset; length = x }) l

-- fields that have the same bytes
pub same_fields : (v w : Wanted) → FitsFields v → FitsFields w → fields_bytes v ≡ fields_bytes w → v ≡ w
unfolding fields_bytes
same_fields v w fv fw e =
    let flags = split_same (to_be_bytes w16 v.flags) (to_be_bytes w16 w.flags) _ _ refl e in
    let kind = split_same (to_be_bytes w16 v.kind) (to_be_bytes w16 w.kind) _ _ refl flags.1 in
    let cookie = split_same (to_be_bytes w64 v.cookie) (to_be_bytes w64 w.cookie) _ _ refl kind.1 in
    let offset = split_same (to_be_bytes w64 v.offset) (to_be_bytes w64 w.offset) _ _ refl cookie.1 in
    same_wanted v w (same_2 v.flags w.flags fv.flags fw.flags flags.0) (same_2 v.kind w.kind fv.kind fw.kind kind.0)
    (same_8 v.cookie w.cookie fv.cookie fw.cookie cookie.0)
    (same_8 v.offset w.offset fv.offset fw.offset offset.0)
    (same_4 v.length w.length fv.length fw.length offset.1)

-- fields take as many bytes as other fields
pub length-fields_same : (v w : Wanted) → length (fields_bytes v) ≡ length (fields_bytes w)
unfolding fields_bytes
length-fields_same v w = refl

-- a request's bytes and others, grouped from the left
pub regrouped : (r : Request) (x : List ℕ)
    → request_bytes r ++ x ≡ magic_bytes ++ (fields_bytes r.wanted ++ (r.payload ++ x))
regrouped r x = append_assoc magic_bytes (fields_bytes r.wanted ++ r.payload) x
    ∙ ap (λ bytes. magic_bytes ++ bytes) (append_assoc (fields_bytes r.wanted) r.payload x)

-- a request stands where these fields do
pub same_wanted_first : (r : Request) (w : Wanted) (x y : List ℕ) → FitsFields w → IsRequest r
    → request_bytes r ++ x ≡ magic_bytes ++ (fields_bytes w ++ y) → (r.wanted ≡ w) × (r.payload ++ x ≡ y)
same_wanted_first r w x y fits is e =
    let behind = append_cancel_left magic_bytes _ _ (sym (regrouped r x) ∙ e) in
    let fields = split_same (fields_bytes r.wanted) (fields_bytes w) (r.payload ++ x) y
    (length-fields_same r.wanted w) behind in
    (same_fields r.wanted w is.fits fits fields.0, fields.1)

pub one_request : (r s : Request) (x y : List ℕ) → IsRequest r → IsRequest s
    → request_bytes r ++ x ≡ request_bytes s ++ y → (r ≡ s) × (x ≡ y)
one_request r s x y is_r is_s e =
    let first = same_wanted_first r s.wanted x (s.payload ++ y) is_s.fits is_r (e ∙ regrouped s y) in
    let payload = split_same r.payload s.payload x y
    (is_r.payload ∙ ap payload_length first.0 ∙ sym is_s.payload) first.1 in (
      ap (λ w. record { wanted = w; payload = r.payload }) first.0
          ∙ ap (λ p. record { wanted = s.wanted; payload = p }) payload.0,
      payload.1,
    )

same_asked : (a b : Asked) → a.option ≡ b.option → a.length ≡ b.length → a ≡ b
same_asked a b o l = ap (λ x. record { option = x; length = a.length }) o
    ∙ ap (λ x. record { option = b.option; length = x }) l

-- heads that have the same bytes
same_head : (a b : Asked) → options.FitsHead a → options.FitsHead b
    → options.head_bytes a ≡ options.head_bytes b → a ≡ b
unfolding options.head_bytes
same_head a b fa fb e =
    let halves = split_same (to_be_bytes w32 a.option) (to_be_bytes w32 b.option) _ _ refl e in
    same_asked a b (same_4 a.option b.option fa.option fb.option halves.0)
    (same_4 a.length b.length fa.length fb.length halves.1)

length-head_same : (a b : Asked) → length (options.head_bytes a) ≡ length (options.head_bytes b)
unfolding options.head_bytes
length-head_same a b = refl

-- an option's bytes and others, grouped from the left
pub regrouped_option : (o : options.Option) (z : List ℕ)
    → options.option_bytes o ++ z ≡ options.option_magic_bytes ++ (options.head_bytes o.asked ++ (o.payload ++ z))
regrouped_option o z = append_assoc options.option_magic_bytes (options.head_bytes o.asked ++ o.payload) z
    ∙ ap (λ bytes. options.option_magic_bytes ++ bytes) (append_assoc (options.head_bytes o.asked) o.payload z)

-- an option stands where this head does
pub same_asked_first : (o : options.Option) (a : Asked) (x y : List ℕ) → options.FitsHead a → options.IsOption o
    → options.option_bytes o ++ x ≡ options.option_magic_bytes ++ (options.head_bytes a ++ y)
    → (o.asked ≡ a) × (o.payload ++ x ≡ y)
same_asked_first o a x y fits is e =
    let behind = append_cancel_left options.option_magic_bytes _ _ (sym (regrouped_option o x) ∙ e) in
    let heads = split_same (options.head_bytes o.asked) (options.head_bytes a) (o.payload ++ x) y
    (length-head_same o.asked a) behind in
    (same_head o.asked a is.fits fits heads.0, heads.1)

pub one_option : (p q : options.Option) (x y : List ℕ) → options.IsOption p → options.IsOption q
    → options.option_bytes p ++ x ≡ options.option_bytes q ++ y → (p ≡ q) × (x ≡ y)
one_option p q x y is_p is_q e =
    let first = same_asked_first p q.asked x (q.payload ++ y) is_q.fits is_p (e ∙ regrouped_option q y) in
    let payload = split_same p.payload q.payload x y
    (is_p.payload ∙ ap (λ (a : Asked). a.length) first.0 ∙ sym is_q.payload) first.1 in (
      ap (λ a. record { asked = a; payload = p.payload }) first.0
          ∙ ap (λ p. record { asked = q.asked; payload = p }) payload.0,
      payload.1,
    )
