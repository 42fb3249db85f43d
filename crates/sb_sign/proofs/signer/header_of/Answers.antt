use Rattle.std.proofs.Common.{◌≡◌, ◌∙◌, List, ℕ, ap, refl, sym}
use Rattle.std.specs.String.{string_bytes}
use Rattle.hex.specs.Hex.{encode_lower}
use Rattle.sb_sign.specs.declared.request.Pair.{Pair}
use Rattle.sb_sign.specs.Hmac.{hmac_of}
use Rattle.sb_sign.specs.Requests.{canonical_request_of, names_of, signed_headers_of}
use Rattle.sb_sign.specs.SignatureTexts.{scope_of, text_to_sign_of}
use Rattle.sb_sign.specs.Signatures.{authorization_under, signing_key_of}
use Rattle.sb_sign.proofs.signer.header_of.Goals as goal

pub returns : goal.returns
unfolding authorization_under
returns c credentials id region keyed =
    let date = c.args.date.now in
    let request = c.args.request.now in
    let headers = signed_headers_of request.signed.items request.payload date in
    let scope : c.in_ok-scope.scope.items ≡ scope_of credentials.region date =
    c.in_ok-scope.ensures ∙ ap (λ (r : List ℕ). scope_of r date) (sym region) in
    let names : c.in_ok-names.names.items ≡ names_of headers =
    c.in_ok-names.ensures ∙ ap (λ (h : List Pair). names_of h) (c.deref.ensures.value ∙ c.in_ok-headers.ensures) in
    let canonical : c.in_ok-canonical.canonical.items ≡ canonical_request_of request headers =
    c.in_ok-canonical.ensures
    ∙ ap (λ (h : List Pair). canonical_request_of request h) (c.deref-2.ensures.value ∙ c.in_ok-headers.ensures) in
    let signed : c.in_ok-signed.signed.items
    ≡ text_to_sign_of date (scope_of credentials.region date) (canonical_request_of request headers) =
    c.in_ok-signed.ensures ∙ rw (c.deref-4.ensures.value, c.deref-5.ensures.value, scope, canonical) refl in
    let signature : string_bytes c.in_ok-signature.signature
    ≡ encode_lower (hmac_of (signing_key_of credentials date)
    (text_to_sign_of date (scope_of credentials.region date) (canonical_request_of request headers))) =
    c.in_ok-signature.ensures ∙ rw (
      c.hmac.ensures _ keyed,
      c.deref-6.ensures.value,
      signed,
    ) refl in
    c.in_ok-text.ensures
    ∙ rw (
      sym id,
      c.deref-7.ensures.value,
      scope,
      c.deref-8.ensures.value,
      names,
      c.as_bytes.ensures.value,
      signature,
    )
    refl
