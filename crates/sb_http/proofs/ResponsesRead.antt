-- How heads and a body join to a response.
use Rattle.std.proofs.Common.{ℕ, ◌≡◌, ◌∙◌, Bool, false, List, [], Option, Result, Ok, Err, ap, sym, subst, refl, inl}
use Rattle.std.proofs.Common.{inr, append-nil}
use Rattle.sb_sign.specs.declared.request.Pair.{Pair}
use Rattle.sb_world.specs.declared.wire.Connection.{Connection}
use Rattle.sb_http.specs.declared.framing.Framing.{Framing}
use Rattle.sb_http.specs.declared.fault.HttpFault.{HttpFault}
use Rattle.sb_http.specs.declared.head.Head.{Head}
use Rattle.sb_http.specs.Bodies.{IsBody, ReadsBody}
use Rattle.sb_http.specs.Fields.{IsFraming}
use Rattle.sb_http.specs.Heads.{ReadsHead}
use Rattle.sb_http.specs.Responses.{HasBody, ReadsResponse, bound_of}
use Rattle.sb_http.proofs.TakingsJoined.{takes_both}

-- the reading ended in the heads
pub head_fault : (bodiless : Bool) (limit : ℕ) (a b : Option (List Connection)) (p q room : List ℕ) (fault : HttpFault)
    → ReadsHead a b p q (Err fault) → ReadsResponse bodiless limit a b p room room (Err fault)
head_fault bodiless limit a b p q room fault told = record {
  taken = _;
  content = [];
  left = told.3;
  ended = told.4;
  takes = told.6;
  room = sym (append-nil room);
  answer = inl (record { passed = told.0; front = told.2; interim = told.1; ends = told.5; bytes = refl; none = refl });
}

-- the framing of the head that was kept is that of the head that was read
pub framing_of_head : (bodiless : Bool) (status other : ℕ) (headers pairs : List Pair)
    (result : Result Framing HttpFault)
    → status ≡ other → headers ≡ pairs → IsFraming bodiless status headers result
    → IsFraming bodiless other pairs result
framing_of_head bodiless status other headers pairs result same_status same_headers framed =
    subst (λ n. IsFraming bodiless n pairs result) same_status
    (subst (λ hs. IsFraming bodiless status hs result) same_headers framed)

-- the head declares a length that is refused
pub length_fault : (bodiless : Bool) (limit : ℕ) (a b : Option (List Connection)) (p q room : List ℕ) (head : Head)
    (headers : List Pair) (fault : HttpFault)
    → ReadsHead a b p q (Ok head) → headers ≡ head.headers.items → IsFraming bodiless head.status headers (Err fault)
    → ReadsResponse bodiless limit a b p room room (Err fault)
length_fault bodiless limit a b p q room head headers fault told same framed = record {
  taken = _;
  content = [];
  left = q;
  ended = false;
  takes = told.7;
  room = sym (append-nil room);
  answer = inr (inl (record {
    passed = told.0;
    h = told.3;
    heads = record { interim = told.1; few = told.2; head = told.4; final = told.5 };
    framed = framing_of_head bodiless _ _ _ _ (Err fault) told.6.0 (same ∙ told.6.1) framed;
    bytes = refl;
    none = refl;
    early = refl;
  }));
}

-- a body behind the head that was kept is one behind the head that was read
body_of : (bodiless : Bool) (limit : ℕ) (a b c : Option (List Connection)) (p q old new : List ℕ) (head : Head)
    (headers : List Pair) (bound : ℕ) (framing : Framing) (result : Result ℕ HttpFault)
    → (told : ReadsHead a b p q (Ok head)) → headers ≡ head.headers.items → bound ≡ bound_of head.status limit
    → IsFraming bodiless head.status headers (Ok framing) → (read : ReadsBody framing bound b c q old new result)
    → HasBody bodiless limit told.3 read.taken read.content read.left read.ended result
body_of bodiless limit a b c p q old new head headers bound framing result told same within framed read = record {
  framing = framing;
  framed = framing_of_head bodiless _ _ _ _ (Ok framing) told.6.0 (same ∙ told.6.1) framed;
  body = subst (λ n. IsBody framing n read.taken read.content read.left read.ended result)
      (within ∙ ap (λ n. bound_of n limit) told.6.0) read.body;
}

-- the reading ended in the body
pub body_fault : (bodiless : Bool) (limit : ℕ) (a b c : Option (List Connection)) (p q old new : List ℕ)
    (head : Head) (headers : List Pair) (bound : ℕ) (framing : Framing) (fault : HttpFault)
    → ReadsHead a b p q (Ok head) → headers ≡ head.headers.items → bound ≡ bound_of head.status limit
    → IsFraming bodiless head.status headers (Ok framing) → ReadsBody framing bound b c q old new (Err fault)
    → ReadsResponse bodiless limit a c p old new (Err fault)
body_fault bodiless limit a b c p q old new head headers bound framing fault told same within framed read = record {
  taken = _;
  content = read.content;
  left = read.left;
  ended = read.ended;
  takes = takes_both told.7 read.takes;
  room = read.room;
  answer = inr (inr (record {
    passed = told.0;
    h = told.3;
    bytes_of_body = read.taken;
    heads = record { interim = told.1; few = told.2; head = told.4; final = told.5 };
    body = body_of bodiless limit a b c p q old new head headers bound framing (Err fault) told same within framed read;
    bytes = refl;
  }));
}

-- a whole response
pub body_read : (bodiless : Bool) (limit : ℕ) (a b c : Option (List Connection)) (p q old new : List ℕ) (head : Head)
    (headers : List Pair) (bound : ℕ) (framing : Framing) (count : ℕ)
    → ReadsHead a b p q (Ok head) → headers ≡ head.headers.items → bound ≡ bound_of head.status limit
    → IsFraming bodiless head.status headers (Ok framing) → ReadsBody framing bound b c q old new (Ok count)
    → ReadsResponse bodiless limit a c p old new (Ok (record {
      status = head.status;
      headers = head.headers;
      length = count;
    }))
body_read bodiless limit a b c p q old new head headers bound framing count told same within framed read = record {
  taken = _;
  content = read.content;
  left = read.left;
  ended = read.ended;
  takes = takes_both told.7 read.takes;
  room = read.room;
  answer = record {
    passed = told.0;
    h = told.3;
    bytes_of_body = read.taken;
    heads = record { interim = told.1; few = told.2; head = told.4; final = told.5 };
    status = told.6.0;
    fields = told.6.1;
    body = body_of bodiless limit a b c p q old new head headers bound framing (Ok count) told same within framed read;
    bytes = refl;
  };
}
