-- What was sent and received on a new connection.
use Rattle.std.proofs.Common.{ℕ, ◌≡◌, ◌∙◌, Bool, true, false, cond, List, [], ◌∷◌, ◌++◌, Option, Result, Ok, Err, ap}
use Rattle.std.proofs.Common.{sym, subst, refl, inr, append-nil, append_assoc}
use Rattle.sb_world.specs.Told.{Gains}
use Rattle.sb_world.specs.declared.wire.Connection.{Connection}
use Rattle.sb_world.specs.Wires.{Grows, Sends, grown}
use Rattle.sb_http.specs.declared.fault.HttpFault.{HttpFault}
use Rattle.sb_http.specs.declared.response.Response.{Response}
use Rattle.sb_http.specs.Responses.{Exchanges, ReadsResponse, SendsRequest, connection}

-- a connection that was begun has grown
grown_new : (a b c : Option (List Connection)) (sent received more came : List ℕ) (early late : Bool)
    → Gains a b (connection sent received early ∷ []) → Grows b c more came late
    → Gains a c (connection (sent ++ more) (received ++ came) (cond late true early) ∷ [])
grown_new a b c sent received more came early late gains grows = record {
  told = λ list e.
      let now = grows.told list e in
      let before = gains.told now.0 now.1 in
      (before.0, before.1, now.2 ∙ ap (λ old. grown more came late old) before.2);
}

-- the head of a request was sent, or the fault came
pub head_unsent : {E : Type 0} (a b c : Option (List Connection)) (head body : List ℕ) (fault : E)
    → Gains a b (connection [] [] false ∷ []) → Sends b c (Err fault) head → SendsRequest a c (head ++ body) (Err fault)
head_unsent a b c head body fault begun sends =
    inr (
      sends.0,
      sends.1 ++ body,
      ap (λ xs. xs ++ body) sends.2 ∙ append_assoc sends.0 sends.1 body,
      grown_new a b c [] [] sends.0 [] false false begun sends.3,
    )

-- the head of a request was sent, and then the body, or the fault came
pub head_sent : {E : Type 0} (a b c d : Option (List Connection)) (head body : List ℕ) (result : Result Unit E)
    (done : Unit)
    → Gains a b (connection [] [] false ∷ []) → Sends {E = E} b c (Ok done) head → Sends c d result body
    → SendsRequest a d (head ++ body) result
head_sent a b c d head body (Ok end) done begun sends more =
    grown_new a c d head [] body [] false false (grown_new a b c [] [] head [] false false begun sends) more
head_sent a b c d head body (Err fault) done begun sends more =
    inr (
      head ++ more.0,
      more.1,
      ap (λ xs. head ++ xs) more.2 ∙ sym (append_assoc head more.0 more.1),
      grown_new a c d head [] more.0 [] false false (grown_new a b c [] [] head [] false false begun sends) more.3,
    )

end_told : (ended : Bool) → cond ended true false ≡ ended
end_told true = refl
end_told false = refl

-- the request was sent, and a response read
pub answered : (bodiless : Bool) (limit : ℕ) (a b c : Option (List Connection)) (request waiting old new : List ℕ)
    (result : Result Response HttpFault)
    → Gains a b (connection request [] false ∷ []) → waiting ≡ []
    → ReadsResponse bodiless limit b c waiting old new result → Exchanges bodiless limit a c request old new result
answered bodiless limit a b c request waiting old new result sent none told =
    let both = grown_new a b c request [] [] told.takes.received false told.ended sent told.takes.grows in
    inr (record {
      received = told.takes.received;
      ended = told.ended;
      connected = subst (λ xs. Gains a c (connection xs told.takes.received told.ended ∷ [])) (append-nil request)
          (subst (λ e. Gains a c (connection (request ++ []) told.takes.received e ∷ [])) (end_told told.ended) both);
      taken = told.taken;
      content = told.content;
      left = told.left;
      parts = ap (λ xs. xs ++ told.takes.received) (sym none) ∙ told.takes.joined;
      room = told.room;
      answer = told.answer;
    })
