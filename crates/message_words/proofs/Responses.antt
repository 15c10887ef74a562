-- What is read is spelled so, and what is spelled is read.
use Rattle.std.proofs.Common.{◌≡◌, ℕ, ℤ, eqb, List, [], ◌++◌, length, Result, Ok, Err, refl, sym, ap, subst, ◌∙◌}
use Rattle.std.specs.Prelude.{IfOk}
use Rattle.std.proofs.lemmas.Bool.{eqb-true}
use Rattle.std.proofs.lemmas.List.{append-nil, nil_from_length}
use Rattle.wire_types.specs.declared.fault.Malformed.TheVariants.{Rest}
use Rattle.wire_types.specs.declared.fault.ReadFault.{ReadFault}
use Rattle.wire_types.specs.Reading.{◌>>=◌}
use Rattle.wire_types.specs.NumberLaws.{bind_ok, pass_ok, ok_is}
use Rattle.msg_admin.specs.declared.api.Api.{Api}
use Rattle.msg_admin.specs.declared.reply.Reply.{Reply}
use Rattle.msg_admin.specs.Header.{response_header}
use Rattle.msg_admin.specs.Bodies.{reply_body}
use Rattle.msg_admin.specs.Request.{whole_body, Answers}
use Rattle.msg_admin.specs.Response.{IsResponse}
use Rattle.message_words.specs.Reading.{response_at}

alone_ok : {A : Type 0} (x : A × List ℕ) (y : A) → whole_body x ≡ Ok y → (x.1 ≡ []) × (x.0 ≡ y)
alone_ok x y e = let p = pass_ok (eqb (length x.1) 0) Rest x.0 y e in (nil_from_length x.1 (eqb-true _ _ p.0), p.1)

-- two texts after one another, the last of which ends the bytes
joined : (bytes a b after rest : List ℕ) → bytes ≡ a ++ after → after ≡ b ++ rest → rest ≡ [] → bytes ≡ a ++ b
joined bytes a b after rest p q none =
    p ∙ ap (λ (t : List ℕ). a ++ t) (q ∙ ap (λ (t : List ℕ). b ++ t) none ∙ append-nil b)

response_found : (api : Api) (bytes : List ℕ) (x : ℤ × Reply) → response_at api bytes ≡ Ok x → IsResponse api bytes x.0 x.1
unfolding response_at
response_found api bytes x e =
    let c = bind_ok ((response_header api).reading bytes) (λ s. (reply_body api).reading s.1 >>= λ y. whole_body y >>= λ r. Ok (s.0, r)) x e in
    let d = bind_ok ((reply_body api).reading c.0.1) (λ y. whole_body y >>= λ r. Ok (c.0.0, r)) x c.2 in
    let f = bind_ok (whole_body d.0) (λ r. Ok (c.0.0, r)) x d.2 in
    let w = alone_ok d.0 f.0 f.1 in
    let q = (response_header api).sound bytes c.0.0 c.0.1 c.1 in
    let s = (reply_body api).sound c.0.1 d.0.0 d.0.1 d.1 in
    let made : ℤ × Reply = (c.0.0, f.0) in
    subst (λ (y : ℤ × Reply). IsResponse api bytes y.0 y.1) (ok_is made x f.2)
    (q.0, s.0, joined bytes q.0 s.0 c.0.1 d.0.1 q.1 s.1 w.0, q.2, subst ((reply_body api).Spells s.0) w.1 s.2)

pub response_again : (api : Api) (bytes : List ℕ) (correlation : ℤ) (r : Reply) → IsResponse api bytes correlation r → response_at api bytes ≡ Ok (correlation, r)
unfolding response_at
response_again api bytes correlation r i =
    let first : (response_header api).reading (i.0 ++ i.1) ≡ Ok (correlation, i.1) = (response_header api).complete i.0 i.1 correlation i.3 in
    let second : (reply_body api).reading i.1 ≡ Ok (r, []) = ap (reply_body api).reading (sym (append-nil i.1)) ∙ (reply_body api).complete i.1 [] r i.4 in
    ap (response_at api) i.2 ∙ rw (first, second) refl

pub found : (api : Api) (bytes : List ℕ) (r : Result (ℤ × Reply) ReadFault) → Answers (response_at api bytes) r → IfOk r (λ x. IsResponse api bytes x.0 x.1)
found api bytes (Ok x) given = response_found api bytes x given
found api bytes (Err e) given = tt
