-- What is read is spelled so, and what is spelled is read.
use Rattle.std.proofs.Common.{◌≡◌, ℕ, eqb, List, [], ◌++◌, length, Option, Some, None, Result, Ok, Err, refl, sym, ap, subst, ◌∙◌, append_assoc}
use Rattle.std.specs.Prelude.{IfOk}
use Rattle.std.proofs.lemmas.Bool.{eqb-true}
use Rattle.std.proofs.lemmas.List.{append-nil, nil_from_length}
use Rattle.wire_types.specs.declared.fault.Malformed.TheVariants.{Rest}
use Rattle.wire_types.specs.declared.fault.ReadFault.{ReadFault}
use Rattle.wire_types.specs.Reading.{◌>>=◌}
use Rattle.wire_types.specs.NumberLaws.{bind_ok, pass_ok, ok_is}
use Rattle.msg_admin.specs.declared.api.Api.{Api}
use Rattle.msg_admin.specs.declared.header.Header.{Header}
use Rattle.msg_admin.specs.declared.request.Request.{Request}
use Rattle.msg_admin.specs.Api.{api_at, is_flexible}
use Rattle.msg_admin.specs.Header.{with_header_tags, names, sender, header_of}
use Rattle.msg_admin.specs.Bodies.{request_body}
use Rattle.msg_admin.specs.Request.{IsRequest, served_api, whole_body, request_at, Answers}
use Rattle.msg_admin.proofs.Headers.{parted, joined_parts}

served_ok : (o : Option Api) (api : Api) → served_api o ≡ Ok api → o ≡ Some api
served_ok None api e = absurd cc
served_ok (Some x) api e = ap Some (ok_is x api e)

alone_ok : {A : Type 0} (x : A × List ℕ) (y : A) → whole_body x ≡ Ok y → (x.1 ≡ []) × (x.0 ≡ y)
alone_ok x y e = let p = pass_ok (eqb (length x.1) 0) Rest x.0 y e in (nil_from_length x.1 (eqb-true _ _ p.0), p.1)

-- three texts after one another, the last of which ends the bytes
joined : (bytes a b c after behind rest : List ℕ) → bytes ≡ a ++ after → after ≡ b ++ behind → behind ≡ c ++ rest → rest ≡ [] → bytes ≡ (a ++ b) ++ c
joined bytes a b c after behind rest p q r none =
    p ∙ ap (λ (t : List ℕ). a ++ t) (q ∙ ap (λ (t : List ℕ). b ++ t) (r ∙ ap (λ (t : List ℕ). c ++ t) none ∙ append-nil c)) ∙ sym (append_assoc a b c)

pub request-found : (bytes : List ℕ) (x : Header × Request) → request_at bytes ≡ Ok x → IsRequest bytes x.0 x.1
unfolding request_at
request-found bytes x e =
    let a = bind_ok (names.reading bytes) (λ k. served_api (api_at k.0.0 k.0.1) >>= λ api. (with_header_tags (is_flexible api) sender).reading k.1 >>= λ s. (request_body api).reading s.1 >>= λ y. whole_body y >>= λ r. Ok (header_of k.0 s.0, r)) x e in
    let b = bind_ok (served_api (api_at a.0.0.0 a.0.0.1)) (λ api. (with_header_tags (is_flexible api) sender).reading a.0.1 >>= λ s. (request_body api).reading s.1 >>= λ y. whole_body y >>= λ r. Ok (header_of a.0.0 s.0, r)) x a.2 in
    let behind = with_header_tags (is_flexible b.0) sender in
    let c = bind_ok (behind.reading a.0.1) (λ s. (request_body b.0).reading s.1 >>= λ y. whole_body y >>= λ r. Ok (header_of a.0.0 s.0, r)) x b.2 in
    let d = bind_ok ((request_body b.0).reading c.0.1) (λ y. whole_body y >>= λ r. Ok (header_of a.0.0 c.0.0, r)) x c.2 in
    let f = bind_ok (whole_body d.0) (λ r. Ok (header_of a.0.0 c.0.0, r)) x d.2 in
    let w = alone_ok d.0 f.0 f.1 in
    let p = names.sound bytes a.0.0 a.0.1 a.1 in
    let q = behind.sound a.0.1 c.0.0 c.0.1 c.1 in
    let s = (request_body b.0).sound c.0.1 d.0.0 d.0.1 d.1 in
    let made : Header × Request = (header_of a.0.0 c.0.0, f.0) in
    subst (λ (y : Header × Request). IsRequest bytes y.0 y.1) (ok_is made x f.2)
    (p.0 ++ q.0, s.0, b.0, joined bytes p.0 q.0 s.0 a.0.1 c.0.1 d.0.1 p.1 q.1 s.1 w.0, joined_parts (is_flexible b.0) (p.0 ++ q.0) (header_of a.0.0 c.0.0) (p.0, q.0, refl, p.2, q.2), served_ok _ b.0 b.1, subst ((request_body b.0).Spells s.0) w.1 s.2)

pub request-again : (bytes : List ℕ) (h : Header) (r : Request) → IsRequest bytes h r → request_at bytes ≡ Ok (h, r)
unfolding request_at
request-again bytes h r i =
    let behind = with_header_tags (is_flexible i.2) sender in
    let parts = parted (is_flexible i.2) i.0 h i.4 in
    let bytes_are : bytes ≡ parts.0 ++ (parts.1 ++ i.1) = i.3 ∙ ap (λ (t : List ℕ). t ++ i.1) parts.2 ∙ append_assoc parts.0 parts.1 i.1 in
    let first : names.reading (parts.0 ++ (parts.1 ++ i.1)) ≡ Ok ((h.key, h.version), parts.1 ++ i.1) = names.complete parts.0 (parts.1 ++ i.1) (h.key, h.version) parts.3 in
    let second : behind.reading (parts.1 ++ i.1) ≡ Ok ((h.correlation, h.client), i.1) = behind.complete parts.1 i.1 (h.correlation, h.client) parts.4 in
    let third : (request_body i.2).reading i.1 ≡ Ok (r, []) = ap (request_body i.2).reading (sym (append-nil i.1)) ∙ (request_body i.2).complete i.1 [] r i.6 in
    ap request_at bytes_are ∙ rw (first, i.5, second, third) refl

pub found : (bytes : List ℕ) (r : Result (Header × Request) ReadFault) → Answers (request_at bytes) r → IfOk r (λ x. IsRequest bytes x.0 x.1)
found bytes (Ok x) given = request-found bytes x given
found bytes (Err e) given = tt
