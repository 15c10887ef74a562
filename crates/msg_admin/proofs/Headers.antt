-- Headers in both forms.
use Rattle.std.proofs.Common.{◌≡◌, ℕ, ℤ, ◌≤◌, Bool, true, false, ◌&&◌, List, ◌++◌, length, Option, Some, None, refl, sym, ap, ◌∙◌, append_assoc, arith}
use Rattle.std.proofs.lemmas.List.{length-append}
use Rattle.wire_types.specs.Spelling.{int_written, after_null_count_written, after_null_count_fits, null_count_fits}
use Rattle.wire_types.specs.Grammar.{Grammar, AreBoth}
use Rattle.wire_types.specs.Schema.{int16, int32, nullable_string, tags, no_fields}
use Rattle.msg_admin.specs.declared.api.Api.{Api}
use Rattle.msg_admin.specs.declared.header.Header.{Header}
use Rattle.msg_admin.specs.Api.{is_flexible}
use Rattle.msg_admin.specs.Header.{with_header_tags, names, sender, header, response_header, least_header}

pub with_header_tags-in_type : {A : Type 0} (g : Grammar A) (flexible : Bool) (x : A) → g.InType x → (with_header_tags flexible g).InType x
with_header_tags-in_type g false x h = h
with_header_tags-in_type g true x h = (h, tt)

pub with_header_tags-fits : {A : Type 0} (g : Grammar A) (flexible : Bool) (x : A) → g.fits x ≡ true → (with_header_tags flexible g).fits x ≡ true
with_header_tags-fits g false x e = e
with_header_tags-fits g true x e = rw e refl

pub correlation_fits : (api : Api) (c : ℤ) → (response_header api).fits c ≡ true
correlation_fits api c = with_header_tags-fits int32 (is_flexible api) c refl

-- key and version, and what stands after them
abbrev AreParts : Bool → List ℕ → Header → Type 0
AreParts flexible front h = AreBoth names.Spells (with_header_tags flexible sender).Spells front ((h.key, h.version), (h.correlation, h.client))

pub parted : (flexible : Bool) (front : List ℕ) (h : Header) → (with_header_tags flexible header).Spells front h → AreParts flexible front h
parted false front h i = i
parted true front h i =
    let s = i.3 in
    let regrouped : front ≡ s.0 ++ (s.1 ++ i.1) = i.2 ∙ ap (λ (t : List ℕ). t ++ i.1) s.2 ∙ append_assoc s.0 s.1 i.1 in
    (s.0, s.1 ++ i.1, regrouped, s.3, (s.1, i.1, refl, s.4, i.4))

pub joined_parts : (flexible : Bool) (front : List ℕ) (h : Header) → AreParts flexible front h → (with_header_tags flexible header).Spells front h
joined_parts false front h i = i
joined_parts true front h i =
    let s = i.4 in
    let regrouped : front ≡ (i.0 ++ s.0) ++ s.1 = i.2 ∙ ap (λ (t : List ℕ). i.0 ++ t) s.2 ∙ sym (append_assoc i.0 s.0 s.1) in
    (i.0 ++ s.0, s.1, regrouped, (i.0, s.0, refl, i.3, s.3), s.4)

-- ---- sizes

client_len : (client : Option (List ℕ)) → 2 ≤ length (nullable_string.written client)
unfolding after_null_count_written int_written
client_len None = omega arith
client_len (Some text) = omega arith

plain_len : (h : Header) → 10 ≤ length (header.written h)
unfolding int_written
plain_len h = omega (arith, client_len h.client, length-append (int16.written h.key) (int16.written h.version))

pub header_len : (flexible : Bool) (h : Header) → least_header flexible ≤ length ((with_header_tags flexible header).written h)
header_len false h = plain_len h
header_len true h = omega (arith, plain_len h, no_fields.sized, length-append (header.written h) (tags.written tt))

-- without a client a header is as short as one can be
plain_least : (h : Header) → h.client ≡ None → length (header.written h) ≡ 10
unfolding after_null_count_written int_written
plain_least h none = ap (λ (o : Option (List ℕ)). length (names.written (h.key, h.version) ++ sender.written (h.correlation, o))) none

pub least_len : (flexible : Bool) (h : Header) → h.client ≡ None → length ((with_header_tags flexible header).written h) ≡ least_header flexible
least_len false h none = plain_least h none
least_len true h none = omega (arith, plain_least h none, no_fields.sized, length-append (header.written h) (tags.written tt))

pub least_fits : (h : Header) → h.client ≡ None → header.fits h ≡ true
unfolding after_null_count_fits null_count_fits
least_fits h none = ap (λ (o : Option (List ℕ)). names.fits (h.key, h.version) && sender.fits (h.correlation, o)) none

pub least_small : (flexible : Bool) → least_header flexible ≤ 11
least_small false = omega arith
least_small true = omega arith
