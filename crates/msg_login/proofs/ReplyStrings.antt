-- The texts of each answer decide whether it fits.
use Rattle.std.proofs.Common.{◌≡◌, ℕ, List, [], ◌∷◌, refl, sym, ap, ◌∙◌}
use Rattle.std.specs.List.{list_all, flat_map}
use Rattle.std.proofs.lemmas.List.Concat.{flat_map-cons}
use Rattle.wire_types.specs.Schema.{string, array}
use Rattle.wire_types.specs.Strings.{is_short, no_strings}
use Rattle.wire_types.proofs.StringLaws.{TellsStrings, both_strings, front_strings, struct_strings, int16_strings, error_code_strings, string_strings, nullable_strings, bytes_strings, array_strings, plain_array}
use Rattle.msg_login.specs.SaslHandshake.{sasl_handshake_reply, sasl_handshake_strings}
use Rattle.msg_login.specs.SaslAuthenticate.{sasl_authenticate_reply, sasl_authenticate_strings}
use Rattle.msg_login.specs.ApiVersions.{served_versions, api_versions_reply}

each_alone : (texts : List (List ℕ)) → flat_map (λ text. text ∷ []) texts ≡ texts
each_alone [] = refl
each_alone (t ∷ ts) = flat_map-cons (λ text. text ∷ []) t ts ∙ ap (λ (rest : List (List ℕ)). t ∷ rest) (each_alone ts)

texts_tell : TellsStrings (array string) (λ texts. texts)
texts_tell =
    let q = array_strings string_strings in
    record {
      short = λ texts e. sym (ap (list_all is_short) (each_alone texts)) ∙ q.short texts e;
      fits = λ texts all. q.fits texts (ap (list_all is_short) (each_alone texts) ∙ all);
      some = q.some;
    }

pub sasl_handshake_tells : TellsStrings sasl_handshake_reply sasl_handshake_strings
sasl_handshake_tells = struct_strings _ _ _ _ _ _ (both_strings error_code_strings texts_tell)

pub sasl_authenticate_tells : TellsStrings sasl_authenticate_reply sasl_authenticate_strings
sasl_authenticate_tells = struct_strings _ _ _ _ _ _ (both_strings error_code_strings (front_strings nullable_strings bytes_strings))

served_versions_tells : TellsStrings served_versions no_strings
served_versions_tells = struct_strings _ _ _ _ _ _ (both_strings int16_strings (both_strings int16_strings int16_strings))

pub api_versions_tells : TellsStrings api_versions_reply no_strings
api_versions_tells = struct_strings _ _ _ _ _ _ (both_strings error_code_strings (plain_array served_versions_tells))
