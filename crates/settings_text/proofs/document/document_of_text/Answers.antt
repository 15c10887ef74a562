use Rattle.std.proofs.Common.{refl, subst, inl, inr}
use Rattle.std.specs.Str.{is_utf8}
use Rattle.std.proofs.lemmas.Bool.{cases_Bool}
use Rattle.std.proofs.lemmas.Str.{is_utf8-from_IsUtf8, IsUtf8-from_is_utf8}
use Rattle.toml.specs.Parse.{parse_document}
use Rattle.settings_text.specs.Document.{Settles, parsed_document}
use Rattle.settings_text.proofs.document.document_of_text.Goals as goal

pub returns-in-Ok : goal.returns-in-Ok
returns-in-Ok c =
    rw (is_utf8-from_IsUtf8 _ c.in-Ok.ensures.cases.1)
    (subst (λ bytes. Settles (parsed_document (parse_document bytes)) c.document_of_str.result) c.in-Ok.ensures.cases.0 c.document_of_str.ensures)

pub returns-in-Err : goal.returns-in-Err
returns-in-Err c = λ _.
    elim (cases_Bool (is_utf8 c.args.text.now)) [
      | inl is ↦ absurd (c.in-Err.ensures.cases.0 (IsUtf8-from_is_utf8 _ is))
      | inr is_not ↦ rw is_not refl
    ]
