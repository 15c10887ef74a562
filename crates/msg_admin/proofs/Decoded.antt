-- What a frame is: a request is read as one, and whoever asks ApiVersions in another version is found.
use Rattle.std.proofs.Common.{◌≡◌, ℕ, ℤ, List, Option, Some, None, Result, Ok, Err, refl, sym, ap, ◌∙◌}
use Rattle.wire_types.specs.declared.fault.Malformed.{Malformed}
use Rattle.wire_types.specs.declared.fault.Malformed.TheVariants.{Unknown}
use Rattle.msg_admin.specs.declared.decode.Frame.TheVariants as frames
use Rattle.msg_admin.specs.declared.header.Header.{Header}
use Rattle.msg_admin.specs.declared.request.Request.{Request}
use Rattle.msg_admin.specs.Decode.{frame_of_request, frame_by, frame_at}
use Rattle.msg_admin.specs.Request.{IsRequest, request_at}
use Rattle.msg_admin.specs.Versions.{AsksUnsupported, unsupported_at}
use Rattle.msg_admin.proofs.MessageLaws.{found_is_request}
use Rattle.msg_admin.proofs.Unsupported.{asked, asked-again, unread}

pub request_is : (bytes : List ℕ) (h : Header) (r : Request) → IsRequest bytes h r → frame_at bytes ≡ frames.Request h r
request_is bytes h r i = by_found (unsupported_at bytes) refl where
  found : request_at bytes ≡ Ok (h, r)
  found = (found_is_request bytes h r).1 i

  by_found : (o : Option ℤ) → unsupported_at bytes ≡ o → frame_by o (request_at bytes) ≡ frames.Request h r
  by_found None e = ap frame_of_request found
  by_found (Some c) e = absurd (let clash : Err Unknown ≡ Ok (h, r) = sym (unread bytes (Some c) (asked bytes (Some c) (sym e))) ∙ found in cc)

pub versions_are : (bytes : List ℕ) (correlation : ℤ) → AsksUnsupported bytes correlation → frame_at bytes ≡ frames.OtherApiVersions correlation
versions_are bytes correlation i = ap (λ (o : Option ℤ). frame_by o (request_at bytes)) (asked-again bytes correlation i)
