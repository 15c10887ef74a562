-- The codes of refused parts by their numbers.
use Rattle.std.proofs.Common.{ap}
use Rattle.acl_binding.specs.declared.words.Kind.{Kind}
use Rattle.wire_types.specs.ErrorCode.{number_of}
use Rattle.walk.specs.Codes.{permission_code, refusal_code}
use Rattle.api_laws.specs.Numbers.{RefusalsByNumber}

pub refusals_by_number : RefusalsByNumber refusal_code
unfolding number_of
refusals_by_number = record {
  topic = λ r is. ap (λ (k : Kind). number_of (permission_code k)) is;
  group = λ r is. ap (λ (k : Kind). number_of (permission_code k)) is;
  cluster = λ r is. ap (λ (k : Kind). number_of (permission_code k)) is;
  transactional_id = λ r is. ap (λ (k : Kind). number_of (permission_code k)) is;
}
