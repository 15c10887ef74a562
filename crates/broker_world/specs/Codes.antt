-- The code of an answer (Kafka protocol guide, "Protocol Error Codes").
use Rattle.std.specs.Prelude.{Option, Some, None, Result, Ok, Err}
use Rattle.wire_types.specs.declared.error_code.ErrorCode.{ErrorCode}
use Rattle.wire_types.specs.declared.error_code.ErrorCode.TheVariants as codes

abbrev pub code_in : {A : Type 0} → Result A ErrorCode → ErrorCode
code_in (Ok answer) = codes.None
code_in (Err code) = code

abbrev pub code_unless_none : ErrorCode → Option ErrorCode
code_unless_none codes.None = None
code_unless_none code = Some code
