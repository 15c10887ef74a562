-- The codes of faults are the protocol's, and wrong ones are others.
use Rattle.std.proofs.Common.{◌≡◌, pos, Some, refl, sym, ap, ◌∙◌}
use Rattle.wire_types.specs.declared.error_code.ErrorCode.{ErrorCode}
use Rattle.wire_types.specs.ErrorCode.{number_of, code_of as named, code_of-number_of}
use Rattle.record_batch.specs.declared.fault.BatchFault.TheVariants.{Length, Magic, Crc, Compressed, Invalid, Timestamp, TooLarge}
use Rattle.record_batch.specs.Fault.{code_of}
use Rattle.wrong_rules.specs.Faults.{FaultsAreTold, OnlyRuleOfFaults, fatal_checksum, endless_large}

pub told : FaultsAreTold code_of
unfolding number_of
told = record { length = refl; checksum = refl; large = refl; timestamp = refl; compressed = refl; format = refl; invalid = refl }

inside : (a b : ErrorCode) → Some a ≡ Some b → a ≡ b
inside a b h = cc

-- codes of one number are one
one_code : (a b : ErrorCode) → number_of a ≡ number_of b → a ≡ b
one_code a b h = inside a b (sym (code_of-number_of a) ∙ ap named h ∙ code_of-number_of b)

pub only_rule : OnlyRuleOfFaults code_of
only_rule rule law Length = one_code (rule Length) (code_of Length) (law.length ∙ sym told.length)
only_rule rule law Magic = one_code (rule Magic) (code_of Magic) (law.format ∙ sym told.format)
only_rule rule law Crc = one_code (rule Crc) (code_of Crc) (law.checksum ∙ sym told.checksum)
only_rule rule law Compressed = one_code (rule Compressed) (code_of Compressed) (law.compressed ∙ sym told.compressed)
only_rule rule law Invalid = one_code (rule Invalid) (code_of Invalid) (law.invalid ∙ sym told.invalid)
only_rule rule law Timestamp = one_code (rule Timestamp) (code_of Timestamp) (law.timestamp ∙ sym told.timestamp)
only_rule rule law TooLarge = one_code (rule TooLarge) (code_of TooLarge) (law.large ∙ sym told.large)

pub not_fatal : ¬ FaultsAreTold fatal_checksum
unfolding number_of
not_fatal law = let clash : pos 87 ≡ pos 2 = law.checksum in cc

pub not_endless : ¬ FaultsAreTold endless_large
unfolding number_of
not_endless law = let clash : pos 2 ≡ pos 10 = law.large in cc
