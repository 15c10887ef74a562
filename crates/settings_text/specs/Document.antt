-- What a settings text sets, or what is wrong with it first. Faults are looked for over the whole
-- document, one kind after the other.
use Rattle.std.specs.Prelude.{◌≡◌, ◌≢◌, ℕ, not, if◌then◌else◌, List, codes, Option, Some, None, Result, Ok, Err}
use Rattle.std.specs.Str.{is_utf8}
use Rattle.toml.specs.Data.{Members}
use Rattle.toml.specs.Parse.{parse_document}
use Rattle.settings.specs.declared.fault.OpenFault.{OpenFault}
use Rattle.settings.specs.declared.fault.OpenFault.TheVariants as opens
use Rattle.settings.specs.Fault.{first_fault}
use Rattle.settings_text.specs.declared.document.Document.{Document}
use Rattle.settings_text.specs.declared.fault.SettingsFault.{SettingsFault}
use Rattle.settings_text.specs.declared.fault.SettingsFault.TheVariants.{Toml, Key, User, Range, TopicName, Twice, Acl, Super, NoMemory}
use Rattle.settings_text.specs.Rows.{document_of}
use Rattle.settings_text.specs.Users.{are_users}

abbrev pub fault_name : SettingsFault → List ℕ
fault_name Toml = codes "Toml"
fault_name Key = codes "Key"
fault_name User = codes "User"
fault_name Range = codes "Range"
fault_name TopicName = codes "TopicName"
fault_name Twice = codes "Twice"
fault_name Acl = codes "Acl"
fault_name Super = codes "Super"
fault_name NoMemory = codes "NoMemory"

-- a fault of settings as one of their text
abbrev pub text_fault : OpenFault → SettingsFault
text_fault opens.Range = Range
text_fault opens.TopicName = TopicName
text_fault opens.Twice = Twice
text_fault opens.Acl = Acl
text_fault opens.Super = Super
text_fault opens.NoMemory = NoMemory

abbrev pub checked_document_by : Document → Option OpenFault → Result Document SettingsFault
checked_document_by d None = Ok d
checked_document_by d (Some fault) = Err (text_fault fault)

-- the users first, then the settings
abbrev pub checked_document : Document → Result Document SettingsFault
checked_document d =
    if not (are_users d.users) then Err User else checked_document_by d (first_fault d.settings)

abbrev pub keyed_document : Option Document → Result Document SettingsFault
keyed_document None = Err Key
keyed_document (Some d) = checked_document d

abbrev pub parsed_document : Option Members → Result Document SettingsFault
parsed_document None = Err Toml
parsed_document (Some ms) = keyed_document (document_of ms)

-- a text of UTF-8 that is a TOML document, whose keys are right, whose users are, and whose
-- settings are
abbrev pub document_of_text : List ℕ → Result Document SettingsFault
document_of_text bytes = if is_utf8 bytes then parsed_document (parse_document bytes) else Err Toml

-- The call answered so, unless memory was refused.
abbrev pub Settles : Result Document SettingsFault → Result Document SettingsFault → Type 0
Settles due (Ok d) = due ≡ Ok d
Settles due (Err fault) = fault ≢ NoMemory → due ≡ Err fault
