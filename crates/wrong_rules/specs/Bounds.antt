-- Which settings a broker begins with, and what is wrong first with others.
use Rattle.std.specs.Prelude.{◌≡◌, ℕ, ℤ, pos, negsuc, List, [], ◌∷◌, replicate, codes as bytes, Option, Some, None}
use Rattle.acl_binding.specs.declared.words.Kind.TheVariants as kinds
use Rattle.acl_binding.specs.declared.words.Pattern.TheVariants as patterns
use Rattle.acl_binding.specs.declared.words.Operation.TheVariants as operations
use Rattle.acl_binding.specs.declared.words.Permission.TheVariants as permissions
use Rattle.acl_binding.specs.declared.binding.Binding.{Binding}
use Rattle.settings.specs.declared.settings.Settings.{Settings}
use Rattle.settings.specs.declared.settings.TopicSetting.{TopicSetting}
use Rattle.settings.specs.declared.fault.OpenFault.{OpenFault}
use Rattle.settings.specs.declared.fault.OpenFault.TheVariants as faults
use Rattle.settings.specs.Fault.{first_fault}

-- the first fault of settings, if they have one
abbrev pub SettingsRule : Type 0
SettingsRule = Settings → Option OpenFault

abbrev pub topic : List ℕ → ℤ → TopicSetting
topic name partitions = record { name = name; partitions = partitions }

abbrev pub binding : List ℕ → List ℕ → Binding
binding name principal = record {
  kind = kinds.Topic;
  name = name;
  pattern = patterns.Literal;
  principal = principal;
  host = bytes "*";
  operation = operations.Read;
  permission = permissions.Allow;
}

abbrev pub settings : Settings
settings = record {
  node_id = pos 0;
  host = bytes "h";
  port = pos 9092;
  trail_limit = pos 1;
  max_batch = pos 61;
  max_txn_timeout = pos 1;
  topics = topic (bytes "a") (pos 1) ∷ [];
  acls = binding (bytes "a") (bytes "User:ann") ∷ [];
  supers = bytes "User:root" ∷ [];
}

-- each number from its least to its greatest, names that Kafka takes, and no topic twice
pub record SettingsAreBounded (rule : SettingsRule) : Type 0 where
  pub least : rule settings ≡ None
  pub greatest : rule
      (record settings {
        node_id = pos 2147483647;
        port = pos 65535;
        trail_limit = pos 1073741824;
        max_batch = pos 104857600;
        max_txn_timeout = pos 2147483647;
        topics = topic (replicate 249 97) (pos 1000) ∷ [];
      })
      ≡ None
  pub node_below : rule (record settings { node_id = negsuc 0 }) ≡ Some faults.Range
  pub port_below : rule (record settings { port = pos 0 }) ≡ Some faults.Range
  pub port_above : rule (record settings { port = pos 65536 }) ≡ Some faults.Range
  pub trail_below : rule (record settings { trail_limit = pos 0 }) ≡ Some faults.Range
  pub trail_above : rule (record settings { trail_limit = pos 1073741825 }) ≡ Some faults.Range
  pub batch_below : rule (record settings { max_batch = pos 60 }) ≡ Some faults.Range
  pub batch_above : rule (record settings { max_batch = pos 104857601 }) ≡ Some faults.Range
  pub timeout_below : rule (record settings { max_txn_timeout = pos 0 }) ≡ Some faults.Range
  pub no_partition : rule (record settings { topics = topic (bytes "a") (pos 0) ∷ [] })
      ≡ Some faults.Range
  pub partitions_above : rule (record settings { topics = topic (bytes "a") (pos 1001) ∷ [] })
      ≡ Some faults.Range
  pub long_name : rule (record settings { topics = topic (replicate 250 97) (pos 1) ∷ [] })
      ≡ Some faults.TopicName
  pub dots : rule (record settings { topics = topic (bytes "..") (pos 1) ∷ [] })
      ≡ Some faults.TopicName
  pub blank : rule (record settings { topics = topic (bytes "a b") (pos 1) ∷ [] })
      ≡ Some faults.TopicName
  pub twice : rule
      (record settings {
        topics = topic (bytes "a") (pos 1) ∷ topic (bytes "b") (pos 1) ∷ topic (bytes "a") (pos 2)
            ∷ [];
      })
      ≡ Some faults.Twice
  pub no_user : rule (record settings { acls = binding (bytes "a") (bytes "ann") ∷ [] })
      ≡ Some faults.Acl
  pub no_name : rule (record settings { acls = binding [] (bytes "User:ann") ∷ [] })
      ≡ Some faults.Acl
  pub no_super : rule (record settings { supers = bytes "root" ∷ [] }) ≡ Some faults.Super

-- ---- wrong

-- any port is taken
abbrev pub settings_with_any_port : SettingsRule
settings_with_any_port s = first_fault (record s { port = pos 9092 })

-- super users are taken by any name
abbrev pub settings_with_any_super : SettingsRule
settings_with_any_super s = first_fault (record s { supers = [] })
