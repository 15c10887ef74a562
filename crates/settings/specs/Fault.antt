-- What can be wrong with settings. Faults are looked for over the whole settings, one kind after
-- the other.
use Rattle.std.specs.Prelude.{ℕ, ℤ, pos, negsuc, Bool, true, false, not, ◌&&◌, nat_le, List, [], ◌∷◌, length, Option, Some, None, if◌then◌else◌}
use Rattle.std.specs.List.{list_all, list_any}
use Rattle.std.specs.Str.{bytes_eq}
use Rattle.acl_binding.specs.declared.binding.Binding.{Binding}
use Rattle.acl_binding.specs.Creatable.{is_principal, is_creatable}
use Rattle.settings.specs.Names.{is_topic_name}
use Rattle.settings.specs.declared.settings.Settings.{Settings}
use Rattle.settings.specs.declared.settings.TopicSetting.{TopicSetting}
use Rattle.settings.specs.declared.fault.OpenFault.{OpenFault}
use Rattle.settings.specs.declared.fault.OpenFault.TheVariants as faults

-- ---- ranges

-- the number is one from low to high
abbrev pub is_within : ℕ → ℕ → ℤ → Bool
is_within low high (pos n) = nat_le low n && nat_le n high
is_within low high (negsuc n) = false

abbrev pub are_numbers_within : Settings → Bool
are_numbers_within s =
    is_within 0 2147483647 s.node_id && (is_within 1 65535 s.port
    && (is_within 1 1073741824 s.trail_limit && (is_within 61 104857600 s.max_batch
    && is_within 1 2147483647 s.max_txn_timeout)))

abbrev pub is_host_within : List ℕ → Bool
is_host_within host = nat_le 1 (length host) && nat_le (length host) 255

-- at most 1,000 topics, of 1 to 1,000 partitions each
abbrev pub is_topic_within : TopicSetting → Bool
is_topic_within t = is_within 1 1000 t.partitions

abbrev pub are_topics_within : List TopicSetting → Bool
are_topics_within topics = nat_le (length topics) 1000 && list_all is_topic_within topics

-- the texts of bindings and super users have at most 1,000 bytes
abbrev pub is_text_within : List ℕ → Bool
is_text_within text = nat_le (length text) 1000

abbrev pub is_binding_within : Binding → Bool
is_binding_within b = is_text_within b.name && (is_text_within b.principal && is_text_within b.host)

-- at most 100,000 bindings
abbrev pub are_bindings_within : List Binding → Bool
are_bindings_within acls = nat_le (length acls) 100000 && list_all is_binding_within acls

abbrev pub is_in_range : Settings → Bool
is_in_range s =
    are_numbers_within s && (is_host_within s.host
    && (are_topics_within s.topics
    && (are_bindings_within s.acls && list_all is_text_within s.supers)))

-- ---- names

abbrev pub are_topic_names : List TopicSetting → Bool
are_topic_names topics = list_all (λ (t : TopicSetting). is_topic_name t.name) topics

-- no topic stands twice
abbrev pub are_distinct : List TopicSetting → Bool
are_distinct [] = true
are_distinct (t ∷ ts) =
    not (list_any (λ (u : TopicSetting). bytes_eq t.name u.name) ts) && are_distinct ts

-- ---- the first fault

-- what is wrong first, in this order
abbrev pub first_fault : Settings → Option OpenFault
first_fault s =
    if not (is_in_range s) then Some faults.Range
    else if not (are_topic_names s.topics) then Some faults.TopicName
    else if not (are_distinct s.topics) then Some faults.Twice
    else if not (list_all is_creatable s.acls) then Some faults.Acl
    else if not (list_all is_principal s.supers) then Some faults.Super
    else None
