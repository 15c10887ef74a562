-- The grammars of the Metadata messages, version 1 (Kafka protocol guide, "Metadata API (Key: 3)").
use Rattle.std.specs.Prelude.{ℕ, List, [], ◌∷◌, ◌++◌, refl}
use Rattle.std.specs.List.{flat_map}
use Rattle.wire_types.specs.Grammar.{Grammar}
use Rattle.wire_types.specs.Combinators.{struct, ◌⨟◌}
use Rattle.wire_types.specs.Schema.{int32, boolean, string, nullable_string, array, nullable_array}
use Rattle.msg_data.specs.declared.metadata.MetadataRequest.{MetadataRequest}
use Rattle.msg_data.specs.declared.metadata.BrokerInfo.{BrokerInfo}
use Rattle.msg_data.specs.declared.metadata.PartitionInfo.{PartitionInfo}
use Rattle.msg_data.specs.declared.metadata.TopicInfo.{TopicInfo}
use Rattle.msg_data.specs.declared.metadata.MetadataReply.{MetadataReply}
use Rattle.wire_types.specs.ErrorCode.{error_code}
use Rattle.msg_data.specs.Strings.{text_of}

-- Metadata Request => [topics]
abbrev pub metadata_request : Grammar MetadataRequest
metadata_request = struct
    (λ topics. record { topics = topics }) (λ r. r.topics)
    (λ x. refl) (λ r. refl)
    (nullable_array string)

-- brokers => node_id host port rack
abbrev pub broker : Grammar BrokerInfo
broker = struct
    (λ (node, (host, (port, rack))). record { node = node; host = host; port = port; rack = rack })
    (λ b. (b.node, (b.host, (b.port, b.rack))))
    (λ x. refl) (λ b. refl)
    (int32  -- node_id
    ⨟ string  -- host
    ⨟ int32  -- port
    ⨟ nullable_string)  -- rack

-- partitions => error_code partition_index leader_id [replica_nodes] [isr_nodes]
abbrev pub partition : Grammar PartitionInfo
partition = struct
    (λ (error, (index, (leader, (replicas, in_sync)))).
    record {
      error = error;
      index = index;
      leader = leader;
      replicas = replicas;
      in_sync = in_sync;
    })
    (λ p. (p.error, (p.index, (p.leader, (p.replicas, p.in_sync)))))
    (λ x. refl) (λ p. refl)
    (error_code  -- error_code
    ⨟ int32  -- partition_index
    ⨟ int32  -- leader_id
    ⨟ array int32  -- replica_nodes
    ⨟ array int32)  -- isr_nodes

-- topics => error_code name is_internal [partitions]
abbrev pub topic : Grammar TopicInfo
topic = struct
    (λ (error, (name, (internal, partitions))).
    record { error = error; name = name; internal = internal; partitions = partitions })
    (λ t. (t.error, (t.name, (t.internal, t.partitions))))
    (λ x. refl) (λ t. refl)
    (error_code  -- error_code
    ⨟ string  -- name
    ⨟ boolean  -- is_internal
    ⨟ array partition)  -- partitions

-- Metadata Response => [brokers] controller_id [topics]
abbrev pub metadata_reply : Grammar MetadataReply
metadata_reply = struct
    (λ (brokers, (controller, topics)).
    record { brokers = brokers; controller = controller; topics = topics })
    (λ r. (r.brokers, (r.controller, r.topics)))
    (λ x. refl) (λ r. refl)
    (array broker  -- brokers
    ⨟ int32  -- controller_id
    ⨟ array topic)  -- topics

-- ---- the texts of an answer

abbrev pub broker_strings : BrokerInfo → List (List ℕ)
broker_strings b = b.host ∷ text_of b.rack

abbrev pub topic_strings : TopicInfo → List (List ℕ)
topic_strings t = t.name ∷ []

abbrev pub metadata_strings : MetadataReply → List (List ℕ)
metadata_strings r = flat_map broker_strings r.brokers ++ flat_map topic_strings r.topics
