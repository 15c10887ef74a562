-- What clients are told of the cluster's brokers (Kafka protocol guide, "Metadata API (Key: 3)").
use Rattle.std.specs.Prelude.{List, [], ◌∷◌, None}
use Rattle.msg_data.specs.declared.metadata.BrokerInfo.{BrokerInfo}
use Rattle.broker_world.specs.declared.node.Node.{Node}

abbrev pub broker_info : Node → BrokerInfo
broker_info node = record { node = node.node_id; host = node.host; port = node.port; rack = None }

-- the one node is the cluster
abbrev pub brokers_of : Node → List BrokerInfo
brokers_of node = broker_info node ∷ []
