-- The world that settings begin with.
use Rattle.std.specs.Prelude.{ℕ, ℤ, pos, negsuc, List, [], ◌∷◌, map, replicate}
use Rattle.acl_binding.specs.declared.binding.Binding.{Binding}
use Rattle.acl_binding.specs.Book.{BookValue, empty_book, with_binding}
use Rattle.settings.specs.declared.settings.Settings.{Settings}
use Rattle.settings.specs.declared.settings.TopicSetting.{TopicSetting}
use Rattle.txn_coordinator.specs.Coordinator.{no_transactions}
use Rattle.broker_world.specs.declared.node.Node.{Node}
use Rattle.broker_world.specs.World.{World, TopicValue, LogValue}

-- the bindings under creation numbers in their order, an equal one under none
abbrev pub with_bindings : BookValue → List Binding → BookValue
with_bindings book [] = book
with_bindings book (b ∷ bs) = with_bindings (with_binding book b) bs

-- a number that isn't negative
abbrev pub non_negative : ℤ → ℕ
non_negative (pos n) = n
non_negative (negsuc n) = 0

abbrev pub empty_logs : ℕ → List LogValue
empty_logs n = replicate n []

abbrev pub first_topic : TopicSetting → TopicValue
first_topic t = record { name = t.name; partitions = empty_logs (non_negative t.partitions) }

abbrev pub first_topics : List TopicSetting → List TopicValue
first_topics topics = map first_topic topics

abbrev pub first_node : Settings → Node
first_node s =
    record {
      node_id = s.node_id;
      host = s.host;
      port = s.port;
      max_batch = s.max_batch;
      max_txn_timeout = s.max_txn_timeout;
    }

abbrev pub first_world : Settings → World
first_world s =
    record {
      node = first_node s;
      supers = s.supers;
      book = with_bindings empty_book s.acls;
      topics = first_topics s.topics;
      coordinator = no_transactions;
      groups = [];
      moment = 0;
      events = 0;
    }
