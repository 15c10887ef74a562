-- A long response: what stands before the topics of its answer, and these (Kafka protocol guide,
-- "Metadata API (Key: 3)" and "Fetch API (Key: 1)": in both the topics come last).
use Rattle.std.specs.Prelude.{◌≡◌, ◌+◌, ◌^◌, ◌<◌, ℕ, ℤ, pos, true, List, [], ◌++◌, length}
use Rattle.wire_types.specs.Grammar.{Grammar}
use Rattle.wire_types.specs.Combinators.{◌⨟◌}
use Rattle.wire_types.specs.Schema.{int32, array, count32}
use Rattle.wire_types.specs.Spelling.{many_written}
use Rattle.wire_types.specs.Topic.{topic_of}
use Rattle.msg_data.specs.declared.metadata.BrokerInfo.{BrokerInfo}
use Rattle.msg_data.specs.declared.metadata.MetadataReply.{MetadataReply}
use Rattle.msg_data.specs.declared.fetch.FetchReply.{FetchReply}
use Rattle.msg_data.specs.Metadata.{broker, topic}
use Rattle.msg_data.specs.Fetch.{fetched_records}
use Rattle.msg_admin.specs.declared.reply.Reply.{Reply}
use Rattle.msg_admin.specs.declared.reply.Reply.TheVariants as replies
use Rattle.msg_admin.specs.Response.{response, is_sendable}

-- the topics of an answer, one after the other
abbrev pub topics_of : Reply → List ℕ
topics_of (replies.Metadata r) = many_written topic.written r.topics
topics_of (replies.Fetch r) = many_written (topic_of fetched_records).written r.topics
topics_of r = []

-- with the topics after it, it is the response, which can be sent
pub record IsFront (correlation : ℤ) (r : Reply) (front : List ℕ) : Type 0 where
  pub sendable : is_sendable correlation r ≡ true
  pub whole : front ++ topics_of r ≡ response correlation r

-- it counts the bytes of an answer that can be written and of the correlation id before it, and an
-- INT32 can tell it
pub record IsSize {A : Type 0} (g : Grammar A) (x : A) (size : ℤ) : Type 0 where
  pub fits : g.fits x ≡ true
  pub counted : size ≡ pos (4 + length (g.written x))
  pub told : 4 + length (g.written x) < 2 ^ 31

-- the size, the correlation id, brokers, controller_id and how many topics follow
abbrev pub metadata_front : Grammar (ℤ × (ℤ × (List BrokerInfo × (ℤ × ℕ))))
metadata_front = int32 ⨟ int32 ⨟ array broker ⨟ int32 ⨟ count32

abbrev pub metadata_front_of : ℤ → ℤ → MetadataReply → ℤ × (ℤ × (List BrokerInfo × (ℤ × ℕ)))
metadata_front_of size correlation r =
    (size, (correlation, (r.brokers, (r.controller, length r.topics))))

-- the size, the correlation id, throttle_time_ms and how many topics follow
abbrev pub fetch_front : Grammar (ℤ × (ℤ × (ℤ × ℕ)))
fetch_front = int32 ⨟ int32 ⨟ int32 ⨟ count32

abbrev pub fetch_front_of : ℤ → ℤ → FetchReply → ℤ × (ℤ × (ℤ × ℕ))
fetch_front_of size correlation r = (size, (correlation, (r.throttle, length r.topics)))
