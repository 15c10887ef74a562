-- The parts and questions of requests computed on worked cases.
use Rattle.std.specs.Prelude.{◌≡◌, ℕ, pos, negsuc, true, false, List, [], ◌∷◌, codes, Some, None, refl}
use Rattle.acl_binding.specs.declared.question.Caller.{Caller}
use Rattle.acl_binding.specs.declared.question.Question.{Question}
use Rattle.acl_binding.specs.declared.binding.Numbered.{Numbered}
use Rattle.acl_binding.specs.declared.words.Kind.{Kind}
use Rattle.acl_binding.specs.declared.words.Kind.TheVariants as kinds
use Rattle.acl_binding.specs.declared.words.Operation.{Operation}
use Rattle.acl_binding.specs.declared.words.Operation.TheVariants as operations
use Rattle.acl_binding.specs.declared.words.Pattern.TheVariants as patterns
use Rattle.acl_binding.specs.declared.words.Permission.{Permission}
use Rattle.acl_binding.specs.declared.words.Permission.TheVariants as permissions
use Rattle.acl_binding.specs.Creatable.{cluster_name}
use Rattle.acl_binding.specs.Book.{empty_book}
use Rattle.acl_binding.specs.Verdict.{question_of}
use Rattle.authorizer.specs.Asking.{Rules}
use Rattle.msg_admin.specs.declared.request.Request.TheVariants as requests
use Rattle.api_dispatch.specs.Questions.{parts_of, questions_of, wants_all}

module _ (rules : Rules) (caller : Caller) where
  -- ---- a Produce with the id `t` to partitions 0 and 1 of `a` and to partition 2 of `b`

  produced : parts_of rules caller (requests.Produce (record { transactional_id = Some (116 ∷ []); acks = pos 1; timeout = pos 0; topics = record { name = 97 ∷ []; partitions = record { index = pos 0; records = None } ∷ record { index = pos 1; records = None } ∷ [] } ∷ record { name = 98 ∷ []; partitions = record { index = pos 2; records = None } ∷ [] } ∷ [] }))
      ≡ (question_of caller operations.Write kinds.TransactionalId (116 ∷ []) ∷ question_of caller operations.Write kinds.Topic (97 ∷ []) ∷ [])
      ∷ (question_of caller operations.Write kinds.TransactionalId (116 ∷ []) ∷ question_of caller operations.Write kinds.Topic (97 ∷ []) ∷ [])
      ∷ (question_of caller operations.Write kinds.TransactionalId (116 ∷ []) ∷ question_of caller operations.Write kinds.Topic (98 ∷ []) ∷ []) ∷ []
  produced = refl

  -- ---- an OffsetFetch of the group `g`: of partition 0 of `a`, and of all

  fetched : questions_of rules caller (requests.OffsetFetch (record { group = 103 ∷ []; topics = Some (record { name = 97 ∷ []; partitions = pos 0 ∷ [] } ∷ []); require_stable = false }))
      ≡ question_of caller operations.Describe kinds.Group (103 ∷ []) ∷ question_of caller operations.Describe kinds.Topic (97 ∷ []) ∷ []
  fetched = refl

  all_fetched : questions_of rules caller (requests.OffsetFetch (record { group = 103 ∷ []; topics = None; require_stable = false })) ≡ question_of caller operations.Describe kinds.Group (103 ∷ []) ∷ []
  all_fetched = refl

  all_wanted : wants_all (requests.OffsetFetch (record { group = 103 ∷ []; topics = None; require_stable = false })) ≡ true
  all_wanted = refl

  -- ---- a Metadata request of `a` and `b`, and of no topic

  named : questions_of rules caller (requests.Metadata (record { topics = Some ((97 ∷ []) ∷ (98 ∷ []) ∷ []) })) ≡ question_of caller operations.Describe kinds.Topic (97 ∷ []) ∷ question_of caller operations.Describe kinds.Topic (98 ∷ []) ∷ []
  named = refl

  none_named : wants_all (requests.Metadata (record { topics = Some [] })) ≡ false
  none_named = refl

  -- ---- a FindCoordinator of the key `k` as a transactional id, and as nothing that is coordinated

  found : questions_of rules caller (requests.FindCoordinator (record { key = 107 ∷ []; key_type = pos 1 })) ≡ question_of caller operations.Describe kinds.TransactionalId (107 ∷ []) ∷ []
  found = refl

  not_found : questions_of rules caller (requests.FindCoordinator (record { key = 107 ∷ []; key_type = pos 2 })) ≡ []
  not_found = refl

  -- ---- an InitProducerId without a transactional id, where there is no binding

  initialized : questions_of (record { book = empty_book; supers = rules.supers }) caller (requests.InitProducerId (record { transactional_id = None; timeout = pos 0 })) ≡ question_of caller operations.IdempotentWrite kinds.Cluster (107 ∷ 97 ∷ 102 ∷ 107 ∷ 97 ∷ 45 ∷ 99 ∷ 108 ∷ 117 ∷ 115 ∷ 116 ∷ 101 ∷ 114 ∷ []) ∷ []
  initialized = refl

  -- ---- a TxnOffsetCommit with the id `t` for the group `g`, of partition 0 of `a`

  staged : parts_of rules caller (requests.TxnOffsetCommit (record { transactional_id = 116 ∷ []; group = 103 ∷ []; producer = pos 0; epoch = pos 0; generation = negsuc 0; member = []; instance = None; topics = record { name = 97 ∷ []; partitions = record { index = pos 0; offset = pos 5; leader_epoch = negsuc 0; metadata = None } ∷ [] } ∷ [] }))
      ≡ (question_of caller operations.Write kinds.TransactionalId (116 ∷ []) ∷ question_of caller operations.Read kinds.Group (103 ∷ []) ∷ question_of caller operations.Read kinds.Topic (97 ∷ []) ∷ []) ∷ []
  staged = refl

-- ---- an InitProducerId without a transactional id, by what ann may

abbrev ann : Caller
ann = record { who = codes "User:ann"; host = codes "h" }

abbrev binding_of : ℕ → Kind → List ℕ → Operation → Permission → Numbered
binding_of number kind name operation permission = record {
  number = number;
  binding = record { kind = kind; name = name; pattern = patterns.Literal; principal = codes "User:ann"; host = codes "*"; operation = operation; permission = permission };
}

abbrev under : List Numbered → Rules
under es = record { book = record { entries = es; next = 9 }; supers = [] }

abbrev writes_a : Numbered
writes_a = binding_of 1 kinds.Topic (97 ∷ []) operations.Write permissions.Allow

abbrev may_initialize : Numbered
may_initialize = binding_of 2 kinds.Cluster cluster_name operations.IdempotentWrite permissions.Allow

abbrev may_not_initialize : Numbered
may_not_initialize = binding_of 3 kinds.Cluster cluster_name operations.IdempotentWrite permissions.Deny

abbrev asks_of : List Numbered → List Question
asks_of es = questions_of (under es) ann (requests.InitProducerId (record { transactional_id = None; timeout = pos 0 }))

writer_asks_nothing : asks_of (writes_a ∷ []) ≡ []
writer_asks_nothing = refl

denied_writer_asks_nothing : asks_of (writes_a ∷ may_not_initialize ∷ []) ≡ []
denied_writer_asks_nothing = refl

-- where it is granted, it is asked
granted_asks : asks_of (writes_a ∷ may_initialize ∷ []) ≡ question_of ann operations.IdempotentWrite kinds.Cluster cluster_name ∷ []
granted_asks = refl

-- with a transactional id it is asked too
with_an_id : questions_of (under (writes_a ∷ [])) ann (requests.InitProducerId (record { transactional_id = Some (116 ∷ []); timeout = pos 0 })) ≡ question_of ann operations.Write kinds.TransactionalId (116 ∷ []) ∷ []
with_an_id = refl
