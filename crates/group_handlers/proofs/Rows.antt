-- The definitions computed on worked cases.
use Rattle.std.specs.Prelude.{◌≡◌, pos, negsuc, [], ◌∷◌, Some, None, refl}
use Rattle.acl_binding.specs.declared.words.Kind.TheVariants as kinds
use Rattle.wire_types.specs.declared.error_code.ErrorCode.TheVariants as codes
use Rattle.group_handlers.specs.FindCoordinator.{kind_of}
use Rattle.group_handlers.specs.OffsetFetch.{listed_topic_of, fetched_code}

-- ---- what a FindCoordinator asks for

groups : kind_of (pos 0) ≡ Some kinds.Group
groups = refl

ids : kind_of (pos 1) ≡ Some kinds.TransactionalId
ids = refl

nothing : kind_of (pos 2) ≡ None
nothing = refl

nothing_below : kind_of (negsuc 0) ≡ None
nothing_below = refl

-- ---- an OffsetFetch of all: a topic of which nothing is told is left out

left_out : listed_topic_of (97 ∷ []) [] ≡ None
left_out = refl

kept_in : listed_topic_of (97 ∷ []) (fetched_code codes.UnstableOffsetCommit (pos 0) ∷ []) ≡ Some (record { name = 97 ∷ []; partitions = fetched_code codes.UnstableOffsetCommit (pos 0) ∷ [] })
kept_in = refl
