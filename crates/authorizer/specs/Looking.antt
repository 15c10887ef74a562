-- How the index is tied to a book's bindings, and what looking up tells.
use Rattle.std.specs.Prelude.{◌≡◌, ℕ, ◌<◌, Bool, ◌&&◌, ◌||◌, List, length, filter, nat_lt, nat_eq, ◌==◌, Option, Some, None}
use Rattle.std.specs.List.{starts_with}
use Rattle.std.specs.Str.{IsUtf8, bytes_eq}
use Rattle.acl_binding.specs.declared.words.Kind.{Kind}
use Rattle.acl_binding.specs.declared.words.Kind.TheVariants.{Topic, Group, Cluster, TransactionalId}
use Rattle.acl_binding.specs.declared.words.Pattern.{Pattern}
use Rattle.acl_binding.specs.declared.words.Pattern.TheVariants.{Literal, Prefixed}
use Rattle.acl_binding.specs.declared.binding.Numbered.{Numbered}
use Rattle.acl_binding.specs.declared.question.Question.{Question}
use Rattle.acl_binding.specs.Words.{kind_number, pattern_number}
use Rattle.acl_binding.specs.Verdict.{any_grant, denials, least_of, lesser_of}
use Rattle.authorizer.specs.Index.{named_bindings, nonempty}
use Rattle.authorizer.specs.declared.index.KindIndex.{KindIndex}
use Rattle.authorizer.specs.declared.index.Index.{Index}
use Rattle.authorizer.specs.declared.looking.Finding.{Finding}

-- the binding has this kind, pattern and name
abbrev pub is_at : Kind → Pattern → List ℕ → Numbered → Bool
is_at kind pattern name e =
    (kind_number e.binding.kind == kind_number kind)
    && ((pattern_number e.binding.pattern == pattern_number pattern)
    && bytes_eq e.binding.name name)

-- the bindings of this kind, pattern and name, in creation order
abbrev pub bindings_about : Kind → Pattern → List ℕ → List Numbered → List Numbered
bindings_about kind pattern name es = filter (is_at kind pattern name) es

-- the table has each name's bindings, and no name without any
abbrev pub IsTableOf : List (List ℕ × List Numbered) → Kind → Pattern → List Numbered → Type 0
IsTableOf table kind pattern es =
    (name : List ℕ) → named_bindings table name ≡ nonempty (bindings_about kind pattern name es)

pub record IsKindIndexed (k : KindIndex) (kind : Kind) (es : List Numbered) : Type 0 where
  pub literal : IsTableOf k.literal kind Literal es
  pub prefixed : IsTableOf k.prefixed kind Prefixed es

-- the index is that of these bindings
pub record IsIndexed (index : Index) (es : List Numbered) : Type 0 where
  pub topics : IsKindIndexed index.topics Topic es
  pub groups : IsKindIndexed index.groups Group es
  pub cluster : IsKindIndexed index.cluster Cluster es
  pub ids : IsKindIndexed index.ids TransactionalId es

abbrev pub pattern_names : KindIndex → Pattern → List (List ℕ × List Numbered)
pattern_names k Literal = k.literal
pattern_names k Prefixed = k.prefixed

abbrev pub kind_index : Index → Kind → KindIndex
kind_index index Topic = index.topics
kind_index index Group = index.groups
kind_index index Cluster = index.cluster
kind_index index TransactionalId = index.ids

-- the binding's name is a text, and not the empty one where it is a prefix: that would be looked up
-- for every name
pub record IsNamed (e : Numbered) : Type 0 where
  pub text : IsUtf8 e.binding.name
  pub some : e.binding.pattern ≡ Prefixed → 0 < length e.binding.name

-- ---- what some bindings say of a question

abbrev pub finding_of : List Numbered → Question → Finding
finding_of es q = record { denied = least_of (denials es q); allowed = any_grant es q }

-- the lesser of those that are there
abbrev pub min_some : Option ℕ → Option ℕ → Option ℕ
min_some None b = b
min_some (Some a) b = Some (lesser_of a b)

abbrev pub combined_finding : Finding → Finding → Finding
combined_finding a b =
    record { denied = min_some a.denied b.denied; allowed = a.allowed || b.allowed }

-- a prefixed binding whose name begins the name, and is longer than k bytes
abbrev pub is_longer : Kind → List ℕ → ℕ → Numbered → Bool
is_longer kind name k e =
    (kind_number e.binding.kind == kind_number kind)
    && ((pattern_number e.binding.pattern == pattern_number Prefixed)
    && (starts_with nat_eq name e.binding.name && nat_lt k (length e.binding.name)))
