use Rattle.std.proofs.Common.{◌≡◌, ℕ, List}
use Rattle.std.specs.List.{list_any}
use Rattle.std.specs.declared.string.String.{String}
use Rattle.std.specs.declared.alloc.Global.{Global}
use Rattle.acl_binding.specs.declared.binding.Numbered.{Numbered}
use Rattle.authorizer.specs.AnyTopic.{is_unbarred}
use Rattle.authorizer.proofs.index.names.Names.any_not_overridden.Given as goal

-- what is looked for is after
abbrev pub invariant-loop-name : goal.invariant-loop-name
invariant-loop-name l =
    list_any (λ (e : String Global × List Numbered). list_any (is_unbarred l.book.entries l.who l.host) e.1) l._name-iterator
    ≡ list_any (λ (row : List ℕ × List Numbered). list_any (is_unbarred l.book.entries l.who l.host) row.1) l.self
