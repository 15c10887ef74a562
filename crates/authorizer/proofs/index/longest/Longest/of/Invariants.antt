use Rattle.std.proofs.Common.{◌≡◌, ◌<◌, ◌^◌, ◌++◌, List}
use Rattle.std.specs.HashMap.{keys}
use Rattle.indexmap.specs.IndexMap.{index_map_len}
use Rattle.std.specs.Map.{keys_of}
use Rattle.std.specs.declared.string.String.{String}
use Rattle.std.specs.declared.alloc.Global.{Global}
use Rattle.authorizer.specs.Longest.{lengths, IsLongest}
use Rattle.authorizer.proofs.index.longest.Longest.of.Given as goal

-- the longest of those before, of which with those to come there are all
abbrev pub invariant-loop-name : goal.invariant-loop-name
invariant-loop-name l = record {
  before : List (String Global);
  all : before ++ keys_of l.name-iterator ≡ keys l.shelves;
  longest : IsLongest l.longest (lengths before);
  fits : index_map_len l.shelves < 2 ^ 63;
}
