use Rattle.acl_binding.specs.declared.words.Pattern.TheVariants.{Literal, Prefixed}
use Rattle.authorizer.proofs.Indexing.{less_table}
use Rattle.authorizer.proofs.index.KindIndex.clean.Goals as goal

pub returns : goal.returns
returns c = λ kind es is. record {
  literal = less_table _ _ c.args.filter.now kind Literal es c.clean.ensures is.literal;
  prefixed = less_table _ _ c.args.filter.now kind Prefixed es c.clean-2.ensures is.prefixed;
}
