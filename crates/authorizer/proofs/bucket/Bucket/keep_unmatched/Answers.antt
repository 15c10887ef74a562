use Rattle.std.proofs.Common.{rules}
use Rattle.std.proofs.lemmas.Fn.{filter_same}
use Rattle.acl_binding.specs.Filter.{is_not_matched}
use Rattle.authorizer.proofs.bucket.Bucket.keep_unmatched.Goals as goal

pub returns-clause-left : goal.returns-clause-left
returns-clause-left c = rw (← c.self.view_is) (filter_same _ (is_not_matched c.args.filter.now) _ (λ x b f' k. search rules) _ _ c.retain.ensures.filtered)
