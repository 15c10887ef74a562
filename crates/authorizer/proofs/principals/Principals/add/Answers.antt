use Rattle.std.proofs.Common.{◌≡◌, ℕ, List, [], ◌∷◌, ◌++◌, Option, Some, ap, subst, sym, ◌∙◌, rules}
use Rattle.std.specs.HashMap.{get_by_text}
use Rattle.std.specs.Option.{unwrap_or}
use Rattle.std.proofs.lemmas.Map.Text.{hash_map_updates_text}
use Rattle.acl_binding.specs.declared.binding.Numbered.{Numbered}
use Rattle.authorizer.specs.Index.{rows, HasMore}
use Rattle.authorizer.proofs.Tables.{has_more}
use Rattle.authorizer.proofs.principals.Principals.add.Goals as goal

pub returns-in_ok-push-in-Some : goal.returns-in_ok-push-in-Some
returns-in_ok-push-in-Some c =
    let key : c.as_str.result.now ≡ c.args.entry.binding.principal = c.as_str.ensures ∙ ap (λ (e : Numbered). e.binding.principal) c.value.ensures in
    let lent = c.get_mut.follows.lender c.push.new.self in
    let writes = (c.get_mut.follows.holds c.push.new.self).3 (search rules) in
    let more : HasMore (rows c.self.inside.buckets.entries) (rows lent.entries) c.as_str.result.now c.args.entry =
    has_more c.self.inside.buckets.entries lent.entries c.as_str.result.now c.push.new.self c.args.entry
    (hash_map_updates_text c.as_str.result.now c.self.inside.buckets lent _ writes)
    (c.in_ok-push-in-Some.ensures ∙ ap (λ (o : Option (List Numbered)). unwrap_or o [] ++ c.args.entry ∷ []) c.in-Some.ensures.value) in
    rw (← c.self.view_is) (subst (λ (who : List ℕ). HasMore (rows c.self.inside.buckets.entries) (rows lent.entries) who c.args.entry) key more)

pub returns-in_ok-add_principal-in-None : goal.returns-in_ok-add_principal-in-None
returns-in_ok-add_principal-in-None c =
    let key : c.as_str.result.now ≡ c.args.entry.binding.principal = c.as_str.ensures ∙ ap (λ (e : Numbered). e.binding.principal) c.value.ensures in
    let changed = rw c.get_mut.follows.holds-at-none at c.in_ok-add_principal-in-None.ensures in
    rw (← c.self.view_is) (has_more c.self.inside.buckets.entries c.add_principal.new.buckets.entries c.args.entry.binding.principal (c.args.entry ∷ []) c.args.entry changed
    (ap (λ (o : Option (List Numbered)). unwrap_or o [] ++ c.args.entry ∷ []) (c.in-None.ensures.value ∙ ap (λ (who : List ℕ). get_by_text c.self.inside.buckets who) key)))
