-- What settings in range say of themselves.
use Rattle.std.proofs.Common.{◌≡◌, ℕ, ℤ, pos, negsuc, ◌≤◌, Bool, true, false, cond, not, nat_le, length, Option, Some, None, refl}
use Rattle.std.specs.List.{list_all}
use Rattle.std.proofs.lemmas.Bool.{leb-true}
use Rattle.wire_types.specs.ListLaws.{and_parts}
use Rattle.settings.specs.declared.settings.Settings.{Settings}
use Rattle.settings.specs.declared.fault.OpenFault.{OpenFault}
use Rattle.settings.specs.declared.fault.OpenFault.TheVariants as faults
use Rattle.acl_binding.specs.Creatable.{is_creatable}
use Rattle.settings.specs.Fault.{is_within, are_numbers_within, is_host_within, is_topic_within, are_topics_within, are_topic_names, are_distinct, are_bindings_within, is_binding_within, is_in_range, first_fault}
use Rattle.broker_world.specs.First.{non_negative}

passes : (b : Bool) (fault : OpenFault) (rest : Option OpenFault) → cond (not b) (Some fault) rest ≡ None → (b ≡ true) × (rest ≡ None)
passes true fault rest h = (refl, h)
passes false fault rest h = absurd (let clash : Some fault ≡ None = h in cc)

-- what settings without a fault are
pub record IsFaultless (s : Settings) : Type 0 where
  pub in_range : is_in_range s ≡ true
  pub distinct : are_distinct s.topics ≡ true
  pub creatable : list_all is_creatable s.acls ≡ true

pub faultless : (s : Settings) → first_fault s ≡ None → IsFaultless s
faultless s none =
    let range = passes (is_in_range s) faults.Range _ none in
    let names = passes (are_topic_names s.topics) faults.TopicName _ range.1 in
    let distinct = passes (are_distinct s.topics) faults.Twice _ names.1 in
    record { in_range = range.0; distinct = distinct.0; creatable = (passes (list_all is_creatable s.acls) faults.Acl _ distinct.1).0 }

pub faultless_in_range : (s : Settings) → first_fault s ≡ None → is_in_range s ≡ true
faultless_in_range s none = (faultless s none).in_range

pub within_most : (low high : ℕ) (z : ℤ) → is_within low high z ≡ true → non_negative z ≤ high
within_most low high (pos n) h = leb-true n high (and_parts (nat_le low n) (nat_le n high) h).1
within_most low high (negsuc n) h = absurd (let clash : false ≡ true = h in cc)

pub topics_in_range : (s : Settings) → is_in_range s ≡ true → list_all is_topic_within s.topics ≡ true
topics_in_range s in_range =
    let after_numbers = and_parts (are_numbers_within s) _ in_range in
    let after_host = and_parts (is_host_within s.host) _ after_numbers.1 in
    let topics = and_parts (are_topics_within s.topics) _ after_host.1 in
    (and_parts (nat_le (length s.topics) 1000) (list_all is_topic_within s.topics) topics.0).1

pub few_acls : (s : Settings) → is_in_range s ≡ true → length s.acls ≤ 100000
few_acls s in_range =
    let after_numbers = and_parts (are_numbers_within s) _ in_range in
    let after_host = and_parts (is_host_within s.host) _ after_numbers.1 in
    let after_topics = and_parts (are_topics_within s.topics) _ after_host.1 in
    let acls = and_parts (are_bindings_within s.acls) _ after_topics.1 in
    leb-true (length s.acls) 100000 (and_parts (nat_le (length s.acls) 100000) (list_all is_binding_within s.acls) acls.0).0
