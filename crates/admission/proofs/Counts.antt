-- The counts of hosts as a table keeps them: what is looked up, and what a change leaves there.
use Rattle.std.proofs.Common.{◌≡◌, ◌≢◌, ℕ, ◌+◌, ◌<◌, ◌≤◌, List, [], ◌∷◌, Option, Some, None, Bool, true, false, cond, refl, sym, subst, ap, ◌∙◌, arith, rules}
use Rattle.std.specs.Prelude.{IfSome, IfNone, IsSome, unwrap_or, string_bytes}
use Rattle.std.specs.HashMap.{HashMap, get_by_text, Updates, UpdatesBy}
use Rattle.std.specs.String.{string_eq}
use Rattle.std.specs.Map.{lookup, update}
use Rattle.std.specs.Str.{bytes_eq}
use Rattle.std.specs.declared.string.String.{String}
use Rattle.std.specs.declared.alloc.Global.{Global}
use Rattle.std.proofs.lemmas.Slice.Eq.{bytes_eq-Decides}
use Rattle.std.proofs.lemmas.Map.Text.{hash_map_updates_text}
use Rattle.std.proofs.lemmas.Bool.{false_from_ne_true}
use Rattle.admission.specs.Quota.{QuotaValue, HasOneMore, connections, counts_of}
use Rattle.admission.specs.Kept.{IsKept, connections_in}

-- a host is found among the counts as in the table
looked : (es : List (String Global × ℕ)) (host : List ℕ) → lookup (bytes_eq host) (counts_of es) ≡ lookup (λ k. bytes_eq host (string_bytes k)) es
looked [] host = refl
looked (e ∷ es) host = ap (λ (o : Option ℕ). cond (bytes_eq host (string_bytes e.0)) (Some e.1) o) (looked es host)

abbrev pub Table : Type 0 → Type 0
Table S = HashMap (String Global) ℕ S

-- what contracts see of a table
abbrev pub seen : {S : Type 0} → ℕ → Table S → QuotaValue
seen most table = record { most = most; counts = counts_of table.entries }

-- the table with w at a host, and at every other what it had
abbrev pub Puts : {S : Type 0} → Table S → Table S → List ℕ → Option ℕ → Type 0
Puts m n host w = (cs : List ℕ) → get_by_text n cs ≡ update bytes_eq (get_by_text m) host w cs

module _ {S : Type 0} where
  pub connections_seen : (most : ℕ) (m : Table S) (host : List ℕ) → connections (seen most m) host ≡ connections_in m host
  connections_seen most m host = ap (λ (o : Option ℕ). unwrap_or o 0) (looked m.entries host)

  -- what is told of a host that is asked for by its text
  pub count_found : (most : ℕ) (m : Table S) (asked host : List ℕ) (count : ℕ) → asked ≡ host → Some count ≡ get_by_text m asked → count ≡ connections (seen most m) host
  count_found most m asked host count same found = ap (λ (o : Option ℕ). unwrap_or o 0) (found ∙ ap (get_by_text m) same) ∙ sym (connections_seen most m host)

  pub count_none : (most : ℕ) (m : Table S) (asked host : List ℕ) → asked ≡ host → None ≡ get_by_text m asked → 0 ≡ connections (seen most m) host
  count_none most m asked host same found = ap (λ (o : Option ℕ). unwrap_or o 0) (found ∙ ap (get_by_text m) same) ∙ sym (connections_seen most m host)

  pub found_within : (most : ℕ) (m : Table S) (asked : List ℕ) (count : ℕ) → IsKept most m → Some count ≡ get_by_text m asked → count ≤ most
  found_within most m asked count kept found = subst (λ (o : Option ℕ). unwrap_or o 0 ≤ most) (sym found) (kept.within asked)

  -- no host is seen with more than it may have
  pub within_seen : (most : ℕ) (m : Table S) → IsKept most m → (host : List ℕ) → connections (seen most m) host ≤ most
  within_seen most m kept host = omega (arith, connections_seen most m host, kept.within host)

  -- a count that is entered under a key
  pub put_in : (m n : Table S) (key : String Global) (host : List ℕ) (count : ℕ) → string_bytes key ≡ host → Updates string_eq m n key (Some count) → Puts m n host (Some count)
  put_in m n key host count same updates = subst (λ (name : List ℕ). Puts m n name (Some count)) same (hash_map_updates_text (string_bytes key) m n (Some count) updates)

  -- one that is written or taken out where it stands
  pub put_at : (m n : Table S) (asked host : List ℕ) (w : Option ℕ) → asked ≡ host → UpdatesBy string_eq (λ k. bytes_eq asked (string_bytes k)) m n w → Puts m n host w
  put_at m n asked host w same updates = subst (λ (name : List ℕ). Puts m n name w) same (hash_map_updates_text asked m n w updates)

  pub kept_after : (most : ℕ) (m n : Table S) (host : List ℕ) (w : Option ℕ) → Puts m n host w → unwrap_or w 0 ≤ most → IfSome w (λ count. 0 < count) → IsKept most m → IsKept most n
  kept_after most m n host w puts few some kept = record {
    within = λ cs. subst (λ (o : Option ℕ). unwrap_or o 0 ≤ most) (sym (puts cs)) (few_at (bytes_eq host cs) (get_by_text m cs) (kept.within cs));
    some = λ cs. subst (λ (o : Option ℕ). IfSome o (λ count. 0 < count)) (sym (puts cs)) (some_at (bytes_eq host cs) (get_by_text m cs) (kept.some cs));
  }
    where
      few_at : (b : Bool) (o : Option ℕ) → unwrap_or o 0 ≤ most → unwrap_or (cond b w o) 0 ≤ most
      few_at true o h = few
      few_at false o h = h

      some_at : (b : Bool) (o : Option ℕ) → IfSome o (λ count. 0 < count) → IfSome (cond b w o) (λ count. 0 < count)
      some_at true o h = some
      some_at false o h = h

  pub here_after : (m n : Table S) (host : List ℕ) (w : Option ℕ) → Puts m n host w → connections_in n host ≡ unwrap_or w 0
  here_after m n host w puts = ap (λ (o : Option ℕ). unwrap_or o 0) (puts host ∙ ap (λ (b : Bool). cond b w (get_by_text m host)) ((bytes_eq-Decides host host).1 refl))

  pub other_after : (m n : Table S) (host : List ℕ) (w : Option ℕ) → Puts m n host w → (other : List ℕ) → other ≢ host → connections_in n other ≡ connections_in m other
  other_after m n host w puts other apart =
      ap (λ (o : Option ℕ). unwrap_or o 0) (puts other ∙ ap (λ (b : Bool). cond b w (get_by_text m other)) (false_from_ne_true (bytes_eq host other) (λ same. apart (sym ((bytes_eq-Decides host other).0 same)))))

  -- it has one more
  pub one_more : (most : ℕ) (m n : Table S) (host : List ℕ) (w : Option ℕ) → Puts m n host w → unwrap_or w 0 ≡ connections (seen most m) host + 1 → HasOneMore (seen most m) (seen most n) host
  one_more most m n host w puts more = record {
    most = refl;
    here = connections_seen most n host ∙ here_after m n host w puts ∙ more;
    others = λ other apart. connections_seen most n other ∙ other_after m n host w puts other apart ∙ sym (connections_seen most m other);
  }

  -- it had one more
  pub one_less : (most : ℕ) (m n : Table S) (host : List ℕ) (w : Option ℕ) → Puts m n host w → connections (seen most m) host ≡ unwrap_or w 0 + 1 → HasOneMore (seen most n) (seen most m) host
  one_less most m n host w puts less = record {
    most = refl;
    here = omega (arith, less, here_after m n host w puts, connections_seen most n host);
    others = λ other apart. connections_seen most m other ∙ sym (other_after m n host w puts other apart) ∙ sym (connections_seen most n other);
  }

  -- the same entries tell the same
  pub kept_same : (most : ℕ) (m n : Table S) → n.entries ≡ m.entries → IsKept most m → IsKept most n
  kept_same most m n same kept = record {
    within = λ cs. subst (λ (es : List (String Global × ℕ)). unwrap_or (lookup (λ k. bytes_eq cs (string_bytes k)) es) 0 ≤ most) (sym same) (kept.within cs);
    some = λ cs. subst (λ (es : List (String Global × ℕ)). IfSome (lookup (λ k. bytes_eq cs (string_bytes k)) es) (λ count. 0 < count)) (sym same) (kept.some cs);
  }

  -- a host that has no connection has no entry, and nothing is taken out for it
  pub nothing_out : (most : ℕ) (m n : Table S) (asked host : List ℕ) (o : Option ℕ) → asked ≡ host → o ≡ get_by_text m asked → IsKept most m → connections (seen most m) host ≡ 0 → IfNone o (n.entries ≡ m.entries) → seen most n ≡ seen most m
  nothing_out most m n asked host None same found kept none out = ap (λ (es : List (String Global × ℕ)). record { most = most; counts = counts_of es }) out
  nothing_out most m n asked host (Some count) same found kept none out =
      let held : 0 < count = subst (λ (o : Option ℕ). IfSome o (λ count. 0 < count)) (sym found) (kept.some asked) in
      absurd (omega (arith, held, none, count_found most m asked host count same found))

pub found_some : (o : Option ℕ) (count : ℕ) → Some count ≡ o → IsSome o
found_some o count found = subst (λ (o : Option ℕ). IsSome o) found (search rules)
