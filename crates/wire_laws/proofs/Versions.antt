-- A request is for the api that its number and version name, and no other rule says so.
use Rattle.std.proofs.Common.{◌≡◌, ◌≢◌, ◌&&◌, ◌≤◌, arith, ℕ, zero, suc, ℤ, pos, negsuc, Bool, true, false, Option, Some, None, refl, sym, ap, ◌∙◌, subst, inl, inr, nat_le}
use Rattle.std.specs.Prelude.{int_le}
use Rattle.std.specs.Option.{option_and_then}
use Rattle.std.specs.Ordering.{int_eq}
use Rattle.std.specs.Bool.{Decides}
use Rattle.std.proofs.lemmas.Bool.Decides.{Decides-int_eq, Decides-and}
use Rattle.wire_types.specs.CodedLaws.{find-passes}
use Rattle.msg_admin.specs.declared.api_key.ApiKey.{ApiKey}
use Rattle.msg_admin.specs.declared.api_key.ApiKey.TheVariants as keys
use Rattle.msg_admin.specs.ApiKey.{number_of, is_served, all_keys, key_at}
use Rattle.msg_admin.specs.Api.{api_at, api_if_served}
use Rattle.wire_laws.specs.Tables.{IsInNoRow, IsTheOnly}
use Rattle.wire_laws.specs.Versions.{served_versions, ReadsVersions, api_named}
use Rattle.wire_laws.specs.WrongVersions.{later_versions_are_served}
use Rattle.wire_laws.proofs.Tables.{either, one_reader}

-- ---- versions that aren't served

between : (first n last : ℕ) → (nat_le first n && nat_le n last) ≡ true → (first ≤ n) × (n ≤ last)
between first n last within = grind arith

-- an api that is served in one version is served in no other
alone : (v : ℕ) (version : ℤ) → version ≢ pos v → (int_le (pos v) version && int_le version (pos v)) ≡ false
alone v (negsuc n) other = refl
alone v (pos n) other =
    elim (either (nat_le v n && nat_le n v)) [
      | inl within ↦
          let same : n ≡ v = omega (arith, between v n v within) in
          absurd (other (ap (λ m. pos m) same))
      | inr beside ↦ beside
    ]

-- one that is served in six is served in no other
beside_six : (version : ℤ) → version ≢ pos 0 → version ≢ pos 1 → version ≢ pos 2 → version ≢ pos 3 → version ≢ pos 4 → version ≢ pos 5 → (int_le (pos 0) version && int_le version (pos 5)) ≡ false
beside_six (negsuc n) a b c d e f = refl
beside_six (pos zero) a b c d e f = absurd (a refl)
beside_six (pos (suc zero)) a b c d e f = absurd (b refl)
beside_six (pos (suc (suc zero))) a b c d e f = absurd (c refl)
beside_six (pos (suc (suc (suc zero)))) a b c d e f = absurd (d refl)
beside_six (pos (suc (suc (suc (suc zero))))) a b c d e f = absurd (e refl)
beside_six (pos (suc (suc (suc (suc (suc zero)))))) a b c d e f = absurd (f refl)
beside_six (pos (suc (suc (suc (suc (suc (suc n))))))) a b c d e f =
    elim (either (nat_le 0 (suc (suc (suc (suc (suc (suc n)))))) && nat_le (suc (suc (suc (suc (suc (suc n)))))) 5)) [
      | inl within ↦ absurd (omega (arith, between 0 (suc (suc (suc (suc (suc (suc n)))))) 5 within))
      | inr beside ↦ beside
    ]

not_served : (key : ApiKey) (version : ℤ) → is_served key version ≡ false → api_if_served key version ≡ None
not_served key version beside = rw beside refl

-- the number and the version of a served api stand in a row
in_row : (n : ℤ) (v w : ℤ) → ◌≢◌ {A = ℤ × ℤ} (n, v) (n, w) → v ≢ w
in_row n v w apart same = apart (ap (λ x. (n, x)) same)

of_key : (key : ApiKey) (version : ℤ) → IsInNoRow (number_of key, version) served_versions → api_if_served key version ≡ None
of_key keys.Produce version aside = not_served keys.Produce version (alone 3 version (in_row (pos 0) version (pos 3) aside.0))
of_key keys.Fetch version aside = not_served keys.Fetch version (alone 4 version (in_row (pos 1) version (pos 4) aside.1.0))
of_key keys.ListOffsets version aside = not_served keys.ListOffsets version (alone 2 version (in_row (pos 2) version (pos 2) aside.1.1.0))
of_key keys.Metadata version aside = not_served keys.Metadata version (alone 1 version (in_row (pos 3) version (pos 1) aside.1.1.1.0))
of_key keys.OffsetCommit version aside = not_served keys.OffsetCommit version (alone 2 version (in_row (pos 8) version (pos 2) aside.1.1.1.1.0))
of_key keys.OffsetFetch version aside = not_served keys.OffsetFetch version (alone 7 version (in_row (pos 9) version (pos 7) aside.1.1.1.1.1.0))
of_key keys.FindCoordinator version aside = not_served keys.FindCoordinator version (alone 1 version (in_row (pos 10) version (pos 1) aside.1.1.1.1.1.1.0))
of_key keys.JoinGroup version aside = not_served keys.JoinGroup version (alone 2 version (in_row (pos 11) version (pos 2) aside.1.1.1.1.1.1.1.0))
of_key keys.Heartbeat version aside = not_served keys.Heartbeat version (alone 1 version (in_row (pos 12) version (pos 1) aside.1.1.1.1.1.1.1.1.0))
of_key keys.LeaveGroup version aside = not_served keys.LeaveGroup version (alone 1 version (in_row (pos 13) version (pos 1) aside.1.1.1.1.1.1.1.1.1.0))
of_key keys.SyncGroup version aside = not_served keys.SyncGroup version (alone 1 version (in_row (pos 14) version (pos 1) aside.1.1.1.1.1.1.1.1.1.1.0))
of_key keys.SaslHandshake version aside = not_served keys.SaslHandshake version (alone 1 version (in_row (pos 17) version (pos 1) aside.1.1.1.1.1.1.1.1.1.1.1.0))
of_key keys.ApiVersions version aside = not_served keys.ApiVersions version (alone 0 version (in_row (pos 18) version (pos 0) aside.1.1.1.1.1.1.1.1.1.1.1.1.0))
of_key keys.InitProducerId version aside = not_served keys.InitProducerId version (alone 0 version (in_row (pos 22) version (pos 0) aside.1.1.1.1.1.1.1.1.1.1.1.1.1.0))
of_key keys.AddPartitionsToTxn version aside = not_served keys.AddPartitionsToTxn version (alone 0 version (in_row (pos 24) version (pos 0) aside.1.1.1.1.1.1.1.1.1.1.1.1.1.1.0))
of_key keys.AddOffsetsToTxn version aside = not_served keys.AddOffsetsToTxn version (alone 0 version (in_row (pos 25) version (pos 0) aside.1.1.1.1.1.1.1.1.1.1.1.1.1.1.1.0))
of_key keys.EndTxn version aside = not_served keys.EndTxn version (beside_six version (in_row (pos 26) version (pos 0) aside.1.1.1.1.1.1.1.1.1.1.1.1.1.1.1.1.0) (in_row (pos 26) version (pos 1) aside.1.1.1.1.1.1.1.1.1.1.1.1.1.1.1.1.1.0) (in_row (pos 26) version (pos 2) aside.1.1.1.1.1.1.1.1.1.1.1.1.1.1.1.1.1.1.0) (in_row (pos 26) version (pos 3) aside.1.1.1.1.1.1.1.1.1.1.1.1.1.1.1.1.1.1.1.0) (in_row (pos 26) version (pos 4) aside.1.1.1.1.1.1.1.1.1.1.1.1.1.1.1.1.1.1.1.1.0) (in_row (pos 26) version (pos 5) aside.1.1.1.1.1.1.1.1.1.1.1.1.1.1.1.1.1.1.1.1.1.0))
of_key keys.TxnOffsetCommit version aside = not_served keys.TxnOffsetCommit version (alone 3 version (in_row (pos 28) version (pos 3) aside.1.1.1.1.1.1.1.1.1.1.1.1.1.1.1.1.1.1.1.1.1.1.0))
of_key keys.DescribeAcls version aside = not_served keys.DescribeAcls version (alone 1 version (in_row (pos 29) version (pos 1) aside.1.1.1.1.1.1.1.1.1.1.1.1.1.1.1.1.1.1.1.1.1.1.1.0))
of_key keys.CreateAcls version aside = not_served keys.CreateAcls version (alone 1 version (in_row (pos 30) version (pos 1) aside.1.1.1.1.1.1.1.1.1.1.1.1.1.1.1.1.1.1.1.1.1.1.1.1.0))
of_key keys.DeleteAcls version aside = not_served keys.DeleteAcls version (alone 1 version (in_row (pos 31) version (pos 1) aside.1.1.1.1.1.1.1.1.1.1.1.1.1.1.1.1.1.1.1.1.1.1.1.1.1.0))
of_key keys.SaslAuthenticate version aside = not_served keys.SaslAuthenticate version (alone 0 version (in_row (pos 36) version (pos 0) aside.1.1.1.1.1.1.1.1.1.1.1.1.1.1.1.1.1.1.1.1.1.1.1.1.1.1.0))

of_number : (number version : ℤ) (found : Option ApiKey) → key_at number ≡ found → IsInNoRow (number, version) served_versions → option_and_then (λ key. api_if_served key version) found ≡ None
unfolding key_at
of_number number version None e aside = refl
of_number number version (Some key) e aside =
    let own : number_of key ≡ number = (Decides-int_eq (number_of key) number).0 (find-passes (λ k. int_eq (number_of k) number) all_keys key e) in
    of_key key version (subst (λ n. IsInNoRow (n, version) served_versions) (sym own) aside)

pub versions-read : ReadsVersions api_named
unfolding api_at key_at all_keys
versions-read = record {
  words = (refl, (refl, (refl, (refl, (refl, (refl, (refl, (refl, (refl, (refl, (refl, (refl, (refl, (refl, (refl, (refl, (refl, (refl, (refl, (refl, (refl, (refl, (refl, (refl, (refl, (refl, (refl, tt)))))))))))))))))))))))))));
  nothing = λ n aside. of_number n.0 n.1 (key_at n.0) refl aside;
}

-- ---- no other rule

same_pair : ℤ × ℤ → ℤ × ℤ → Bool
same_pair a b = int_eq a.0 b.0 && int_eq a.1 b.1

pair_of : (a b : ℤ × ℤ) → (a.0 ≡ b.0) × (a.1 ≡ b.1) → a ≡ b
pair_of a b same = ap (λ x. (x, a.1)) same.0 ∙ ap (λ y. (b.0, y)) same.1

pair_decides : (a b : ℤ × ℤ) → Decides (same_pair a b) (a ≡ b)
unfolding same_pair
pair_decides a b =
    let both = Decides-and (int_eq a.0 b.0) (int_eq a.1 b.1) (Decides-int_eq a.0 b.0) (Decides-int_eq a.1 b.1) in
    (λ h. pair_of a b (both.0 h), λ e. both.1 (ap (λ x. x.0) e, ap (λ x. x.1) e))

pub versions-read-only : IsTheOnly ReadsVersions api_named
versions-read-only = one_reader same_pair pair_decides served_versions api_named versions-read

-- ---- refuted

-- Fetch in version 5
pub not_later : ¬ ReadsVersions later_versions_are_served
unfolding key_at all_keys
not_later law =
    let aside : IsInNoRow (pos 1, pos 5) served_versions = ((λ e. absurd (let clash : pos 1 ≡ pos 0 = ap (λ x. x.0) e in cc)), ((λ e. absurd (let clash : pos 5 ≡ pos 4 = ap (λ x. x.1) e in cc)), ((λ e. absurd (let clash : pos 1 ≡ pos 2 = ap (λ x. x.0) e in cc)), ((λ e. absurd (let clash : pos 1 ≡ pos 3 = ap (λ x. x.0) e in cc)), ((λ e. absurd (let clash : pos 1 ≡ pos 8 = ap (λ x. x.0) e in cc)), ((λ e. absurd (let clash : pos 1 ≡ pos 9 = ap (λ x. x.0) e in cc)), ((λ e. absurd (let clash : pos 1 ≡ pos 10 = ap (λ x. x.0) e in cc)), ((λ e. absurd (let clash : pos 1 ≡ pos 11 = ap (λ x. x.0) e in cc)), ((λ e. absurd (let clash : pos 1 ≡ pos 12 = ap (λ x. x.0) e in cc)), ((λ e. absurd (let clash : pos 1 ≡ pos 13 = ap (λ x. x.0) e in cc)), ((λ e. absurd (let clash : pos 1 ≡ pos 14 = ap (λ x. x.0) e in cc)), ((λ e. absurd (let clash : pos 1 ≡ pos 17 = ap (λ x. x.0) e in cc)), ((λ e. absurd (let clash : pos 1 ≡ pos 18 = ap (λ x. x.0) e in cc)), ((λ e. absurd (let clash : pos 1 ≡ pos 22 = ap (λ x. x.0) e in cc)), ((λ e. absurd (let clash : pos 1 ≡ pos 24 = ap (λ x. x.0) e in cc)), ((λ e. absurd (let clash : pos 1 ≡ pos 25 = ap (λ x. x.0) e in cc)), ((λ e. absurd (let clash : pos 1 ≡ pos 26 = ap (λ x. x.0) e in cc)), ((λ e. absurd (let clash : pos 1 ≡ pos 26 = ap (λ x. x.0) e in cc)), ((λ e. absurd (let clash : pos 1 ≡ pos 26 = ap (λ x. x.0) e in cc)), ((λ e. absurd (let clash : pos 1 ≡ pos 26 = ap (λ x. x.0) e in cc)), ((λ e. absurd (let clash : pos 1 ≡ pos 26 = ap (λ x. x.0) e in cc)), ((λ e. absurd (let clash : pos 1 ≡ pos 26 = ap (λ x. x.0) e in cc)), ((λ e. absurd (let clash : pos 1 ≡ pos 28 = ap (λ x. x.0) e in cc)), ((λ e. absurd (let clash : pos 1 ≡ pos 29 = ap (λ x. x.0) e in cc)), ((λ e. absurd (let clash : pos 1 ≡ pos 30 = ap (λ x. x.0) e in cc)), ((λ e. absurd (let clash : pos 1 ≡ pos 31 = ap (λ x. x.0) e in cc)), ((λ e. absurd (let clash : pos 1 ≡ pos 36 = ap (λ x. x.0) e in cc)), tt))))))))))))))))))))))))))) in
    let clash : later_versions_are_served (pos 1, pos 5) ≡ None = law.nothing (pos 1, pos 5) aside in
    absurd (grind arith)
