-- A message logs in whom its parts between its NULs name, and nobody else.
use Rattle.std.proofs.Common.{◌≡◌, ◌≢◌, ◌⊎◌, inl, inr, ℕ, suc, ◌+◌, ◌==◌, ◌||◌, not, Bool, true, false, cond, List, [], ◌∷◌, ◌++◌, length, take, drop, Option, Some, None, find, refl, sym, subst, ap, ◌∙◌, arith}
use Rattle.std.specs.Prelude.{codes, nat_lt, is_some, option_map, option_and_then}
use Rattle.std.specs.List.{position, prefix_len}
use Rattle.std.specs.Str.{bytes_eq}
use Rattle.std.proofs.lemmas.Bool.{true≢false, ltb-true, ltb-false, lt-ltb, le-ltb, eqb-true, ne_eqb, eq-eqb, and_parts, and_from, or_cases}
use Rattle.std.proofs.lemmas.Slice.Eq.{bytes_eq-Decides}
use Rattle.settings_text.specs.declared.document.User.{User}
use Rattle.sasl_login.specs.LoginMessage.{is_nul, parts_at_nul, plain_of, is_user, acts_alone, principal_of, login_of}
use Rattle.sasl_login.specs.Plain.{HasNoNul, IsOneOf, IsLogin, IsLoggedIn, LoginIsExact}

-- ---- one NUL

abbrev Cut : Type 0
Cut = List ℕ × List ℕ

abbrev with_byte : ℕ → Cut → Cut
with_byte b c = (b ∷ c.0, c.1)

-- the same as the cut at the first NUL, byte by byte
abbrev cut : List ℕ → Option Cut
cut [] = None
cut (b ∷ bs) = cond (is_nul b) (Some ([], bs)) (option_map (with_byte b) (cut bs))

abbrev cut_at : List ℕ → ℕ → Cut
cut_at bytes at = (take at bytes, drop (at + 1) bytes)

abbrev no_nul_before : List ℕ → ℕ
no_nul_before bs = prefix_len (λ x. not (is_nul x)) bs

less_by_one : (m n : ℕ) → nat_lt (1 + m) (suc n) ≡ nat_lt m n
less_by_one m n = by_test (nat_lt m n) refl where
  by_test : (t : Bool) → nat_lt m n ≡ t → nat_lt (1 + m) (suc n) ≡ t
  by_test true e = lt-ltb (1 + m) (suc n) (omega (arith, ltb-true m n e))
  by_test false e = le-ltb (1 + m) (suc n) (omega (arith, ltb-false m n e))

cut_is : (bytes : List ℕ) → parts_at_nul bytes ≡ cut bytes
cut_is [] = refl
cut_is (b ∷ bs) = by_nul (is_nul b) (cut_is bs) where
  first : (t : Bool) → t ≡ true → option_map (cut_at (b ∷ bs)) (cond t (Some 0) None) ≡ Some ([], bs)
  first t is = ap (λ (t : Bool). option_map (cut_at (b ∷ bs)) (cond t (Some 0) None)) is

  moved : (n : ℕ) → cut_at (b ∷ bs) (1 + n) ≡ with_byte b (cut_at bs n)
  moved n =
      let one : 1 + n ≡ suc n = omega arith in
      let two : 1 + n + 1 ≡ suc (n + 1) = omega arith in
      (λ i. (take (one i) (b ∷ bs), drop (two i) (b ∷ bs)))

  later : (n : ℕ) (t : Bool) → option_map (cut_at (b ∷ bs)) (cond t (Some (1 + n)) None) ≡ option_map (with_byte b) (option_map (cut_at bs) (cond t (Some n) None))
  later n true = ap (λ (c : Cut). Some c) (moved n)
  later n false = refl

  by_nul : (t : Bool) → parts_at_nul bs ≡ cut bs
      → option_map (cut_at (b ∷ bs)) (cond (nat_lt (cond (not t) (1 + no_nul_before bs) 0) (suc (length bs))) (Some (cond (not t) (1 + no_nul_before bs) 0)) None) ≡ cond t (Some ([], bs)) (option_map (with_byte b) (cut bs))
  by_nul true rest = first (nat_lt 0 (suc (length bs))) (lt-ltb 0 (suc (length bs)) (omega arith))
  by_nul false rest =
      ap (λ (t : Bool). option_map (cut_at (b ∷ bs)) (cond t (Some (1 + no_nul_before bs)) None)) (less_by_one (no_nul_before bs) (length bs))
      ∙ later (no_nul_before bs) (nat_lt (no_nul_before bs) (length bs))
      ∙ ap (option_map (with_byte b)) rest

no_nul_is : (b : ℕ) → b ≢ 0 → is_nul b ≡ false
no_nul_is b other = ne_eqb b 0 other

nul_is : (b : ℕ) → is_nul b ≡ true → b ≡ 0
nul_is b is = eqb-true b 0 is

other_is : (b : ℕ) → is_nul b ≡ false → b ≢ 0
other_is b is same = true≢false (sym (eq-eqb b 0 same) ∙ is)

-- what has no NUL stands before the first one
cut_front : (a b : List ℕ) → HasNoNul a → cut (a ++ 0 ∷ b) ≡ Some (a, b)
cut_front [] b none = refl
cut_front (x ∷ a) b none =
    ap (λ (t : Bool). cond t (Some ([], a ++ 0 ∷ b)) (option_map (with_byte x) (cut (a ++ 0 ∷ b)))) (no_nul_is x none.0)
    ∙ ap (option_map (with_byte x)) (cut_front a b none.1)

cut_none : (a : List ℕ) → HasNoNul a → cut a ≡ None
cut_none [] none = refl
cut_none (x ∷ a) none =
    ap (λ (t : Bool). cond t (Some ([], a)) (option_map (with_byte x) (cut a))) (no_nul_is x none.0)
    ∙ ap (option_map (with_byte x)) (cut_none a none.1)

-- and what stands before the first one has none
pub record IsCut (bytes : List ℕ) (c : Cut) : Type 0 where
  pub whole : bytes ≡ c.0 ++ 0 ∷ c.1
  pub front : HasNoNul c.0

cut_back : (bytes : List ℕ) (c : Cut) → cut bytes ≡ Some c → IsCut bytes c
cut_back [] c h = absurd (let clash : None ≡ Some c = h in cc)
cut_back (b ∷ bs) c h = by_nul (is_nul b) refl h (cut_back bs) where
  by_rest : (o : Option Cut) → cut bs ≡ o → is_nul b ≡ false → option_map (with_byte b) o ≡ Some c → ((d : Cut) → cut bs ≡ Some d → IsCut bs d) → IsCut (b ∷ bs) c
  by_rest None so other h back = absurd (let clash : None ≡ Some c = h in cc)
  by_rest (Some d) so other h back =
      let is : with_byte b d ≡ c = cc in
      let rest = back d so in
      subst (IsCut (b ∷ bs)) is (record { whole = ap (λ (l : List ℕ). b ∷ l) rest.whole; front = (other_is b other, rest.front) })

  by_nul : (t : Bool) → is_nul b ≡ t → cond t (Some ([], bs)) (option_map (with_byte b) (cut bs)) ≡ Some c → ((d : Cut) → cut bs ≡ Some d → IsCut bs d) → IsCut (b ∷ bs) c
  by_nul true nul h back =
      let is : ([], bs) ≡ c = cc in
      subst (IsCut (b ∷ bs)) is (record { whole = ap (λ (x : ℕ). x ∷ bs) (nul_is b nul); front = tt })
  by_nul false other h back = by_rest (cut bs) refl other h back

none_of : (c : Cut) → Some c ≡ None → ⊥
none_of c h = cc

none_back : (bytes : List ℕ) → cut bytes ≡ None → HasNoNul bytes
none_back [] h = tt
none_back (b ∷ bs) h = by_nul (is_nul b) refl h (none_back bs) where
  by_rest : (o : Option Cut) → cut bs ≡ o → option_map (with_byte b) o ≡ None → cut bs ≡ None
  by_rest None so h = so
  by_rest (Some d) so h = absurd (let clash : Some (with_byte b d) ≡ None = h in cc)

  by_nul : (t : Bool) → is_nul b ≡ t → cond t (Some ([], bs)) (option_map (with_byte b) (cut bs)) ≡ None → (cut bs ≡ None → HasNoNul bs) → HasNoNul (b ∷ bs)
  by_nul true nul h back = absurd (none_of ([], bs) h)
  by_nul false other h back = (other_is b other, back (by_rest (cut bs) refl h))

-- ---- the parts of a message

-- whether a NUL stands in it
has_nul : (bytes : List ℕ) → is_some (position is_nul bytes) ≡ is_some (cut bytes)
has_nul bytes = kept (position is_nul bytes) ∙ ap (λ (o : Option Cut). is_some o) (cut_is bytes) where
  kept : (o : Option ℕ) → is_some o ≡ is_some (option_map (cut_at bytes) o)
  kept None = refl
  kept (Some at) = refl

abbrev Parts : Type 0
Parts = List ℕ × List ℕ × List ℕ

abbrev third : List ℕ → Bool → Cut → Option Parts
third a b c = cond b None (Some (a, c.0, c.1))

abbrev parts_by : Option Cut → Option Parts
parts_by o = option_and_then (λ (a : Cut). option_and_then (λ (c : Cut). third a.0 (is_some (position is_nul c.1)) c) (parts_at_nul a.1)) o

spelled_parts : (a n p : List ℕ) → HasNoNul a → HasNoNul n → HasNoNul p → plain_of (a ++ 0 ∷ (n ++ 0 ∷ p)) ≡ Some (a, n, p)
spelled_parts a n p first second last =
    ap parts_by (cut_is (a ++ 0 ∷ (n ++ 0 ∷ p)) ∙ cut_front a (n ++ 0 ∷ p) first)
    ∙ ap (option_and_then (λ (c : Cut). third a (is_some (position is_nul c.1)) c)) (cut_is (n ++ 0 ∷ p) ∙ cut_front n p second)
    ∙ ap (λ (b : Bool). third a b (n, p)) (has_nul p ∙ ap (λ (o : Option Cut). is_some o) (cut_none p last))

pub record ArePartsOf (message : List ℕ) (p : Parts) : Type 0 where
  pub whole : message ≡ p.0 ++ 0 ∷ (p.1 ++ 0 ∷ p.2)
  pub second : HasNoNul p.1
  pub last : HasNoNul p.2

parts_back : (message : List ℕ) (p : Parts) → plain_of message ≡ Some p → ArePartsOf message p
parts_back message p h = by_first (parts_at_nul message) (sym (cut_is message)) h where
  by_nul : (a c : Cut) (b : Bool) → message ≡ a.0 ++ 0 ∷ a.1 → IsCut a.1 c → is_some (position is_nul c.1) ≡ b → third a.0 b c ≡ Some p → ArePartsOf message p
  by_nul a c true whole rest is h = absurd (let clash : None ≡ Some p = h in cc)
  by_nul a c false whole rest is h =
      let same : (a.0, c.0, c.1) ≡ p = cc in
      let none : cut c.1 ≡ None = is_none (cut c.1) (sym (has_nul c.1) ∙ is) in
      subst (ArePartsOf message) same (record { whole = whole ∙ ap (λ (l : List ℕ). a.0 ++ 0 ∷ l) rest.whole; second = rest.front; last = none_back c.1 none }) where
        is_none : (o : Option Cut) → is_some o ≡ false → o ≡ None
        is_none None h = refl
        is_none (Some d) h = absurd (true≢false h)

  by_second : (a : Cut) (o : Option Cut) → message ≡ a.0 ++ 0 ∷ a.1 → cut a.1 ≡ o → option_and_then (λ (c : Cut). third a.0 (is_some (position is_nul c.1)) c) o ≡ Some p → ArePartsOf message p
  by_second a None whole so h = absurd (let clash : None ≡ Some p = h in cc)
  by_second a (Some c) whole so h = by_nul a c (is_some (position is_nul c.1)) whole (cut_back a.1 c so) refl h

  by_first : (o : Option Cut) → cut message ≡ o → parts_by o ≡ Some p → ArePartsOf message p
  by_first None so h = absurd (let clash : None ≡ Some p = h in cc)
  by_first (Some a) so h = by_second a (parts_at_nul a.1) (cut_back message a so).whole (sym (cut_is a.1)) h

-- ---- the user

same_bytes : (a b : List ℕ) → bytes_eq a b ≡ true → a ≡ b
same_bytes a b h = (bytes_eq-Decides a b).0 h

itself : (a : List ℕ) → bytes_eq a a ≡ true
itself a = (bytes_eq-Decides a a).1 refl

is_itself : (u : User) → is_user u.name u.password u ≡ true
is_itself u = and_from (bytes_eq u.name u.name) (bytes_eq u.password u.password) (itself u.name) (itself u.password)

is_same : (u v : User) → is_user u.name u.password v ≡ true → v ≡ u
is_same u v h =
    let both = and_parts (bytes_eq v.name u.name) (bytes_eq v.password u.password) h in
    let name = same_bytes v.name u.name both.0 in
    let password = same_bytes v.password u.password both.1 in
    (λ i. record { name = name i; password = password i })

found : (users : List User) (u : User) → IsOneOf users u → find (is_user u.name u.password) users ≡ Some u
found [] u known = absurd known
found (v ∷ vs) u known = by_test (is_user u.name u.password v) refl known (found vs u) where
  by_known : is_user u.name u.password v ≡ false → (v ≡ u) ⊎ IsOneOf vs u → (IsOneOf vs u → find (is_user u.name u.password) vs ≡ Some u) → find (is_user u.name u.password) vs ≡ Some u
  by_known other (inl same) more = absurd (true≢false (sym (is_itself u) ∙ ap (is_user u.name u.password) (sym same) ∙ other))
  by_known other (inr later) more = more later

  by_test : (t : Bool) → is_user u.name u.password v ≡ t → (v ≡ u) ⊎ IsOneOf vs u → (IsOneOf vs u → find (is_user u.name u.password) vs ≡ Some u) → cond t (Some v) (find (is_user u.name u.password) vs) ≡ Some u
  by_test true is known more = ap (λ (w : User). Some w) (is_same u v is)
  by_test false other known more = by_known other known more

pub record IsFound (users : List User) (name password : List ℕ) (u : User) : Type 0 where
  pub known : IsOneOf users u
  pub named : u.name ≡ name
  pub right : u.password ≡ password

found_back : (users : List User) (name password : List ℕ) (u : User) → find (is_user name password) users ≡ Some u → IsFound users name password u
found_back [] name password u h = absurd (let clash : None ≡ Some u = h in cc)
found_back (v ∷ vs) name password u h = by_test (is_user name password v) refl h (found_back vs name password u) where
  by_test : (t : Bool) → is_user name password v ≡ t → cond t (Some v) (find (is_user name password) vs) ≡ Some u → (find (is_user name password) vs ≡ Some u → IsFound vs name password u) → IsFound (v ∷ vs) name password u
  by_test true is h more =
      let same : v ≡ u = cc in
      let both = and_parts (bytes_eq v.name name) (bytes_eq v.password password) is in
      subst (IsFound (v ∷ vs) name password) same (record { known = inl refl; named = same_bytes v.name name both.0; right = same_bytes v.password password both.1 })
  by_test false other h more =
      let rest = more h in
      record { known = inr rest.known; named = rest.named; right = rest.right }

no_bytes : (a : List ℕ) → (length a == 0) ≡ true → a ≡ []
no_bytes [] h = refl
no_bytes (x ∷ a) h = absurd (let none : length (x ∷ a) ≡ 0 = eqb-true (length (x ∷ a)) 0 h in omega (arith, none))

alone_is : (a n p : List ℕ) → (a ≡ []) ⊎ (a ≡ n) → acts_alone (a, n, p) ≡ true
alone_is a n p (inl none) = ap (λ (l : List ℕ). length l == 0 || bytes_eq l n) none
alone_is a n p (inr own) = second (length a == 0) (bytes_eq a n) (ap (λ (l : List ℕ). bytes_eq l n) own ∙ itself n) where
  second : (x y : Bool) → y ≡ true → (x || y) ≡ true
  second true y h = refl
  second false y h = h

alone_back : (p : Parts) → acts_alone p ≡ true → (p.0 ≡ []) ⊎ (p.0 ≡ p.1)
alone_back p h = by_case (or_cases (length p.0 == 0) (bytes_eq p.0 p.1) h) where
  by_case : ((length p.0 == 0) ≡ true) ⊎ (bytes_eq p.0 p.1 ≡ true) → (p.0 ≡ []) ⊎ (p.0 ≡ p.1)
  by_case (inl none) = inl (no_bytes p.0 none)
  by_case (inr own) = inr (same_bytes p.0 p.1 own)

abbrev user_by : List User → Option Parts → Option User
user_by users o = option_and_then (λ (p : Parts). cond (acts_alone p) (find (is_user p.1 p.2) users) None) o

no_nul_own : (a n : List ℕ) → HasNoNul n → (a ≡ []) ⊎ (a ≡ n) → HasNoNul a
no_nul_own a n none (inl nothing) = subst HasNoNul (sym nothing) tt
no_nul_own a n none (inr own) = subst HasNoNul (sym own) none

logs_in : (users : List User) (message : List ℕ) (u : User) → IsOneOf users u → IsLogin message u → login_of users message ≡ Some (codes "User:" ++ u.name)
logs_in users message u known login =
    ap (λ (o : Option User). option_map principal_of o)
    (ap (λ (m : List ℕ). user_by users (plain_of m)) login.spelled
    ∙ ap (user_by users) (spelled_parts login.authzid u.name u.password (no_nul_own login.authzid u.name login.name login.own) login.name login.password)
    ∙ ap (λ (b : Bool). cond b (find (is_user u.name u.password) users) None) (alone_is login.authzid u.name u.password login.own)
    ∙ found users u known)

alone : (users : List User) (message who : List ℕ) → login_of users message ≡ Some who → IsLoggedIn users message who
alone users message who h = by_parts (plain_of message) refl h where
  by_user : (p : Parts) (o : Option User) → ArePartsOf message p → (p.0 ≡ []) ⊎ (p.0 ≡ p.1) → find (is_user p.1 p.2) users ≡ o → option_map principal_of o ≡ Some who → IsLoggedIn users message who
  by_user p None parts own so h = absurd (let clash : None ≡ Some who = h in cc)
  by_user p (Some u) parts own so h =
      let is = found_back users p.1 p.2 u so in
      let told : codes "User:" ++ u.name ≡ who = cc in
      record {
        user = u;
        known = is.known;
        login = record {
          authzid = p.0;
          spelled = parts.whole ∙ (λ i. p.0 ++ 0 ∷ (sym is.named i ++ 0 ∷ sym is.right i));
          own = subst (λ (n : List ℕ). (p.0 ≡ []) ⊎ (p.0 ≡ n)) (sym is.named) own;
          name = subst HasNoNul (sym is.named) parts.second;
          password = subst HasNoNul (sym is.right) parts.last;
        };
        named = sym told;
      }

  by_own : (p : Parts) (b : Bool) → ArePartsOf message p → acts_alone p ≡ b → option_map principal_of (cond b (find (is_user p.1 p.2) users) None) ≡ Some who → IsLoggedIn users message who
  by_own p true parts own h = by_user p (find (is_user p.1 p.2) users) parts (alone_back p own) refl h
  by_own p false parts own h = absurd (let clash : None ≡ Some who = h in cc)

  by_parts : (o : Option Parts) → plain_of message ≡ o → option_map principal_of (user_by users o) ≡ Some who → IsLoggedIn users message who
  by_parts None so h = absurd (let clash : None ≡ Some who = h in cc)
  by_parts (Some p) so h = by_own p (acts_alone p) (parts_back message p so) refl h

pub exact : (users : List User) (message : List ℕ) → LoginIsExact users message
exact users message = record { logs_in = logs_in users message; alone = alone users message }
