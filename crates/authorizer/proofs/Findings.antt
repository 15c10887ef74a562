-- Findings in parts of a list.
use Rattle.std.proofs.Common.{◌≡◌, ℕ, min, List, [], ◌∷◌, filter, Option, Some, None, Bool, true, false, cond, ◌&&◌, ◌||◌, refl, sym, ap, ◌∙◌, arith}
use Rattle.std.specs.List.{list_any, AllByRecursion}
use Rattle.acl_binding.specs.declared.binding.Numbered.{Numbered}
use Rattle.acl_binding.specs.declared.question.Question.{Question}
use Rattle.acl_binding.specs.Binding.{covers}
use Rattle.acl_binding.specs.Verdict.{is_denial, is_grant, denials, least_of, lesser_of}
use Rattle.authorizer.specs.Looking.{finding_of, min_some, combined_finding}
use Rattle.authorizer.specs.declared.looking.Finding.{Finding}

-- ---- the lesser of two that may be there

min_twice : (n a b : ℕ) → min (min n a) (min n b) ≡ min n (min a b)
min_twice n a b = omega arith

min_left : (n a b : ℕ) → min (min n a) b ≡ min n (min a b)
min_left n a b = omega arith

min_right : (n a b : ℕ) → min a (min n b) ≡ min n (min a b)
min_right n a b = omega arith

min_self : (n b : ℕ) → min n (min n b) ≡ min n b
min_self n b = omega arith

min_same : (n : ℕ) → min n n ≡ n
min_same n = omega arith

min_swap : (n a : ℕ) → min a n ≡ min n a
min_swap n a = omega arith

min_some_both : (n : ℕ) (a b : Option ℕ) → min_some (Some (lesser_of n a)) (Some (lesser_of n b)) ≡ Some (lesser_of n (min_some a b))
min_some_both n None None = ap (λ (m : ℕ). Some m) (min_same n)
min_some_both n None (Some b) = ap (λ (m : ℕ). Some m) (min_self n b)
min_some_both n (Some a) None = ap (λ (m : ℕ). Some m) (let e : min (min n a) n ≡ min n a = omega arith in e)
min_some_both n (Some a) (Some b) = ap (λ (m : ℕ). Some m) (min_twice n a b)

min_some_left : (n : ℕ) (a b : Option ℕ) → min_some (Some (lesser_of n a)) b ≡ Some (lesser_of n (min_some a b))
min_some_left n None None = refl
min_some_left n None (Some b) = refl
min_some_left n (Some a) None = refl
min_some_left n (Some a) (Some b) = ap (λ (m : ℕ). Some m) (min_left n a b)

min_some_right : (n : ℕ) (a b : Option ℕ) → min_some a (Some (lesser_of n b)) ≡ Some (lesser_of n (min_some a b))
min_some_right n None b = refl
min_some_right n (Some a) None = ap (λ (m : ℕ). Some m) (min_swap n a)
min_some_right n (Some a) (Some b) = ap (λ (m : ℕ). Some m) (min_right n a b)

min_some_assoc : (a b c : Option ℕ) → min_some (min_some a b) c ≡ min_some a (min_some b c)
min_some_assoc None b c = refl
min_some_assoc (Some a) None c = refl
min_some_assoc (Some a) (Some b) None = refl
min_some_assoc (Some a) (Some b) (Some c) = ap (λ (m : ℕ). Some m) (let e : min (min a b) c ≡ min a (min b c) = omega arith in e)

min_some_none : (a : Option ℕ) → min_some a None ≡ a
min_some_none None = refl
min_some_none (Some a) = refl

or_assoc : (a b c : Bool) → ((a || b) || c) ≡ (a || (b || c))
or_assoc true b c = refl
or_assoc false b c = refl

or_false : (a : Bool) → (a || false) ≡ a
or_false true = refl
or_false false = refl

pub joined_assoc : (a b c : Finding) → combined_finding (combined_finding a b) c ≡ combined_finding a (combined_finding b c)
joined_assoc a b c = λ i. record { denied = min_some_assoc a.denied b.denied c.denied i; allowed = or_assoc a.allowed b.allowed c.allowed i }

pub joined_nothing : (a : Finding) → combined_finding a (record { denied = None; allowed = false }) ≡ a
joined_nothing a = λ i. record { denied = min_some_none a.denied i; allowed = or_false a.allowed i }

-- ---- two parts are found as one

-- one step, by the two tests and by what the binding says
denial_step : (n : ℕ) (d t u : Bool) (a b ab : List ℕ) → min_some (least_of a) (least_of b) ≡ least_of ab →
    min_some (least_of (cond t (cond d (n ∷ a) a) a)) (least_of (cond u (cond d (n ∷ b) b) b)) ≡ least_of (cond (t || u) (cond d (n ∷ ab) ab) ab)
denial_step n false true true a b ab h = h
denial_step n false true false a b ab h = h
denial_step n false false true a b ab h = h
denial_step n false false false a b ab h = h
denial_step n true true true a b ab h = min_some_both n (least_of a) (least_of b) ∙ ap (λ (o : Option ℕ). Some (lesser_of n o)) h
denial_step n true true false a b ab h = min_some_left n (least_of a) (least_of b) ∙ ap (λ (o : Option ℕ). Some (lesser_of n o)) h
denial_step n true false true a b ab h = min_some_right n (least_of a) (least_of b) ∙ ap (λ (o : Option ℕ). Some (lesser_of n o)) h
denial_step n true false false a b ab h = h

grant_step : (g t u a b ab : Bool) → (a || b) ≡ ab → (cond t (g || a) a || cond u (g || b) b) ≡ cond (t || u) (g || ab) ab
grant_step true true true a b ab h = refl
grant_step true true false a b ab h = refl
grant_step true false true true b ab h = refl
grant_step true false true false b ab h = refl
grant_step true false false a b ab h = h
grant_step false true true a b ab h = h
grant_step false true false a b ab h = h
grant_step false false true a b ab h = h
grant_step false false false a b ab h = h

denials_cond : (t : Bool) (e : Numbered) (es : List Numbered) (q : Question) → denials (cond t (e ∷ es) es) q ≡ cond t (cond (is_denial q e.binding) (e.number ∷ denials es q) (denials es q)) (denials es q)
denials_cond true e es q = refl
denials_cond false e es q = refl

grants_cond : (t : Bool) (e : Numbered) (es : List Numbered) (p : Numbered → Bool) → list_any p (cond t (e ∷ es) es) ≡ cond t (p e || list_any p es) (list_any p es)
grants_cond true e es p = refl
grants_cond false e es p = refl

denied_parts : (T U : Numbered → Bool) (es : List Numbered) (q : Question) → min_some (least_of (denials (filter T es) q)) (least_of (denials (filter U es) q)) ≡ least_of (denials (filter (λ e. T e || U e) es) q)
denied_parts T U [] q = refl
denied_parts T U (e ∷ es) q =
    ap (λ (l : List ℕ). min_some (least_of l) (least_of (denials (cond (U e) (e ∷ filter U es) (filter U es)) q))) (denials_cond (T e) e (filter T es) q)
    ∙ ap (λ (l : List ℕ). min_some (least_of (cond (T e) (cond (is_denial q e.binding) (e.number ∷ denials (filter T es) q) (denials (filter T es) q)) (denials (filter T es) q))) (least_of l)) (denials_cond (U e) e (filter U es) q)
    ∙ denial_step e.number (is_denial q e.binding) (T e) (U e) _ _ _ (denied_parts T U es q)
    ∙ sym (ap least_of (denials_cond (T e || U e) e (filter (λ x. T x || U x) es) q))

pub allowed_parts : (T U p : Numbered → Bool) (es : List Numbered) → (list_any p (filter T es) || list_any p (filter U es)) ≡ list_any p (filter (λ e. T e || U e) es)
allowed_parts T U p [] = refl
allowed_parts T U p (e ∷ es) =
    ap (λ (b : Bool). b || list_any p (cond (U e) (e ∷ filter U es) (filter U es))) (grants_cond (T e) e (filter T es) p)
    ∙ ap (λ (b : Bool). cond (T e) (p e || list_any p (filter T es)) (list_any p (filter T es)) || b) (grants_cond (U e) e (filter U es) p)
    ∙ grant_step (p e) (T e) (U e) _ _ _ (allowed_parts T U p es)
    ∙ sym (grants_cond (T e || U e) e (filter (λ x. T x || U x) es) p)

pub joined_parts : (T U : Numbered → Bool) (es : List Numbered) (q : Question) → combined_finding (finding_of (filter T es) q) (finding_of (filter U es) q) ≡ finding_of (filter (λ e. T e || U e) es) q
joined_parts T U es q = λ i. record { denied = denied_parts T U es q i; allowed = allowed_parts T U (λ e. is_grant q e.binding) es i }

-- ---- the same bindings by another test

pub same_filter : (T U : Numbered → Bool) (es : List Numbered) → AllByRecursion (λ e. T e ≡ U e) es → filter T es ≡ filter U es
same_filter T U [] h = refl
same_filter T U (e ∷ es) h = ap (λ (b : Bool). cond b (e ∷ filter T es) (filter T es)) h.0 ∙ ap (λ (l : List Numbered). cond (U e) (e ∷ l) l) (same_filter T U es h.1)

pub no_filter : (T : Numbered → Bool) (es : List Numbered) → ((e : Numbered) → T e ≡ false) → filter T es ≡ []
no_filter T [] h = refl
no_filter T (e ∷ es) h = ap (λ (b : Bool). cond b (e ∷ filter T es) (filter T es)) (h e) ∙ no_filter T es h

pub each_of : (P Q : Numbered → Type 0) (es : List Numbered) → ((e : Numbered) → P e → Q e) → AllByRecursion P es → AllByRecursion Q es
each_of P Q [] h all = tt
each_of P Q (e ∷ es) h all = (h e all.0, each_of P Q es h all.1)

-- ---- what doesn't cover says nothing

uncovered : (c r : Bool) → c ≡ false → (c && r) ≡ false
uncovered true r h = absurd (let clash : true ≡ false = h in cc)
uncovered false r h = refl

pub with_head : (d : Bool) (n : ℕ) (a b : List ℕ) → least_of a ≡ least_of b → least_of (cond d (n ∷ a) a) ≡ least_of (cond d (n ∷ b) b)
with_head true n a b h = ap (λ (o : Option ℕ). Some (lesser_of n o)) h
with_head false n a b h = h

pub covering : (T : Numbered → Bool) (es : List Numbered) (q : Question) → AllByRecursion (λ e. covers e.binding q.kind q.name ≡ true → T e ≡ true) es → finding_of (filter T es) q ≡ finding_of es q
covering T [] q h = refl
covering T (e ∷ es) q h = by (T e) (covers e.binding q.kind q.name) refl refl (covering T es q h.1) where
  by : (t c : Bool) → T e ≡ t → covers e.binding q.kind q.name ≡ c → finding_of (filter T es) q ≡ finding_of es q → finding_of (cond t (e ∷ filter T es) (filter T es)) q ≡ finding_of (e ∷ es) q
  by true c is cover rest = λ i. record { denied = with_head (is_denial q e.binding) e.number _ _ (λ j. (rest j).denied) i; allowed = is_grant q e.binding || (rest i).allowed }
  by false true is cover rest = absurd (let clash : true ≡ false = sym (h.0 cover) ∙ is in cc)
  by false false is cover rest =
      rest ∙ sym (ap (λ (d : Bool). record { denied = least_of (cond d (e.number ∷ denials es q) (denials es q)); allowed = is_grant q e.binding || list_any (λ (x : Numbered). is_grant q x.binding) es }) (uncovered _ _ cover)
      ∙ ap (λ (g : Bool). record { denied = least_of (denials es q); allowed = g || list_any (λ (x : Numbered). is_grant q x.binding) es }) (uncovered _ _ cover))
