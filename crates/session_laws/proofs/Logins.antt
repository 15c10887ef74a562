-- Users log in by their passwords, and by wrong rules in other ways.
use Rattle.std.proofs.Common.{◌≡◌, ℕ, List, [], ◌∷◌, ◌++◌, Option, Some, None, refl, codes, sym, ap, ◌∙◌}
use Rattle.settings_text.specs.declared.document.User.{User}
use Rattle.sasl_login.specs.LoginMessage.{login_of}
use Rattle.sasl_login.proofs.Plain.{exact}
use Rattle.session_laws.specs.Logins.{LoginRule, LogsInByPassword, OnlyRuleOfLogins, login_by_name, login_for_anybody, login_without_identity}

pub logs_in_by_password : LogsInByPassword login_of
logs_in_by_password = record {
  logs_in = λ users message u known login. (exact users message).logs_in u known login;
  alone = λ users message who is. (exact users message).alone who is;
}

-- whom one rule logs in, so does another
same_login : (a b : LoginRule) → LogsInByPassword a → LogsInByPassword b → (users : List User) (message who : List ℕ) → a users message ≡ Some who → b users message ≡ Some who
same_login a b left right users message who is =
    let logged = left.alone users message who is in
    right.logs_in users message logged.user logged.known logged.login ∙ ap Some (sym logged.named)

pub only_rule : OnlyRuleOfLogins login_of
only_rule rule law users message = by (rule users message) (login_of users message) refl refl where
  by : (a b : Option (List ℕ)) → rule users message ≡ a → login_of users message ≡ b → a ≡ b
  by None None left right = refl
  by (Some who) b left right = sym (same_login rule login_of law logs_in_by_password users message who left) ∙ right
  by None (Some who) left right = sym left ∙ same_login login_of rule logs_in_by_password law users message who right

-- ---- wrong ones: user 1 has the password 2, and user 3 the password 4

abbrev one : User
one = record { name = 1 ∷ []; password = 2 ∷ [] }

abbrev three : User
three = record { name = 3 ∷ []; password = 4 ∷ [] }

abbrev users : List User
users = one ∷ three ∷ []

not_logged_in : (rule : LoginRule) (message who : List ℕ) → LogsInByPassword rule → rule users message ≡ Some who → login_of users message ≡ None → ⊥
not_logged_in rule message who law is none =
    let clash : Some who ≡ None = sym (same_login rule login_of law logs_in_by_password users message who is) ∙ none in cc

pub not_by_name : ¬ LogsInByPassword login_by_name
not_by_name law = not_logged_in login_by_name (0 ∷ 1 ∷ 0 ∷ 9 ∷ []) (codes "User:" ++ 1 ∷ []) law refl refl

pub not_for_anybody : ¬ LogsInByPassword login_for_anybody
not_for_anybody law = not_logged_in login_for_anybody (3 ∷ 0 ∷ 1 ∷ 0 ∷ 2 ∷ []) (codes "User:" ++ 1 ∷ []) law refl refl

pub not_without_identity : ¬ LogsInByPassword login_without_identity
not_without_identity law =
    let clash : None ≡ Some (codes "User:" ++ 1 ∷ []) = same_login login_of login_without_identity logs_in_by_password law users (1 ∷ 0 ∷ 1 ∷ 0 ∷ 2 ∷ []) (codes "User:" ++ 1 ∷ []) refl in cc
