-- Settings that were read whole are those of the input.
use Rattle.std.proofs.Common.{◌≡◌, ◌≤◌, ℕ, Bool, false, List, [], length, Option, Some, None, Result, Ok, Err, IfSome, ap, arith, subst, sym, ◌∙◌, if◌then◌else◌, nat_lt}
use Rattle.std.proofs.lemmas.Bool.Decides.{nat_tests}
use Rattle.byte_streams.specs.declared.device.TheConstants.{INPUT_LIMIT}
use Rattle.settings.specs.declared.settings.Settings.{Settings}
use Rattle.settings_text.specs.declared.document.Document.{Document}
use Rattle.settings_text.specs.declared.fault.SettingsFault.{SettingsFault}
use Rattle.settings_text.specs.Document.{document_of_text}
use Rattle.settings_text.specs.declared.document.User.{User}
use Rattle.commands.specs.declared.open.Opened.{Opened}
use Rattle.commands.specs.declared.open.Unopened.{Unopened}
use Rattle.commands.specs.declared.open.Unopened.TheVariants as unopened
use Rattle.commands.specs.Replay.{Answer, refused_answer, within_limit}
use Rattle.commands.specs.Check.{document_answer, settings_answer, check_answer}
use Rattle.commands.specs.Printed.{Printed}
use Rattle.commands.specs.Opened.{Opens}

within_is : (input : List ℕ) (answer : Answer) → length input ≤ INPUT_LIMIT → within_limit input answer ≡ answer
within_is input answer small =
    let no : nat_lt INPUT_LIMIT (length input) ≡ false = grind (arith, nat_tests) in
    ap (λ (b : Bool). if b then record { text = []; status = 1 } else answer) no

pub opens_whole : (o u v : Option (List ℕ)) (slice bytes : List ℕ) (r : Result Opened Unopened) → slice ≡ bytes → IfSome o (λ input. input ≡ bytes) → length bytes ≤ INPUT_LIMIT
    → Opens u v slice (settings_answer slice) r → IfSome o (λ input. Opens u v input (check_answer input) r)
opens_whole None u v slice bytes r same is small opens = tt
opens_whole (Some input) u v slice bytes r same is small opens =
    let here : Opens u v bytes (settings_answer bytes) r = subst (λ (t : List ℕ). Opens u v t (settings_answer t) r) same opens in
    let limited : Opens u v bytes (check_answer bytes) r = subst (λ (a : Answer). Opens u v bytes a r) (sym (within_is bytes (settings_answer bytes) small)) here in
    subst (λ (t : List ℕ). Opens u v t (check_answer t) r) (sym is) limited

-- refused settings are told with the status 1
pub refused_opens : (old new : Option (List ℕ)) (text : List ℕ) (fault : SettingsFault) (status : ℕ) → document_of_text text ≡ Err fault → status ≡ 1 → Printed old new (refused_answer fault) (Ok status)
    → Opens old new text (settings_answer text) (Err unopened.Refused)
refused_opens old new text fault status is one printed =
    subst (λ (d : Result Document SettingsFault). Printed old new (document_answer d) (Ok 1)) (sym is) (subst (λ (n : ℕ). Printed old new (refused_answer fault) (Ok n)) one printed)

-- a core with the settings of a text, and its users
pub is_of : (old new : Option (List ℕ)) (text : List ℕ) (answer : Answer) (users : List User) (settings : Settings) (o : Opened) → document_of_text text ≡ Ok (record { users = users; settings = settings })
    → o.users ≡ users → o.core.settings ≡ settings → new ≡ old → Opens old new text answer (Ok o)
is_of old new text answer users settings o is same own quiet = (
  is ∙ ap (λ (u : List User). Ok (record { users = u; settings = settings })) (sym same) ∙ ap (λ (s : Settings). Ok (record { users = o.users; settings = s })) (sym own),
  quiet,
)
