-- What a parse reads of a command, after each setting: texts of help are none of it.
use Rattle.std.proofs.Common.{◌≡◌, ◌∙◌, ℕ, List, Some, ap, true}
use Rattle.std.specs.Borrow.{Bor}
use Rattle.clap.specs.Simple.{Shape, app_of, app_of_fields, on_top}
use Rattle.clap.specs.declared.builder.command.Command.{Command}
use Rattle.clap.specs.declared.builder.command.Command.TheViews.{out-Command as fields_of}
use Rattle.clap.specs.declared.builder.command.Command.TheOpen.{Command-F}

-- a parse reads the same of both, and both have a global argument or none has
pub record Keeps (old new : Command) : Type 0 where
  pub app : app_of new ≡ app_of old
  pub globals : (fields_of new).has_globals ≡ (fields_of old).has_globals

pub keeps_then : (a b c : Command) → Keeps a b → Keeps b c → Keeps a c
keeps_then a b c first then = record { app = then.app ∙ first.app; globals = then.globals ∙ first.globals }

module _ (old new : Command) (text : Bor (List ℕ)) where
  pub about_keeps : fields_of new ≡ record (fields_of old) { about = Some text } → Keeps old new
  about_keeps e = record { app = ap app_of_fields e; globals = ap (λ (f : Command-F Command). f.has_globals) e }

  pub long_about_keeps : fields_of new ≡ record (fields_of old) { long_about = Some text } → Keeps old new
  long_about_keeps e = record { app = ap app_of_fields e; globals = ap (λ (f : Command-F Command). f.has_globals) e }

  pub after_help_keeps : fields_of new ≡ record (fields_of old) { after_help = Some text } → Keeps old new
  after_help_keeps e = record { app = ap app_of_fields e; globals = ap (λ (f : Command-F Command). f.has_globals) e }

  pub has_version : fields_of new ≡ record (fields_of old) { version = Some text } → app_of new ≡ on_top (λ (s : Shape). record s { has_version = true }) (app_of old)
  has_version e = ap app_of_fields e

module _ (old new : Command) where
  pub wants_subcommand : fields_of new ≡ record (fields_of old) { subcommand_required = true } → app_of new ≡ on_top (λ (s : Shape). record s { subcommand_required = true }) (app_of old)
  wants_subcommand e = ap app_of_fields e

  pub helps_without_words : fields_of new ≡ record (fields_of old) { arg_required_else_help = true } → app_of new ≡ on_top (λ (s : Shape). record s { arg_required_else_help = true }) (app_of old)
  helps_without_words e = ap app_of_fields e
