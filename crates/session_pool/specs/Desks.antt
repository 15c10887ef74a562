-- What holds of the core under a desk's lock.
use Rattle.std.specs.Prelude.{◌≡◌, pos, []}
use Rattle.settings.specs.declared.settings.Settings.{Settings}
use Rattle.request_handlers.specs.Core.{CoreValue, IsHistory}

-- settings of nobody, which stand where none are picked
abbrev pub no_settings : Settings
no_settings =
    record {
      node_id = pos 0;
      host = [];
      port = pos 0;
      supers = [];
      trail_limit = pos 0;
      max_batch = pos 0;
      max_txn_timeout = pos 0;
      topics = [];
      acls = [];
    }

-- a core of these settings, whose trail is the history of its events
pub record IsDeskCore (own : Settings) (core : CoreValue) : Type 0 where
  pub settings : core.settings ≡ own
  pub history : IsHistory core
