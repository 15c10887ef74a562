-- A step leaves the settings of a core.
use Rattle.std.proofs.Common.{◌≡◌, Result, Ok, Err, IfErr, OnOk, ap}
use Rattle.audit_trail.specs.declared.event.Event.{Event}
use Rattle.request_handlers.specs.declared.stop.Stop.{Stop}
use Rattle.request_handlers.specs.Core.{CoreValue, StoppedBy, core_after}
use Rattle.request_handlers.proofs.Histories.{stopped, stopped_settings}

pub settings_stay : {A : Type 0} (r : Result A Stop) (old : CoreValue) (e : Event) (new : CoreValue)
    → OnOk r (new ≡ core_after old e) → IfErr r (λ stop. StoppedBy stop old e new) → new.settings ≡ old.settings
settings_stay (Ok x) old e new ok err = ap (λ (c : CoreValue). c.settings) ok
settings_stay (Err stop) old e new ok err = stopped_settings old new (stopped stop old e new err)
