-- The plain broker knows no permission.
use Rattle.std.specs.Prelude.{◌≡◌, Bool, true, false, []}
use Rattle.acl_binding.specs.declared.question.Caller.{Caller}
use Rattle.acl_binding.specs.Book.{BookValue}
use Rattle.msg_admin.specs.declared.request.Request.{Request}
use Rattle.msg_admin.specs.declared.request.Request.TheVariants as requests
use Rattle.broker_world.specs.World.{World}
use Rattle.plain_broker.specs.Plain.{plain_outcome}

-- it refuses nothing
abbrev pub RefusesNothing : Type 0
RefusesNothing =
    (w : World) (caller : Caller) (request : Request)
    → (plain_outcome w caller request).refusals ≡ []

-- it is the same for every caller
pub record IsForAll (w : World) (a b : Caller) (request : Request) : Type 0 where
  pub reply : (plain_outcome w a request).reply ≡ (plain_outcome w b request).reply
  pub world : record (plain_outcome w a request).world { supers = w.supers }
      ≡ record (plain_outcome w b request).world { supers = w.supers }

abbrev pub SameForAll : Type 0
SameForAll = (w : World) (a b : Caller) (request : Request) → IsForAll w a b request

-- the request is about the binding list itself
abbrev pub is_about_bindings : Request → Bool
is_about_bindings (requests.DescribeAcls r) = true
is_about_bindings (requests.CreateAcls r) = true
is_about_bindings (requests.DeleteAcls r) = true
is_about_bindings request = false

-- for any other it is the same whatever the binding list is, and leaves the list as it is
pub record IsOfAnyBook (w : World) (book : BookValue) (caller : Caller) (request : Request)
    : Type 0 where
  pub reply : (plain_outcome (record w { book = book }) caller request).reply
      ≡ (plain_outcome w caller request).reply
  pub world : (plain_outcome (record w { book = book }) caller request).world
      ≡ record (plain_outcome w caller request).world { book = book }

abbrev pub LooksAtNoBook : Type 0
LooksAtNoBook =
    (w : World) (book : BookValue) (caller : Caller) (request : Request)
    → is_about_bindings request ≡ false → IsOfAnyBook w book caller request
