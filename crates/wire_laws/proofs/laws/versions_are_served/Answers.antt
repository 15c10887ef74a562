use Rattle.wire_laws.proofs.Versions.{versions-read, versions-read-only, not_later}
use Rattle.wire_laws.proofs.laws.versions_are_served.Goals as goal

pub returns-clause-read : goal.returns-clause-read
returns-clause-read c = versions-read

pub returns-clause-read_only : goal.returns-clause-read_only
returns-clause-read_only c = versions-read-only

pub returns-clause-not_later_versions_are_served : goal.returns-clause-not_later_versions_are_served
returns-clause-not_later_versions_are_served c = not_later
