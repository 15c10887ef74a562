use Rattle.broker_laws.specs.Laws.{NoDataAfterAGreaterMarker}
use Rattle.broker_laws.proofs.Fencing.{no_data_after_a_greater_marker}
use Rattle.broker_laws.proofs.Cores.{in_cores}
use Rattle.broker_laws.proofs.laws.no_data_after_a_greater_marker.Goals as goal

pub returns-clause-reached : goal.returns-clause-reached
returns-clause-reached c = no_data_after_a_greater_marker

pub returns-clause-cores : goal.returns-clause-cores
returns-clause-cores c = in_cores NoDataAfterAGreaterMarker no_data_after_a_greater_marker
