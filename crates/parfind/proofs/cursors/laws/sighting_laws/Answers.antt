use Rattle.parfind.proofs.place_laws.SightingLaws.{sightings_rise, all_from_origin, rest_follows, between_joins}
use Rattle.parfind.proofs.cursors.laws.sighting_laws.Goals as goal

pub returns : goal.returns
returns c = record { rise = sightings_rise; all = all_from_origin; rest = rest_follows; joins = between_joins }
