-- Laws that the check is given at the functions that name them.
use Rattle.digits.specs.Shows.{room}
use Rattle.wording.specs.NumberLaws.{signed-shown}

pub ruleset signed_laws = (signed-shown)

pub ruleset room_laws = (room)
