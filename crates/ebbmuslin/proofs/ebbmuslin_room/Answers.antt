-- `ebbmuslin::ebbmuslin_room` meets its contract: it is the packed call, whose answer is a number already. Assumes nothing.
use Rattle.ebbmuslin.proofs.ebbmuslin_room.Goals as goal

pub returns : goal.returns
returns c = c.room.ensures
