-- A call by its kind meets its contract: the text of kind 4 is long.
use Rattle.driver_server.proofs.ServerDriven.call.Goals as goal

pub returns-in-4 : goal.returns-in-4
returns-in-4 c = rw c.in-4.is c.answer.ensures
