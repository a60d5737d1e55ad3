-- `calls::room` meets its contract: it is `room_in`, whose two numbers are few enough for one. Assumes nothing.
use Rattle.laws.proofs.Library.{sym, ap, arith}
use Rattle.rules.specs.Room.{hundreds, room_number}
use Rattle.calls.proofs.Few.{room_few}
use Rattle.calls.proofs.room.Goals as goal

pub overflow_mul-result : goal.overflow_mul-result
overflow_mul-result c = omega (arith, (room_few c.args.stamp.now _ (sym c.in-Ok.ensures)).0)

pub overflow_add-result : goal.overflow_add-result
overflow_add-result c = let few = room_few c.args.stamp.now _ (sym c.in-Ok.ensures) in record { fits = omega (arith, few.0, few.1) }

pub returns-in-Ok : goal.returns-in-Ok
unfolding room_number
returns-in-Ok c = ap hundreds c.in-Ok.ensures

pub returns-in-Err : goal.returns-in-Err
unfolding room_number
returns-in-Err c = ap hundreds c.in-Err.ensures
