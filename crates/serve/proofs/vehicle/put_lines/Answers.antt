-- `serve::vehicle::put_lines` meets its contract.
use lib.ListN.{drop}
use Rattle.serve.specs.Vehicle.{parameters, vehicle}
use Rattle.serve.proofs.VehicleLaws.{put_more}
use Rattle.serve.proofs.vehicle.put_lines.Goals as goal

pub returns : goal.returns
unfolding vehicle
returns c =
    let command = c.args.command.now in
    put_more command parameters c.give-at.ensures
    (put_more command (drop 1 parameters) c.give-at-2.ensures
    (put_more command (drop 2 parameters) c.give-at-3.ensures
    (put_more command (drop 3 parameters) c.give-at-4.ensures
    (put_more command (drop 4 parameters) c.give-at-5.ensures
    (put_more command (drop 5 parameters) c.give-at-6.ensures
    (put_more command (drop 6 parameters) c.give-at-7.ensures
    (put_more command (drop 7 parameters) c.give-at-8.ensures
    (put_more command (drop 8 parameters) c.give-at-9.ensures
    c.give.ensures))))))))
