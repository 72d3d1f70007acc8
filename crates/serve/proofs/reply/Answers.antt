-- `serve::reply` meets its contract: the command is part of the line.
use mathlib.Core.Path.{ap, ◌∙◌}
use lib.ListN.{length}
use lib.Seq.{take_all}
use Rattle.wire.proofs.PutLaws.{put_front}
use Rattle.line_list.specs.Lines.{lines_bytes}
use Rattle.server_session.specs.Session.{session}
use Rattle.server_session.specs.Call.{server_lent}
use Rattle.server_session.specs.Replies.{reply_says}
use Rattle.serve.specs.Vehicle.{vehicle}
use Rattle.serve.proofs.VehicleLaws.{vehicle_size}
use Rattle.serve.proofs.reply.Goals as goal

pub returns : goal.returns
returns c =
    let server = c.args.server in
    let lines = put_front c.put_lines-n.ensures ∙ take_all 80 _ (vehicle_size _) ∙ ap (λ s. lines_bytes (vehicle s)) c.as_slice.ensures in
    c.reply.ensures.out_after ∙ ap (λ l. server_lent (reply_says (length c.args.out.now) (session server) l) c.args.out.now) lines
