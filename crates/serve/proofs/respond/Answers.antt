-- `serve::respond` meets its contract: an AT command is answered as its phase says.
use mathlib.Core.Path.{sym, ap, ◌∙◌}
use lib.ListN.{length}
use Rattle.server_session.specs.Session.{session}
use Rattle.server_session.specs.Call.{server_lent}
use Rattle.serve.specs.Serve.{served_in, serve_says}
use Rattle.serve.proofs.respond.Goals as goal

pub returns-in-AtCommand : goal.returns-in-AtCommand
unfolding serve_says
returns-in-AtCommand c =
    c.answer.ensures.out_after ∙ ap (λ p. server_lent (served_in p (length c.args.out.now) (session c.args.server)) c.args.out.now) (sym c.in-AtCommand.is)
