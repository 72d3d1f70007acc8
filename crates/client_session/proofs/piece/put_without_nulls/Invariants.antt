-- `client_session::piece::put_without_nulls` meets its contract. The invariant: the bytes passed by are stored, but for their 00.
use lib.ListN.{take}
use Rattle.wire.specs.Put.{Put}
use Rattle.wire.specs.Text.{without_nulls}
use Rattle.client_session.proofs.piece.put_without_nulls.Given as goal

abbrev pub invariant-loop-b : goal.invariant-loop-b
invariant-loop-b l = Put l.initial.out l.at (without_nulls (take l.b-index l.text)) l.end l.out
