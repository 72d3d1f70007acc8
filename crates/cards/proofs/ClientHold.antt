-- The examples of the client's end hold, by computation.
use mathlib.Core.Path.{refl}
use native.Mathlib.Omega.{arith}
use Rattle.wire.specs.Answer.{unless}
use Rattle.wire.specs.Text.{raised, has, high}
use Rattle.hex_text.specs.Digits.{hex_digit}
use Rattle.query.specs.Query.{text_of_query}
use Rattle.client_command.specs.Commands.{framing_effect}
use Rattle.client_session.specs.Start.{init_says, command_says, query_says}
use Rattle.client_session.specs.Piece.{reply_takes, piece_says, failure_says}
use Rattle.client_session.proofs.PiecesLaws.{Sized}
use Rattle.bench.specs.Deliver.{pieces}
use Rattle.bench.specs.Steps.{delivered}
use Rattle.cards.specs.Example.{AsExpected}
use Rattle.cards.specs.Client.{client_examples, in_pieces}
use Rattle.cards.proofs.ExampleLaws.{◌&◌}

pub client-holds : AsExpected client_examples
unfolding unless raised has high hex_digit text_of_query framing_effect init_says command_says query_says reply_takes piece_says failure_says pieces delivered
client-holds =
    refl & refl & refl & refl & refl & refl & refl & refl & refl & refl &
    refl & refl & refl & refl & refl & refl & refl & refl & refl & refl &
    refl & refl & refl & refl & refl & refl & refl & refl & refl & refl &
    refl & refl & refl & tt

-- its pieces have 1 to 128 bytes each
pub sized : Sized in_pieces
sized = (omega arith, omega arith, (omega arith, omega arith, (omega arith, omega arith, (omega arith, omega arith, tt))))
