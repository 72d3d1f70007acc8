-- Document 01, "Bench cards": the starred ones, as one list of what the definitions give and what the cards say, in bytes. Document 02 §4: "Card 6 becomes no data."
use Rattle.std.specs.Prelude.{Bool, true, false, cond, List, [], ◌∷◌, ◌++◌, ◌≡◌, ℕ}
use Prim.Native.String.{String}
use Rattle.wire.specs.Text.{ascii}
use Rattle.client_state.specs.Settings.{Settings, fresh}
use Rattle.line_list.specs.Lines.{Line, line, lines_bytes}
use Rattle.reply_lines.specs.Decode.{lines_of_reply}
use Rattle.server_session.specs.Session.{fresh_session}
use Rattle.server_session.specs.declared.Phase.TheVariants.{ObdCommand}
use Rattle.server_session.specs.Call.{ServerSaid}
use Rattle.server_session.specs.Bytes.{bytes_say}
use Rattle.server_session.specs.Replies.{answer_says, reply_says}
use Rattle.client_session.specs.Start.{query_says}
use Rattle.cards.specs.Client.{new}
use Rattle.cards.specs.Learning.{framed, finish_with}

-- A card's number, what a definition gives, and what the card says.
pub record Card : Type 0 where
  pub number : ℕ
  pub given : List ℕ
  pub said : List ℕ

abbrev card : ℕ → List ℕ → List ℕ → Card
card n g s = record { number = n; given = g; said = s }

-- the lines of a reply, framed or not: ECU+1, length, data
abbrev lines_given : Bool → String → List ℕ
lines_given framing t = lines_bytes (lines_of_reply framing (ascii t))

-- the values that a session, framed or not, gives for a reply to its query of 0C when it finishes it
abbrev values_given : Bool → String → List ℕ
values_given framing t = (finish_with (query_says 80 (cond framing framed new) (0x0C ∷ []) 0 false) t).text

-- what a server with some settings replies to a handed-out command
abbrev replies : Settings → Line → List ℕ
replies s l = (reply_says 64 (record { state = s; line = ascii "010D"; phase = ObdCommand }) (lines_bytes (l ∷ []))).text

abbrev settings_of : Bool → Bool → Bool → Bool → Settings
settings_of echo linefeeds spaces headers = record { echo = echo; linefeeds = linefeeds; spaces = spaces; headers = headers; last = [] }

-- what a fresh server sends for some bytes, and what it then answers to an AT command
abbrev heard : String → ServerSaid
heard t = bytes_say 64 fresh_session (ascii t)

abbrev at_answer : String → List ℕ
at_answer t = (answer_says 64 (heard t).next (ascii "ELM327 v1.5") (ascii "ELM327")).text

abbrev pub cards : List Card
cards =
    card 1 (values_given true "7E8 04 41 0C 1A F8\r\r>") (0x0C ∷ 0xE9 ∷ 0x0F ∷ 0x04 ∷ 0x41 ∷ 0x0C ∷ 0x1A ∷ 0xF8 ∷ []) ∷
    card 2 (lines_given false "NO DATA\r\r>") (0 ∷ 1 ∷ 0xDA ∷ []) ∷
    card 2 (values_given false "NO DATA\r\r>") [] ∷
    card 3 (lines_given true "NO DATA\r\r>") (1 ∷ 0 ∷ []) ∷
    card 3 (values_given true "NO DATA\r\r>") [] ∷
    card 4 (values_given true "A12\r\r>") (0x31 ∷ 0x00 ∷ 0x03 ∷ 0x41 ∷ 0x31 ∷ 0x32 ∷ []) ∷
    card 5 (values_given false "41 0C 1A F8 0D 20\r\r>") (0x0C ∷ 0 ∷ 4 ∷ 0x41 ∷ 0x0C ∷ 0x1A ∷ 0xF8 ∷ 0x0D ∷ 0 ∷ 3 ∷ 0x41 ∷ 0x0D ∷ 0x20 ∷ []) ∷
    card 6 (lines_given false "+41\r\r>") (0 ∷ 0 ∷ []) ∷
    card 7 (replies fresh (line 0 (0x41 ∷ 0x0D ∷ 0x20 ∷ []))) (ascii "41 0D 20\r\n\r\n>") ∷
    card 8 (replies (settings_of false false false true) (line 0 (0x41 ∷ 0x0D ∷ 0x20 ∷ []))) (ascii "7E803410D20\r\r>") ∷
    card 9 (replies (settings_of true true true true) (line 0 [])) (ascii "7E8 00 \r\n\r\n>") ∷
    card 10 (heard "\r").text (ascii "\r?\r\n\r\n>") ∷
    card 11 (query_says 80 new (0x0C ∷ 0x0D ∷ []) 2 true).text (ascii "010C0D 1\r") ∷
    card 12 ((heard "ATL0\r").text ++ at_answer "ATL0\r") (ascii "ATL0\rOK\r\r>") ∷
    []

-- each card is as it says
abbrev pub Hold : List Card → Type 0
Hold [] = Unit {0}
Hold (c ∷ cs) = (c.given ≡ c.said) × Hold cs
