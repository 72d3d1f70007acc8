-- What each call of the server sends, in the datasheet's shape and under the settings in force.
use Rattle.std.specs.Prelude.{◌≡◌, Bool, true, cond, List, [], ◌∷◌, ◌++◌, ℕ, length}
use Rattle.wire.specs.Answer.{Answer, result, refused}
use Rattle.wire.specs.Text.{ascii}
use Rattle.line_list.specs.Lines.{Line}
use Rattle.client_state.specs.Settings.{Settings}
use Rattle.server_session.specs.declared.Phase.{Phase}
use Rattle.server_session.specs.Call.{ServerSaid}
use Rattle.shape.specs.Datasheet.{Framed, fills, data_form}

-- nothing with a number, and with a result these lines
abbrev pub SentWith : Answer Phase → Bool → List (List ℕ) → List ℕ → Type 0
SentWith (refused n) linefeeds lines text = text ≡ []
SentWith (result p) linefeeds lines text = Framed linefeeds lines text

-- a call that sends these lines, by the linefeeds setting that it leaves
abbrev pub Sends : ServerSaid → List (List ℕ) → Type 0
Sends d lines = SentWith d.answer d.next.state.linefeeds lines d.text

-- a line of data for each line that the vehicle gave
abbrev pub DataLines : Settings → List Line → List (List ℕ) → Type 0
DataLines s [] [] = Unit {0}
DataLines s [] (t ∷ ts) = ⊥
DataLines s (l ∷ ls) [] = ⊥
DataLines s (l ∷ ls) (t ∷ ts) = (fills (data_form s.spaces s.headers (length l.bytes)) t ≡ true) × DataLines s ls ts

-- a vehicle that does not answer: `NO DATA`
abbrev pub ReplyLines : Settings → List Line → List (List ℕ) → Type 0
ReplyLines s [] lines = lines ≡ ascii "NO DATA" ∷ []
ReplyLines s (l ∷ ls) lines = DataLines s (l ∷ ls) lines

-- A call that sends what the vehicle gave.
pub record Replies (s : Settings) (ls : List Line) (d : ServerSaid) : Type 0 where
  pub lines : List (List ℕ)
  pub form : ReplyLines s ls lines
  pub sends : Sends d lines

-- Bytes received, and the text sent for them: with echo on each is sent back, and after a CR may stand a `?`, for a line that is not understood.
pub data Echoes (s : Settings) : List ℕ → List ℕ → Type 0 where
  silent : Echoes s [] []
  back : (b : ℕ) (bs rest : List ℕ) → Echoes s bs rest → Echoes s (b ∷ bs) (cond s.echo (b ∷ []) [] ++ rest)
  unclear : (bs text rest : List ℕ) → Framed s.linefeeds (ascii "?" ∷ []) text → Echoes s bs rest →
      Echoes s (0x0D ∷ bs) (cond s.echo (0x0D ∷ []) [] ++ (text ++ rest))
