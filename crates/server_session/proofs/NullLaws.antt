-- What a server session sends holds no 00 of its own: there is none where what it is handed holds none. A client discards nothing of it (document 02 §2).
use mathlib.Core.Path.{◌≡◌, refl, ◌∙◌}
use mathlib.Core.Bool.{Bool, true, false}
use mathlib.Core.List.{List, [], ◌∷◌, ◌++◌}
use Prim.Native.Nat.{ℕ, ◌-◌}
use lib.Dec.{eqb}
use lib.ListN.{length}
use Rattle.wire.specs.Text.{ascii, has}
use Rattle.wire.proofs.Cases.{or_none_lem, either}
use Rattle.wire.proofs.TextLaws.{has-append}
use Rattle.wire.proofs.UnlessLaws.{unless_by}
use Rattle.client_state.specs.Settings.{line_ending}
use Rattle.at_command.specs.declared.AtKind.{AtKind}
use Rattle.at_command.specs.declared.AtKind.TheVariants.{Reset, Set, Accepted, Identity, Voltage, Protocol, ProtocolNumber, Unknown}
use Rattle.at_command.specs.declared.IdentityText.TheVariants.{Ati, Device}
use Rattle.at_command.specs.Dialect.{at_kind, kind_settings, kind_lines}
use Rattle.reply.specs.Shape.{chip_reply}
use Rattle.reply.proofs.ByteLaws.{reply-nulls}
use Rattle.server_session.specs.Session.{Session}
use Rattle.server_session.specs.Call.{ServerSaid}
use Rattle.server_session.specs.Bytes.{canonical, echoed, empty_line, line_end, byte_taken, byte_says, goes_on, bytes_say}
use Rattle.server_session.specs.Replies.{answer_says, reply_says}

abbrev pub NoNull : List ℕ → Type 0
NoNull s = has 0 s ≡ false

abbrev Sends : ServerSaid → Type 0
Sends d = NoNull d.text

nothing : NoNull []
unfolding has
nothing = refl

pub both_none : (s t : List ℕ) → NoNull s → NoNull t → NoNull (s ++ t)
both_none s t h k = has-append 0 s t ∙ rw (h, k)

-- ---- lines of text

abbrev Each : List (List ℕ) → Type 0
Each [] = Unit {0}
Each (l ∷ ls) = NoNull l × Each ls

ending_none : (linefeeds : Bool) → NoNull (line_ending linefeeds)
unfolding has
ending_none true = refl
ending_none false = refl

chip_none : (linefeeds : Bool) (ls : List (List ℕ)) → Each ls → NoNull (chip_reply linefeeds ls)
unfolding has
chip_none linefeeds [] a = both_none (line_ending linefeeds) (62 ∷ []) (ending_none linefeeds) refl
chip_none linefeeds (l ∷ ls) a =
    both_none l (line_ending linefeeds ++ chip_reply linefeeds ls) a.0
    (both_none (line_ending linefeeds) (chip_reply linefeeds ls) (ending_none linefeeds) (chip_none linefeeds ls a.1))

-- ---- bytes of the reader

module _ (s : Session) (e : List ℕ) (h : NoNull e) where
  empty_none : (last : List ℕ) → Sends (empty_line s e last)
  unfolding has
  empty_none [] = both_none e (chip_reply s.state.linefeeds (ascii "?" ∷ [])) h (chip_none s.state.linefeeds (ascii "?" ∷ []) (refl, tt))
  empty_none (c ∷ last) = h

  end_none : (command : List ℕ) → Sends (line_end s e command)
  end_none [] = empty_none s.state.last
  end_none (c ∷ cs) = h

byte_none : (room : ℕ) (s : Session) (b : ℕ) → NoNull (b ∷ []) → Sends (byte_says room s b)
unfolding byte_says byte_taken
byte_none room s b h =
    let e : NoNull (echoed s (b ∷ [])) = either NoNull s.state.echo h nothing in
    unless_by Sends _ (λ n. nothing)
    (λ _. either Sends (eqb b 13) (end_none s (echoed s (b ∷ [])) e (canonical s.line)) (either Sends (eqb b 10) e e))

first_none : (b : ℕ) (bs : List ℕ) → NoNull (b ∷ bs) → NoNull (b ∷ []) × NoNull bs
unfolding has
first_none b bs h = let o = or_none_lem (eqb b 0) (has 0 bs) h in (rw o.0, o.1)

pub bytes_none : (room : ℕ) (s : Session) (bs : List ℕ) → NoNull bs → Sends (bytes_say room s bs)
unfolding bytes_say
bytes_none room s [] h = nothing
bytes_none room s (b ∷ bs) h =
    let (one, others) = first_none b bs h in
    let d = byte_says room s b in
    let first = byte_none room s b one in
    either Sends (goes_on d.answer) (both_none d.text (bytes_say (room - length d.text) d.next bs).text first (bytes_none (room - length d.text) d.next bs others)) first

-- ---- answers and replies

module _ (ati device : List ℕ) (a : NoNull ati) (b : NoNull device) where
  kind_none : (k : AtKind) → Each (kind_lines ati device k)
  unfolding has
  kind_none Reset = (refl, (refl, (a, tt)))
  kind_none (Set setting on) = (refl, tt)
  kind_none Accepted = (refl, tt)
  kind_none (Identity Ati) = (a, tt)
  kind_none (Identity Device) = (b, tt)
  kind_none Voltage = (refl, tt)
  kind_none Protocol = (refl, tt)
  kind_none ProtocolNumber = (refl, tt)
  kind_none Unknown = (refl, tt)

  pub answer_none : (room : ℕ) (s : Session) → Sends (answer_says room s ati device)
  unfolding answer_says
  answer_none room s =
      let k = at_kind s.line in
      unless_by Sends _ (λ n. nothing) (λ _. chip_none (kind_settings k s.state).linefeeds (kind_lines ati device k) (kind_none k))

pub lines_none : (room : ℕ) (s : Session) (list : List ℕ) → Sends (reply_says room s list)
unfolding reply_says
lines_none room s list = unless_by Sends _ (λ n. nothing) (λ _. reply-nulls _ _ _ _)
