-- What the server makes of the commands of a bench run: the initialisation, a query's text, and a bare CR.
use mathlib.Core.Path.{◌≡◌, refl, ap, ◌∙◌}
use mathlib.Core.Bool.{Bool, true, false, not}
use mathlib.Core.List.{List, [], ◌∷◌, ◌++◌}
use Prim.Native.Nat.{ℕ, ◌+◌, ◌-◌, ◌*◌, ◌≤◌, ◌<◌}
use native.Mathlib.Omega.{arith}
use lib.Dec.{eqb}
use lib.ListN.{length}
use lib.Seq.{take_all}
use borrow.Author.Tests.{le-leb, lt-leb, ne_eqb, le-ltb}
use Rattle.wire.specs.Answer.{unless}
use Rattle.group.specs.Format.{Each}
use Rattle.wire.specs.Text.{ascii, any, high, is_space, raised}
use Rattle.wire.proofs.All.{All}
use Rattle.wire.proofs.Cases.{by_test}
use Rattle.line_list.specs.Lines.{Line, Fits, lines_bytes}
use Rattle.line_list.proofs.LineLaws.{list_back}
use Rattle.at_command.specs.Dialect.{at_kind}
use Rattle.reply.specs.Reply.{reply_text}
use Rattle.reply.proofs.SizeLaws.{line-length, lines_size, some_length, none_length}
use Rattle.reply_lines.specs.Lines.{unspaced}
use Rattle.wire.proofs.PassingLaws.{passing-length}
use Rattle.query.specs.Query.{text_of_query}
use Rattle.query.proofs.QueryLaws.{query-within, query_short}
use Rattle.server_session.specs.declared.Phase.TheVariants.{Reading, ObdCommand}
use Rattle.server_session.specs.Session.{Session, fresh_session}
use Rattle.server_session.specs.Call.{ServerSaid}
use Rattle.server_session.specs.Bytes.{canonical, command_phase, byte_taken, byte_says, bytes_say}
use Rattle.server_session.specs.Replies.{answer_says, reply_says}
use Rattle.server_session.specs.Steps.{is_special}
use Rattle.server_session.proofs.BytesLaws.{handing, cr_repeat, line-says}
use Rattle.bench.specs.Exchange.{answered_by, exchanged}
use Rattle.bench.specs.Run.{reply_room}

-- ---- the initialisation

-- the server between two commands, before any query
abbrev pub during : Bool → Bool → Bool → Bool → Session
during echo linefeeds spaces headers = record {
  state = record { echo = echo; linefeeds = linefeeds; spaces = spaces; headers = headers; last = [] };
  line = [];
  phase = Reading;
}

-- the server between two queries
abbrev pub quiet : List ℕ → Session
quiet last = record { state = record { echo = false; linefeeds = false; spaces = false; headers = true; last = last }; line = []; phase = Reading }

pub reset-heard : exchanged reply_room fresh_session (ascii "ATZ\r") [] ≡
    record { next = during true true true false; text = ascii "ATZ\r\r\n\r\nELM327 v1.5\r\n\r\n>"; handed = [] }
unfolding exchanged bytes_say byte_says unless byte_taken canonical is_space raised answer_says high at_kind
reset-heard = refl

pub echo_off_heard : exchanged reply_room (during true true true false) (ascii "ATE0\r") [] ≡
    record { next = during false true true false; text = ascii "ATE0\rOK\r\n\r\n>"; handed = [] }
unfolding exchanged bytes_say byte_says unless byte_taken canonical is_space raised answer_says high at_kind
echo_off_heard = refl

pub linefeeds_off_heard : exchanged reply_room (during false true true false) (ascii "ATL0\r") [] ≡
    record { next = during false false true false; text = ascii "OK\r\r>"; handed = [] }
unfolding exchanged bytes_say byte_says unless byte_taken canonical is_space raised answer_says high at_kind
linefeeds_off_heard = refl

pub spaces_off_heard : exchanged reply_room (during false false true false) (ascii "ATS0\r") [] ≡
    record { next = during false false false false; text = ascii "OK\r\r>"; handed = [] }
unfolding exchanged bytes_say byte_says unless byte_taken canonical is_space raised answer_says high at_kind
spaces_off_heard = refl

pub protocol_heard : exchanged reply_room (during false false false false) (ascii "ATSP0\r") [] ≡
    record { next = during false false false false; text = ascii "OK\r\r>"; handed = [] }
unfolding exchanged bytes_say byte_says unless byte_taken canonical is_space raised answer_says high at_kind
protocol_heard = refl

pub headers_on_heard : exchanged reply_room (during false false false false) (ascii "ATH1\r") [] ≡ record { next = quiet []; text = ascii "OK\r\r>"; handed = [] }
unfolding exchanged bytes_say byte_says unless byte_taken canonical is_space raised answer_says high at_kind
headers_on_heard = refl

-- ---- a reply's size

-- five digits of header, two for each of at most 255 bytes, and CR
lines_fit : (ls : List Line) → Each Fits ls → lines_size false false true ls ≤ 516 * length ls
lines_fit [] f = omega arith
lines_fit (l ∷ ls) f = omega (arith, line-length false true l, f.0.short, lines_fit ls f.1)

pub reply_fits : (ls : List Line) → Each Fits ls → length ls ≤ 64 → length (reply_text false false true ls) ≤ reply_room
reply_fits [] f h = omega (arith, none_length false false true)
reply_fits (l ∷ ls) f h = omega (arith, some_length false false true l ls, lines_fit (l ∷ ls) f)

-- ---- an OBD command that is handed out

-- a command handed out is answered with the lines of the query under way, or with NO DATA where there are none, and becomes the last command: the server keeps 128
-- bytes of it, so such a command whole
lines_heard : (last text command : List ℕ) (n : ℕ) → bytes_say reply_room (quiet last) text ≡ handing (quiet last) command ObdCommand n [] → length command ≤ 128 →
    (ls : List Line) → Each Fits ls → length ls ≤ 64 →
    exchanged reply_room (quiet last) text (lines_bytes ls) ≡
    record { next = quiet command; text = reply_text false false true ls; handed = command ∷ [] }
unfolding exchanged reply_says unless
lines_heard last text command n e k ls f h =
    ap (λ (d : ServerSaid). answered_by (reply_room - length d.text) d.answer d (lines_bytes ls)) e ∙
    rw (list_back ls f h, le-ltb reply_room _ (reply_fits ls f h), take_all 128 command k)

-- ---- a query's text

-- its characters
abbrev Within : ℕ → Type 0
Within c = (32 ≤ c) × (c ≤ 70)

not_special : (c : ℕ) → Within c → is_special c ≡ false
unfolding is_special
not_special c (h, k) = rw (lt-leb 128 c (omega arith), ne_eqb c 13 (omega arith), ne_eqb c 10 (omega arith))

none_special : (s : List ℕ) → All Within s → any is_special s ≡ false
none_special [] a = refl
none_special (c ∷ s) a = rw (not_special c a.0, none_special s a.1)

space_only : (c : ℕ) → Within c → is_space c ≡ eqb c 32
unfolding is_space
space_only c (h, k) = rw (le-leb 9 c (omega arith), lt-leb c 13 (omega arith))

no_letter : (c : ℕ) → Within c → raised c ≡ c
unfolding raised
no_letter c (h, k) = rw (lt-leb 97 c (omega arith))

-- the command of such a text is the text without its spaces
canonical-unspaced : (s : List ℕ) → All Within s → canonical s ≡ unspaced s
unfolding canonical
canonical-unspaced [] a = refl
canonical-unspaced (c ∷ s) a =
    rw (space_only c a.0, no_letter c a.0, canonical-unspaced s a.1) (by_test (eqb c 32) (λ e. rw e) (λ e. rw e))

module _ (pids : List ℕ) (count : ℕ) where
  -- it starts with 01
  pub unspaced_some : 0 < length (unspaced (text_of_query pids count))
  unfolding text_of_query
  unspaced_some = omega arith

  query_obd : command_phase (unspaced (text_of_query pids count)) ≡ ObdCommand
  unfolding text_of_query
  query_obd = refl

  module _ (few : length pids ≤ 6) where
    pub unspaced_short : length (unspaced (text_of_query pids count)) ≤ 128
    unspaced_short = omega (arith, passing-length (λ c. not (eqb c 32)) (text_of_query pids count), query_short pids count few)

    module _ (c : count ≤ 256) where
      query-says : (last : List ℕ) →
          bytes_say reply_room (quiet last) (text_of_query pids count ++ (13 ∷ [])) ≡
          handing (quiet last) (unspaced (text_of_query pids count)) ObdCommand (length (text_of_query pids count) + 1) []
      query-says last =
          let text = text_of_query pids count in
          let all = query-within pids count c in
          let short = query_short pids count few in
          let same = canonical-unspaced text all in
          line-says text [] (quiet last) reply_room (none_special text all) refl (omega arith) (omega arith) (rw same unspaced_some) ∙ rw (same, query_obd)

      -- a query in full is handed out without its spaces
      pub heard : (last : List ℕ) (ls : List Line) → Each Fits ls → length ls ≤ 64 →
          exchanged reply_room (quiet last) (text_of_query pids count ++ (13 ∷ [])) (lines_bytes ls) ≡
          record {
            next = quiet (unspaced (text_of_query pids count));
            text = reply_text false false true ls;
            handed = unspaced (text_of_query pids count) ∷ [];
          }
      heard last ls f h = lines_heard last _ _ _ (query-says last) unspaced_short ls f h

-- ---- a bare CR

-- it hands out the last command again
pub heard_again : (t : List ℕ) → 0 < length t → length t ≤ 128 → (ls : List Line) → Each Fits ls → length ls ≤ 64 →
    exchanged reply_room (quiet t) (13 ∷ []) (lines_bytes ls) ≡ record { next = quiet t; text = reply_text false false true ls; handed = t ∷ [] }
unfolding canonical
heard_again t some short ls f h =
    lines_heard t (13 ∷ []) t 1 (cr_repeat [] (quiet t) reply_room refl (omega arith) refl some) short ls f h
