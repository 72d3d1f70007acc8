-- What writing a reply to a line list answers and does to the lent buffer. Document 01: 5 for "malformed lines", then 6 "exactly when the output is longer than
-- the buffer", which then is as it was.
use Rattle.std.specs.Prelude.{Bool, List, [], ◌∷◌, ℕ}
use Rattle.wire.specs.Answer.{refused, unless}
use Rattle.wire.specs.Put.{Written, put_whole}
use Rattle.group.specs.Group.{is_malformed, list_of}
use Rattle.line_list.specs.Lines.{lines_of_list}
use Rattle.reply.specs.Reply.{reply_text}

-- the reply to a line list at the front of a buffer
unfoldable pub replied : Bool → Bool → Bool → List ℕ → List ℕ → Written
replied linefeeds spaces headers list out =
    unless ((is_malformed (lines_of_list list), 5) ∷ [])
    (λ n. record { answer = refused n; out = out })
    (put_whole out 0 (reply_text linefeeds spaces headers (list_of (lines_of_list list))))
